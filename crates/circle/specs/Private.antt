-- Definitions for private contracts only: the group of five, with zeros for b and d unless all are wanted.
use Rattle.std.specs.Prelude.{Bool, cond}
use Rattle.ieee.specs.Numbers.{f0}
use Rattle.circle.specs.Floats.{SincABD}

abbrev pub asked_of : Bool → SincABD → SincABD
asked_of all c = record { a = c.a; b = cond all c.b f0; sinc = c.sinc; d = cond all c.d f0 }
