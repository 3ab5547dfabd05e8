-- `wire::all_finite` meets its contract: after i turns the flag says whether the first i numbers are finite. Assumes
-- nothing.
use mathlib.Core.Path.{◌≡◌}
use lib.ListN.{take}
use Rattle.wire.specs.Wire.{numbers, all_finite}
use Rattle.wire.proofs.all_finite.Given as goal

abbrev pub invariant-loop-y : goal.invariant-loop-y
invariant-loop-y g l = l.finite ≡ all_finite (numbers (take l.y-index (g.T.Real.floats l.x)))
