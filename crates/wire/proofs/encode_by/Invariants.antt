-- `wire::encode_by` meets its contract: after i turns the first bytes are those of the first i numbers. Assumes
-- nothing.
use mathlib.Core.Path.{◌≡◌}
use lib.ListN.{take}
use lib.Seq.{sets}
use Rattle.wire.specs.Wire.{numbers_bytes}
use Rattle.wire.proofs.encode_by.Given as goal

abbrev pub invariant-loop-i : goal.invariant-loop-i
invariant-loop-i g l = l.out ≡ sets l.initial.out 0 (numbers_bytes g.T.Real.format (take l.i (g.T.Real.floats l.x)))
