-- `wire::decode_by` meets its contract: after i turns the first i numbers are those of the bytes. Assumes nothing.
use mathlib.Core.Path.{◌≡◌}
use lib.ListN.{take}
use Rattle.wire.specs.Wire.{numbers_at}
use Rattle.wire.proofs.decode_by.Given as goal

abbrev pub invariant-loop-i : goal.invariant-loop-i
invariant-loop-i g l = take l.i (g.T.Real.floats l.out) ≡ numbers_at g.T.Real.format l.b l.i
