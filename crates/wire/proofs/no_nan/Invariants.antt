-- `wire::no_nan` meets its contract: after i turns the sign bit says whether a NaN is among the first i numbers.
-- Assumes nothing.
use mathlib.Core.Path.{◌≡◌}
use Rattle.wire.specs.Wire.{none_nan}
use Rattle.wire.specs.Number.{high_bit_zero}
use Rattle.wire.proofs.no_nan.Given as goal

abbrev pub invariant-loop-i : goal.invariant-loop-i
invariant-loop-i g l = high_bit_zero g.T.Real.format (g.T.Real.bits l.seen) ≡ none_nan g.T.Real.format l.b l.i
