-- `series::small::pass` meets its contract: after i turns the loops hold what each sign alone has after i entries.
-- Assumes nothing.
use mathlib.Core.Path.{◌≡◌}
use Rattle.std.proofs.Common.{◌+◌}
use Rattle.series.specs.Series.{w0_terms}
use Rattle.series.specs.Pass.{both_stopped}
use Rattle.series.specs.Floats.{as_signs}
use Rattle.series.proofs.small.pass.Given as goal

abbrev pub invariant-loop-i : goal.invariant-loop-i
invariant-loop-i g l =
    as_signs g.T.Real.float l.g ≡ both_stopped g.T.Real.format (g.T.Real.float l.sigma) 1
    (w0_terms g.T.Real.format + 1) l.i

abbrev pub invariant-loop-i-2 : goal.invariant-loop-i-2
invariant-loop-i-2 g l =
    as_signs g.T.Real.float l.g ≡ both_stopped g.T.Real.format (g.T.Real.float l.sigma) 1
    (w0_terms g.T.Real.format + 1) l.i
