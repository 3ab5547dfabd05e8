-- `series::horner::g_stopped` meets its contract: after i turns the loop holds the partial sum after i entries. Assumes
-- nothing.
use mathlib.Core.Path.{◌≡◌}
use Rattle.series.specs.Pass.{g_stopped}
use Rattle.series.proofs.horner.g_stopped.Given as goal

abbrev pub invariant-loop-i : goal.invariant-loop-i
invariant-loop-i g l = g.T.Real.float l.acc ≡ g_stopped g.T.Real.format (g.T.Real.float l.sigma) l.l l.terms l.i
