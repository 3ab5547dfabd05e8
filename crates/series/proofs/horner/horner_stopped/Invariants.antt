-- `series::horner::horner_stopped` meets its contract: after i turns the sums are the partial sums that each sign alone
-- has after i entries. Assumes nothing.
use mathlib.Core.Path.{◌≡◌}
use Rattle.series.specs.Floats.{as_signs}
use Rattle.series.specs.Pass.{both_stopped}
use Rattle.series.proofs.horner.horner_stopped.Given as goal

abbrev pub invariant-loop-i : goal.invariant-loop-i
invariant-loop-i g l =
    let f = g.T.Real.format in
    let x = g.T.Real.float in
    (as_signs x l.v0 ≡ both_stopped f (x l.sigma) 1 l.k l.i) × (as_signs x l.w0 ≡ both_stopped f (x l.sigma) 2 l.k l.i)
