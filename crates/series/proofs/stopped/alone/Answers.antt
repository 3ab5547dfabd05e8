-- `series::stopped::alone` meets its contract: each of its sums is the definition's. Assumes nothing.
use native.Mathlib.Omega.{arith}
use Rattle.series.specs.Pass.{horner_stopped}
use Rattle.series.proofs.stopped.alone.Goals as goal

pub returns : goal.returns
unfolding horner_stopped
returns g c = let real = g.met.T.Real in grind (arith, real.neg_law)
