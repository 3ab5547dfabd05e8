-- `series::recurrence::last` meets its contract: operation by operation, in the definition's order. Assumes nothing.
use native.Mathlib.Omega.{arith}
use Rattle.series.specs.Recurrence.{sums_last}
use Rattle.series.proofs.recurrence.last.Goals as goal

pub returns : goal.returns
unfolding sums_last
returns g c = let real = g.met.T.Real in grind (arith, real.add_law)
