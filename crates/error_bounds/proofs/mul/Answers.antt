-- `error_bounds::mul` meets its contract: by what its call ensures. Assumes nothing.
use Rattle.error_bounds.proofs.Holds.{mul_holds}
use Rattle.error_bounds.proofs.mul.Goals as goal

pub returns : goal.returns
returns g c = mul_holds g.T.Real.format _ _ _ _ c.mul.ensures
