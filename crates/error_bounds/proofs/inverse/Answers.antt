-- `error_bounds::inverse` meets its contract: by what its call ensures. Assumes nothing.
use Rattle.error_bounds.proofs.Holds.{inverse-holds}
use Rattle.error_bounds.proofs.inverse.Goals as goal

pub returns : goal.returns
returns g c = inverse-holds g.T.Real.format _ _ _ c.inverse.ensures
