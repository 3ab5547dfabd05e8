-- `error_bounds::renormalized` meets its contract: by what its call ensures. Assumes nothing.
use Rattle.error_bounds.proofs.Holds.{renormalized-holds}
use Rattle.error_bounds.proofs.renormalized.Goals as goal

pub returns : goal.returns
returns g c = renormalized-holds g.T.Real.format _ _ c.renormalized.ensures
