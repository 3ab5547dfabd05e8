-- `error_bounds::exp` meets its contract: by what its call ensures. Assumes nothing.
use Rattle.error_bounds.proofs.Holds.{exp-holds}
use Rattle.error_bounds.proofs.exp.Goals as goal

pub returns : goal.returns
returns g c = exp-holds g.T.Real.format _ _ _ c.exp.ensures
