-- `error_bounds::left_jacobian` meets its contract: by what its call ensures. Assumes nothing.
use Rattle.error_bounds.proofs.Blocks.{left_holds}
use Rattle.error_bounds.proofs.left_jacobian.Goals as goal

pub returns : goal.returns
returns g c = left_holds g.T.Real.format _ _ _ _ c.jl.ensures
