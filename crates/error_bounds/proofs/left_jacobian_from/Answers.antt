-- `error_bounds::left_jacobian_from` meets its contract: by what its call ensures. Assumes nothing.
use Rattle.error_bounds.proofs.Blocks.{blocks_hold_of}
use Rattle.error_bounds.proofs.left_jacobian_from.Goals as goal

pub returns : goal.returns
returns g c = blocks_hold_of g.T.Real.format _ _ _ _ _ c.jl_blocks_with.ensures
