-- `error_bounds::left_jacobian_inverse` meets its contract: by what its call ensures. Assumes nothing.
use Rattle.error_bounds.proofs.InverseBlocks.{inverse_v_holds, inverse_blocks_hold}
use Rattle.error_bounds.proofs.left_jacobian_inverse.Goals as goal

pub returns : goal.returns
returns g c =
    record {
      v = inverse_v_holds g.T.Real.format _ _ _ _ _ c.jl_inv.ensures;
      blocks = inverse_blocks_hold g.T.Real.format _ _ _ _ _ c.jl_inv.ensures;
    }
