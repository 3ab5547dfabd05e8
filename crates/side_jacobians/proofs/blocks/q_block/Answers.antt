use Rattle.std.proofs.Common.{rules}
use Rattle.side_jacobians.specs.Blocks.{jl_q}
use lib.Ieee.{of_bits}
use Rattle.side_jacobians.proofs.blocks.q_block.Goals as goal

pub returns : goal.returns
unfolding jl_q of_bits
returns g c = let real = g.met.T.Real in search (rules, real.mul_law)
