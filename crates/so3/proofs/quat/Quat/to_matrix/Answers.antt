use Rattle.std.proofs.Common.{rules}
use Rattle.so3.specs.Quat.{quat_to_matrix}
use lib.Ieee.{of_bits}
use Rattle.so3.proofs.quat.Quat.to_matrix.Goals as goal

pub returns : goal.returns
unfolding quat_to_matrix of_bits
returns g c = let real = g.met.T.Real in search (rules, real.add_law, real.sub_law, real.mul_law)
