use Rattle.std.proofs.Common.{rules}
use Rattle.so3.specs.Quat.{quat_renormalized}
use lib.Ieee.{of_bits}
use Rattle.so3.proofs.quat.QuatRenormalize.renormalized.Goals as goal

pub returns : goal.returns
unfolding quat_renormalized of_bits
returns g c = let real = g.met.T.Real in search (rules, real.sub_law, real.mul_law)
