-- `so3::quat::Quat::norm_sq` meets its contract: operation by operation, in the definition's order. Assumes nothing.
use native.Mathlib.Omega.{arith}
use Rattle.so3.specs.Quat.{quat_norm_sq}
use Rattle.so3.proofs.quat.Quat.norm_sq.Goals as goal

pub returns : goal.returns
unfolding quat_norm_sq
returns g c = let real = g.met.T.Real in grind (arith, real.add_law, real.mul_law)
