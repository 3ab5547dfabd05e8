-- `sim3::sim3::Sim3::inverse` meets its contract: by the contracts of its calls, with the sign taken out of each
-- product. Assumes nothing.
use mathlib.Core.Path.{◌≡◌}
use lib.Ieee.{Float, Format, neg}
use Rattle.ieee.proofs.Sign.{mul-neg_r}
use Rattle.linalg.specs.Vector.{vec, vec_scale, vec_neg}
use Rattle.linalg.specs.Floats.{Vec3}
use Rattle.sim3.specs.Pose.{pose_inverse}
use Rattle.sim3.proofs.sim3.Sim3.inverse.Goals as goal

scale-neg : (f : Format) (v : Vec3) (k : Float) → vec_scale f v (neg k) ≡ vec_neg (vec_scale f v k)
unfolding vec_scale vec_neg
scale-neg f v k = λ i. vec (mul-neg_r f v.x k i) (mul-neg_r f v.y k i) (mul-neg_r f v.z k i)

pub returns : goal.returns
unfolding pose_inverse
returns g c =
    let real = g.met.T.Real in
    simp (
      c.scale.ensures,
      real.neg_law _ _ c.neg.ensures,
      real.neg_law _ _ c.neg-2.ensures,
      scale-neg,
      c.act-rt.ensures,
      c.conjugate-r.ensures,
    )
