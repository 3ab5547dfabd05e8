-- The exponential of the negative of a rotation vector, in any format, is the conjugate: its squared angle is the same,
-- and k(-x) is -(kx). Assumes nothing.
use mathlib.Core.Path.{◌≡◌, ◌∙◌}
use lib.Ieee.{Float, Format, neg, mul}
use Rattle.ieee.proofs.Sign.{mul-neg_r}
use Rattle.linalg.specs.Vector.{vec_norm_sq, vec_neg}
use Rattle.linalg.specs.Floats.{Vec3}
pub use Rattle.linalg.proofs.Even.{norm_sq_even}
use Rattle.circle.specs.Kernel.{circle_exp}
use Rattle.so3.specs.Quat.{quat, quat_conjugate}
use Rattle.so3.specs.So3.{so3_exp}

-- on the same root, sine and cosine
pub exp_conjugate : (f : Format) (φ : Vec3) (root sh ch : Float) →
    so3_exp f (vec_neg φ) root sh ch ≡ quat_conjugate (so3_exp f φ root sh ch)
unfolding so3_exp quat_conjugate vec_neg
exp_conjugate f φ root sh ch =
    let c = circle_exp f (vec_norm_sq f φ) root sh ch in
    (λ i.
    let d = circle_exp f (norm_sq_even f φ i) root sh ch in
    quat d.cos_half (mul f d.k (neg φ.x)) (mul f d.k (neg φ.y)) (mul f d.k (neg φ.z)))
    ∙ (λ i. quat c.cos_half (mul-neg_r f c.k φ.x i) (mul-neg_r f c.k φ.y i) (mul-neg_r f c.k φ.z i))
