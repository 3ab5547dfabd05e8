-- |-v|² is |v|², in any format: (-x)(-x) is xx. Assumes nothing.
use mathlib.Core.Path.{◌≡◌}
use lib.Ieee.{Format, add}
use Rattle.ieee.proofs.Sign.{mul-neg-neg}
use Rattle.linalg.specs.Vector.{vec_dot, vec_norm_sq, vec_neg}
use Rattle.linalg.specs.Floats.{Vec3}

pub norm_sq_even : (f : Format) (v : Vec3) → vec_norm_sq f (vec_neg v) ≡ vec_norm_sq f v
unfolding vec_norm_sq vec_dot vec_neg
norm_sq_even f v = λ i. add f (add f (mul-neg-neg f v.x v.x i) (mul-neg-neg f v.y v.y i)) (mul-neg-neg f v.z v.z i)
