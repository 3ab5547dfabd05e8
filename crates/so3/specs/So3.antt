-- Rotations by unit quaternions, in the operations of a format f.
use Rattle.std.specs.Prelude.{Float}
use Rattle.std.specs.Float.{Format}
use Rattle.ieee.specs.Numbers.{f2}
use Rattle.ieee.specs.Infix.{operations}
use Rattle.linalg.specs.Vector.{vec, vec_norm_sq, vec_operations}
use Rattle.linalg.specs.Floats.{Vec3}
use Rattle.circle.specs.Kernel.{circle_exp}
use Rattle.so3.specs.Quat.{quat, quat_conjugate}
use Rattle.so3.specs.Floats.{Quat}

module _ (f : Format) where
  infixl 60 ◌⊞◌
  infixl 70 ◌⊗◌ ◌⊡◌
  infixl 80 ◌⨯◌
  open operations f use {◌⊗◌}
  open vec_operations f use {◌⊞◌, ◌⊡◌, ◌⨯◌}

  -- (v + 2w (u × v)) + 2 u × (u × v), u = (x, y, z)
  unfoldable pub so3_act : Quat → Vec3 → Vec3
  so3_act q v =
      let u = vec q.x q.y q.z in
      let uv = u ⨯ v in
      v ⊞ uv ⊡ (f2 ⊗ q.w) ⊞ u ⨯ uv ⊡ f2

  unfoldable pub so3_inv_act : Quat → Vec3 → Vec3
  so3_inv_act q v = so3_act (quat_conjugate q) v

  -- (cos(θ/2), k φ), by the circle functions of |φ|²; root, sh, ch are θ, sin(θ/2), cos(θ/2), which the caller passes
  unfoldable pub so3_exp : Vec3 → Float → Float → Float → Quat
  so3_exp φ root sh ch =
      let c = circle_exp f (vec_norm_sq f φ) root sh ch in
      quat c.cos_half (c.k ⊗ φ.x) (c.k ⊗ φ.y) (c.k ⊗ φ.z)
