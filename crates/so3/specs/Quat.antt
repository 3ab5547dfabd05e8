-- Quaternions, in the operations of a format f. Sums run left to right.
use Rattle.std.specs.Prelude.{List, [], ◌∷◌, get_or, Float}
use Rattle.std.specs.Float.{nan, Format}
use Rattle.std.specs.Float.Ieee.{neg}
use Rattle.ieee.specs.Numbers.{f0, f1, f2, f3, half}
use Rattle.ieee.specs.Infix.{operations}
use Rattle.linalg.specs.Vector.{vec}
use Rattle.linalg.specs.Matrix.{mat}
use Rattle.linalg.specs.Floats.{Mat3}
use Rattle.so3.specs.Floats.{Quat}

abbrev pub quat : Float → Float → Float → Float → Quat
quat w x y z = record { w = w; x = x; y = y; z = z }

unfoldable pub quat_identity : Quat
quat_identity = quat f1 f0 f0 f0

-- ---- in and out; a list has the order x, y, z, w
unfoldable pub quat_of_xyzw : List Float → Quat
quat_of_xyzw a = quat (get_or a 3 nan) (get_or a 0 nan) (get_or a 1 nan) (get_or a 2 nan)

unfoldable pub quat_to_xyzw : Quat → List Float
quat_to_xyzw q = q.x ∷ q.y ∷ q.z ∷ q.w ∷ []

unfoldable pub quat_conjugate : Quat → Quat
quat_conjugate q = quat q.w (neg q.x) (neg q.y) (neg q.z)

unfoldable pub quat_of_jpl : List Float → Quat
quat_of_jpl a = quat_conjugate (quat_of_xyzw a)

-- ---- arithmetic
module _ (f : Format) where
  infixl 60 ◌⊕◌ ◌⊖◌
  infixl 70 ◌⊗◌ ◌⊘◌
  open operations f use {◌⊕◌, ◌⊖◌, ◌⊗◌, ◌⊘◌}

  -- n is the root of |q|²
  unfoldable pub quat_normalized : Float → Float → Float → Float → Float → Quat
  quat_normalized w x y z n = quat (w ⊘ n) (x ⊘ n) (y ⊘ n) (z ⊘ n)

  unfoldable pub quat_norm_sq : Quat → Float
  quat_norm_sq q = q.w ⊗ q.w ⊕ q.x ⊗ q.x ⊕ q.y ⊗ q.y ⊕ q.z ⊗ q.z

  -- q (3 - |q|²) / 2
  unfoldable pub quat_renormalized : Quat → Quat
  quat_renormalized q =
      let k = (f3 ⊖ quat_norm_sq q) ⊗ half in
      quat (q.w ⊗ k) (q.x ⊗ k) (q.y ⊗ k) (q.z ⊗ k)

  -- the Hamilton product
  unfoldable pub quat_mul : Quat → Quat → Quat
  quat_mul p q =
      quat
      (p.w ⊗ q.w ⊖ p.x ⊗ q.x ⊖ p.y ⊗ q.y ⊖ p.z ⊗ q.z)
      (p.w ⊗ q.x ⊕ p.x ⊗ q.w ⊕ p.y ⊗ q.z ⊖ p.z ⊗ q.y)
      (p.w ⊗ q.y ⊖ p.x ⊗ q.z ⊕ p.y ⊗ q.w ⊕ p.z ⊗ q.x)
      (p.w ⊗ q.z ⊕ p.x ⊗ q.y ⊖ p.y ⊗ q.x ⊕ p.z ⊗ q.w)

  -- (1 - 2|u|²) I + 2 u uᵀ + 2w hat(u), u = (x, y, z); each product is formed once
  unfoldable pub quat_to_matrix : Quat → Mat3
  quat_to_matrix q =
      let tw = f2 ⊗ q.w in
      let tx = f2 ⊗ q.x in
      let ty = f2 ⊗ q.y in
      let tz = f2 ⊗ q.z in
      let xx = tx ⊗ q.x in
      let yy = ty ⊗ q.y in
      let zz = tz ⊗ q.z in
      let xy = tx ⊗ q.y in
      let xz = tx ⊗ q.z in
      let yz = ty ⊗ q.z in
      let wx = tw ⊗ q.x in
      let wy = tw ⊗ q.y in
      let wz = tw ⊗ q.z in
      mat
      (vec (f1 ⊖ (yy ⊕ zz)) (xy ⊕ wz) (xz ⊖ wy))
      (vec (xy ⊖ wz) (f1 ⊖ (xx ⊕ zz)) (yz ⊕ wx))
      (vec (xz ⊕ wy) (yz ⊖ wx) (f1 ⊖ (xx ⊕ yy)))
