-- The order of the numbers wherever a structure is read or written: in the job's records, in either format, and in the
-- lists of the C functions. Reading is by a function that returns the i-th number. Matrices are stored column by
-- column.
use Rattle.std.specs.Prelude.{ℕ, ◌+◌, ◌*◌, cond, List, [], ◌∷◌, ◌++◌, Float}
use Rattle.ieee.specs.Numbers.{f0, f1}
use Rattle.linalg.specs.Vector.{vec, vec_numbers}
use Rattle.linalg.specs.Matrix.{mat}
use Rattle.linalg.specs.Floats.{Vec3}
use Rattle.linalg.specs.Floats.{Mat3}
use Rattle.series.specs.Floats.{Sim3Coeffs}
use Rattle.arms.specs.Floats.{Values}
use Rattle.coeffs.specs.Floats.{Scaled}
use Rattle.pairs.specs.Floats.{ScaledPair}
use Rattle.pairs.specs.Floats.{ArmedPair}
use Rattle.so3.specs.Quat.{quat}
use Rattle.so3.specs.Floats.{Quat}
use Rattle.sim3.specs.Pose.{pose}
use Rattle.sim3.specs.Tangent.{tangent}
use Rattle.sim3.specs.Floats.{Sim3}
use Rattle.sim3.specs.Floats.{Sim3Tangent}
use Rattle.jacobian.specs.Jac.{blocks}
use Rattle.jacobian.specs.Floats.{Sim3Jac}
use Rattle.side_jacobians.specs.Floats.{BlockPair}
use Rattle.side_jacobians.specs.Floats.{ActJacobians}
use Rattle.side_jacobians.specs.Floats.{TwoJacobians}

-- ---- how many numbers each structure has
abbrev pub vec_count : ℕ
vec_count = 3

abbrev pub mat_count : ℕ
mat_count = 3 * vec_count

-- quaternion, t, σ
abbrev pub pose_count : ℕ
pose_count = 4 + vec_count + 1

-- φ, ρ, σ
abbrev pub tangent_count : ℕ
tangent_count = 2 * vec_count + 1

-- the ten function values
abbrev pub values_count : ℕ
values_count = 10

-- a, b, c, f, e
abbrev pub block_count : ℕ
block_count = 3 * mat_count + vec_count + 1

-- the left block and its inverse, then the right block and its inverse
abbrev pub block_pair_count : ℕ
block_pair_count = 4 * block_count

-- nine coefficients and the flag, for σ and for -σ
abbrev pub scaled_pair_count : ℕ
scaled_pair_count = 2 * (9 + 1)

-- by the first operand, by the second
abbrev pub two_count : ℕ
two_count = 2 * block_count

-- by φ, ρ and σ of the pose, by the point
abbrev pub act_count : ℕ
act_count = 3 * mat_count + vec_count

-- ---- read, from the i-th number on
unfoldable pub vec_in : (ℕ → Float) → ℕ → Vec3
vec_in r i = vec (r i) (r (i + 1)) (r (i + 2))

unfoldable pub mat_in : (ℕ → Float) → ℕ → Mat3
mat_in r i = mat (vec_in r i) (vec_in r (i + 3)) (vec_in r (i + 6))

-- w, x, y, z
unfoldable pub quat_in : (ℕ → Float) → ℕ → Quat
quat_in r i = quat (r i) (r (i + 1)) (r (i + 2)) (r (i + 3))

unfoldable pub pose_in : (ℕ → Float) → ℕ → Sim3
pose_in r i = pose (quat_in r i) (vec_in r (i + 4)) (r (i + 7))

unfoldable pub tangent_in : (ℕ → Float) → ℕ → Sim3Tangent
tangent_in r i = tangent (vec_in r i) (vec_in r (i + 3)) (r (i + 6))

unfoldable pub values_in : (ℕ → Float) → ℕ → Values
values_in r i =
    record {
      root = r i;
      sin_half = r (i + 1);
      cos_half = r (i + 2);
      sin = r (i + 3);
      e = r (i + 4);
      m = r (i + 5);
      e0 = r (i + 6);
      m0 = r (i + 7);
      up = r (i + 8);
      down = r (i + 9);
    }

unfoldable pub block_in : (ℕ → Float) → ℕ → Sim3Jac
block_in r i = blocks (mat_in r i) (mat_in r (i + 9)) (mat_in r (i + 18)) (vec_in r (i + 27)) (r (i + 30))

-- ---- written
unfoldable pub mat_numbers : Mat3 → List Float
mat_numbers m = vec_numbers m.c0 ++ (vec_numbers m.c1 ++ vec_numbers m.c2)

unfoldable pub quat_numbers : Quat → List Float
quat_numbers q = q.w ∷ q.x ∷ q.y ∷ q.z ∷ []

unfoldable pub pose_numbers : Sim3 → List Float
pose_numbers x = quat_numbers x.q ++ (vec_numbers x.t ++ (x.sigma ∷ []))

unfoldable pub block_numbers : Sim3Jac → List Float
block_numbers j = mat_numbers j.a ++ (mat_numbers j.b ++ (mat_numbers j.c ++ (vec_numbers j.f ++ (j.e ∷ []))))

unfoldable pub block_pair_numbers : BlockPair → List Float
block_pair_numbers p =
    block_numbers p.left ++ (block_numbers p.left_inv ++ (block_numbers p.right ++ block_numbers p.right_inv))

unfoldable pub coeffs_numbers : Sim3Coeffs → List Float
coeffs_numbers c = c.v0 ∷ c.v1 ∷ c.v2 ∷ c.w0 ∷ c.w1 ∷ c.w2 ∷ c.dv1 ∷ c.dv2 ∷ c.chi_delta ∷ []

-- the flag as 1 or 0
unfoldable pub scaled_numbers : Scaled → List Float
scaled_numbers s = coeffs_numbers s.c ++ (cond s.scaled f1 f0 ∷ [])

unfoldable pub scaled_pair_numbers : ScaledPair → List Float
scaled_pair_numbers p = scaled_numbers p.pos ++ scaled_numbers p.neg

-- the scaled pair of an armed pair
abbrev pub armed_scaled : ArmedPair → ScaledPair
armed_scaled p = record { pos = p.pos.s; neg = p.neg.s }

unfoldable pub two_numbers : TwoJacobians → List Float
two_numbers t = block_numbers t.first ++ block_numbers t.second

unfoldable pub act_numbers : ActJacobians → List Float
act_numbers j = mat_numbers j.rot ++ (mat_numbers j.trans ++ (vec_numbers j.scale ++ mat_numbers j.point))
