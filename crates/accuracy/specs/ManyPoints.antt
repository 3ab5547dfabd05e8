-- The action of a pose by the matrix s R, formed once for many points: as trees, and what is proved of its error
-- against the same exact action.
use Rattle.std.specs.Prelude.{List, ◌∷◌, ℕ, ◌+◌, ◌^◌, ◌<◌, T, Float}
use Rattle.std.specs.Float.{Format, binary32, binary64}
use Rattle.ieee.specs.Numbers.{f1}
use Rattle.linalg.specs.Vector.{vec_add}
use Rattle.linalg.specs.Matrix.{mat_scale, mat_mul_vec}
use Rattle.linalg.specs.Floats.{Vec3}
use Rattle.so3.specs.Quat.{quat_to_matrix}
use Rattle.sim3.specs.Floats.{Sim3}
use Rattle.rounding.specs.Tree.{Term, leaf}
use Rattle.rounding.specs.Arithmetic.{Arithmetic, trees}
use Rattle.accuracy.specs.Box.{Three, Four}
use Rattle.accuracy.specs.Action.{sum3, scale3, leaves, act_leaves, act_sizes, all_three, ActionIn}
use Rattle.accuracy.specs.Quaternions.{four_leaves}

-- (s R) p + t, as point_lists::act_many moves each point
abbrev pub act_by_matrix : Format → Sim3 → Float → Vec3 → Vec3
act_by_matrix f x up p = vec_add f (mat_mul_vec f (mat_scale f (quat_to_matrix f x.q) up) p) x.t

module _ {A : Type 0} (arithmetic : Arithmetic A) where
  infixl 60 ◌⊕◌ ◌⊖◌
  infixl 70 ◌⊗◌
  open arithmetic use {◌⊕◌, ◌⊖◌, ◌⊗◌}

  -- the columns of (1 - 2|u|²) I + 2 u uᵀ + 2w hat(u)
  abbrev pub rotation_columns : A → A → Four A → Three (Three A)
  rotation_columns one two q =
      let w = two ⊗ q.w in
      let x = two ⊗ q.x in
      let y = two ⊗ q.y in
      let z = two ⊗ q.z in
      record {
        x = record { x = one ⊖ (y ⊗ q.y ⊕ z ⊗ q.z); y = x ⊗ q.y ⊕ w ⊗ q.z; z = x ⊗ q.z ⊖ w ⊗ q.y };
        y = record { x = x ⊗ q.y ⊖ w ⊗ q.z; y = one ⊖ (x ⊗ q.x ⊕ z ⊗ q.z); z = y ⊗ q.z ⊕ w ⊗ q.x };
        z = record { x = x ⊗ q.z ⊕ w ⊗ q.y; y = y ⊗ q.z ⊖ w ⊗ q.x; z = one ⊖ (x ⊗ q.x ⊕ y ⊗ q.y) };
      }

  -- the matrix of these columns times p
  abbrev pub columns_times : Three (Three A) → Three A → Three A
  columns_times m p =
      let xy = sum3 arithmetic (scale3 arithmetic m.x p.x) (scale3 arithmetic m.y p.y) in
      sum3 arithmetic xy (scale3 arithmetic m.z p.z)

  abbrev pub scale_columns : Three (Three A) → A → Three (Three A)
  scale_columns m s = record { x = scale3 arithmetic m.x s; y = scale3 arithmetic m.y s; z = scale3 arithmetic m.z s }

-- the leaves: 1, and those of the action
unfoldable pub tree_act_by_matrix : Three Term
tree_act_by_matrix =
    let m = rotation_columns trees (leaf 0) (leaf 1) (four_leaves 2 3 4 5) in
    sum3 trees (columns_times trees (scale_columns trees m (leaf 9)) (leaves 6 7 8)) (leaves 10 11 12)

abbrev pub matrix_leaves : Sim3 → Float → Vec3 → List Float
matrix_leaves x up p = f1 ∷ act_leaves x up p

abbrev pub matrix_sizes : ℕ → ℕ → ℕ → ℕ → ℕ → List ℕ
matrix_sizes w q p s t = w ∷ act_sizes w q p s t

-- ---- what is proved
-- r is x's action on p: in every box whose bound by the matrix is computed to be at most e, each coordinate of r is
-- finite and within e / w of the exact action, the same as `pose_act` is compared with
abbrev pub MatrixActionAccurate : Format → Sim3 → Float → Vec3 → Vec3 → Type 0
MatrixActionAccurate f x up p r =
    (w q b s t e : ℕ) → 0 < w → T (all_three f w (matrix_sizes w q b s t) tree_act_by_matrix e) →
    ActionIn w q b s t e x up p r

pub record ManyPointsTheorem : Type 0 where
  -- the action by the matrix, in any format and box
  pub action : (f : Format) (x : Sim3) (up : Float) (p : Vec3) →
      MatrixActionAccurate f x up p (act_by_matrix f x up p)
  -- the boxes of ActionTheorem, with the same bounds: within 2^-26 and 2^3
  pub doubles : (x : Sim3) (up : Float) (p : Vec3) →
      ActionIn (2 ^ 100) (2 ^ 100 + 2 ^ 60) (2 ^ 116) (2 ^ 104) (2 ^ 120) (2 ^ 74) x up p
      (act_by_matrix binary64 x up p)
  pub singles : (x : Sim3) (up : Float) (p : Vec3) →
      ActionIn (2 ^ 100) (2 ^ 100 + 2 ^ 84) (2 ^ 116) (2 ^ 104) (2 ^ 120) (2 ^ 103) x up p
      (act_by_matrix binary32 x up p)
  -- and all at most 1: within 2^-46 and 2^-17
  pub unit_doubles : (x : Sim3) (up : Float) (p : Vec3) →
      ActionIn (2 ^ 100) (2 ^ 100 + 2 ^ 60) (2 ^ 100) (2 ^ 100) (2 ^ 100) (2 ^ 54) x up p
      (act_by_matrix binary64 x up p)
  pub unit_singles : (x : Sim3) (up : Float) (p : Vec3) →
      ActionIn (2 ^ 100) (2 ^ 100 + 2 ^ 84) (2 ^ 100) (2 ^ 100) (2 ^ 100) (2 ^ 83) x up p
      (act_by_matrix binary32 x up p)
