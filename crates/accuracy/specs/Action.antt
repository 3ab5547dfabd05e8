-- The action of a pose, s R p + t: once as formulas, so as trees and as exact values, and what is proved of its error.
use Rattle.std.specs.Prelude.{Bool, ◌&&◌, List, [], ◌∷◌, ℕ, ◌+◌, ◌*◌, ◌^◌, ◌<◌, T, Float}
use Rattle.std.specs.Float.{Format, binary32, binary64}
use Rattle.ieee.specs.Numbers.{f2}
use Rattle.linalg.specs.Floats.{Vec3}
use Rattle.sim3.specs.Pose.{pose_act}
use Rattle.sim3.specs.Floats.{Sim3}
use Rattle.rounding.specs.Value.{Value, value_of}
use Rattle.rounding.specs.Tree.{Term, leaf}
use Rattle.rounding.specs.Arithmetic.{Arithmetic, trees, exactly}
use Rattle.rounding.specs.Leaves.{Bounded, error_at_most}
use Rattle.accuracy.specs.Box.{Three, exact_vec, VecIn, QuatIn, VecError}

module _ {A : Type 0} (arithmetic : Arithmetic A) where
  infixl 60 ◌⊕◌ ◌⊖◌
  infixl 70 ◌⊗◌
  open arithmetic use {◌⊕◌, ◌⊖◌, ◌⊗◌}

  abbrev pub sum3 : Three A → Three A → Three A
  sum3 a b = record { x = a.x ⊕ b.x; y = a.y ⊕ b.y; z = a.z ⊕ b.z }

  abbrev pub scale3 : Three A → A → Three A
  scale3 a s = record { x = a.x ⊗ s; y = a.y ⊗ s; z = a.z ⊗ s }

  abbrev pub cross3 : Three A → Three A → Three A
  cross3 a b = record { x = a.y ⊗ b.z ⊖ a.z ⊗ b.y; y = a.z ⊗ b.x ⊖ a.x ⊗ b.z; z = a.x ⊗ b.y ⊖ a.y ⊗ b.x }

  -- (v + 2w (u × v)) + 2 u × (u × v)
  abbrev pub rotate : A → A → Three A → Three A → Three A
  rotate two w u v =
      let uv = cross3 u v in
      sum3 (sum3 v (scale3 uv (two ⊗ w))) (scale3 (cross3 u uv) two)

-- ---- exactly
unfoldable pub exact_rotate : Value → Three Value → Three Value → Three Value
exact_rotate w u v = rotate exactly (value_of f2) w u v

-- s R p + t, of exact values
abbrev pub exact_scaled_sum : Three Value → Value → Three Value → Three Value
exact_scaled_sum a s t = sum3 exactly (scale3 exactly a s) t

unfoldable pub exact_act : Sim3 → Float → Vec3 → Three Value
unfolding exact_rotate value_of
exact_act x up p =
    let q = x.q in
    let u = exact_vec (record { x = q.x; y = q.y; z = q.z }) in
    exact_scaled_sum (exact_rotate (value_of q.w) u (exact_vec p)) (value_of up) (exact_vec x.t)

-- ---- as trees
abbrev pub leaves : ℕ → ℕ → ℕ → Three Term
leaves i j k = record { x = leaf i; y = leaf j; z = leaf k }

-- the leaves: 2, the quaternion w x y z, the point; and of the action e^σ and the translation as well
abbrev pub tree_rotate : Three Term
tree_rotate = rotate trees (leaf 0) (leaf 1) (leaves 2 3 4) (leaves 5 6 7)

unfoldable pub tree_act : Three Term
tree_act = sum3 trees (scale3 trees tree_rotate (leaf 8)) (leaves 9 10 11)

abbrev pub act_leaves : Sim3 → Float → Vec3 → List Float
act_leaves x up p =
    f2 ∷ x.q.w ∷ x.q.x ∷ x.q.y ∷ x.q.z ∷ p.x ∷ p.y ∷ p.z ∷ up ∷ x.t.x ∷ x.t.y ∷ x.t.z ∷ []

-- the sizes of the leaves: of the quaternion's numbers, of the point's, of e^σ, of the translation's
abbrev pub act_sizes : ℕ → ℕ → ℕ → ℕ → ℕ → List ℕ
act_sizes w q p s t = 2 * w ∷ q ∷ q ∷ q ∷ q ∷ p ∷ p ∷ p ∷ s ∷ t ∷ t ∷ t ∷ []

-- the computed test: none of three trees overflows, and the bound of each is at most e
abbrev pub all_three : Format → ℕ → List ℕ → Three Term → ℕ → Bool
all_three f w bs t e = error_at_most f w bs t.x e && (error_at_most f w bs t.y e && error_at_most f w bs t.z e)

-- ---- what is proved
-- In the box of quaternion's numbers up to q / w, point's up to b / w, e^σ up to s / w and translation's up to t / w,
-- each coordinate of r is finite and within e / w of the exact action of x on p.
abbrev pub ActionIn : ℕ → ℕ → ℕ → ℕ → ℕ → ℕ → Sim3 → Float → Vec3 → Vec3 → Type 0
ActionIn w q b s t e x up p r =
    QuatIn w q x.q → VecIn w b p → Bounded w up s → VecIn w t x.t → VecError w r (exact_act x up p) e

-- the same for every box whose bound is computed to be at most e
abbrev pub ActionAccurate : Format → Sim3 → Float → Vec3 → Vec3 → Type 0
ActionAccurate f x up p r =
    (w q b s t e : ℕ) → 0 < w → T (all_three f w (act_sizes w q b s t) tree_act e) → ActionIn w q b s t e x up p r

pub record ActionTheorem : Type 0 where
  -- the action of a pose, in any format and box
  pub action : (f : Format) (x : Sim3) (up : Float) (p : Vec3) → ActionAccurate f x up p (pose_act f x up p)
  -- quaternion's numbers up to 1 + 2^-40, point's up to 2^16, e^σ up to 16, translation's up to 2^20: within 2^-26
  pub doubles : (x : Sim3) (up : Float) (p : Vec3) →
      ActionIn (2 ^ 100) (2 ^ 100 + 2 ^ 60) (2 ^ 116) (2 ^ 104) (2 ^ 120) (2 ^ 74) x up p (pose_act binary64 x up p)
  -- quaternion's numbers up to 1 + 2^-16, the rest the same: within 2^3
  pub singles : (x : Sim3) (up : Float) (p : Vec3) →
      ActionIn (2 ^ 100) (2 ^ 100 + 2 ^ 84) (2 ^ 116) (2 ^ 104) (2 ^ 120) (2 ^ 103) x up p (pose_act binary32 x up p)
  -- the same quaternions, and all else at most 1: within 2^-46 and 2^-17
  pub unit_doubles : (x : Sim3) (up : Float) (p : Vec3) →
      ActionIn (2 ^ 100) (2 ^ 100 + 2 ^ 60) (2 ^ 100) (2 ^ 100) (2 ^ 100) (2 ^ 54) x up p (pose_act binary64 x up p)
  pub unit_singles : (x : Sim3) (up : Float) (p : Vec3) →
      ActionIn (2 ^ 100) (2 ^ 100 + 2 ^ 84) (2 ^ 100) (2 ^ 100) (2 ^ 100) (2 ^ 83) x up p (pose_act binary32 x up p)
