-- The product of quaternions, the Newton step of a renormalisation, and the translation of an inverse: once as
-- formulas, and what is proved of their errors.
use Rattle.std.specs.Prelude.{Bool, ◌&&◌, List, [], ◌∷◌, ℕ, ◌+◌, ◌*◌, ◌/◌, ◌^◌, ◌≤◌, ◌<◌, T, Float}
use Rattle.std.specs.Float.{Format, binary32, binary64}
use Rattle.ieee.specs.Numbers.{f2, f3, half}
use Rattle.linalg.specs.Floats.{Vec3}
use Rattle.so3.specs.Quat.{quat_mul, quat_renormalized}
use Rattle.so3.specs.Floats.{Quat}
use Rattle.sim3.specs.Pose.{pose_inverse}
use Rattle.sim3.specs.Floats.{Sim3}
use Rattle.rounding.specs.Value.{Value, value_of}
use Rattle.rounding.specs.Tree.{Term, leaf}
use Rattle.rounding.specs.Arithmetic.{Arithmetic, trees, exactly}
use Rattle.rounding.specs.Leaves.{Bounded, error_at_most}
use Rattle.accuracy.specs.Box.{Three, Four, exact_vec, exact_quat, VecIn, QuatIn, VecError, QuatError}
use Rattle.accuracy.specs.Action.{scale3, rotate, exact_rotate, leaves, all_three}

module _ {A : Type 0} (arithmetic : Arithmetic A) where
  infixl 60 ◌⊕◌ ◌⊖◌
  infixl 70 ◌⊗◌
  open arithmetic use {◌⊕◌, ◌⊖◌, ◌⊗◌, negated}

  -- the Hamilton product
  abbrev pub hamilton : Four A → Four A → Four A
  hamilton p q =
      record {
        w = p.w ⊗ q.w ⊖ p.x ⊗ q.x ⊖ p.y ⊗ q.y ⊖ p.z ⊗ q.z;
        x = p.w ⊗ q.x ⊕ p.x ⊗ q.w ⊕ p.y ⊗ q.z ⊖ p.z ⊗ q.y;
        y = p.w ⊗ q.y ⊖ p.x ⊗ q.z ⊕ p.y ⊗ q.w ⊕ p.z ⊗ q.x;
        z = p.w ⊗ q.z ⊕ p.x ⊗ q.y ⊖ p.y ⊗ q.x ⊕ p.z ⊗ q.w;
      }

  abbrev pub squared : Four A → A
  squared q = q.w ⊗ q.w ⊕ q.x ⊗ q.x ⊕ q.y ⊗ q.y ⊕ q.z ⊗ q.z

  -- q (3 - |q|²) / 2
  abbrev pub newton : A → A → Four A → Four A
  newton three half q =
      let k = (three ⊖ squared q) ⊗ half in
      record { w = q.w ⊗ k; x = q.x ⊗ k; y = q.y ⊗ k; z = q.z ⊗ k }

  abbrev pub negated3 : Three A → Three A
  negated3 a = record { x = negated a.x; y = negated a.y; z = negated a.z }

  -- -e^-σ R⁻¹ t
  abbrev pub inverse_shift : A → A → Three A → Three A → A → Three A
  inverse_shift two w u t down = negated3 (scale3 arithmetic (rotate arithmetic two w (negated3 u) t) down)

-- ---- exactly
unfoldable pub exact_hamilton : Four Value → Four Value → Four Value
exact_hamilton p q = hamilton exactly p q

abbrev pub exact_squared : Four Value → Value
exact_squared q = squared exactly q

-- |q|² is within c / u of 1
pub record Normal (u c : ℕ) (q : Four Value) : Type 0 where
  pub above : u * (exact_squared q).p ≤ u * (exact_squared q).n + (u + c) * (exact_squared q).d
  pub below : u * (exact_squared q).d + u * (exact_squared q).n ≤ u * (exact_squared q).p + c * (exact_squared q).d

unfoldable pub exact_newton : Four Value → Four Value
exact_newton q = newton exactly (value_of f3) (value_of half) q

unfoldable pub exact_inverse : Sim3 → Float → Three Value
unfolding exact_rotate value_of
exact_inverse x down =
    let q = x.q in
    let u = exact_vec (record { x = q.x; y = q.y; z = q.z }) in
    inverse_shift exactly (value_of f2) (value_of q.w) u (exact_vec x.t) (value_of down)

-- ---- as trees, with the leaves and their sizes
abbrev pub four_leaves : ℕ → ℕ → ℕ → ℕ → Four Term
four_leaves i j k l = record { w = leaf i; x = leaf j; y = leaf k; z = leaf l }

unfoldable pub tree_quat_mul : Four Term
tree_quat_mul = hamilton trees (four_leaves 0 1 2 3) (four_leaves 4 5 6 7)

abbrev pub quat_mul_leaves : Quat → Quat → List Float
quat_mul_leaves p q = p.w ∷ p.x ∷ p.y ∷ p.z ∷ q.w ∷ q.x ∷ q.y ∷ q.z ∷ []

abbrev pub quat_mul_sizes : ℕ → ℕ → List ℕ
quat_mul_sizes a b = a ∷ a ∷ a ∷ a ∷ b ∷ b ∷ b ∷ b ∷ []

unfoldable pub tree_newton : Four Term
tree_newton = newton trees (leaf 0) (leaf 1) (four_leaves 2 3 4 5)

abbrev pub newton_leaves : Quat → List Float
newton_leaves q = f3 ∷ half ∷ q.w ∷ q.x ∷ q.y ∷ q.z ∷ []

abbrev pub newton_sizes : ℕ → ℕ → List ℕ
newton_sizes w q = 3 * w ∷ (w + 1) / 2 ∷ q ∷ q ∷ q ∷ q ∷ []

unfoldable pub tree_inverse : Three Term
tree_inverse = inverse_shift trees (leaf 0) (leaf 1) (leaves 2 3 4) (leaves 5 6 7) (leaf 8)

abbrev pub inverse_leaves : Sim3 → Float → List Float
inverse_leaves x down = f2 ∷ x.q.w ∷ x.q.x ∷ x.q.y ∷ x.q.z ∷ x.t.x ∷ x.t.y ∷ x.t.z ∷ down ∷ []

abbrev pub inverse_sizes : ℕ → ℕ → ℕ → ℕ → List ℕ
inverse_sizes w q t s = 2 * w ∷ q ∷ q ∷ q ∷ q ∷ t ∷ t ∷ t ∷ s ∷ []

-- the computed test: none of four trees overflows, and the bound of each is at most e
abbrev pub all_four : Format → ℕ → List ℕ → Four Term → ℕ → Bool
all_four f w bs t e =
    error_at_most f w bs t.w e && (error_at_most f w bs t.x e
    && (error_at_most f w bs t.y e && error_at_most f w bs t.z e))

-- ---- what is proved
-- r is the product of p and q, with numbers up to a / w and b / w: each of its numbers is within e / w of the exact one
abbrev pub ProductIn : ℕ → ℕ → ℕ → ℕ → Quat → Quat → Quat → Type 0
ProductIn w a b e p q r = QuatIn w a p → QuatIn w b q → QuatError w r (exact_hamilton (exact_quat p) (exact_quat q)) e

abbrev pub ProductAccurate : Format → Quat → Quat → Quat → Type 0
ProductAccurate f p q r =
    (w a b e : ℕ) → 0 < w → T (all_four f w (quat_mul_sizes a b) tree_quat_mul e) → ProductIn w a b e p q r

-- r is the Newton step of q, with numbers up to a / w: each of its numbers is within e / w of the exact one
abbrev pub RenormalizedIn : ℕ → ℕ → ℕ → Quat → Quat → Type 0
RenormalizedIn w a e q r = QuatIn w a q → QuatError w r (exact_newton (exact_quat q)) e

abbrev pub RenormalizedAccurate : Format → Quat → Quat → Type 0
RenormalizedAccurate f q r =
    (w a e : ℕ) → 0 < w → T (all_four f w (newton_sizes w a) tree_newton e) → RenormalizedIn w a e q r

-- r is the translation of x⁻¹, with quaternion's numbers up to q / w, translation's up to t / w, e^-σ up to s / w: each
-- of its numbers is within e / w of the exact one
abbrev pub InverseIn : ℕ → ℕ → ℕ → ℕ → ℕ → Sim3 → Float → Vec3 → Type 0
InverseIn w q t s e x down r =
    QuatIn w q x.q → VecIn w t x.t → Bounded w down s → VecError w r (exact_inverse x down) e

abbrev pub InverseAccurate : Format → Sim3 → Float → Vec3 → Type 0
InverseAccurate f x down r =
    (w q t s e : ℕ) → 0 < w → T (all_three f w (inverse_sizes w q t s) tree_inverse e) → InverseIn w q t s e x down r

pub record QuaternionTheorem : Type 0 where
  -- in any format and box
  pub product : (f : Format) (p q : Quat) → ProductAccurate f p q (quat_mul f p q)
  pub renormalized : (f : Format) (q : Quat) → RenormalizedAccurate f q (quat_renormalized f q)
  pub inverse : (f : Format) (x : Sim3) (down : Float) → InverseAccurate f x down (pose_inverse f x down).t
  -- numbers up to 1 + 2^-40 at doubles: within 2^-49; up to 1 + 2^-16 at singles: within 2^-20
  pub product_doubles : (p q : Quat) →
      ProductIn (2 ^ 100) (2 ^ 100 + 2 ^ 60) (2 ^ 100 + 2 ^ 60) (2 ^ 51) p q (quat_mul binary64 p q)
  pub product_singles : (p q : Quat) →
      ProductIn (2 ^ 100) (2 ^ 100 + 2 ^ 84) (2 ^ 100 + 2 ^ 84) (2 ^ 80) p q (quat_mul binary32 p q)
  -- the same: within 2^-48 and 2^-19
  pub renormalized_doubles : (q : Quat) →
      RenormalizedIn (2 ^ 100) (2 ^ 100 + 2 ^ 60) (2 ^ 52) q (quat_renormalized binary64 q)
  pub renormalized_singles : (q : Quat) →
      RenormalizedIn (2 ^ 100) (2 ^ 100 + 2 ^ 84) (2 ^ 81) q (quat_renormalized binary32 q)
  -- the same, translations up to 2^20, e^-σ up to 16: within 2^-22 and 2^7
  pub inverse_doubles : (x : Sim3) (down : Float) →
      InverseIn (2 ^ 100) (2 ^ 100 + 2 ^ 60) (2 ^ 120) (2 ^ 104) (2 ^ 78) x down (pose_inverse binary64 x down).t
  pub inverse_singles : (x : Sim3) (down : Float) →
      InverseIn (2 ^ 100) (2 ^ 100 + 2 ^ 84) (2 ^ 120) (2 ^ 104) (2 ^ 107) x down (pose_inverse binary32 x down).t
