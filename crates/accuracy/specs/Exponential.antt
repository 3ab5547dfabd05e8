-- The exponential below the limits of the series: the translation, v₀ ρ + v₁ φ×ρ + v₂ φ×(φ×ρ), once as formulas; and
-- what is proved of its error and of the quaternion's. The exact sums are at the exact |φ|²; z is the computed one.
use Rattle.std.specs.Prelude.{Bool, not, ◌&&◌, List, [], ◌∷◌, ℕ, suc, ◌+◌, ◌*◌, ◌^◌, T, leb, Float}
use Rattle.std.specs.Float.{Format, binary32, binary64}
use Rattle.std.specs.Float.Ieee.{lt}
use Rattle.ieee.specs.Numbers.{f0}
use Rattle.linalg.specs.Vector.{vec_norm_sq}
use Rattle.linalg.specs.Floats.{Vec3}
use Rattle.tables.specs.Tables.{b_row, k_row, cos_half_row, row_rule}
use Rattle.circle.specs.Limits.{row_limit}
use Rattle.circle.specs.Kernel.{circle_exp}
use Rattle.circle.specs.Floats.{ExpCoeffs}
use Rattle.arms.specs.Limits.{coeffs_delta, series_below}
use Rattle.arms.specs.Floats.{Values}
use Rattle.so3.specs.Floats.{Quat}
use Rattle.sim3.specs.Exp.{pose_exp}
use Rattle.sim3.specs.Floats.{Sim3}
use Rattle.sim3.specs.Floats.{Sim3Tangent}
use Rattle.rounding.specs.Value.{Value, value_of, AbsoluteError}
use Rattle.rounding.specs.Tree.{Term, leaf, Bound, upward, prod_bound, bound, no_overflow}
use Rattle.rounding.specs.Arithmetic.{Arithmetic, trees, exactly}
use Rattle.rounding.specs.Leaves.{nth, no_bound, errorless}
use Rattle.accuracy.specs.Box.{Three, exact_vec, VecIn, VecError, QuatError}
use Rattle.accuracy.specs.Action.{sum3, scale3, cross3, leaves}
use Rattle.accuracy.specs.Norm.{exact_norm_sq}
use Rattle.accuracy.specs.Series.{xi_part, zeta_part, exact_term, exact_total, exact_horner, most_terms}
use Rattle.accuracy.specs.Rows.{exact_row, exact_rotation}

-- x₀ v + x₁ φ×v + x₂ φ×(φ×v)
abbrev pub poly : {A : Type 0} → Arithmetic A → Three A → A → A → A → Three A → Three A
poly a phi x0 x1 x2 v =
    let mu = cross3 a phi v in
    sum3 a (sum3 a (scale3 a v x0) (scale3 a mu x1)) (scale3 a (cross3 a phi mu) x2)

unfoldable pub exact_poly : Three Value → Value → Value → Value → Three Value → Three Value
exact_poly phi x0 x1 x2 v = poly exactly phi x0 x1 x2 v

-- the leaves: φ, ρ, the coefficients
unfoldable pub tree_poly : Three Term
tree_poly = poly trees (leaves 0 1 2) (leaf 6) (leaf 7) (leaf 8) (leaves 3 4 5)

abbrev pub poly_bounds : ℕ → ℕ → Bound → Bound → Bound → List Bound
poly_bounds a b x y z =
    errorless a ∷ errorless a ∷ errorless a ∷ errorless b ∷ errorless b ∷ errorless b ∷ x ∷ y ∷ z ∷ []

-- its error is at most e, and nothing in it overflows, for φ of at most a, ρ of at most b and the coefficients x, y, z
unfoldable pub poly_holds : Format → ℕ → ℕ → ℕ → Bound → Bound → Bound → ℕ → Bool
unfolding no_overflow bound tree_poly
poly_holds f w a b x y z e =
    no_overflow f w (nth no_bound (poly_bounds a b x y z)) tree_poly.x
    && leb (bound f w (nth no_bound (poly_bounds a b x y z)) tree_poly.x).error e

-- the exact sums of n terms
abbrev pub sum0 : Float → ℕ → Value
sum0 sigma n = exact_horner (value_of sigma) 1 n

abbrev pub sum1 : Float → Value → ℕ → Value
sum1 sigma z n = exact_total (exact_term (value_of sigma) z xi_part 1) n

abbrev pub sum2 : Float → Value → ℕ → Value
sum2 sigma z n = exact_total (exact_term (value_of sigma) z zeta_part 1) n

-- ---- what is proved, in units of 2^-100
-- the numbers of φ are at most 3 / 2, and at singles 13 / 8
abbrev pub phi_most : Format → ℕ
phi_most binary32 = 13 * 2 ^ 97
phi_most binary64 = 3 * 2 ^ 99

-- v₀, v₁ and v₂ where z is below b's limit: their sizes, and their bounds after one rounding more
abbrev pub unscaled : Format → ℕ → ℕ → ℕ → Bound
unscaled f w b e = prod_bound f w (errorless w) (record { magnitude = b; error = e })

abbrev pub exp_bounds : Format → Three Bound
exp_bounds binary32 =
    record {
      x = unscaled binary32 (2 ^ 100) (5 * 2 ^ 99) (2 ^ 81);
      y = unscaled binary32 (2 ^ 100) (2 ^ 101) (2 ^ 82);
      z = unscaled binary32 (2 ^ 100) (3 * 2 ^ 98) (2 ^ 80);
    }
exp_bounds binary64 =
    record {
      x = unscaled binary64 (2 ^ 100) (9 * 2 ^ 98) (2 ^ 51);
      y = unscaled binary64 (2 ^ 100) (7 * 2 ^ 98) (2 ^ 53);
      z = unscaled binary64 (2 ^ 100) (5 * 2 ^ 97) (2 ^ 52);
    }

-- the computed test for ρ of numbers up to b
abbrev pub exp_holds : Format → ℕ → ℕ → Bool
exp_holds f b e = poly_holds f (2 ^ 100) (phi_most f) b (exp_bounds f).x (exp_bounds f).y (exp_bounds f).z e

-- how far the rounding of |φ|² moves the exact translation: by 2^-18 b at singles, and 2^-47 b at doubles
abbrev pub norm_moves : Format → ℕ → ℕ
norm_moves binary32 b = upward (2 ^ 100) (2 ^ 82 * b)
norm_moves binary64 b = upward (2 ^ 100) (2 ^ 53 * b)

-- t is the translation of the exponential of τ, beside the exact sums at x in place of |φ|²: where the computed Δ and z
-- are below the limits of the series and of b, and ρ's numbers at most b, each of its numbers is within e of V ρ with
-- every exact sum of `most_terms` terms or more
abbrev pub TranslationAt : Format → Value → ℕ → ℕ → Sim3Tangent → Vec3 → Type 0
TranslationAt f x b e tau t =
    let z = vec_norm_sq f tau.phi in
    T (lt (coeffs_delta f tau.sigma z) (series_below f)) → T (lt z (row_limit f b_row)) →
    VecIn (2 ^ 100) (phi_most f) tau.phi → VecIn (2 ^ 100) b tau.rho → (n : ℕ) →
    VecError (2 ^ 100) t
    (exact_poly (exact_vec tau.phi) (sum0 tau.sigma (most_terms f + n)) (sum1 tau.sigma x (most_terms f + n))
    (sum2 tau.sigma x (most_terms f + n)) (exact_vec tau.rho)) e

-- the same at the exact |φ|²
abbrev pub TranslationIn : Format → ℕ → ℕ → Sim3Tangent → Vec3 → Type 0
TranslationIn f b e tau t = TranslationAt f (exact_norm_sq (exact_vec tau.phi)) b e tau t

-- how many terms of the rows behind the first, and the bounds of cos(θ/2) and of sin(θ/2)/θ
abbrev pub row_terms : Format → ℕ
row_terms binary32 = 6
row_terms binary64 = 10

abbrev pub cos_error : Format → ℕ
cos_error binary32 = 2 ^ 79
cos_error binary64 = 2 ^ 50

abbrev pub k_error : Format → ℕ
k_error binary32 = 2 ^ 77
k_error binary64 = 2 ^ 48

-- c are the circle functions at z: where z is below the limits of both rows and not below zero, each is within its
-- bound of every exact sum of as many terms or more
abbrev pub CircleAccurate : Format → Float → ExpCoeffs → Type 0
CircleAccurate f z c =
    T (lt z (row_limit f cos_half_row)) → T (lt z (row_limit f k_row)) → T (not (lt z f0)) → (n : ℕ) →
    AbsoluteError (2 ^ 100) c.cos_half (exact_row (row_rule cos_half_row) (value_of z) 0 (suc (row_terms f + n)))
    (cos_error f)
    × AbsoluteError (2 ^ 100) c.k (exact_row (row_rule k_row) (value_of z) 0 (suc (row_terms f + n))) (k_error f)

-- of the quaternion's numbers, with the rounding of |φ|²
abbrev pub turn_error : Format → ℕ
turn_error binary32 = 2 ^ 80
turn_error binary64 = 2 ^ 51

-- q is the quaternion of the exponential of φ, beside the exact one at x in place of |φ|²: where the computed z is
-- below the limits of both rows and φ's numbers at most 5 / 2, each of its numbers is within e of the exact one with
-- every sum of as many terms or more
abbrev pub RotationAt : Format → Value → ℕ → Vec3 → Quat → Type 0
RotationAt f x e phi q =
    let z = vec_norm_sq f phi in
    T (lt z (row_limit f cos_half_row)) → T (lt z (row_limit f k_row)) → VecIn (2 ^ 100) (5 * 2 ^ 99) phi → (n : ℕ) →
    QuatError (2 ^ 100) q (exact_rotation x (exact_vec phi) (suc (row_terms f + n))) e

-- the same at the exact |φ|²
abbrev pub RotationAccurate : Format → Vec3 → Quat → Type 0
RotationAccurate f phi q = RotationAt f (exact_norm_sq (exact_vec phi)) (turn_error f) phi q

-- x is the exponential of τ: its translation for every box of ρ whose error at the computed |φ|² is computed to be at
-- most e, and its quaternion; each beside the exact sums at the exact |φ|², and, nearer, at the computed one
pub record ExponentialAccurate (f : Format) (tau : Sim3Tangent) (x : Sim3) : Type 0 where
  pub translation : (b e : ℕ) → T (exp_holds f b e) → TranslationIn f b (e + norm_moves f b) tau x.t
  pub rotation : RotationAccurate f tau.phi x.q
  pub translation_at_computed : (b e : ℕ) → T (exp_holds f b e) →
      TranslationAt f (value_of (vec_norm_sq f tau.phi)) b e tau x.t
  pub rotation_at_computed : RotationAt f (value_of (vec_norm_sq f tau.phi)) (cos_error f) tau.phi x.q

-- ρ up to 2^16, and up to 1: within 2^2 and 2^-14 at singles, 2^-27 and 2^-43 at doubles
abbrev pub page_error : Format → ℕ
page_error binary32 = 2 ^ 102
page_error binary64 = 2 ^ 73

abbrev pub unit_error : Format → ℕ
unit_error binary32 = 2 ^ 86
unit_error binary64 = 2 ^ 57

pub record ExponentialTheorem (f : Format) : Type 0 where
  pub exponential : (tau : Sim3Tangent) (v : Values) → ExponentialAccurate f tau (pose_exp f tau v)
  pub page : (tau : Sim3Tangent) (v : Values) → TranslationIn f (2 ^ 116) (page_error f) tau (pose_exp f tau v).t
  pub unit : (tau : Sim3Tangent) (v : Values) → TranslationIn f (2 ^ 100) (unit_error f) tau (pose_exp f tau v).t
  -- (cos(θ/2), sin(θ/2)/θ) within 2^-21 and 2^-23 at singles, 2^-50 and 2^-52 at doubles
  pub circle : (z root sh ch : Float) → CircleAccurate f z (circle_exp f z root sh ch)
