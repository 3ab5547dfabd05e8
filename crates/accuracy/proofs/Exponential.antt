-- The exponential below the limits of the series: rounding and truncation. Assumes nothing.
use mathlib.Core.Path.{◌≡◌, refl, sym, ap, ◌∙◌, subst}
use mathlib.Core.List.{[], ◌∷◌}
use Prim.Native.Nat.{ℕ, zero, suc, ◌+◌, ◌*◌, ◌^◌, ◌≤◌, ◌<◌}
use native.Mathlib.Nat.{add_assoc, mul-pos, one-mul, mul-le-mul_right}
use native.Mathlib.Omega.{arith}
use mathlib.Core.Bool.{Bool, true, false, not, cond}
use lib.IntN.{negsuc}
use lib.Dec.{T, leb, ltb, leb→le, lit≤, lit<}
use lib.Ieee.{Float, Format, binary32, binary64, sub, mul, lt, of_bits}
use lib.Ieee.Fits.{and_l, and_r}
use Rattle.ieee.specs.Numbers.{f0, f1}
use Rattle.ieee.specs.Table.{factorial}
use Rattle.linalg.specs.Vector.{vec_scale, vec_cross, vec_add, vec_norm_sq}
use Rattle.linalg.specs.Floats.{Vec3}
use Rattle.tables.specs.Tables.{recip_fact, b_row, cos_half_row, k_row, row_rule}
use Rattle.circle.specs.Kernel.{circle_sinc_abd}
use Rattle.circle.specs.Limits.{row_limit}
use Rattle.series.specs.Series.{series_sum, series_level, coeffs_delta, series_full, coeffs4}
use Rattle.series.specs.Floats.{Sim3Coeffs}
use Rattle.arms.specs.Limits.{short_below, mid_below, upper_below, series_below}
use Rattle.arms.specs.Arm.{coeffs_arm, arm_terms, arm_ends}
use Rattle.arms.specs.Floats.{Values}
use Rattle.coeffs.specs.Group.{coeffs_scaled, closed_scaled, coeffs_unscale, coeffs_unscaled, coeffs_v}
use Rattle.sim3.specs.Exp.{poly_apply, v_apply, pose_exp}
use Rattle.sim3.specs.Floats.{Sim3Tangent}
use Rattle.rounding.specs.Value.{Value, times, value_of, AbsoluteError, AtMost, Near}
use Rattle.rounding.specs.Roundoff.{rounding_error}
use Rattle.rounding.specs.Tree.{Term, computed, exact, Bound, upward, prod_reach, bound, in_range, no_overflow}
use Rattle.rounding.specs.Tree.{ForwardError}
use Rattle.accuracy.specs.Box.{Three, VecIn, VecError, QuatError, exact_vec}
use Rattle.accuracy.specs.Domain.{InDomain}
use Rattle.accuracy.specs.Series.{Five, of_level, Part, xi_part, zeta_part, dxi_part, dzeta_part, part, exact_first}
use Rattle.accuracy.specs.Series.{exact_next, exact_level, exact_term, exact_total, exact_horner, bound_total}
use Rattle.accuracy.specs.Series.{bound_term, bound_horner, total_no_overflow, term_no_overflow, horner_no_overflow}
use Rattle.rounding.specs.Leaves.{nth, no_bound, errorless, Bounded, error_at_most}
use Rattle.so3.specs.So3.{so3_exp}
use Rattle.accuracy.specs.Norm.{exact_norm_sq, tree_norm_sq}
use Rattle.accuracy.specs.Rows.{exact_rotation}
use Rattle.accuracy.proofs.Norm.{norm_accurate, norm-of}
use Rattle.accuracy.proofs.ApartSums.{powers-most}
use Rattle.accuracy.proofs.ExactNorm.{poly-near, sum1-near, sum2-near, rotation-beside}
use Rattle.accuracy.proofs.Rotation.{Above3, beside, vec_wider}
use Rattle.accuracy.proofs.Rows.{norm_plain, bounded_below, circle_binary64, circle_binary32}
use Rattle.accuracy.proofs.Rows.{rotation_binary64, rotation_binary32}
use Rattle.accuracy.specs.Exponential.{norm_moves, turn_error, cos_error, row_terms, unscaled, exp_holds, TranslationIn}
use Rattle.accuracy.specs.Exponential.{TranslationAt, RotationAt}
use Rattle.accuracy.specs.Exponential.{RotationAccurate, page_error, unit_error, ExponentialTheorem, sum0, sum1, sum2}
use Rattle.accuracy.specs.Exponential.{exact_poly, tree_poly, poly_bounds, poly_holds}
use Rattle.rounding.proofs.Differences.{expand}
use Rattle.rounding.proofs.Fractions.{most-near, most_wider}
use Rattle.rounding.proofs.Forward.{forward_error, forward_prod, error_wider, upward_enough}
use Rattle.rounding.proofs.Leaves.{leaf_forward, value-above, error-near, AllForwardError, nth_forward}
use Rattle.accuracy.proofs.Series.{one_forward, factorial_pos, term_forward, total_forward, horner_forward}
use Rattle.accuracy.proofs.Arms.{value_pos, value-signed, near_turn}
use Rattle.accuracy.proofs.Truncation.{Rest, tail-v1, tail-v2, tail_horner}
use Rattle.accuracy.proofs.Domain.{domain}
use Rattle.accuracy.proofs.Coefficients.{by_arm, eight_binary64, eight_binary32}

-- ---- the polynomial
poly-close : (f : Format) (w a b e : ℕ) (phi rho : Vec3) (x0 x1 x2 : Float) (y0 y1 y2 : Value) (b0 b1 b2 : Bound) →
    0 < w → VecIn w a phi
    → VecIn w b rho → ForwardError w x0 y0 b0 → ForwardError w x1 y1 b1 → ForwardError w x2 y2 b2 →
    T (poly_holds f w a b b0 b1 b2 e)
    → VecError w (poly_apply f phi x0 x1 x2 rho) (exact_poly (exact_vec phi) y0 y1 y2 (exact_vec rho)) e
unfolding computed exact bound no_overflow tree_poly poly_apply vec_scale vec_cross vec_add sub exact_poly poly_holds
poly-close f w a b e phi rho x0 x1 x2 y0 y1 y2 b0 b1 b2 z hp hr h0 h1 h2 t =
    let l = phi.x ∷ phi.y ∷ phi.z ∷ rho.x ∷ rho.y ∷ rho.z ∷ x0 ∷ x1 ∷ x2 ∷ [] in
    let v = value_of phi.x ∷ value_of phi.y ∷ value_of phi.z ∷ value_of rho.x ∷ value_of rho.y ∷ value_of rho.z ∷ y0
    ∷ y1 ∷ y2 ∷ [] in
    let d = poly_bounds a b b0 b1 b2 in
    let all : AllForwardError w l v d = (
      leaf_forward w phi.x a hp.x,
      (
        leaf_forward w phi.y a hp.y,
        (
          leaf_forward w phi.z a hp.z,
          (
            leaf_forward w rho.x b hr.x,
            (
              leaf_forward w rho.y b hr.y,
              (leaf_forward w rho.z b hr.z, (h0, (h1, (h2, tt)))),
            ),
          ),
        ),
      ),
    ) in
    let s = no_overflow f w (nth no_bound d) tree_poly.x in
    let E = (bound f w (nth no_bound d) tree_poly.x).error in
    let le : E ≤ e = leb→le E e (and_r s (leb E e) t) in
    let ts : T s = and_l s (leb E e) t in
    let go : (r : Term) → T (no_overflow f w (nth no_bound d) r) →
    ForwardError w (computed f (nth f0 l) r) (exact (nth (value_of f0) v) r) (bound f w (nth no_bound d) r) =
    λ r q. forward_error f w (nth f0 l) (nth (value_of f0) v) (nth no_bound d) z (nth_forward w l v d all) r q in
    let P = poly_apply f phi x0 x1 x2 rho in
    let Y = exact_poly (exact_vec phi) y0 y1 y2 (exact_vec rho) in
    record {
      x = error_wider w P.x Y.x E e le (go tree_poly.x ts).close;
      y = error_wider w P.y Y.y E e le
          (go tree_poly.y ts).close;
      z = error_wider w P.z Y.z E e le (go tree_poly.z ts).close;
    }

-- ---- the sums have denominators above 0
record FiveAbove (l : Five Value) : Type 0 where
  p : 0 < l.p.d
  xi : 0 < l.xi.d
  zeta : 0 < l.zeta.d
  dxi : 0 < l.dxi.d
  dzeta : 0 < l.dzeta.d

module _ (s z : Value) (sp : 0 < s.d) (zp : 0 < z.d) where
  level-above : (j : ℕ) → FiveAbove (exact_level s z j)
  unfolding exact_level exact_first exact_next
  level-above zero =
      record {
        p = value-above f1;
        xi = value-above f0;
        zeta = value-above f0;
        dxi = value-above f0;
        dzeta =
            value-above f0;
      }
  level-above (suc j) =
      let l = level-above j in
      record {
        p = mul-pos l.p sp;
        xi = mul-pos (mul-pos (mul-pos sp l.xi) l.p) (mul-pos zp l.zeta);
        zeta = mul-pos (mul-pos sp l.zeta) l.xi;
        dxi = mul-pos (mul-pos (mul-pos sp l.dxi) l.zeta) (mul-pos zp l.dzeta);
        dzeta = mul-pos (mul-pos sp l.dzeta) l.dxi;
      }

  part-above : (c : Part) (l : Five Value) → FiveAbove l → 0 < (part c l).d
  part-above xi_part l h = h.xi
  part-above zeta_part l h = h.zeta
  part-above dxi_part l h = h.dxi
  part-above dzeta_part l h = h.dzeta

  pub total-above : (c : Part) (o n : ℕ) → 0 < (exact_total (exact_term s z c o) n).d
  unfolding exact_total exact_term
  total-above c o zero = value-above f0
  total-above c o (suc n) =
      mul-pos (total-above c o n) (mul-pos (part-above c (exact_level s z n) (level-above n)) (factorial_pos (n + o)))

  pub horner_above : (l n : ℕ) → 0 < (exact_horner s l n).d
  unfolding exact_horner
  horner_above l zero = value-above f0
  horner_above l (suc n) = mul-pos (factorial_pos l) (mul-pos sp (horner_above (suc l) n))

-- ---- the sizes of the sums
module _ (f : Format) (w r y k : ℕ) (sigma z : Float) (wp : 0 < w) (half : 2 * r ≤ k * w)
    (h : InDomain w r y sigma z) where
  v0-most : (c b : ℕ) → T (horner_no_overflow f w (errorless r) 1 k) → w * r ^ k ≤ c * (w ^ k * factorial (k + 1)) →
      (bound_horner f w
      (errorless r) 1 k).magnitude + 2 * c ≤ b → (n : ℕ) → AtMost w (exact_horner (value_of sigma) 1 (k + n)) b
  v0-most c b t q l n =
      let S = exact_horner (value_of sigma) 1 k in
      let g = horner_forward f w sigma (value_of sigma) (errorless r) wp (leaf_forward w sigma r h.sigma) 1 k t in
      most_wider w (exact_horner (value_of sigma) 1 (k + n))
      ((bound_horner f w (errorless r) 1 k).magnitude + 2 * c) b l
      (most-near w (exact_horner (value_of sigma) 1 (k + n)) S (bound_horner f w (errorless r) 1 k).magnitude
      (2 * c) g.above
      (tail_horner w r (value_of sigma) (value_of z) wp (value_pos w sigma r h.sigma) (value_pos w z y h.z)
      (value-signed w sigma r h.sigma) h.nonnegative h.delta 1 k c half q n) g.size)

  sum-within : (c : Part) (m : ℕ) →
      T (total_no_overflow f w (term_no_overflow f w (errorless r) (errorless y) c 1)
      (bound_term f w (errorless r) (errorless y) c 1) m)
      → ForwardError w (series_sum f (λ j. mul f (part c (of_level (series_level f sigma z j))) (recip_fact f (j + 1)))
      m)
      (exact_total (exact_term (value_of sigma) (value_of z) c 1) m)
      (bound_total f w (bound_term f w (errorless r) (errorless y) c 1) m)
  sum-within c m t =
      total_forward f w (λ j. mul f (part c (of_level (series_level f sigma z j))) (recip_fact f (j + 1)))
      (exact_term (value_of sigma) (value_of z) c 1)
      (bound_term f w (errorless r) (errorless y) c 1) (term_no_overflow f w (errorless r) (errorless y) c 1) wp
      (λ j t. term_forward f w sigma z (value_of sigma) (value_of z) (errorless r) (errorless y) wp
      (leaf_forward w sigma r h.sigma) (leaf_forward w z y h.z) c 1 j t) m t

  v1-most : (c b : ℕ) → T (total_no_overflow f w (term_no_overflow f w (errorless r) (errorless y) xi_part 1)
      (bound_term f w (errorless r) (errorless y) xi_part 1) (suc k))
      → Rest w r k (suc (suc k)) c →
      (bound_total f w (bound_term f w (errorless r) (errorless y) xi_part 1) (suc k)).magnitude + 2 * c ≤ b
      → (n : ℕ) → AtMost w (exact_total (exact_term (value_of sigma) (value_of z) xi_part 1) (suc k + n)) b
  v1-most c b t q l n =
      let V1 = exact_total (exact_term (value_of sigma) (value_of z) xi_part 1) in
      let g = sum-within xi_part (suc k) t in
      let B = (bound_total f w (bound_term f w (errorless r) (errorless y) xi_part 1) (suc k)).magnitude in
      most_wider w (V1 (suc k + n)) (B + 2 * c) b l
      (most-near w (V1 (suc k + n)) (V1 (suc k)) B (2 * c) g.above
      (tail-v1 w r (value_of sigma) (value_of z) wp (value_pos w sigma r h.sigma) (value_pos w z y h.z)
      (value-signed w sigma r h.sigma) h.nonnegative h.delta k c half q n) g.size)

  v2-most : (c b : ℕ) → T (total_no_overflow f w (term_no_overflow f w (errorless r) (errorless y) zeta_part 1)
      (bound_term f w (errorless r) (errorless y) zeta_part 1)
      (suc (suc k))) → Rest w r k (2 * suc (suc (suc k))) c →
      (bound_total f w (bound_term f w (errorless r) (errorless y) zeta_part 1)
      (suc (suc k))).magnitude + 2 * c ≤ b
      → (n : ℕ) → AtMost w (exact_total (exact_term (value_of sigma) (value_of z) zeta_part 1) (suc (suc k) + n)) b
  v2-most c b t q l n =
      let V2 = exact_total (exact_term (value_of sigma) (value_of z) zeta_part 1) in
      let g = sum-within zeta_part (suc (suc k)) t in
      let B = (bound_total f w (bound_term f w (errorless r) (errorless y) zeta_part 1) (suc (suc k))).magnitude in
      most_wider w (V2 (suc (suc k) + n)) (B + 2 * c) b l
      (most-near w (V2 (suc (suc k) + n)) (V2 (suc (suc k))) B (2 * c) g.above
      (tail-v2 w r (value_of sigma) (value_of z) wp (value_pos w sigma r h.sigma) (value_pos w z y h.z)
      (value-signed w sigma r h.sigma) h.nonnegative h.delta k c half q n) g.size)

-- ---- times 1
times-one : (y : Value) → times (value_of f1) y ≡ y
unfolding value_of
times-one y = ap (λ (p : ℕ). record { p = p; n = 1 * y.n + 0 * y.p; d = 1 * y.d }) (one y.p y.n) ∙ ap
    (λ (n : ℕ). record { p = y.p; n = n; d = 1 * y.d }) (one y.n y.p)
    ∙ ap (λ (d : ℕ). record { p = y.p; n = y.n; d = d }) (one-mul y.d)
  where
    one : (a b : ℕ) → 1 * a + 0 * b ≡ a
    one a b = omega arith

pub unscaled-within : (f : Format) (w : ℕ) (x : Float) (y : Value) (b e : ℕ) → 0 < w → AbsoluteError w x y e →
    AtMost w y b → 0 < y.d → T
    (in_range f w (prod_reach w (errorless w) (record { magnitude = b; error = e }))) →
    ForwardError w (mul f f1 x) y (unscaled f w b e)
unscaled-within f w x y b e z h k a t =
    subst (λ (v : Value). ForwardError w (mul f f1 x) v (unscaled f w b e)) (times-one y)
    (forward_prod f w f1 x (value_of f1) y (errorless w) (record { magnitude = b; error = e }) z (one_forward w)
    (record { close = h; size = k; above = a }) t)

-- ---- the exponential
chosen : {A : Type 0} (P : A → Type 0) (t : Bool) (a b : A) → T t → P a → P (cond t a b)
chosen P true a b h k = k
chosen P false a b h k = absurd h

pub from : (P : ℕ → Type 0) (j i m : ℕ) → j + i ≡ m → ((n : ℕ) → P (j + n)) → (n : ℕ) → P (m + n)
from P j i m e h n = subst P (sym (add_assoc j i n) ∙ ap (λ (k : ℕ). k + n) e) (h (i + n))

abbrev coeffs_of : Format → Sim3Tangent → Values → Sim3Coeffs
coeffs_of f tau v = (coeffs_scaled f tau.sigma (vec_norm_sq f tau.phi) v).c

module _ (f : Format) (w a b e b0 b1 b2 e0 e1 e2 : ℕ) (tau : Sim3Tangent) (v : Values) (y0 y1 y2 : Value) where
  exp-unscaled : 0 < w → VecIn w a tau.phi → VecIn w b tau.rho → AbsoluteError w (coeffs_of f tau v).v0 y0 e0 →
      AbsoluteError w
      (coeffs_of f tau v).v1 y1 e1 → AbsoluteError w (coeffs_of f tau v).v2 y2 e2 → AtMost w y0 b0 → AtMost w y1 b1 →
      AtMost w y2 b2 → 0 < y0.d
      → 0 < y1.d → 0 < y2.d
      → T (in_range f w (prod_reach w (errorless w) (record { magnitude = b0; error = e0 }))) → T
      (in_range f w (prod_reach w (errorless w) (record { magnitude = b1; error = e1 }))) → T
      (in_range f w (prod_reach w (errorless w) (record { magnitude = b2; error = e2 })))
      → T (poly_holds f w a b (unscaled f w b0 e0) (unscaled f w b1 e1) (unscaled f w b2 e2) e)
      → VecError w (poly_apply f tau.phi (mul f f1 (coeffs_of f tau v).v0) (mul f f1 (coeffs_of f tau v).v1)
      (mul f f1 (coeffs_of f tau v).v2)
      tau.rho) (exact_poly (exact_vec tau.phi) y0 y1 y2 (exact_vec tau.rho)) e
  exp-unscaled z hp hr h0 h1 h2 m0 m1 m2 a0 a1 a2 i0 i1 i2 t =
      poly-close f w a b e tau.phi tau.rho (mul f f1 (coeffs_of f tau v).v0) (mul f f1 (coeffs_of f tau v).v1)
      (mul f f1 (coeffs_of f tau v).v2) y0 y1 y2 (unscaled f w b0 e0) (unscaled f w b1 e1) (unscaled f w b2 e2) z hp hr
      (unscaled-within f w (coeffs_of f tau v).v0 y0 b0 e0 z h0 m0 a0 i0)
      (unscaled-within f w (coeffs_of f tau v).v1 y1 b1 e1 z h1 m1 a1 i1)
      (unscaled-within f w (coeffs_of f tau v).v2 y2 b2 e2 z h2 m2 a2 i2) t

  exp_chosen : T (lt (vec_norm_sq f tau.phi) (row_limit f b_row)) →
      (coeffs_scaled f tau.sigma (vec_norm_sq f tau.phi) v).scaled ≡ false
      → VecError w (poly_apply f tau.phi (mul f f1 (coeffs_of f tau v).v0) (mul f f1 (coeffs_of f tau v).v1)
      (mul f f1 (coeffs_of f tau v).v2)
      tau.rho) (exact_poly (exact_vec tau.phi) y0 y1 y2 (exact_vec tau.rho)) e
      → VecError w (pose_exp f tau v).t (exact_poly (exact_vec tau.phi) y0 y1 y2 (exact_vec tau.rho)) e
  unfolding pose_exp v_apply coeffs_v coeffs_unscaled coeffs_unscale coeffs4
  exp_chosen t s h =
      let Y = exact_poly (exact_vec tau.phi) y0 y1 y2 (exact_vec tau.rho) in
      let c = coeffs_of f tau v in
      chosen (λ (x : Vec3). VecError w x Y e) (lt (vec_norm_sq f tau.phi) (row_limit f b_row)) _ _ t
      (subst (λ (i : Bool). VecError w (poly_apply f tau.phi (mul f (cond i v.up f1) c.v0) (mul f (cond i v.up f1) c.v1)
      (mul f (cond i v.up f1) c.v2) tau.rho) Y e) (sym s) h)

-- no factor on the arms of the series
pub not_scaled : (f : Format) (sigma z : Float) (v : Values) → T (lt (coeffs_delta f sigma z) (series_below f)) →
    (coeffs_scaled f sigma z v).scaled ≡ false
unfolding coeffs_scaled coeffs_arm
not_scaled f sigma z v t =
    let d = coeffs_delta f sigma z in
    by_arm (λ (arm : ℕ). (cond (ltb arm 5) (record { c = series_full f sigma z (arm_terms f arm); scaled = false })
    (closed_scaled f sigma z (circle_sinc_abd f z v.root v.sin_half v.cos_half v.sin) v.e v.m
    (arm_ends f sigma arm))).scaled
    ≡ false)
    (lt d (short_below f)) (lt d (mid_below f)) (lt d (upper_below f)) (lt d (series_below f)) (λ h. refl) (λ h. refl)
    (λ h. refl) (λ h. refl) t

-- the whole domain of the series, and the sizes of the sums over it
domain64 : (sigma z : Float) → T (lt (coeffs_delta binary64 sigma z) (series_below binary64)) → T (not (lt z f0)) →
    InDomain (2 ^ 100) (386880940757 * 2 ^ 62) (544521253035 * 2 ^ 62) sigma z
unfolding of_bits
domain64 sigma z t p =
    domain binary64 (2 ^ 100) (1089042506069 * 2 ^ 61) (386880940757 * 2 ^ 62) (544521253035 * 2 ^ 62) sigma z
    2230359052429091 (negsuc 49) (lit< tt) t p (lit≤ tt) (lit≤ tt) (lit≤ tt)

most64 : (sigma z : Float) → T (lt (coeffs_delta binary64 sigma z) (series_below binary64)) → T (not (lt z f0)) →
    (n : ℕ)
    → AtMost (2 ^ 100) (sum0 sigma (23 + n)) (9 * 2 ^ 98) × AtMost (2 ^ 100) (sum1 sigma (value_of z) (23 + n))
    (7 * 2 ^ 98) × AtMost (2 ^ 100)
    (sum2 sigma (value_of z) (23 + n)) (5 * 2 ^ 97) × (0 < (value_of sigma).d) × (0 < (value_of z).d)
unfolding of_bits horner_no_overflow total_no_overflow term_no_overflow bound_horner bound_total bound_term factorial
most64 sigma z t p n =
    let w = 2 ^ 100 in
    let r = 386880940757 * 2 ^ 62 in
    let y = 544521253035 * 2 ^ 62 in
    let h : InDomain w r y sigma z = domain64 sigma z t p in (
      from (λ (i : ℕ). AtMost w (sum0 sigma i) (9 * 2 ^ 98)) 19 4 23 refl
          (v0-most binary64 w r y 19 sigma z (lit< tt) (lit≤ tt) h (5 * 2 ^ 46) (9 * 2 ^ 98) tt (lit≤ tt) (lit≤ tt)) n,
      from (λ (i : ℕ). AtMost w (sum1 sigma (value_of z) i) (7 * 2 ^ 98)) 20 3 23 refl
          (v1-most binary64 w r y 19 sigma z (lit< tt) (lit≤ tt) h (19 * 2 ^ 44) (7 * 2 ^ 98) tt (lit≤ tt) (lit≤ tt)) n,
      from (λ (i : ℕ). AtMost w (sum2 sigma (value_of z) i) (5 * 2 ^ 97)) 21 2 23 refl
          (v2-most binary64 w r y 19 sigma z (lit< tt) (lit≤ tt) h (9 * 2 ^ 44) (5 * 2 ^ 97) tt (lit≤ tt) (lit≤ tt)) n,
      value_pos w sigma r h.sigma,
      value_pos w z y h.z,
    )

-- the denominators of a translation
poly-above : (phi rho : Vec3) (y0 y1 y2 : Value) → 0 < y0.d → 0 < y1.d → 0 < y2.d →
    Above3 (exact_poly (exact_vec phi) y0 y1 y2 (exact_vec rho))
unfolding exact_poly
poly-above phi rho y0 y1 y2 d0 d1 d2 =
    let px = value-above phi.x in
    let py = value-above phi.y in
    let pz = value-above phi.z in
    let rx = value-above rho.x in
    let ry = value-above rho.y in
    let rz = value-above rho.z in
    let x = mul-pos (mul-pos py rz) (mul-pos pz ry) in
    let y = mul-pos (mul-pos pz rx) (mul-pos px rz) in
    let z = mul-pos (mul-pos px ry) (mul-pos py rx) in (
      mul-pos (mul-pos (mul-pos rx d0) (mul-pos x d1)) (mul-pos (mul-pos (mul-pos py z) (mul-pos pz y)) d2),
      (
        mul-pos (mul-pos (mul-pos ry d0) (mul-pos y d1)) (mul-pos (mul-pos (mul-pos pz x) (mul-pos px z)) d2),
        mul-pos (mul-pos (mul-pos rz d0) (mul-pos z d1)) (mul-pos (mul-pos (mul-pos px y) (mul-pos py x)) d2),
      ),
    )

-- from the sums at the computed |φ|² to those at the exact one: k is how far they are apart, c and d halves of how far
-- v₁ and v₂ are then, and v how far the translation is, for ρ of numbers up to 1
module _ (f : Format) (a r0 y r k p c d v m : ℕ) (tau : Sim3Tangent) (t : Vec3) where
  abbrev z-of : Float
  z-of = vec_norm_sq f tau.phi

  abbrev exact-z : Value
  exact-z = exact_norm_sq (exact_vec tau.phi)

  abbrev translation-at : Value → ℕ → Three Value
  translation-at x n = exact_poly (exact_vec tau.phi) (sum0 tau.sigma n) (sum1 tau.sigma x n) (sum2 tau.sigma x n)
      (exact_vec tau.rho)

  moved : (b e : ℕ) → InDomain (2 ^ 100) r0 y tau.sigma z-of → VecIn (2 ^ 100) a tau.phi → VecIn (2 ^ 100) b tau.rho →
      T (error_at_most f (2 ^ 100) (a ∷ a ∷ a ∷ []) tree_norm_sq k) →
      r0 * r0 + k * 2 ^ 100 ≤ r * r → ((m : ℕ) → 2 ^ m * r ^ m ≤ p * ((2 ^ 100) ^ m * factorial m)) → k * p ≤ 24 * c →
      k * p ≤ 120 * d →
      2 * (a * (2 * c)) * 2 ^ 100 * 2 ^ 100 + 4 * (a * a * (2 * d)) * 2 ^ 100 ≤ v * (2 ^ 100 * 2 ^ 100 * 2 ^ 100) →
      (n : ℕ) →
      VecError (2 ^ 100) t (translation-at (value_of z-of) (4 + m + n)) e →
      VecError (2 ^ 100) t (translation-at exact-z (4 + m + n)) (e + upward (2 ^ 100) (v * b))
  unfolding exact_poly
  moved b e h hp hr q room powers i1 i2 fits n g =
      let w = 2 ^ 100 in
      let s = tau.sigma in
      let Z = value_of z-of in
      let N = 4 + m + n in
      let near = norm_accurate f tau.phi w a k (lit< tt) q hp in
      let n1 : Near w (sum1 s Z N) (sum1 s exact-z N) (2 * c) = subst
      (λ (j : ℕ). Near w (sum1 s Z j) (sum1 s exact-z j) (2 * c)) (three-more m n)
      (sum1-near w a r0 y r k p tau.phi s z-of (lit< tt) h hp near room powers c i1 (suc (m + n))) in
      let n2 : Near w (sum2 s Z N) (sum2 s exact-z N) (2 * d) = subst
      (λ (j : ℕ). Near w (sum2 s Z j) (sum2 s exact-z j) (2 * d)) (four-more m n)
      (sum2-near w a r0 y r k p tau.phi s z-of (lit< tt) h hp near room powers d i2 (m + n)) in
      let sd = value-above s in
      let zd = value-above z-of in
      let d0 = horner_above (value_of s) Z sd zd 1 N in
      let d1 = total-above (value_of s) Z sd zd xi_part 1 N in
      let d2 = total-above (value_of s) Z sd zd zeta_part 1 N in
      beside w e (upward w (v * b)) t (translation-at Z N) (translation-at exact-z N)
      (poly-above tau.phi tau.rho (sum0 s N) (sum1 s Z N) (sum2 s Z N) d0 d1 d2) g
      (poly-near w a b (2 * c) (2 * d) tau.phi tau.rho hp hr (sum0 s N) (sum1 s Z N) (sum2 s Z N) (sum1 s exact-z N)
      (sum2 s exact-z N) n1 n2 (upward w (v * b)) (lit< tt)
      (scaled-fits w a b (2 * c) (2 * d) v (upward w (v * b)) (upward_enough w (v * b) (lit< tt)) fits))
    where
      three-more : (m n : ℕ) → 3 + suc (m + n) ≡ 4 + m + n
      three-more m n = omega arith

      four-more : (m n : ℕ) → 4 + (m + n) ≡ 4 + m + n
      four-more m n = omega arith

      scaled-fits : (w a b g h c j : ℕ) → c * b ≤ j * w → 2 * (a * g) * w * w + 4 * (a * a * h) * w ≤ c * (w * w * w) →
          w * (w * ((a * b + a * b) * g) + (a * (a * b + a * b) + a * (a * b + a * b)) * h) ≤ j * (w * (w * w) * w)
      scaled-fits w a b g h c j i k =
          let x = mul-le-mul_right b k in
          let u = mul-le-mul_right (w * w * w) i in
          simp expand (omega (arith, simp expand at x, simp expand at u))

-- In units of 2 ^ -100. φ of numbers up to 3 / 2, ρ of numbers up to b, Δ = σ² + z below the limit of the series and z
-- below b's, where z is the computed |φ|²: v₀ ρ + v₁ φ×ρ + v₂ φ×(φ×ρ), with the exact sums of 23 terms or more at σ and
-- the computed |φ|²
exp_computed64 : (b e : ℕ) → T (exp_holds binary64 b e) → (tau : Sim3Tangent) (v : Values) →
    TranslationAt binary64 (value_of (vec_norm_sq binary64 tau.phi)) b e tau (pose_exp binary64 tau v).t
exp_computed64 b e o tau v t l hp hr n =
    let p = norm_plain binary64 tau.phi in
    let z = vec_norm_sq binary64 tau.phi in
    let s = tau.sigma in
    let c = eight_binary64 s z v t p in
    let m = most64 s z t p n in
    exp_chosen binary64 (2 ^ 100) (3 * 2 ^ 99) b e (9 * 2 ^ 98) (7 * 2 ^ 98) (5 * 2 ^ 97) (2 ^ 51) (2 ^ 53) (2 ^ 52)
    tau v (sum0 s (23 + n))
    (sum1 s (value_of z) (23 + n)) (sum2 s (value_of z) (23 + n)) l (not_scaled binary64 s z v t)
    (exp-unscaled binary64 (2 ^ 100) (3 * 2 ^ 99) b e (9 * 2 ^ 98) (7 * 2 ^ 98) (5 * 2 ^ 97) (2 ^ 51) (2 ^ 53)
    (2 ^ 52) tau v (sum0 s (23 + n))
    (sum1 s (value_of z) (23 + n)) (sum2 s (value_of z) (23 + n)) (lit< tt) hp hr (c.v0 n) (c.v1 n) (c.v2 n) m.0 m.1 m.2
    (horner_above (value_of s) (value_of z) m.3 m.4 1 (23 + n))
    (total-above (value_of s) (value_of z) m.3 m.4 xi_part 1 (23 + n))
    (total-above (value_of s) (value_of z) m.3 m.4 zeta_part 1 (23 + n)) tt tt tt o)

-- and at the exact |φ|²
exp_of64 : (b e : ℕ) → T (exp_holds binary64 b e) → (tau : Sim3Tangent) (v : Values) →
    TranslationIn binary64 b (e + norm_moves binary64 b) tau (pose_exp binary64 tau v).t
unfolding no_overflow bound tree_norm_sq
exp_of64 b e o tau v t l hp hr n =
    let p = norm_plain binary64 tau.phi in
    let z = vec_norm_sq binary64 tau.phi in
    let s = tau.sigma in
    moved binary64 (3 * 2 ^ 99) (386880940757 * 2 ^ 62) (544521253035 * 2 ^ 62) (3 * 2 ^ 99) (19 * 2 ^ 47) 5 (2 ^ 49)
    (2 ^ 47) (2 ^ 53) 19 tau (pose_exp binary64 tau v).t b e
    (domain64 s z t p) hp hr tt (lit≤ tt) (powers-most (2 ^ 100) (3 * 2 ^ 99) 5 (lit≤ tt) (lit≤ tt) (lit≤ tt)
    (lit≤ tt) (lit≤ tt)) (lit≤ tt) (lit≤ tt) (lit≤ tt) n
    (exp_computed64 b e o tau v t l hp hr n)

-- ---- the same at binary32, with sums of 15 terms or more
domain32 : (sigma z : Float) → T (lt (coeffs_delta binary32 sigma z) (series_below binary32)) → T (not (lt z f0)) →
    InDomain (2 ^ 100) (211645900449 * 2 ^ 63) (651838265285 * 2 ^ 62) sigma z
unfolding of_bits
domain32 sigma z t p =
    domain binary32 (2 ^ 100) (4973131 * 2 ^ 79) (211645900449 * 2 ^ 63) (651838265285 * 2 ^ 62) sigma z 4973131
    (negsuc 20) (lit< tt) t p (lit≤ tt) (lit≤ tt) (lit≤ tt)

most32 : (sigma z : Float) → T (lt (coeffs_delta binary32 sigma z) (series_below binary32)) → T (not (lt z f0)) →
    (n : ℕ)
    → AtMost (2 ^ 100) (sum0 sigma (15 + n)) (5 * 2 ^ 99) × AtMost (2 ^ 100) (sum1 sigma (value_of z) (15 + n))
    (2 ^ 101) × AtMost (2 ^ 100)
    (sum2 sigma (value_of z) (15 + n)) (3 * 2 ^ 98) × (0 < (value_of sigma).d) × (0 < (value_of z).d)
unfolding of_bits horner_no_overflow total_no_overflow term_no_overflow bound_horner bound_total bound_term factorial
most32 sigma z t p n =
    let w = 2 ^ 100 in
    let r = 211645900449 * 2 ^ 63 in
    let y = 651838265285 * 2 ^ 62 in
    let h : InDomain w r y sigma z = domain32 sigma z t p in (
      from (λ (i : ℕ). AtMost w (sum0 sigma i) (5 * 2 ^ 99)) 11 4 15 refl
          (v0-most binary32 w r y 11 sigma z (lit< tt) (lit≤ tt) h (33 * 2 ^ 73) (5 * 2 ^ 99) tt (lit≤ tt) (lit≤ tt)) n,
      from (λ (i : ℕ). AtMost w (sum1 sigma (value_of z) i) (2 ^ 101)) 12 3 15 refl
          (v1-most binary32 w r y 11 sigma z (lit< tt) (lit≤ tt) h (15 * 2 ^ 74) (2 ^ 101) tt (lit≤ tt) (lit≤ tt)) n,
      from (λ (i : ℕ). AtMost w (sum2 sigma (value_of z) i) (3 * 2 ^ 98)) 13 2 15 refl
          (v2-most binary32 w r y 11 sigma z (lit< tt) (lit≤ tt) h (7 * 2 ^ 74) (3 * 2 ^ 98) tt (lit≤ tt) (lit≤ tt)) n,
      value_pos w sigma r h.sigma,
      value_pos w z y h.z,
    )

-- φ of numbers up to 13 / 8
exp_computed32 : (b e : ℕ) → T (exp_holds binary32 b e) → (tau : Sim3Tangent) (v : Values) →
    TranslationAt binary32 (value_of (vec_norm_sq binary32 tau.phi)) b e tau (pose_exp binary32 tau v).t
exp_computed32 b e o tau v t l hp hr n =
    let p = norm_plain binary32 tau.phi in
    let z = vec_norm_sq binary32 tau.phi in
    let s = tau.sigma in
    let c = eight_binary32 s z v t p in
    let m = most32 s z t p n in
    exp_chosen binary32 (2 ^ 100) (13 * 2 ^ 97) b e (5 * 2 ^ 99) (2 ^ 101) (3 * 2 ^ 98) (2 ^ 81) (2 ^ 82) (2 ^ 80)
    tau v (sum0 s (15 + n))
    (sum1 s (value_of z) (15 + n)) (sum2 s (value_of z) (15 + n)) l (not_scaled binary32 s z v t)
    (exp-unscaled binary32 (2 ^ 100) (13 * 2 ^ 97) b e (5 * 2 ^ 99) (2 ^ 101) (3 * 2 ^ 98) (2 ^ 81) (2 ^ 82)
    (2 ^ 80) tau v (sum0 s (15 + n))
    (sum1 s (value_of z) (15 + n)) (sum2 s (value_of z) (15 + n)) (lit< tt) hp hr (c.v0 n) (c.v1 n) (c.v2 n) m.0 m.1 m.2
    (horner_above (value_of s) (value_of z) m.3 m.4 1 (15 + n))
    (total-above (value_of s) (value_of z) m.3 m.4 xi_part 1 (15 + n))
    (total-above (value_of s) (value_of z) m.3 m.4 zeta_part 1 (15 + n)) tt tt tt o)

-- and at the exact |φ|²
exp_of32 : (b e : ℕ) → T (exp_holds binary32 b e) → (tau : Sim3Tangent) (v : Values) →
    TranslationIn binary32 b (e + norm_moves binary32 b) tau (pose_exp binary32 tau v).t
unfolding no_overflow bound tree_norm_sq
exp_of32 b e o tau v t l hp hr n =
    let p = norm_plain binary32 tau.phi in
    let z = vec_norm_sq binary32 tau.phi in
    let s = tau.sigma in
    moved binary32 (13 * 2 ^ 97) (211645900449 * 2 ^ 63) (651838265285 * 2 ^ 62) (25 * 2 ^ 96) (22 * 2 ^ 76) 6
    (6 * 2 ^ 76) (9 * 2 ^ 73) (2 ^ 82) 11 tau (pose_exp binary32 tau v).t b e
    (domain32 s z t p) hp hr tt (lit≤ tt) (powers-most (2 ^ 100) (25 * 2 ^ 96) 6 (lit≤ tt) (lit≤ tt) (lit≤ tt)
    (lit≤ tt) (lit≤ tt)) (lit≤ tt) (lit≤ tt) (lit≤ tt) n
    (exp_computed32 b e o tau v t l hp hr n)

-- ---- the rotation, at the exact |φ|²: from z, which is below both limits
turned : (f : Format) (k0 k y ec gc ek gk j : ℕ) →
    ((phi : Vec3) (root sh ch : Float) →
    RotationAt f (value_of (vec_norm_sq f phi)) (cos_error f) phi (so3_exp f phi root sh ch)) →
    T (error_at_most f (2 ^ 100) (5 * 2 ^ 99 ∷ 5 * 2 ^ 99 ∷ 5 * 2 ^ 99 ∷ []) tree_norm_sq k0) →
    T (in_range f (2 ^ 100) (y + k0 + 3 + k)) →
    3 * rounding_error f (2 ^ 100) (y + k0 + 3 + k) + 2 * rounding_error f (2 ^ 100) 0 ≤ k → y + k0 ≤ 24 * 2 ^ 100 →
    ((z : Float) → T (lt z (row_limit f cos_half_row)) → T (not (lt z f0)) → Bounded (2 ^ 100) z y) →
    2 ^ 100 * ((y + k0) * (k * 4)) ≤ ec * (2 ^ 100 * (2 ^ 100 * (row_rule cos_half_row 2).den)) →
    2 ^ 100 * (2 * k) ≤ gc * ((row_rule cos_half_row 1).den * 2 ^ 100) →
    2 ^ 100 * ((y + k0) * (k * 4)) ≤ ek * (2 ^ 100 * (2 ^ 100 * (row_rule k_row 2).den)) → 2 ^ 100 * (2 * k) ≤ gk *
    ((row_rule k_row 1).den * 2 ^ 100) →
    ec + gc ≤ j → (ek + gk) * (5 * 2 ^ 99) ≤ j * 2 ^ 100 → cos_error f + j ≤ turn_error f → (m : ℕ) →
    row_terms f ≡ suc m →
    (phi : Vec3) (root sh ch : Float) → RotationAccurate f phi (so3_exp f phi root sh ch)
turned f k0 k y ec gc ek gk j at tk range all yk below c1 c2 k1 k2 lc lk le m e phi root sh ch tc tr hp n =
    let w = 2 ^ 100 in
    let z = vec_norm_sq f phi in
    let q = so3_exp f phi root sh ch in
    let V = exact_norm_sq (exact_vec phi) in
    let crude = norm_accurate f phi w (5 * 2 ^ 99) k0 (lit< tt) tk hp in
    let zy = (leaf_forward w z y (below z tc (norm_plain f phi))).size in
    let vy = most-near w V (value_of z) y k0 (value-above z) (near_turn w (value_of z) V k0 (error-near w z V k0 crude))
    zy in
    let near = norm-of f w (5 * 2 ^ 99) (y + k0) k (lit< tt) range all phi hp vy in
    let old : QuatError w q (exact_rotation (value_of z) (exact_vec phi) (suc (suc (m + n)))) (cos_error f) =
    subst (λ (i : ℕ). QuatError w q (exact_rotation (value_of z) (exact_vec phi) (suc i)) (cos_error f))
    (length-of m n (row_terms f) e) (at phi root sh ch tc tr hp n) in
    let new = rotation-beside w (5 * 2 ^ 99) k (y + k0) ec gc ek gk j (cos_error f) phi z q (lit< tt) yk hp
    (most_wider w (value_of z) y (y + k0) (more y k0) zy) vy near c1 c2 k1 k2 lc lk (m + n) old in
    let E = exact_rotation V (exact_vec phi) (suc (suc (m + n))) in
    subst (λ (i : ℕ). QuatError w q (exact_rotation V (exact_vec phi) (suc i)) (turn_error f))
    (sym (length-of m n (row_terms f) e))
    (record {
      w = error_wider w q.w E.w (cos_error f + j) (turn_error f) le new.w;
      x = error_wider w q.x E.x (cos_error f + j) (turn_error f) le new.x;
      y = error_wider w q.y E.y (cos_error f + j) (turn_error f) le new.y;
      z = error_wider w q.z E.z (cos_error f + j) (turn_error f) le new.z;
    })
  where
    length-of : (m n t : ℕ) → t ≡ suc m → t + n ≡ suc (m + n)
    length-of m n t e = omega arith

    more : (y k : ℕ) → y ≤ y + k
    more y k = omega arith

turned64 : (phi : Vec3) (root sh ch : Float) → RotationAccurate binary64 phi (so3_exp binary64 phi root sh ch)
unfolding no_overflow bound tree_norm_sq row_rule factorial of_bits
turned64 =
    turned binary64 (51 * 2 ^ 47) (63 * 2 ^ 45) (5891824244707225 * 2 ^ 50) (7 * 2 ^ 44) (63 * 2 ^ 43) (2 ^ 44)
    (21 * 2 ^ 42)
    (77 * 2 ^ 43) rotation_binary64 tt tt (lit≤ tt) (lit≤ tt)
    (λ z t p. bounded_below (2 ^ 100) (5891824244707225 * 2 ^ 50) z 5891824244707225 (negsuc 49) t p (lit≤ tt))
    (lit≤ tt) (lit≤ tt) (lit≤ tt) (lit≤ tt) (lit≤ tt) (lit≤ tt) (lit≤ tt) 9 refl

turned32 : (phi : Vec3) (root sh ch : Float) → RotationAccurate binary32 phi (so3_exp binary32 phi root sh ch)
unfolding no_overflow bound tree_norm_sq row_rule factorial of_bits
turned32 =
    turned binary32 (51 * 2 ^ 76) (63 * 2 ^ 74) (2375855 * 2 ^ 81) (7 * 2 ^ 73) (63 * 2 ^ 72) (2 ^ 73) (21 * 2 ^ 71)
    (77 * 2 ^ 72)
    rotation_binary32 tt tt (lit≤ tt) (lit≤ tt)
    (λ z t p. bounded_below (2 ^ 100) (2375855 * 2 ^ 81) z 2375855 (negsuc 18) t p (lit≤ tt))
    (lit≤ tt) (lit≤ tt) (lit≤ tt) (lit≤ tt) (lit≤ tt) (lit≤ tt) (lit≤ tt) 5 refl

exp-rotation : (f : Format) → ((phi : Vec3) (root sh ch : Float) → RotationAccurate f phi (so3_exp f phi root sh ch)) →
    (tau : Sim3Tangent)
    (v : Values) → RotationAccurate f tau.phi (pose_exp f tau v).q
unfolding pose_exp
exp-rotation f h tau v = h tau.phi v.root v.sin_half v.cos_half

computed-rotation : (f : Format) → ((phi : Vec3) (root sh ch : Float) →
    RotationAt f (value_of (vec_norm_sq f phi)) (cos_error f) phi (so3_exp f phi root sh ch)) → (tau : Sim3Tangent)
    (v : Values) → RotationAt f (value_of (vec_norm_sq f tau.phi)) (cos_error f) tau.phi (pose_exp f tau v).q
unfolding pose_exp
computed-rotation f h tau v = h tau.phi v.root v.sin_half v.cos_half

-- what specs/Exponential.antt states
pub exponential : (f : Format) → ExponentialTheorem f
exponential binary32 =
    record {
      exponential = λ tau v. record {
        translation = λ b e o. exp_of32 b e o tau v;
        rotation = exp-rotation binary32
            turned32 tau v;
        translation_at_computed = λ b e o. exp_computed32 b e o tau v;
        rotation_at_computed = computed-rotation binary32 rotation_binary32 tau v;
      };
      page = λ tau v t l hp hr n. vec_wider (2 ^ 100) _ (page_error binary32) _ _ (lit≤ tt)
          (exp_of32 (2 ^ 116) (7 * 2 ^ 99) (unfold poly_holds in tt) tau v t l hp hr n);
      unit = λ tau v t l hp hr n. vec_wider (2 ^ 100) _ (unit_error binary32) _ _ (lit≤ tt)
          (exp_of32 (2 ^ 100) (7 * 2 ^ 83) (unfold poly_holds in tt) tau v t l hp hr n);
      circle = circle_binary32;
    }
exponential binary64 =
    record {
      exponential = λ tau v. record {
        translation = λ b e o. exp_of64 b e o tau v;
        rotation = exp-rotation binary64
            turned64 tau v;
        translation_at_computed = λ b e o. exp_computed64 b e o tau v;
        rotation_at_computed = computed-rotation binary64 rotation_binary64 tau v;
      };
      page = λ tau v t l hp hr n. vec_wider (2 ^ 100) _ (page_error binary64) _ _ (lit≤ tt)
          (exp_of64 (2 ^ 116) (7 * 2 ^ 70) (unfold poly_holds in tt) tau v t l hp hr n);
      unit = λ tau v t l hp hr n. vec_wider (2 ^ 100) _ (unit_error binary64) _ _ (lit≤ tt)
          (exp_of64 (2 ^ 100) (7 * 2 ^ 54) (unfold poly_holds in tt) tau v t l hp hr n);
      circle = circle_binary64;
    }
