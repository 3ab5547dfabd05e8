-- The coefficients below the limit of the series, by whichever arm: rounding and truncation. Assumes nothing.
use mathlib.Core.Path.{◌≡◌, refl, sym, ap, ◌∙◌, subst}
use Prim.Native.Nat.{ℕ, suc, ◌+◌, ◌^◌, ◌≤◌}
use native.Mathlib.Nat.{add_assoc, le_refl}
use native.Mathlib.Omega.{arith}
use mathlib.Core.Bool.{Bool, true, false, not, cond}
use lib.Dec.{T, ltb, lit≤}
use lib.Ieee.{Float, Format, binary32, binary64, lt}
use Rattle.ieee.specs.Numbers.{f0}
use Rattle.series.specs.Series.{coeffs_delta, series_full}
use Rattle.series.specs.Floats.{Sim3Coeffs}
use Rattle.circle.specs.Kernel.{circle_sinc_abd}
use Rattle.arms.specs.Limits.{short_below, mid_below, upper_below, series_below}
use Rattle.arms.specs.Arm.{coeffs_arm, arm_terms, arm_ends}
use Rattle.arms.specs.Floats.{Values}
use Rattle.coeffs.specs.Group.{coeffs_scaled, closed_scaled}
use Rattle.rounding.specs.Value.{Value, value_of, AbsoluteError}
use Rattle.accuracy.proofs.Chi.{chi-short_binary64, chi-mid_binary64, chi-upper_binary64, chi-series_binary64}
use Rattle.accuracy.proofs.Chi.{chi-short_binary32, chi-mid_binary32, chi-upper_binary32, chi-series_binary32}
use Rattle.accuracy.specs.Series.{exact_chi, ChiAccurate, CoefficientsTheorem, short_errors, mid_errors, upper_errors}
use Rattle.accuracy.specs.Series.{series_errors, chi_errors, xi_part, zeta_part, dxi_part, dzeta_part, exact_term}
use Rattle.accuracy.specs.Series.{exact_total, exact_horner, Eight, Accurate, AccurateFrom}
use Rattle.rounding.proofs.Forward.{error_wider}
use Rattle.accuracy.proofs.Arms.{short_binary64, mid_binary64, upper_binary64, series_binary64, short_binary32}
use Rattle.accuracy.proofs.Arms.{mid_binary32, upper_binary32, series_binary32}

-- ---- longer sums, wider bounds
abbrev pub AllLe : Eight ℕ → Eight ℕ → Type 0
AllLe a b =
    (a.v0 ≤ b.v0) × (a.v1 ≤ b.v1) × (a.v2 ≤ b.v2) × (a.w0 ≤ b.w0) × (a.w1 ≤ b.w1) × (a.w2 ≤ b.w2) × (a.dv1 ≤ b.dv1)
    × (a.dv2 ≤ b.dv2)

moved : (w : ℕ) (x : Float) (t : ℕ → Value) (j i m e g : ℕ) → j + i ≡ m → e ≤ g →
    ((n : ℕ) → AbsoluteError w x (t (j + n)) e) → (n : ℕ) → AbsoluteError w x (t (m + n)) g
moved w x t j i m e g p l h n =
    subst (λ (k : ℕ). AbsoluteError w x (t k) g) (sym (add_assoc j i n) ∙ ap (λ (k : ℕ). k + n) p)
    (error_wider w x (t (j + (i + n))) e g l (h (i + n)))

from-arm : (w : ℕ) (c : Sim3Coeffs) (s t : Value) (k i m : ℕ) (e g : Eight ℕ) → suc (suc (suc (suc k))) + i ≡ m →
    AllLe e g → Accurate w c s t k e → AccurateFrom w c s t m g
from-arm w c s t k i m e g p l h =
    record {
      v0 = moved w c.v0 (exact_horner s 1) k (suc (suc (suc (suc i)))) m e.v0 g.v0 (omega arith) l.0 h.v0;
      v1 =
          moved w c.v1 (exact_total (exact_term s t xi_part 1)) (suc k) (suc (suc (suc i))) m e.v1 g.v1
          (omega arith) l.1 h.v1;
      v2 =
          moved w c.v2 (exact_total (exact_term s t zeta_part 1)) (suc (suc k)) (suc (suc i)) m e.v2 g.v2
          (omega arith) l.2 h.v2;
      w0 = moved w c.w0 (exact_horner s 2) k (suc (suc (suc (suc i)))) m e.w0 g.w0 (omega arith) l.3 h.w0;
      w1 =
          moved w c.w1 (exact_total (exact_term s t xi_part 2)) (suc k) (suc (suc (suc i))) m e.w1 g.w1
          (omega arith) l.4 h.w1;
      w2 =
          moved w c.w2 (exact_total (exact_term s t zeta_part 2)) (suc (suc k)) (suc (suc i)) m e.w2 g.w2
          (omega arith) l.5 h.w2;
      dv1 =
          moved w c.dv1 (exact_total (exact_term s t dxi_part 1)) (suc (suc (suc k))) (suc i) m e.dv1 g.dv1
          (omega arith) l.6 h.dv1;
      dv2 =
          moved w c.dv2 (exact_total (exact_term s t dzeta_part 1))
          (suc (suc (suc (suc k)))) i m e.dv2 g.dv2 p l.7 h.dv2;
    }

chi-from : (w : ℕ) (x : Float) (s t : Value) (k l i j m e g : ℕ) → k + i ≡ m → l + j ≡ m → e ≤ g →
    ChiAccurate w x s t k l e → ChiAccurate w x s t m m g
chi-from w x s t k l i j m e g p q b h =
    record {
      chi = λ a c.
          moved w x (λ y. exact_chi s t (exact_horner s 1 y) (exact_total (exact_term s t zeta_part 1) (m + c))) k i m g
          g p (le_refl g)
          (λ o. moved w x (λ y. exact_chi s t (exact_horner s 1 (k + o)) (exact_total (exact_term s t zeta_part 1) y)) l
          j m e g q b (λ u. h.chi o u) c) a;
    }

-- ---- by the arm
abbrev pub coeffs_at : Format → Float → Float → Values → ℕ → Sim3Coeffs
coeffs_at f sigma z v arm =
    (cond (ltb arm 5)
    (record { c = series_full f sigma z (arm_terms f arm); scaled = false })
    (closed_scaled f sigma z (circle_sinc_abd f z v.root v.sin_half v.cos_half v.sin) v.e v.m (arm_ends f sigma arm))).c

pub by_arm : (P : ℕ → Type 0) (a b c d : Bool) → (T a → P 1) → (T b → P 2) → (T c → P 3) → (T d → P 4) → T d →
    P (cond a 1 (cond b 2 (cond c 3 (cond d 4 5))))
by_arm P true b c d h1 h2 h3 h4 t = h1 tt
by_arm P false true c d h1 h2 h3 h4 t = h2 tt
by_arm P false false true d h1 h2 h3 h4 t = h3 tt
by_arm P false false false true h1 h2 h3 h4 t = h4 tt
by_arm P false false false false h1 h2 h3 h4 t = absurd t

-- ---- all nine, by whichever arm
pub eight_binary64 : (sigma z : Float) (v : Values) → T (lt (coeffs_delta binary64 sigma z) (series_below binary64)) →
    T (not (lt z f0))
    → AccurateFrom (2 ^ 100) (coeffs_scaled binary64 sigma z v).c (value_of sigma) (value_of z) 23
    (series_errors binary64)
unfolding coeffs_scaled coeffs_arm
eight_binary64 sigma z v t p =
    let d = coeffs_delta binary64 sigma z in
    by_arm (λ (arm : ℕ). AccurateFrom (2 ^ 100) (coeffs_at binary64 sigma z v arm) (value_of sigma) (value_of z) 23
    (series_errors binary64))
    (lt d (short_below binary64)) (lt d (mid_below binary64)) (lt d (upper_below binary64))
    (lt d (series_below binary64))
    (λ h. from-arm (2 ^ 100) (series_full binary64 sigma z 6) (value_of sigma) (value_of z) 6 13 23
    (short_errors binary64) (series_errors binary64) refl
    (lit≤ tt, lit≤ tt, lit≤ tt, lit≤ tt, lit≤ tt, lit≤ tt, lit≤ tt, lit≤ tt) (short_binary64 sigma z h p))
    (λ h. from-arm (2 ^ 100) (series_full binary64 sigma z 11) (value_of sigma) (value_of z) 11 8 23
    (mid_errors binary64) (series_errors binary64) refl
    (lit≤ tt, lit≤ tt, lit≤ tt, lit≤ tt, lit≤ tt, lit≤ tt, lit≤ tt, lit≤ tt) (mid_binary64 sigma z h p))
    (λ h. from-arm (2 ^ 100) (series_full binary64 sigma z 14) (value_of sigma) (value_of z) 14 5 23
    (upper_errors binary64) (series_errors binary64) refl
    (lit≤ tt, lit≤ tt, lit≤ tt, lit≤ tt, lit≤ tt, lit≤ tt, lit≤ tt, lit≤ tt) (upper_binary64 sigma z h p))
    (λ h. from-arm (2 ^ 100) (series_full binary64 sigma z 19) (value_of sigma) (value_of z) 19 0 23
    (series_errors binary64) (series_errors binary64) refl
    (lit≤ tt, lit≤ tt, lit≤ tt, lit≤ tt, lit≤ tt, lit≤ tt, lit≤ tt, lit≤ tt) (series_binary64 sigma z h p))
    t

pub chi_binary64 : (sigma z : Float) (v : Values) → T (lt (coeffs_delta binary64 sigma z) (series_below binary64)) →
    T (not (lt z f0))
    → ChiAccurate (2 ^ 100) (coeffs_scaled binary64 sigma z v).c.chi_delta (value_of sigma) (value_of z) 23 23
    (chi_errors binary64 4)
unfolding coeffs_scaled coeffs_arm
chi_binary64 sigma z v t p =
    let d = coeffs_delta binary64 sigma z in
    by_arm (λ (arm : ℕ). ChiAccurate (2 ^ 100) (coeffs_at binary64 sigma z v arm).chi_delta (value_of sigma)
    (value_of z) 23 23 (chi_errors binary64 4))
    (lt d (short_below binary64)) (lt d (mid_below binary64)) (lt d (upper_below binary64))
    (lt d (series_below binary64))
    (λ h. chi-from (2 ^ 100) (series_full binary64 sigma z 6).chi_delta (value_of sigma) (value_of z) 6 8 17 15 23
    (chi_errors binary64 1)
    (chi_errors binary64 4) refl refl (lit≤ tt) (chi-short_binary64 sigma z h p))
    (λ h. chi-from (2 ^ 100) (series_full binary64 sigma z 11).chi_delta (value_of sigma) (value_of z) 11 13 12 10 23
    (chi_errors binary64 2)
    (chi_errors binary64 4) refl refl (lit≤ tt) (chi-mid_binary64 sigma z h p))
    (λ h. chi-from (2 ^ 100) (series_full binary64 sigma z 14).chi_delta (value_of sigma) (value_of z) 14 16 9 7 23
    (chi_errors binary64 3)
    (chi_errors binary64 4) refl refl (lit≤ tt) (chi-upper_binary64 sigma z h p))
    (λ h. chi-from (2 ^ 100) (series_full binary64 sigma z 19).chi_delta (value_of sigma) (value_of z) 19 21 4 2 23
    (chi_errors binary64 4)
    (chi_errors binary64 4) refl refl (lit≤ tt) (chi-series_binary64 sigma z h p))
    t

pub eight_binary32 : (sigma z : Float) (v : Values) → T (lt (coeffs_delta binary32 sigma z) (series_below binary32)) →
    T (not (lt z f0))
    → AccurateFrom (2 ^ 100) (coeffs_scaled binary32 sigma z v).c (value_of sigma) (value_of z) 15
    (series_errors binary32)
unfolding coeffs_scaled coeffs_arm
eight_binary32 sigma z v t p =
    let d = coeffs_delta binary32 sigma z in
    by_arm (λ (arm : ℕ). AccurateFrom (2 ^ 100) (coeffs_at binary32 sigma z v arm) (value_of sigma) (value_of z) 15
    (series_errors binary32))
    (lt d (short_below binary32)) (lt d (mid_below binary32)) (lt d (upper_below binary32))
    (lt d (series_below binary32))
    (λ h. from-arm (2 ^ 100) (series_full binary32 sigma z 4) (value_of sigma) (value_of z) 4 7 15
    (short_errors binary32) (series_errors binary32) refl
    (lit≤ tt, lit≤ tt, lit≤ tt, lit≤ tt, lit≤ tt, lit≤ tt, lit≤ tt, lit≤ tt) (short_binary32 sigma z h p))
    (λ h. from-arm (2 ^ 100) (series_full binary32 sigma z 7) (value_of sigma) (value_of z) 7 4 15 (mid_errors binary32)
    (series_errors binary32) refl
    (lit≤ tt, lit≤ tt, lit≤ tt, lit≤ tt, lit≤ tt, lit≤ tt, lit≤ tt, lit≤ tt) (mid_binary32 sigma z h p))
    (λ h. from-arm (2 ^ 100) (series_full binary32 sigma z 9) (value_of sigma) (value_of z) 9 2 15
    (upper_errors binary32) (series_errors binary32) refl
    (lit≤ tt, lit≤ tt, lit≤ tt, lit≤ tt, lit≤ tt, lit≤ tt, lit≤ tt, lit≤ tt) (upper_binary32 sigma z h p))
    (λ h. from-arm (2 ^ 100) (series_full binary32 sigma z 11) (value_of sigma) (value_of z) 11 0 15
    (series_errors binary32) (series_errors binary32) refl
    (lit≤ tt, lit≤ tt, lit≤ tt, lit≤ tt, lit≤ tt, lit≤ tt, lit≤ tt, lit≤ tt) (series_binary32 sigma z h p))
    t

pub chi_binary32 : (sigma z : Float) (v : Values) → T (lt (coeffs_delta binary32 sigma z) (series_below binary32)) →
    T (not (lt z f0))
    → ChiAccurate (2 ^ 100) (coeffs_scaled binary32 sigma z v).c.chi_delta (value_of sigma) (value_of z) 15 15
    (chi_errors binary32 4)
unfolding coeffs_scaled coeffs_arm
chi_binary32 sigma z v t p =
    let d = coeffs_delta binary32 sigma z in
    by_arm (λ (arm : ℕ). ChiAccurate (2 ^ 100) (coeffs_at binary32 sigma z v arm).chi_delta (value_of sigma)
    (value_of z) 15 15 (chi_errors binary32 4))
    (lt d (short_below binary32)) (lt d (mid_below binary32)) (lt d (upper_below binary32))
    (lt d (series_below binary32))
    (λ h. chi-from (2 ^ 100) (series_full binary32 sigma z 4).chi_delta (value_of sigma) (value_of z) 4 6 11 9 15
    (chi_errors binary32 1)
    (chi_errors binary32 4) refl refl (lit≤ tt) (chi-short_binary32 sigma z h p))
    (λ h. chi-from (2 ^ 100) (series_full binary32 sigma z 7).chi_delta (value_of sigma) (value_of z) 7 9 8 6 15
    (chi_errors binary32 2)
    (chi_errors binary32 4) refl refl (lit≤ tt) (chi-mid_binary32 sigma z h p))
    (λ h. chi-from (2 ^ 100) (series_full binary32 sigma z 9).chi_delta (value_of sigma) (value_of z) 9 11 6 4 15
    (chi_errors binary32 3)
    (chi_errors binary32 4) refl refl (lit≤ tt) (chi-upper_binary32 sigma z h p))
    (λ h. chi-from (2 ^ 100) (series_full binary32 sigma z 11).chi_delta (value_of sigma) (value_of z) 11 13 4 2 15
    (chi_errors binary32 4)
    (chi_errors binary32 4) refl refl (lit≤ tt) (chi-series_binary32 sigma z h p))
    t

-- what specs/Series.antt states
pub coefficients : (f : Format) → CoefficientsTheorem f
coefficients binary32 =
    record {
      short = λ sigma z t p. (short_binary32 sigma z t p, chi-short_binary32 sigma z t p);
      mid = λ sigma z t p. (mid_binary32 sigma z t p, chi-mid_binary32 sigma z t p);
      upper = λ sigma z t p. (upper_binary32 sigma z t p, chi-upper_binary32 sigma z t p);
      series = λ sigma z t p. (series_binary32 sigma z t p, chi-series_binary32 sigma z t p);
      scaled = λ sigma z v. record { eight = eight_binary32 sigma z v; chi = chi_binary32 sigma z v };
    }
coefficients binary64 =
    record {
      short = λ sigma z t p. (short_binary64 sigma z t p, chi-short_binary64 sigma z t p);
      mid = λ sigma z t p. (mid_binary64 sigma z t p, chi-mid_binary64 sigma z t p);
      upper = λ sigma z t p. (upper_binary64 sigma z t p, chi-upper_binary64 sigma z t p);
      series = λ sigma z t p. (series_binary64 sigma z t p, chi-series_binary64 sigma z t p);
      scaled = λ sigma z v. record { eight = eight_binary64 sigma z v; chi = chi_binary64 sigma z v };
    }
