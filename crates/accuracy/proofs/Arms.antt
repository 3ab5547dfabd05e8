-- The arms of the series: rounding and truncation together. Assumes nothing.
use mathlib.Core.Path.{◌≡◌}
use Prim.Native.Nat.{ℕ, suc, ◌+◌, ◌*◌, ◌^◌, ◌≤◌, ◌<◌}
use native.Mathlib.Numerals.{add-one, add-two, add-three, add-four}
use native.Mathlib.Omega.{arith}
use mathlib.Core.Bool.{true, false, not}
use lib.IntN.{ℤ, negsuc}
use lib.Dec.{T, lit≤, lit<}
use lib.Ieee.{Float, nan, inf, fin, Format, binary32, binary64, up, down, mul, lt, of_bits}
use lib.Ieee.Fits.{down_pos}
use Rattle.ieee.specs.Numbers.{f0}
use Rattle.ieee.specs.Table.{factorial}
use Rattle.series.specs.Series.{series_sum, series_level, g_series, coeffs_delta, series_full, series_coeffs}
use Rattle.series.specs.Series.{series_sums, level_terms}
use Rattle.tables.specs.Tables.{recip_fact}
use Rattle.arms.specs.Limits.{short_below, mid_below, upper_below, series_below}
use Rattle.rounding.specs.Value.{Value, value_of, AbsoluteError, Near}
use Rattle.rounding.specs.Leaves.{Bounded, errorless}
use Rattle.accuracy.specs.Domain.{before, delta_most, InDomain}
use Rattle.accuracy.specs.Series.{short_errors, mid_errors, upper_errors, series_errors, of_level, xi_part, zeta_part}
use Rattle.accuracy.specs.Series.{dxi_part, dzeta_part, part, exact_term, exact_total, exact_horner, total_holds}
use Rattle.accuracy.specs.Series.{horner_holds, Eight, Accurate}
use Rattle.rounding.proofs.Forward.{error_trans, error_wider}
use Rattle.accuracy.proofs.Series.{total-close, horner_close}
use Rattle.accuracy.proofs.Truncation.{Rest, tail-v1, tail-v2, tail-w1, tail-w2, tail_horner}
use Rattle.accuracy.proofs.SlopeTail.{tail-dv1, tail-dv2}
use Rattle.accuracy.proofs.Domain.{domain}

-- ---- a float's value is signed
pub value_pos : (w : ℕ) (x : Float) (b : ℕ) → Bounded w x b → 0 < (value_of x).d
unfolding value_of
value_pos w nan b h = absurd h
value_pos w (inf s) b h = absurd h
value_pos w (fin s m e) b h = down_pos e

pub value-signed : (w : ℕ) (x : Float) (b : ℕ) → Bounded w x b → (value_of x).p * (value_of x).n ≡ 0
unfolding value_of
value-signed w nan b h = absurd h
value-signed w (inf s) b h = absurd h
value-signed w (fin true m e) b h = omega arith
value-signed w (fin false m e) b h = omega arith

pub near_turn : (w : ℕ) (x y : Value) (e : ℕ) → Near w x y e → Near w y x e
near_turn w x y e h = record { above = h.below; below = h.above }

-- ---- the rounding error e and what is left, 2 c, make at most g
joined : (w : ℕ) (x : Float) (y z : Value) (e c g : ℕ) → AbsoluteError w x y e × (0 < y.d) → Near w z y (2 * c) →
    e + 2 * c ≤ g → AbsoluteError w x z g
joined w x y z e c g h k l =
    error_wider w x z (e + 2 * c) g l (error_trans w x y z e (2 * c) h.1 h.0 (near_turn w z y (2 * c) k))

module _ (f : Format) (w r y k : ℕ) (sigma z : Float) (wp : 0 < w) (half : 2 * r ≤ k * w)
    (h : InDomain w r y sigma z) where
  horner_accurate : (l e c g : ℕ) → T (horner_holds f w (errorless r) l k e) →
      w * r ^ k ≤ c * (w ^ k * factorial (k + l)) → e + 2 * c ≤ g → (n : ℕ)
      → AbsoluteError w (g_series f sigma l k) (exact_horner (value_of sigma) l (k + n)) g
  horner_accurate l e c g t b m n =
      joined w (g_series f sigma l k) (exact_horner (value_of sigma) l k)
      (exact_horner (value_of sigma) l (k + n)) e c g (horner_close f w r y sigma z wp h.sigma h.z l k e t)
      (tail_horner w r (value_of sigma) (value_of z) wp (value_pos w sigma r h.sigma) (value_pos w z y h.z)
      (value-signed w sigma r h.sigma) h.nonnegative h.delta l k c half b n) m

  v1_accurate : (e c g : ℕ) → T (total_holds f w (errorless r) (errorless y) xi_part 1 (suc k) e) →
      Rest w r k (suc (suc k)) c → e + 2 * c ≤ g
      → (n : ℕ) → AbsoluteError w
      (series_sum f (λ j. mul f (part xi_part (of_level (series_level f sigma z j))) (recip_fact f (j + 1)))
      (suc k))
      (exact_total (exact_term (value_of sigma) (value_of z) xi_part 1) (suc k + n)) g
  v1_accurate e c g t b m n =
      joined w (series_sum f (λ j. mul f (part xi_part (of_level (series_level f sigma z j))) (recip_fact f (j + 1)))
      (suc k))
      (exact_total (exact_term (value_of sigma) (value_of z) xi_part 1) (suc k))
      (exact_total (exact_term (value_of sigma) (value_of z) xi_part 1) (suc k + n)) e c g
      (total-close f w r y sigma z wp h.sigma h.z xi_part 1 (suc k) e t)
      (tail-v1 w r (value_of sigma) (value_of z) wp (value_pos w sigma r h.sigma) (value_pos w z y h.z)
      (value-signed w sigma r h.sigma) h.nonnegative h.delta k c half b n) m

  w1_accurate : (e c g : ℕ) → T (total_holds f w (errorless r) (errorless y) xi_part 2 (suc k) e) →
      Rest w r k (suc (suc k) * suc (suc (suc k))) c → e + 2 * c ≤ g
      → (n : ℕ) → AbsoluteError w
      (series_sum f (λ j. mul f (part xi_part (of_level (series_level f sigma z j))) (recip_fact f (j + 2)))
      (suc k))
      (exact_total (exact_term (value_of sigma) (value_of z) xi_part 2) (suc k + n)) g
  w1_accurate e c g t b m n =
      joined w (series_sum f (λ j. mul f (part xi_part (of_level (series_level f sigma z j))) (recip_fact f (j + 2)))
      (suc k))
      (exact_total (exact_term (value_of sigma) (value_of z) xi_part 2) (suc k))
      (exact_total (exact_term (value_of sigma) (value_of z) xi_part 2) (suc k + n)) e c g
      (total-close f w r y sigma z wp h.sigma h.z xi_part 2 (suc k) e t)
      (tail-w1 w r (value_of sigma) (value_of z) wp (value_pos w sigma r h.sigma) (value_pos w z y h.z)
      (value-signed w sigma r h.sigma) h.nonnegative h.delta k c half b n) m

  v2_accurate : (e c g : ℕ) → T (total_holds f w (errorless r) (errorless y) zeta_part 1 (suc (suc k)) e) →
      Rest w r k (2 * suc (suc (suc k))) c → e + 2 * c ≤ g
      → (n : ℕ) → AbsoluteError w
      (series_sum f (λ j. mul f (part zeta_part (of_level (series_level f sigma z j))) (recip_fact f (j + 1)))
      (suc (suc k)))
      (exact_total (exact_term (value_of sigma) (value_of z) zeta_part 1) (suc (suc k) + n)) g
  v2_accurate e c g t b m n =
      joined w (series_sum f (λ j. mul f (part zeta_part (of_level (series_level f sigma z j))) (recip_fact f (j + 1)))
      (suc (suc k)))
      (exact_total (exact_term (value_of sigma) (value_of z) zeta_part 1) (suc (suc k)))
      (exact_total (exact_term (value_of sigma) (value_of z) zeta_part 1) (suc (suc k) + n)) e c g
      (total-close f w r y sigma z wp h.sigma h.z zeta_part 1 (suc (suc k)) e t)
      (tail-v2 w r (value_of sigma) (value_of z) wp (value_pos w sigma r h.sigma) (value_pos w z y h.z)
      (value-signed w sigma r h.sigma) h.nonnegative h.delta k c half b n) m

  w2_accurate : (e c g : ℕ) → T (total_holds f w (errorless r) (errorless y) zeta_part 2 (suc (suc k)) e) →
      Rest w r k (2 * (suc (suc (suc k)) * suc (suc (suc (suc k))))) c → e + 2 * c ≤ g
      → (n : ℕ) → AbsoluteError w
      (series_sum f (λ j. mul f (part zeta_part (of_level (series_level f sigma z j))) (recip_fact f (j + 2)))
      (suc (suc k)))
      (exact_total (exact_term (value_of sigma) (value_of z) zeta_part 2) (suc (suc k) + n)) g
  w2_accurate e c g t b m n =
      joined w (series_sum f (λ j. mul f (part zeta_part (of_level (series_level f sigma z j))) (recip_fact f (j + 2)))
      (suc (suc k)))
      (exact_total (exact_term (value_of sigma) (value_of z) zeta_part 2) (suc (suc k)))
      (exact_total (exact_term (value_of sigma) (value_of z) zeta_part 2) (suc (suc k) + n)) e c g
      (total-close f w r y sigma z wp h.sigma h.z zeta_part 2 (suc (suc k)) e t)
      (tail-w2 w r (value_of sigma) (value_of z) wp (value_pos w sigma r h.sigma) (value_pos w z y h.z)
      (value-signed w sigma r h.sigma) h.nonnegative h.delta k c half b n) m

  dv1_accurate : (e c g : ℕ) → T (total_holds f w (errorless r) (errorless y) dxi_part 1 (suc (suc (suc k))) e) →
      Rest w r k (6 * suc (suc (suc (suc k)))) c → e + 2 * c ≤ g
      → (n : ℕ) → AbsoluteError w
      (series_sum f (λ j. mul f (part dxi_part (of_level (series_level f sigma z j))) (recip_fact f (j + 1)))
      (suc (suc (suc k)))) (exact_total (exact_term (value_of sigma) (value_of z) dxi_part 1) (suc (suc (suc k)) + n)) g
  dv1_accurate e c g t b m n =
      joined w (series_sum f (λ j. mul f (part dxi_part (of_level (series_level f sigma z j))) (recip_fact f (j + 1)))
      (suc (suc (suc k))))
      (exact_total (exact_term (value_of sigma) (value_of z) dxi_part 1) (suc (suc (suc k))))
      (exact_total (exact_term (value_of sigma) (value_of z) dxi_part 1) (suc (suc (suc k)) + n)) e c g
      (total-close f w r y sigma z wp h.sigma h.z dxi_part 1 (suc (suc (suc k))) e t)
      (tail-dv1 w r (value_of sigma) (value_of z) wp (value_pos w sigma r h.sigma) (value_pos w z y h.z)
      (value-signed w sigma r h.sigma) h.nonnegative h.delta k c half b n) m

  dv2_accurate : (e c g : ℕ) →
      T (total_holds f w (errorless r) (errorless y) dzeta_part 1 (suc (suc (suc (suc k)))) e) →
      Rest w r k (24 * suc (suc (suc (suc (suc k))))) c → e + 2 * c ≤ g
      → (n : ℕ) → AbsoluteError w
      (series_sum f (λ j. mul f (part dzeta_part (of_level (series_level f sigma z j))) (recip_fact f (j + 1)))
      (suc (suc (suc (suc k))))) (exact_total (exact_term (value_of sigma) (value_of z) dzeta_part 1)
      (suc (suc (suc (suc k))) + n)) g
  dv2_accurate e c g t b m n =
      joined w (series_sum f (λ j. mul f (part dzeta_part (of_level (series_level f sigma z j))) (recip_fact f (j + 1)))
      (suc (suc (suc (suc k)))))
      (exact_total (exact_term (value_of sigma) (value_of z) dzeta_part 1) (suc (suc (suc (suc k)))))
      (exact_total (exact_term (value_of sigma) (value_of z) dzeta_part 1) (suc (suc (suc (suc k))) + n)) e c g
      (total-close f w r y sigma z wp h.sigma h.z dzeta_part 1 (suc (suc (suc (suc k)))) e t)
      (tail-dv2 w r (value_of sigma) (value_of z) wp (value_pos w sigma r h.sigma) (value_pos w z y h.z)
      (value-signed w sigma r h.sigma) h.nonnegative h.delta k c half b n) m

-- ---- all of it as tests: e the rounding errors, c what is left (half of it), g the bounds
abbrev pub ArmHolds : Format → ℕ → ℕ → ℕ → ℕ → Eight ℕ → Type 0
ArmHolds f w r y k e =
    T (horner_holds f w (errorless r) 1 k e.v0)
    × T (total_holds f w (errorless r) (errorless y) xi_part 1 (suc k) e.v1)
    × T (total_holds f w (errorless r) (errorless y) zeta_part 1 (suc (suc k)) e.v2)
    × T (horner_holds f w (errorless r) 2 k e.w0)
    × T (total_holds f w (errorless r) (errorless y) xi_part 2 (suc k) e.w1)
    × T (total_holds f w (errorless r) (errorless y) zeta_part 2 (suc (suc k)) e.w2)
    × T (total_holds f w (errorless r) (errorless y) dxi_part 1 (suc (suc (suc k))) e.dv1)
    × T (total_holds f w (errorless r) (errorless y) dzeta_part 1 (suc (suc (suc (suc k)))) e.dv2)

abbrev pub RestHolds : ℕ → ℕ → ℕ → Eight ℕ → Type 0
RestHolds w r k c =
    (w * r ^ k ≤ c.v0 * (w ^ k * factorial (k + 1)))
    × Rest w r k (suc (suc k)) c.v1
    × Rest w r k (2 * suc (suc (suc k))) c.v2
    × (w * r ^ k ≤ c.w0 * (w ^ k * factorial (k + 2)))
    × Rest w r k (suc (suc k) * suc (suc (suc k))) c.w1
    × Rest w r k (2 * (suc (suc (suc k)) * suc (suc (suc (suc k))))) c.w2
    × Rest w r k (6 * suc (suc (suc (suc k)))) c.dv1
    × Rest w r k (24 * suc (suc (suc (suc (suc k))))) c.dv2

abbrev pub TotalsHold : Eight ℕ → Eight ℕ → Eight ℕ → Type 0
TotalsHold e c g =
    (e.v0 + 2 * c.v0 ≤ g.v0) × (e.v1 + 2 * c.v1 ≤ g.v1) × (e.v2 + 2 * c.v2 ≤ g.v2) × (e.w0 + 2 * c.w0 ≤ g.w0) ×
    (e.w1 + 2 * c.w1 ≤ g.w1) × (e.w2 + 2 * c.w2 ≤ g.w2) × (e.dv1 + 2 * c.dv1 ≤ g.dv1) × (e.dv2 + 2 * c.dv2 ≤ g.dv2)

-- the series of k terms, where the computed Δ is below the limit n 2 ^ d: within g / w of every sum of k terms or more
pub arm_accurate : (f : Format) (w x r y k n : ℕ) (d : ℤ) (e c g : Eight ℕ) → 0 < w → 2 * r ≤ k * w →
    w * (n * up d) ≤ x * down d
    → w * delta_most f w x ≤ r * r → before f w x ≤ y → ArmHolds f w r y k e → RestHolds w r k c → TotalsHold e c g
    → (sigma z : Float) → T (lt (coeffs_delta f sigma z) (fin false n d)) → T (not (lt z f0)) →
    Accurate w (series_full f sigma z k) (value_of sigma) (value_of z) k g
unfolding series_full series_coeffs series_sums level_terms
arm_accurate f w x r y k n d e c g wp half lim root magnitude a b m sigma z t p =
    let h = domain f w x r y sigma z n d wp t p lim root magnitude in
    record {
      v0 = horner_accurate f w r y k sigma z wp half h 1 e.v0 c.v0 g.v0 a.0 b.0 m.0;
      v1 = rw add-one (v1_accurate f w r y k sigma z wp half h e.v1 c.v1 g.v1 a.1 b.1 m.1);
      v2 = rw add-two (v2_accurate f w r y k sigma z wp half h e.v2 c.v2 g.v2 a.2 b.2 m.2);
      w0 = horner_accurate f w r y k sigma z wp half h 2 e.w0 c.w0 g.w0 a.3 b.3 m.3;
      w1 = rw add-one (w1_accurate f w r y k sigma z wp half h e.w1 c.w1 g.w1 a.4 b.4 m.4);
      w2 = rw add-two (w2_accurate f w r y k sigma z wp half h e.w2 c.w2 g.w2 a.5 b.5 m.5);
      dv1 = rw add-three (dv1_accurate f w r y k sigma z wp half h e.dv1 c.dv1 g.dv1 a.6 b.6 m.6);
      dv2 = rw add-four (dv2_accurate f w r y k sigma z wp half h e.dv2 c.dv2 g.dv2 a.7 b.7 m.7);
    }

-- ---- the arms, in units of 2 ^ -100

-- Δ below 5.424690937011326e-05, 6 terms
pub short_binary64 : (sigma z : Float) → T (lt (coeffs_delta binary64 sigma z) (short_below binary64)) →
    T (not (lt z f0))
    → Accurate (2 ^ 100) (series_full binary64 sigma z 6) (value_of sigma) (value_of z) 6 (short_errors binary64)
unfolding of_bits horner_holds total_holds factorial
short_binary64 sigma z t p =
    arm_accurate binary64 (2 ^ 100) (977225443301 * 2 ^ 46) (259141700845 * 2 ^ 55)
    (488612721651 * 2 ^ 47) 6 8005430831521567 (negsuc 66)
    (record {
      v0 = 33 * 2 ^ 43;
      v1 = 41 * 2 ^ 44;
      v2 = 15 * 2 ^ 44;
      w0 = 33 * 2 ^ 42;
      w1 = 27 * 2 ^ 43;
      w2 =
          59 * 2 ^ 40;
      dv1 = 35 * 2 ^ 41;
      dv2 = 61 * 2 ^ 38;
    })
    (record {
      v0 = 37 * 2 ^ 40;
      v1 = 2 ^ 45;
      v2 = 57 * 2 ^ 38;
      w0 = 37 * 2 ^ 37;
      w1 = 57 * 2 ^ 36;
      w2 =
          23 * 2 ^ 36;
      dv1 = 35 * 2 ^ 37;
      dv2 = 31 * 2 ^ 35;
    })
    (short_errors binary64)
    (lit< tt) (lit≤ tt) (lit≤ tt) (lit≤ tt) (lit≤ tt) (tt, tt, tt, tt, tt, tt, tt, tt)
    (lit≤ tt, lit≤ tt, lit≤ tt, lit≤ tt, lit≤ tt, lit≤ tt, lit≤ tt, lit≤ tt)
    (lit≤ tt, lit≤ tt, lit≤ tt, lit≤ tt, lit≤ tt, lit≤ tt, lit≤ tt, lit≤ tt)
    sigma z t p

-- Δ below 0.042169650342858224, 11 terms
pub mid_binary64 : (sigma z : Float) → T (lt (coeffs_delta binary64 sigma z) (mid_below binary64)) → T (not (lt z f0))
    → Accurate (2 ^ 100) (series_full binary64 sigma z 11) (value_of sigma) (value_of z) 11 (mid_errors binary64)
unfolding of_bits horner_holds total_holds factorial
mid_binary64 sigma z t p =
    arm_accurate binary64 (2 ^ 100) (185464083565 * 2 ^ 58) (56446866113 * 2 ^ 62)
    (741856334261 * 2 ^ 56) 11 6077287090254093 (negsuc 56)
    (record {
      v0 = 5 * 2 ^ 46;
      v1 = 35 * 2 ^ 45;
      v2 = 51 * 2 ^ 43;
      w0 = 37 * 2 ^ 42;
      w1 = 45 * 2 ^ 43;
      w2 =
          49 * 2 ^ 41;
      dv1 = 29 * 2 ^ 42;
      dv2 = 49 * 2 ^ 39;
    })
    (record {
      v0 = 33 * 2 ^ 41;
      v1 = 61 * 2 ^ 40;
      v2 = 57 * 2 ^ 39;
      w0 = 41 * 2 ^ 37;
      w1 = 35 * 2 ^ 37;
      w2 =
          61 * 2 ^ 35;
      dv1 = 9 * 2 ^ 40;
      dv2 = 33 * 2 ^ 36;
    })
    (mid_errors binary64)
    (lit< tt) (lit≤ tt) (lit≤ tt) (lit≤ tt) (lit≤ tt) (tt, tt, tt, tt, tt, tt, tt, tt)
    (lit≤ tt, lit≤ tt, lit≤ tt, lit≤ tt, lit≤ tt, lit≤ tt, lit≤ tt, lit≤ tt)
    (lit≤ tt, lit≤ tt, lit≤ tt, lit≤ tt, lit≤ tt, lit≤ tt, lit≤ tt, lit≤ tt)
    sigma z t p

-- Δ below 0.26416483203860924, 14 terms
pub upper_binary64 : (sigma z : Float) → T (lt (coeffs_delta binary64 sigma z) (upper_below binary64)) →
    T (not (lt z f0))
    → Accurate (2 ^ 100) (series_full binary64 sigma z 14) (value_of sigma) (value_of z) 14 (upper_errors binary64)
unfolding of_bits horner_holds total_holds factorial
upper_binary64 sigma z t p =
    arm_accurate binary64 (2 ^ 100) (72613076119 * 2 ^ 62) (282557819785 * 2 ^ 61)
    (580904608953 * 2 ^ 59) 14 4758770556533881 (negsuc 53)
    (record {
      v0 = 27 * 2 ^ 44;
      v1 = 27 * 2 ^ 46;
      v2 = 39 * 2 ^ 44;
      w0 = 23 * 2 ^ 43;
      w1 = 33 * 2 ^ 44;
      w2 =
          9 * 2 ^ 44;
      dv1 = 45 * 2 ^ 42;
      dv2 = 19 * 2 ^ 41;
    })
    (record {
      v0 = 5 * 2 ^ 44;
      v1 = 19 * 2 ^ 42;
      v2 = 35 * 2 ^ 40;
      w0 = 5 * 2 ^ 40;
      w1 = 35 * 2 ^ 37;
      w2 =
          63 * 2 ^ 35;
      dv1 = 11 * 2 ^ 40;
      dv2 = 21 * 2 ^ 37;
    })
    (upper_errors binary64)
    (lit< tt) (lit≤ tt) (lit≤ tt) (lit≤ tt) (lit≤ tt) (tt, tt, tt, tt, tt, tt, tt, tt)
    (lit≤ tt, lit≤ tt, lit≤ tt, lit≤ tt, lit≤ tt, lit≤ tt, lit≤ tt, lit≤ tt)
    (lit≤ tt, lit≤ tt, lit≤ tt, lit≤ tt, lit≤ tt, lit≤ tt, lit≤ tt, lit≤ tt)
    sigma z t p

-- Δ below 1.9809567785503388, 19 terms
pub series_binary64 : (sigma z : Float) → T (lt (coeffs_delta binary64 sigma z) (series_below binary64)) →
    T (not (lt z f0))
    → Accurate (2 ^ 100) (series_full binary64 sigma z 19) (value_of sigma) (value_of z) 19 (series_errors binary64)
unfolding of_bits horner_holds total_holds factorial
series_binary64 sigma z t p =
    arm_accurate binary64 (2 ^ 100) (1089042506069 * 2 ^ 61) (386880940757 * 2 ^ 62)
    (544521253035 * 2 ^ 62) 19 2230359052429091 (negsuc 49)
    (record {
      v0 = 33 * 2 ^ 45;
      v1 = 5 * 2 ^ 50;
      v2 = 7 * 2 ^ 48;
      w0 = 11 * 2 ^ 45;
      w1 = 39 * 2 ^ 45;
      w2 =
          11 * 2 ^ 45;
      dv1 = 17 * 2 ^ 45;
      dv2 = 7 * 2 ^ 44;
    })
    (record {
      v0 = 5 * 2 ^ 46;
      v1 = 19 * 2 ^ 44;
      v2 = 9 * 2 ^ 44;
      w0 = 15 * 2 ^ 40;
      w1 = 55 * 2 ^ 38;
      w2 =
          25 * 2 ^ 38;
      dv1 = 23 * 2 ^ 41;
      dv2 = 11 * 2 ^ 40;
    })
    (series_errors binary64)
    (lit< tt) (lit≤ tt) (lit≤ tt) (lit≤ tt) (lit≤ tt) (tt, tt, tt, tt, tt, tt, tt, tt)
    (lit≤ tt, lit≤ tt, lit≤ tt, lit≤ tt, lit≤ tt, lit≤ tt, lit≤ tt, lit≤ tt)
    (lit≤ tt, lit≤ tt, lit≤ tt, lit≤ tt, lit≤ tt, lit≤ tt, lit≤ tt, lit≤ tt)
    sigma z t p

-- Δ below 0.0009646615944802761, 4 terms
pub short_binary32 : (sigma z : Float) → T (lt (coeffs_delta binary32 sigma z) (short_below binary32)) →
    T (not (lt z f0))
    → Accurate (2 ^ 100) (series_full binary32 sigma z 4) (value_of sigma) (value_of z) 4 (short_errors binary32)
unfolding of_bits horner_holds total_holds factorial
short_binary32 sigma z t p =
    arm_accurate binary32 (2 ^ 100) (2071595 * 2 ^ 69) (136598942765 * 2 ^ 58) (543056232049 * 2 ^ 51) 4 2071595
    (negsuc 30)
    (record {
      v0 = 17 * 2 ^ 73;
      v1 = 33 * 2 ^ 73;
      v2 = 25 * 2 ^ 72;
      w0 = 33 * 2 ^ 71;
      w1 = 11 * 2 ^ 73;
      w2 =
          25 * 2 ^ 70;
      dv1 = 61 * 2 ^ 69;
      dv2 = 53 * 2 ^ 67;
    })
    (record {
      v0 = 17 * 2 ^ 69;
      v1 = 7 * 2 ^ 70;
      v2 = 3 * 2 ^ 70;
      w0 = 45 * 2 ^ 65;
      w1 = 2 ^ 70;
      w2 = 3 * 2 ^ 67;
      dv1 =
          7 * 2 ^ 67;
      dv2 = 25 * 2 ^ 63;
    })
    (short_errors binary32)
    (lit< tt) (lit≤ tt) (lit≤ tt) (lit≤ tt) (lit≤ tt) (tt, tt, tt, tt, tt, tt, tt, tt)
    (lit≤ tt, lit≤ tt, lit≤ tt, lit≤ tt, lit≤ tt, lit≤ tt, lit≤ tt, lit≤ tt)
    (lit≤ tt, lit≤ tt, lit≤ tt, lit≤ tt, lit≤ tt, lit≤ tt, lit≤ tt, lit≤ tt)
    sigma z t p

-- Δ below 0.12863969802856445, 7 terms
pub mid_binary32 : (sigma z : Float) → T (lt (coeffs_delta binary32 sigma z) (mid_below binary32)) → T (not (lt z f0))
    → Accurate (2 ^ 100) (series_full binary32 sigma z 7) (value_of sigma) (value_of z) 7 (mid_errors binary32)
unfolding of_bits horner_holds total_holds factorial
mid_binary32 sigma z t p =
    arm_accurate binary32 (2 ^ 100) (269777 * 2 ^ 79) (197177503099 * 2 ^ 61) (565763408827 * 2 ^ 58) 7 269777
    (negsuc 20)
    (record {
      v0 = 23 * 2 ^ 73;
      v1 = 59 * 2 ^ 73;
      v2 = 11 * 2 ^ 74;
      w0 = 41 * 2 ^ 71;
      w1 = 37 * 2 ^ 72;
      w2 =
          41 * 2 ^ 70;
      dv1 = 13 * 2 ^ 72;
      dv2 = 45 * 2 ^ 68;
    })
    (record {
      v0 = 41 * 2 ^ 69;
      v1 = 37 * 2 ^ 69;
      v2 = 33 * 2 ^ 68;
      w0 = 37 * 2 ^ 66;
      w1 = 29 * 2 ^ 66;
      w2 =
          3 * 2 ^ 68;
      dv1 = 5 * 2 ^ 69;
      dv2 = 37 * 2 ^ 64;
    })
    (mid_errors binary32)
    (lit< tt) (lit≤ tt) (lit≤ tt) (lit≤ tt) (lit≤ tt) (tt, tt, tt, tt, tt, tt, tt, tt)
    (lit≤ tt, lit≤ tt, lit≤ tt, lit≤ tt, lit≤ tt, lit≤ tt, lit≤ tt, lit≤ tt)
    (lit≤ tt, lit≤ tt, lit≤ tt, lit≤ tt, lit≤ tt, lit≤ tt, lit≤ tt, lit≤ tt)
    sigma z t p

-- Δ below 0.6264335513114929, 9 terms
pub upper_binary32 : (sigma z : Float) → T (lt (coeffs_delta binary32 sigma z) (upper_below binary32)) →
    T (not (lt z f0))
    → Accurate (2 ^ 100) (series_full binary32 sigma z 9) (value_of sigma) (value_of z) 9 (upper_errors binary32)
unfolding of_bits horner_holds total_holds factorial
upper_binary32 sigma z t p =
    arm_accurate binary32 (2 ^ 100) (10509811 * 2 ^ 76) (870236625713 * 2 ^ 60) (344385507375 * 2 ^ 61) 9 10509811
    (negsuc 23)
    (record {
      v0 = 9 * 2 ^ 75;
      v1 = 25 * 2 ^ 75;
      v2 = 37 * 2 ^ 73;
      w0 = 7 * 2 ^ 74;
      w1 = 57 * 2 ^ 72;
      w2 =
          33 * 2 ^ 71;
      dv1 = 45 * 2 ^ 71;
      dv2 = 39 * 2 ^ 69;
    })
    (record {
      v0 = 37 * 2 ^ 70;
      v1 = 33 * 2 ^ 70;
      v2 = 61 * 2 ^ 68;
      w0 = 53 * 2 ^ 66;
      w1 = 11 * 2 ^ 68;
      w2 =
          37 * 2 ^ 65;
      dv1 = 37 * 2 ^ 67;
      dv2 = 35 * 2 ^ 65;
    })
    (upper_errors binary32)
    (lit< tt) (lit≤ tt) (lit≤ tt) (lit≤ tt) (lit≤ tt) (tt, tt, tt, tt, tt, tt, tt, tt)
    (lit≤ tt, lit≤ tt, lit≤ tt, lit≤ tt, lit≤ tt, lit≤ tt, lit≤ tt, lit≤ tt)
    (lit≤ tt, lit≤ tt, lit≤ tt, lit≤ tt, lit≤ tt, lit≤ tt, lit≤ tt, lit≤ tt)
    sigma z t p

-- Δ below 2.3713736534118652, 11 terms
pub series_binary32 : (sigma z : Float) → T (lt (coeffs_delta binary32 sigma z) (series_below binary32)) →
    T (not (lt z f0))
    → Accurate (2 ^ 100) (series_full binary32 sigma z 11) (value_of sigma) (value_of z) 11 (series_errors binary32)
unfolding of_bits horner_holds total_holds factorial
series_binary32 sigma z t p =
    arm_accurate binary32 (2 ^ 100) (4973131 * 2 ^ 79) (211645900449 * 2 ^ 63) (651838265285 * 2 ^ 62) 11 4973131
    (negsuc 20)
    (record {
      v0 = 19 * 2 ^ 75;
      v1 = 31 * 2 ^ 76;
      v2 = 11 * 2 ^ 76;
      w0 = 3 * 2 ^ 76;
      w1 = 29 * 2 ^ 74;
      w2 =
          17 * 2 ^ 73;
      dv1 = 7 * 2 ^ 75;
      dv2 = 23 * 2 ^ 71;
    })
    (record {
      v0 = 33 * 2 ^ 73;
      v1 = 15 * 2 ^ 74;
      v2 = 7 * 2 ^ 74;
      w0 = 5 * 2 ^ 72;
      w1 = 35 * 2 ^ 69;
      w2 =
          15 * 2 ^ 69;
      dv1 = 35 * 2 ^ 70;
      dv2 = 33 * 2 ^ 68;
    })
    (series_errors binary32)
    (lit< tt) (lit≤ tt) (lit≤ tt) (lit≤ tt) (lit≤ tt) (tt, tt, tt, tt, tt, tt, tt, tt)
    (lit≤ tt, lit≤ tt, lit≤ tt, lit≤ tt, lit≤ tt, lit≤ tt, lit≤ tt, lit≤ tt)
    (lit≤ tt, lit≤ tt, lit≤ tt, lit≤ tt, lit≤ tt, lit≤ tt, lit≤ tt, lit≤ tt)
    sigma z t p
