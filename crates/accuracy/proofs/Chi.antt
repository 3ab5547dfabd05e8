-- χΔ on the series arms: rounding and truncation together. Assumes nothing.
use Prim.Native.Nat.{ℕ, suc, ◌+◌, ◌*◌, ◌^◌, ◌≤◌, ◌<◌}
use native.Mathlib.Nat.{mul-pos, mul-le-mul_left}
use native.Mathlib.Numerals.{add-two}
use native.Mathlib.Omega.{arith}
use mathlib.Core.Bool.{false, not}
use lib.IntN.{ℤ, negsuc}
use lib.Dec.{T, lit≤, lit<}
use lib.Ieee.{Float, fin, Format, binary32, binary64, up, down, mul, lt, of_bits}
use Rattle.ieee.specs.Numbers.{f0}
use Rattle.ieee.specs.Table.{factorial}
use Rattle.series.specs.Series.{series_sum, series_level, g_series, coeffs_delta, series_chi, series_full}
use Rattle.series.specs.Series.{series_coeffs, series_sums, level_terms}
use Rattle.tables.specs.Tables.{recip_fact}
use Rattle.arms.specs.Limits.{short_below, mid_below, upper_below, series_below}
use Rattle.rounding.specs.Value.{Value, opposite, plus, minus, times, value_of, Near, AtMost}
use Rattle.rounding.specs.Tree.{upward}
use Rattle.accuracy.specs.Domain.{before, delta_most}
use Rattle.accuracy.specs.Series.{chi_errors, of_level, zeta_part, part, exact_term, exact_total, exact_horner}
use Rattle.accuracy.specs.Series.{exact_chi, total_holds, horner_holds, chi_holds, ChiAccurate}
use Rattle.rounding.specs.Leaves.{errorless}
use Rattle.rounding.proofs.Differences.{expand}
use Rattle.rounding.proofs.Fractions.{near-opposite, near-plus, near-right}
use Rattle.rounding.proofs.Forward.{error_trans, error_wider, upward_enough}
use Rattle.accuracy.proofs.HornerTail.{near_factor, near_convert, most_convert}
use Rattle.accuracy.proofs.Series.{total-close, horner_close, chi-close}
use Rattle.rounding.proofs.Leaves.{leaf_forward}
use Rattle.accuracy.proofs.Truncation.{Rest, tail-v2, tail_horner}
use Rattle.accuracy.proofs.Domain.{domain}
use Rattle.accuracy.proofs.Arms.{value_pos, value-signed, near_turn}

unit-le : (w a c : ℕ) → a ≤ c * w → w * a ≤ c * (w * w)
unit-le w a c h = let x = mul-le-mul_left w h in simp expand (omega (arith, simp expand at x))

-- what is left of (v₀ - z v₂) Δ
unfoldable pub chi-left : ℕ → ℕ → ℕ → ℕ → ℕ → ℕ
chi-left w r y a b = upward w ((2 * a + upward w (y * (2 * b))) * upward w (r * r))

near-chi : (w r y a b : ℕ) (sigma z v0 v0' v2 v2' : Value) → 0 < w → 0 < v0'.d → 0 < v2'.d → 0 < z.d → 0 < sigma.d →
    AtMost w z y → AtMost (w * w)
    (plus (times sigma sigma) z) (r * r) → Near w v0 v0' (2 * a) → Near w v2 v2' (2 * b)
    → Near w (exact_chi sigma z v0 v2) (exact_chi sigma z v0' v2') (chi-left w r y a b)
unfolding exact_chi chi-left
near-chi w r y a b sigma z v0 v0' v2 v2' wp p0 p2 pz ps hz hd h0 h2 =
    let zv : Near w (times z v2) (times z v2') (upward w (y * (2 * b))) =
    near_convert w (w * w) (times z v2) (times z v2') (upward w (y * (2 * b))) (y * (2 * b)) (mul-pos wp wp)
    (unit-le w (y * (2 * b)) (upward w (y * (2 * b))) (upward_enough w (y * (2 * b)) wp))
    (near_factor w w z v2 v2' y (2 * b) hz h2) in
    let d : Near w (minus v0 (times z v2)) (minus v0' (times z v2')) (2 * a + upward w (y * (2 * b))) =
    near-plus w v0 v0' (opposite (times z v2)) (opposite (times z v2')) (2 * a) (upward w (y * (2 * b))) h0
    (near-opposite w (times z v2) (times z v2') (upward w (y * (2 * b))) zv) in
    near-right w (minus v0 (times z v2)) (minus v0' (times z v2')) (plus (times sigma sigma) z)
    (2 * a + upward w (y * (2 * b))) (upward w (r * r))
    (upward w ((2 * a + upward w (y * (2 * b))) * upward w (r * r))) wp
    (mul-pos p0 (mul-pos pz p2)) (mul-pos (mul-pos ps ps) pz) d
    (most_convert w (w * w) (plus (times sigma sigma) z) (upward w (r * r)) (r * r) (mul-pos wp wp)
    (unit-le w (r * r) (upward w (r * r)) (upward_enough w (r * r) wp)) hd)
    (upward_enough w ((2 * a + upward w (y * (2 * b))) * upward w (r * r)) wp)

chi-above : (sigma z v0 v2 : Value) → 0 < v0.d → 0 < v2.d → 0 < z.d → 0 < sigma.d → 0 < (exact_chi sigma z v0 v2).d
unfolding exact_chi
chi-above sigma z v0 v2 p0 p2 pz ps = mul-pos (mul-pos p0 (mul-pos pz p2)) (mul-pos (mul-pos ps ps) pz)

-- a, b what is left of v₀ and v₂ (half of it), e0, e2, e the rounding errors, g the bound
pub chi_accurate : (f : Format) (w x r y k n : ℕ) (d : ℤ) (e0 e2 e a b g : ℕ) → 0 < w → 2 * r ≤ k * w →
    w * (n * up d) ≤ x * down d → w * delta_most f w x ≤ r * r → before f w x ≤ y
    → T (horner_holds f w (errorless r) 1 k e0) →
    T (total_holds f w (errorless r) (errorless y) zeta_part 1 (suc (suc k)) e2) →
    T (chi_holds f w (errorless r) (errorless y) k e)
    → w * r ^ k ≤ a * (w ^ k * factorial (k + 1)) → Rest w r k (2 * suc (suc (suc k))) b → e + chi-left w r y a b ≤ g
    → (sigma z : Float) → T (lt (coeffs_delta f sigma z) (fin false n d)) → T (not (lt z f0)) →
    ChiAccurate w (series_full f sigma z k).chi_delta (value_of sigma) (value_of z) k (suc (suc k)) g
unfolding series_full series_coeffs series_sums level_terms
chi_accurate f w x r y k n d e0 e2 e a b g wp half lim root magnitude t0 t2 tc ra rb l sigma z t p =
    let h = domain f w x r y sigma z n d wp t p lim root magnitude in
    let s = value_of sigma in
    let u = value_of z in
    let ps = value_pos w sigma r h.sigma in
    let pz = value_pos w z y h.z in
    let v0 = exact_horner s 1 k in
    let v2 = exact_total (exact_term s u zeta_part 1) (suc (suc k)) in
    let p0 = (horner_close f w r y sigma z wp h.sigma h.z 1 k e0 t0).1 in
    let p2 = (total-close f w r y sigma z wp h.sigma h.z zeta_part 1 (suc (suc k)) e2 t2).1 in
    let X = series_chi f sigma z (g_series f sigma 1 k) (series_sum f
    (λ j. mul f (part zeta_part (of_level (series_level f sigma z j))) (recip_fact f (j + 1))) (suc (suc k))) in
    let c = rw add-two at (chi-close f w r y sigma z wp h.sigma h.z k e tc) in
    record {
      chi = λ m i.
          let error = near-chi w r y a b s u (exact_horner s 1 (k + m)) v0
          (exact_total (exact_term s u zeta_part 1) (suc (suc k) + i)) v2 wp p0 p2 pz ps
          (leaf_forward w z y h.z).size h.delta
          (tail_horner w r s u wp ps pz (value-signed w sigma r h.sigma) h.nonnegative h.delta 1 k a half ra m)
          (tail-v2 w r s u wp ps pz (value-signed w sigma r h.sigma) h.nonnegative h.delta k b half rb i) in
          rw add-two (error_wider w X (exact_chi s u (exact_horner s 1 (k + m))
          (exact_total (exact_term s u zeta_part 1) (suc (suc k) + i))) (e + chi-left w r y a b) g l
          (error_trans w X (exact_chi s u v0 v2) (exact_chi s u (exact_horner s 1 (k + m))
          (exact_total (exact_term s u zeta_part 1) (suc (suc k) + i))) e
          (chi-left w r y a b) (chi-above s u v0 v2 p0 p2 pz ps) c
          (near_turn w (exact_chi s u (exact_horner s 1 (k + m))
          (exact_total (exact_term s u zeta_part 1) (suc (suc k) + i))) (exact_chi s u v0 v2)
          (chi-left w r y a b) error)));
    }

-- ---- the arms, in units of 2 ^ -100

pub chi-short_binary64 : (sigma z : Float) → T (lt (coeffs_delta binary64 sigma z) (short_below binary64)) →
    T (not (lt z f0)) → ChiAccurate (2 ^ 100)
    (series_full binary64 sigma z 6).chi_delta (value_of sigma) (value_of z) 6 8 (chi_errors binary64 1)
unfolding of_bits horner_holds total_holds chi_holds chi-left factorial
chi-short_binary64 sigma z t p =
    chi_accurate binary64 (2 ^ 100) (977225443301 * 2 ^ 46) (259141700845 * 2 ^ 55)
    (488612721651 * 2 ^ 47) 6 8005430831521567 (negsuc 66)
    (33 * 2 ^ 43) (15 * 2 ^ 44) (5 * 2 ^ 34) (37 * 2 ^ 40) (57 * 2 ^ 38) (2 ^ 37)
    (lit< tt) (lit≤ tt) (lit≤ tt) (lit≤ tt) (lit≤ tt) tt tt tt (lit≤ tt) (lit≤ tt) (lit≤ tt) sigma z t p

pub chi-mid_binary64 : (sigma z : Float) → T (lt (coeffs_delta binary64 sigma z) (mid_below binary64)) →
    T (not (lt z f0)) → ChiAccurate (2 ^ 100)
    (series_full binary64 sigma z 11).chi_delta (value_of sigma) (value_of z) 11 13 (chi_errors binary64 2)
unfolding of_bits horner_holds total_holds chi_holds chi-left factorial
chi-mid_binary64 sigma z t p =
    chi_accurate binary64 (2 ^ 100) (185464083565 * 2 ^ 58) (56446866113 * 2 ^ 62)
    (741856334261 * 2 ^ 56) 11 6077287090254093 (negsuc 56)
    (5 * 2 ^ 46) (51 * 2 ^ 43) (9 * 2 ^ 43) (33 * 2 ^ 41) (57 * 2 ^ 39) (2 ^ 47)
    (lit< tt) (lit≤ tt) (lit≤ tt) (lit≤ tt) (lit≤ tt) tt tt tt (lit≤ tt) (lit≤ tt) (lit≤ tt) sigma z t p

pub chi-upper_binary64 : (sigma z : Float) → T (lt (coeffs_delta binary64 sigma z) (upper_below binary64)) →
    T (not (lt z f0)) → ChiAccurate (2 ^ 100)
    (series_full binary64 sigma z 14).chi_delta (value_of sigma) (value_of z) 14 16 (chi_errors binary64 3)
unfolding of_bits horner_holds total_holds chi_holds chi-left factorial
chi-upper_binary64 sigma z t p =
    chi_accurate binary64 (2 ^ 100) (72613076119 * 2 ^ 62) (282557819785 * 2 ^ 61)
    (580904608953 * 2 ^ 59) 14 4758770556533881 (negsuc 53)
    (27 * 2 ^ 44) (39 * 2 ^ 44) (41 * 2 ^ 44) (5 * 2 ^ 44) (35 * 2 ^ 40) (2 ^ 50)
    (lit< tt) (lit≤ tt) (lit≤ tt) (lit≤ tt) (lit≤ tt) tt tt tt (lit≤ tt) (lit≤ tt) (lit≤ tt) sigma z t p

pub chi-series_binary64 : (sigma z : Float) → T (lt (coeffs_delta binary64 sigma z) (series_below binary64)) →
    T (not (lt z f0)) → ChiAccurate (2 ^ 100)
    (series_full binary64 sigma z 19).chi_delta (value_of sigma) (value_of z) 19 21 (chi_errors binary64 4)
unfolding of_bits horner_holds total_holds chi_holds chi-left factorial
chi-series_binary64 sigma z t p =
    chi_accurate binary64 (2 ^ 100) (1089042506069 * 2 ^ 61) (386880940757 * 2 ^ 62)
    (544521253035 * 2 ^ 62) 19 2230359052429091 (negsuc 49)
    (33 * 2 ^ 45) (7 * 2 ^ 48) (3 * 2 ^ 53) (5 * 2 ^ 46) (9 * 2 ^ 44) (2 ^ 55)
    (lit< tt) (lit≤ tt) (lit≤ tt) (lit≤ tt) (lit≤ tt) tt tt tt (lit≤ tt) (lit≤ tt) (lit≤ tt) sigma z t p

pub chi-short_binary32 : (sigma z : Float) → T (lt (coeffs_delta binary32 sigma z) (short_below binary32)) →
    T (not (lt z f0)) → ChiAccurate (2 ^ 100)
    (series_full binary32 sigma z 4).chi_delta (value_of sigma) (value_of z) 4 6 (chi_errors binary32 1)
unfolding of_bits horner_holds total_holds chi_holds chi-left factorial
chi-short_binary32 sigma z t p =
    chi_accurate binary32 (2 ^ 100) (2071595 * 2 ^ 69) (136598942765 * 2 ^ 58) (543056232049 * 2 ^ 51) 4 2071595
    (negsuc 30) (17 * 2 ^ 73)
    (25 * 2 ^ 72) (45 * 2 ^ 64) (17 * 2 ^ 69) (3 * 2 ^ 70) (2 ^ 70)
    (lit< tt) (lit≤ tt) (lit≤ tt) (lit≤ tt) (lit≤ tt) tt tt tt (lit≤ tt) (lit≤ tt) (lit≤ tt) sigma z t p

pub chi-mid_binary32 : (sigma z : Float) → T (lt (coeffs_delta binary32 sigma z) (mid_below binary32)) →
    T (not (lt z f0)) → ChiAccurate (2 ^ 100)
    (series_full binary32 sigma z 7).chi_delta (value_of sigma) (value_of z) 7 9 (chi_errors binary32 2)
unfolding of_bits horner_holds total_holds chi_holds chi-left factorial
chi-mid_binary32 sigma z t p =
    chi_accurate binary32 (2 ^ 100) (269777 * 2 ^ 79) (197177503099 * 2 ^ 61) (565763408827 * 2 ^ 58) 7 269777
    (negsuc 20) (23 * 2 ^ 73) (11 * 2 ^ 74)
    (63 * 2 ^ 71) (41 * 2 ^ 69) (33 * 2 ^ 68) (2 ^ 78)
    (lit< tt) (lit≤ tt) (lit≤ tt) (lit≤ tt) (lit≤ tt) tt tt tt (lit≤ tt) (lit≤ tt) (lit≤ tt) sigma z t p

pub chi-upper_binary32 : (sigma z : Float) → T (lt (coeffs_delta binary32 sigma z) (upper_below binary32)) →
    T (not (lt z f0)) → ChiAccurate (2 ^ 100)
    (series_full binary32 sigma z 9).chi_delta (value_of sigma) (value_of z) 9 11 (chi_errors binary32 3)
unfolding of_bits horner_holds total_holds chi_holds chi-left factorial
chi-upper_binary32 sigma z t p =
    chi_accurate binary32 (2 ^ 100) (10509811 * 2 ^ 76) (870236625713 * 2 ^ 60) (344385507375 * 2 ^ 61) 9 10509811
    (negsuc 23) (9 * 2 ^ 75)
    (37 * 2 ^ 73) (17 * 2 ^ 76) (37 * 2 ^ 70) (61 * 2 ^ 68) (2 ^ 81)
    (lit< tt) (lit≤ tt) (lit≤ tt) (lit≤ tt) (lit≤ tt) tt tt tt (lit≤ tt) (lit≤ tt) (lit≤ tt) sigma z t p

pub chi-series_binary32 : (sigma z : Float) → T (lt (coeffs_delta binary32 sigma z) (series_below binary32)) →
    T (not (lt z f0)) → ChiAccurate (2 ^ 100)
    (series_full binary32 sigma z 11).chi_delta (value_of sigma) (value_of z) 11 13 (chi_errors binary32 4)
unfolding of_bits horner_holds total_holds chi_holds chi-left factorial
chi-series_binary32 sigma z t p =
    chi_accurate binary32 (2 ^ 100) (4973131 * 2 ^ 79) (211645900449 * 2 ^ 63) (651838265285 * 2 ^ 62) 11 4973131
    (negsuc 20) (19 * 2 ^ 75)
    (11 * 2 ^ 76) (15 * 2 ^ 80) (33 * 2 ^ 73) (7 * 2 ^ 74) (2 ^ 85)
    (lit< tt) (lit≤ tt) (lit≤ tt) (lit≤ tt) (lit≤ tt) tt tt tt (lit≤ tt) (lit≤ tt) (lit≤ tt) sigma z t p
