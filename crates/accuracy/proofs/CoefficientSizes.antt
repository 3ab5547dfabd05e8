-- The sizes of the coefficients' sums below the limit of the series. Assumes nothing.
use mathlib.Core.Path.{◌≡◌, refl}
use mathlib.Core.Bool.{not}
use Prim.Native.Nat.{ℕ, suc, ◌+◌, ◌*◌, ◌^◌, ◌≤◌, ◌<◌}
use native.Mathlib.Omega.{arith}
use lib.IntN.{negsuc}
use lib.Dec.{T, lit≤, lit<}
use lib.Ieee.{Float, Format, binary32, binary64, mul, lt, of_bits}
use Rattle.ieee.specs.Numbers.{f0}
use Rattle.ieee.specs.Table.{factorial}
use Rattle.tables.specs.Tables.{recip_fact}
use Rattle.series.specs.Series.{coeffs_delta, series_level}
use Rattle.arms.specs.Limits.{series_below}
use Rattle.arms.specs.Floats.{Values}
use Rattle.coeffs.specs.Group.{coeffs_scaled}
use Rattle.rounding.specs.Value.{Value, value_of, Near, AtMost}
use Rattle.rounding.specs.Tree.{Bound}
use Rattle.rounding.specs.Leaves.{errorless}
use Rattle.rounding.proofs.Fractions.{most-near, most_wider}
use Rattle.rounding.proofs.Leaves.{leaf_forward, value-above}
use Rattle.accuracy.specs.Domain.{InDomain}
use Rattle.accuracy.specs.Series.{Eight, Part, part, of_level, xi_part, zeta_part, dxi_part, dzeta_part, exact_term}
use Rattle.accuracy.specs.Series.{exact_total, exact_horner, bound_term, bound_total, bound_horner, term_no_overflow}
use Rattle.accuracy.specs.Series.{total_no_overflow, horner_no_overflow, most_terms}
use Rattle.accuracy.specs.CoefficientSizes.{exact_eight, eight_of, EightWithin, coefficient_sizes, with_errors}
use Rattle.accuracy.specs.CoefficientSizes.{CoefficientSizesTheorem}
use Rattle.accuracy.proofs.Domain.{domain}
use Rattle.accuracy.proofs.Series.{total_forward, term_forward, horner_forward}
use Rattle.accuracy.proofs.Truncation.{tail-v1, tail-v2, tail-w1, tail-w2, tail_horner}
use Rattle.accuracy.proofs.SlopeTail.{tail-dv1, tail-dv2}
use Rattle.accuracy.proofs.Arms.{value_pos, value-signed, RestHolds, TotalsHold}
use Rattle.accuracy.proofs.Coefficients.{coefficients}
use Rattle.accuracy.proofs.Exponential.{total-above, horner_above, from}

module _ (f : Format) (w r y : ℕ) where
  abbrev total_bound : Part → ℕ → ℕ → Bound
  total_bound c o m = bound_total f w (bound_term f w (errorless r) (errorless y) c o) m

  abbrev NoOverflow : Part → ℕ → ℕ → Type 0
  NoOverflow c o m =
      T (total_no_overflow f w (term_no_overflow f w (errorless r) (errorless y) c o)
      (bound_term f w (errorless r) (errorless y) c o)
      m)

  abbrev AllSafe : ℕ → Type 0
  AllSafe k =
      T (horner_no_overflow f w (errorless r) 1 k) × NoOverflow xi_part 1 (suc k) × NoOverflow zeta_part 1 (suc (suc k))
      × T (horner_no_overflow f w (errorless r) 2 k) × NoOverflow xi_part 2 (suc k)
      × NoOverflow zeta_part 2 (suc (suc k))
      × NoOverflow dxi_part 1 (suc (suc (suc k))) × NoOverflow dzeta_part 1 (suc (suc (suc (suc k))))

  -- the sizes of the sums of k terms
  abbrev magnitudes : ℕ → Eight ℕ
  magnitudes k =
      record {
        v0 = (bound_horner f w (errorless r) 1 k).magnitude;
        v1 = (total_bound xi_part 1 (suc k)).magnitude;
        v2 = (total_bound zeta_part 1 (suc (suc k))).magnitude;
        w0 = (bound_horner f w (errorless r) 2 k).magnitude;
        w1 = (total_bound xi_part 2 (suc k)).magnitude;
        w2 = (total_bound zeta_part 2 (suc (suc k))).magnitude;
        dv1 = (total_bound dxi_part 1 (suc (suc (suc k)))).magnitude;
        dv2 = (total_bound dzeta_part 1 (suc (suc (suc (suc k))))).magnitude;
      }

-- at most b, of every sum of as many terms or more
pub record SizesAtMost (w : ℕ) (s t : Value) (k : ℕ) (b : Eight ℕ) : Type 0 where
  pub v0 : (n : ℕ) → AtMost w (exact_horner s 1 (k + n)) b.v0
  pub v1 : (n : ℕ) → AtMost w (exact_total (exact_term s t xi_part 1) (suc k + n)) b.v1
  pub v2 : (n : ℕ) → AtMost w (exact_total (exact_term s t zeta_part 1) (suc (suc k) + n)) b.v2
  pub w0 : (n : ℕ) → AtMost w (exact_horner s 2 (k + n)) b.w0
  pub w1 : (n : ℕ) → AtMost w (exact_total (exact_term s t xi_part 2) (suc k + n)) b.w1
  pub w2 : (n : ℕ) → AtMost w (exact_total (exact_term s t zeta_part 2) (suc (suc k) + n)) b.w2
  pub dv1 : (n : ℕ) → AtMost w (exact_total (exact_term s t dxi_part 1) (suc (suc (suc k)) + n)) b.dv1
  pub dv2 : (n : ℕ) → AtMost w (exact_total (exact_term s t dzeta_part 1) (suc (suc (suc (suc k))) + n)) b.dv2

module _ (f : Format) (w r y k : ℕ) (sigma z : Float) (wp : 0 < w) (half : 2 * r ≤ k * w)
    (h : InDomain w r y sigma z) where
  abbrev s : Value
  s = value_of sigma

  abbrev t : Value
  t = value_of z

  longer_most : (x x' : Value) (a e b : ℕ) → 0 < x'.d → AtMost w x' a → Near w x x' (2 * e) → a + 2 * e ≤ b
      → AtMost w x b
  longer_most x x' a e b p l q m = most_wider w x (a + 2 * e) b m (most-near w x x' a (2 * e) p q l)

  sum_forward : (c : Part) (o m : ℕ) → NoOverflow f w r y c o m
      → (0 < (exact_total (exact_term s t c o) m).d) × AtMost w (exact_total (exact_term s t c o) m)
      (total_bound f w r y c o m).magnitude
  sum_forward c o m q =
      let a = errorless r in
      let b = errorless y in
      let g =
      total_forward f w (λ j. mul f (part c (of_level (series_level f sigma z j))) (recip_fact f (j + o)))
      (exact_term s t c o) (bound_term f w a b c o)
      (term_no_overflow f w a b c o) wp
      (λ j u. term_forward f w sigma z s t a b wp (leaf_forward w sigma r h.sigma) (leaf_forward w z y h.z) c o j u) m
      q in
      (g.above, g.size)

  pub sizes_at_most : (c b : Eight ℕ) → AllSafe f w r y k → RestHolds w r k c → TotalsHold (magnitudes f w r y k) c b
      → SizesAtMost w s t k b
  sizes_at_most c b q l m =
      let sp = value_pos w sigma r h.sigma in
      let zp = value_pos w z y h.z in
      let one = value-signed w sigma r h.sigma in
      let g0 = horner_forward f w sigma s (errorless r) wp (leaf_forward w sigma r h.sigma) 1 k q.0 in
      let g3 = horner_forward f w sigma s (errorless r) wp (leaf_forward w sigma r h.sigma) 2 k q.3 in
      let g1 = sum_forward xi_part 1 (suc k) q.1 in
      let g2 = sum_forward zeta_part 1 (suc (suc k)) q.2 in
      let g4 = sum_forward xi_part 2 (suc k) q.4 in
      let g5 = sum_forward zeta_part 2 (suc (suc k)) q.5 in
      let g6 = sum_forward dxi_part 1 (suc (suc (suc k))) q.6 in
      let g7 = sum_forward dzeta_part 1 (suc (suc (suc (suc k)))) q.7 in
      record {
        v0 =
            λ n. longer_most _ _ _ c.v0 b.v0 g0.above g0.size
            (tail_horner w r s t wp sp zp one h.nonnegative h.delta 1 k c.v0 half l.0 n) m.0;
        v1 =
            λ n. longer_most _ _ _ c.v1 b.v1 g1.0 g1.1
            (tail-v1 w r s t wp sp zp one h.nonnegative h.delta k c.v1 half l.1 n) m.1;
        v2 =
            λ n. longer_most _ _ _ c.v2 b.v2 g2.0 g2.1
            (tail-v2 w r s t wp sp zp one h.nonnegative h.delta k c.v2 half l.2 n) m.2;
        w0 =
            λ n. longer_most _ _ _ c.w0 b.w0 g3.above g3.size
            (tail_horner w r s t wp sp zp one h.nonnegative h.delta 2 k c.w0 half l.3 n) m.3;
        w1 =
            λ n. longer_most _ _ _ c.w1 b.w1 g4.0 g4.1
            (tail-w1 w r s t wp sp zp one h.nonnegative h.delta k c.w1 half l.4 n) m.4;
        w2 =
            λ n. longer_most _ _ _ c.w2 b.w2 g5.0 g5.1
            (tail-w2 w r s t wp sp zp one h.nonnegative h.delta k c.w2 half l.5 n) m.5;
        dv1 =
            λ n. longer_most _ _ _ c.dv1 b.dv1 g6.0 g6.1
            (tail-dv1 w r s t wp sp zp one h.nonnegative h.delta k c.dv1 half l.6 n) m.6;
        dv2 =
            λ n. longer_most _ _ _ c.dv2 b.dv2 g7.0 g7.1
            (tail-dv2 w r s t wp sp zp one h.nonnegative h.delta k c.dv2 half l.7 n) m.7;
      }

-- ---- the domain of the series
record SeriesSizes (f : Format) (sigma z : Float) : Type 0 where
  k : ℕ
  length : suc (suc (suc (suc k))) ≡ most_terms f
  sizes : SizesAtMost (2 ^ 100) (value_of sigma) (value_of z) k (coefficient_sizes f)

series_sizes : (f : Format) (sigma z : Float) → T (lt (coeffs_delta f sigma z) (series_below f)) → T (not (lt z f0))
    → SeriesSizes f sigma z
unfolding of_bits horner_no_overflow total_no_overflow term_no_overflow bound_horner bound_total bound_term factorial
series_sizes binary64 sigma z t p =
    let w = 2 ^ 100 in
    let r = 386880940757 * 2 ^ 62 in
    let y = 544521253035 * 2 ^ 62 in
    let h : InDomain w r y sigma z =
    domain binary64 w (1089042506069 * 2 ^ 61) r y sigma z 2230359052429091 (negsuc 49) (lit< tt) t p (lit≤ tt)
    (lit≤ tt) (lit≤ tt) in
    let c : Eight ℕ =
    record {
      v0 = 5 * 2 ^ 46;
      v1 = 19 * 2 ^ 44;
      v2 = 9 * 2 ^ 44;
      w0 = 15 * 2 ^ 40;
      w1 = 55 * 2 ^ 38;
      w2 = 25 * 2 ^ 38;
      dv1 = 23 * 2 ^ 41;
      dv2 = 11 * 2 ^ 40;
    } in
    record {
      k = 19;
      length = refl;
      sizes =
          sizes_at_most binary64 w r y 19 sigma z (lit< tt) (lit≤ tt) h c (coefficient_sizes binary64)
          (tt, tt, tt, tt, tt, tt, tt, tt)
          (lit≤ tt, lit≤ tt, lit≤ tt, lit≤ tt, lit≤ tt, lit≤ tt, lit≤ tt, lit≤ tt)
          (lit≤ tt, lit≤ tt, lit≤ tt, lit≤ tt, lit≤ tt, lit≤ tt, lit≤ tt, lit≤ tt);
    }
series_sizes binary32 sigma z t p =
    let w = 2 ^ 100 in
    let r = 211645900449 * 2 ^ 63 in
    let y = 651838265285 * 2 ^ 62 in
    let h : InDomain w r y sigma z =
    domain binary32 w (4973131 * 2 ^ 79) r y sigma z 4973131 (negsuc 20) (lit< tt) t p (lit≤ tt) (lit≤ tt) (lit≤ tt) in
    let c : Eight ℕ =
    record {
      v0 = 33 * 2 ^ 73;
      v1 = 15 * 2 ^ 74;
      v2 = 7 * 2 ^ 74;
      w0 = 5 * 2 ^ 72;
      w1 = 35 * 2 ^ 69;
      w2 = 15 * 2 ^ 69;
      dv1 = 35 * 2 ^ 70;
      dv2 = 33 * 2 ^ 68;
    } in
    record {
      k = 11;
      length = refl;
      sizes =
          sizes_at_most binary32 w r y 11 sigma z (lit< tt) (lit≤ tt) h c (coefficient_sizes binary32)
          (tt, tt, tt, tt, tt, tt, tt, tt)
          (lit≤ tt, lit≤ tt, lit≤ tt, lit≤ tt, lit≤ tt, lit≤ tt, lit≤ tt, lit≤ tt)
          (lit≤ tt, lit≤ tt, lit≤ tt, lit≤ tt, lit≤ tt, lit≤ tt, lit≤ tt, lit≤ tt);
    }

-- ---- the coefficients as leaves: their errors are those of the series, their sizes those of sums of k terms and more
pub sized_within : (f : Format) (sigma z : Float) (v : Values) (k i : ℕ) (b : Eight ℕ)
    → T (lt (coeffs_delta f sigma z) (series_below f)) → T (not (lt z f0)) → suc (suc (suc (suc k))) + i ≡ most_terms f
    → SizesAtMost (2 ^ 100) (value_of sigma) (value_of z) k b → (n : ℕ)
    → EightWithin (2 ^ 100) (eight_of (coeffs_scaled f sigma z v).c)
    (exact_eight (value_of sigma) (value_of z) (most_terms f + n)) (with_errors f b)
sized_within f sigma z v k i b t p e g n =
    let c = ((coefficients f).scaled sigma z v).eight t p in
    let s = value_of sigma in
    let u = value_of z in
    let M = most_terms f in
    let w = 2 ^ 100 in
    let h = horner_above s u (value-above sigma) (value-above z) in
    let a = total-above s u (value-above sigma) (value-above z) in
    record {
      v0 =
          record {
            close = c.v0 n;
            size = from (λ j. AtMost w (exact_horner s 1 j) b.v0) k (4 + i) M (omega (arith, e))
                g.v0 n;
            above = h 1 (M + n);
          };
      v1 =
          record {
            close = c.v1 n;
            size = from (λ j. AtMost w (exact_total (exact_term s u xi_part 1) j) b.v1)
                (suc k) (3 + i) M (omega (arith, e)) g.v1 n;
            above = a xi_part 1 (M + n);
          };
      v2 =
          record {
            close = c.v2 n;
            size = from (λ j. AtMost w (exact_total (exact_term s u zeta_part 1) j) b.v2)
                (suc (suc k)) (2 + i) M (omega (arith, e)) g.v2 n;
            above = a zeta_part 1 (M + n);
          };
      w0 =
          record {
            close = c.w0 n;
            size = from (λ j. AtMost w (exact_horner s 2 j) b.w0) k (4 + i) M (omega (arith, e))
                g.w0 n;
            above = h 2 (M + n);
          };
      w1 =
          record {
            close = c.w1 n;
            size = from (λ j. AtMost w (exact_total (exact_term s u xi_part 2) j) b.w1)
                (suc k) (3 + i) M (omega (arith, e)) g.w1 n;
            above = a xi_part 2 (M + n);
          };
      w2 =
          record {
            close = c.w2 n;
            size = from (λ j. AtMost w (exact_total (exact_term s u zeta_part 2) j) b.w2)
                (suc (suc k)) (2 + i) M (omega (arith, e)) g.w2 n;
            above = a zeta_part 2 (M + n);
          };
      dv1 =
          record {
            close = c.dv1 n;
            size = from (λ j. AtMost w (exact_total (exact_term s u dxi_part 1) j) b.dv1)
                (suc (suc (suc k))) (1 + i) M (omega (arith, e)) g.dv1 n;
            above = a dxi_part 1 (M + n);
          };
      dv2 =
          record {
            close = c.dv2 n;
            size = from (λ j. AtMost w (exact_total (exact_term s u dzeta_part 1) j) b.dv2)
                (suc (suc (suc (suc k)))) i M (omega (arith, e)) g.dv2 n;
            above = a dzeta_part 1 (M + n);
          };
    }

-- what specs/CoefficientSizes.antt states
pub coefficient_sizes_hold : (f : Format) → CoefficientSizesTheorem f
coefficient_sizes_hold f =
    record {
      sizes =
          λ sigma z v t p n.
          let q = series_sizes f sigma z t p in
          let e = q.length in
          sized_within f sigma z v q.k 0 (coefficient_sizes f) t p (omega (arith, e)) q.sizes n;
    }
