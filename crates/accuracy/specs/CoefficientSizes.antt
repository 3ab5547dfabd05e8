-- The coefficients below the limit of the series with their sizes, as leaves of further trees: each within its error of
-- every exact sum of as many terms or more, and that sum at most its size.
use Rattle.std.specs.Prelude.{ℕ, ◌+◌, ◌*◌, ◌^◌, not, T, Float}
use Rattle.std.specs.Float.{Format, binary32, binary64}
use Rattle.std.specs.Float.Ieee.{lt}
use Rattle.ieee.specs.Numbers.{f0}
use Rattle.series.specs.Floats.{Sim3Coeffs}
use Rattle.arms.specs.Limits.{coeffs_delta, series_below}
use Rattle.arms.specs.Floats.{Values}
use Rattle.coeffs.specs.Group.{coeffs_scaled}
use Rattle.rounding.specs.Value.{Value, value_of}
use Rattle.rounding.specs.Tree.{Bound, ForwardError}
use Rattle.accuracy.specs.Series.{Eight, xi_part, zeta_part, dxi_part, dzeta_part, exact_term, exact_total}
use Rattle.accuracy.specs.Series.{exact_horner, most_terms, series_errors}

abbrev pub eight_of : Sim3Coeffs → Eight Float
eight_of c = record { v0 = c.v0; v1 = c.v1; v2 = c.v2; w0 = c.w0; w1 = c.w1; w2 = c.w2; dv1 = c.dv1; dv2 = c.dv2 }

-- the exact sums of m terms at σ and z
abbrev pub exact_eight : Value → Value → ℕ → Eight Value
exact_eight s t m =
    record {
      v0 = exact_horner s 1 m;
      v1 = exact_total (exact_term s t xi_part 1) m;
      v2 = exact_total (exact_term s t zeta_part 1) m;
      w0 = exact_horner s 2 m;
      w1 = exact_total (exact_term s t xi_part 2) m;
      w2 = exact_total (exact_term s t zeta_part 2) m;
      dv1 = exact_total (exact_term s t dxi_part 1) m;
      dv2 = exact_total (exact_term s t dzeta_part 1) m;
    }

-- each is finite and within its error of the exact one, and that one at most its size
pub record EightWithin (w : ℕ) (x : Eight Float) (y : Eight Value) (b : Eight Bound) : Type 0 where
  pub v0 : ForwardError w x.v0 y.v0 b.v0
  pub v1 : ForwardError w x.v1 y.v1 b.v1
  pub v2 : ForwardError w x.v2 y.v2 b.v2
  pub w0 : ForwardError w x.w0 y.w0 b.w0
  pub w1 : ForwardError w x.w1 y.w1 b.w1
  pub w2 : ForwardError w x.w2 y.w2 b.w2
  pub dv1 : ForwardError w x.dv1 y.dv1 b.dv1
  pub dv2 : ForwardError w x.dv2 y.dv2 b.dv2

-- in units of 2^-100
abbrev pub coefficient_sizes : Format → Eight ℕ
coefficient_sizes binary32 =
    record {
      v0 = 5 * 2 ^ 99;
      v1 = 2 ^ 101;
      v2 = 3 * 2 ^ 98;
      w0 = 2 ^ 100;
      w1 = 2 ^ 99;
      w2 = 2 ^ 97;
      dv1 = 3 * 2 ^ 96;
      dv2 = 5 * 2 ^ 93;
    }
coefficient_sizes binary64 =
    record {
      v0 = 9 * 2 ^ 98;
      v1 = 7 * 2 ^ 98;
      v2 = 5 * 2 ^ 97;
      w0 = 7 * 2 ^ 97;
      w1 = 2 ^ 99;
      w2 = 2 ^ 97;
      dv1 = 3 * 2 ^ 96;
      dv2 = 2 ^ 95;
    }

abbrev pub sized : ℕ → ℕ → Bound
sized b e = record { magnitude = b; error = e }

-- sums of at most b, within their errors below the limit of the series
abbrev pub with_errors : Format → Eight ℕ → Eight Bound
with_errors f b =
    let e = series_errors f in
    record {
      v0 = sized b.v0 e.v0;
      v1 = sized b.v1 e.v1;
      v2 = sized b.v2 e.v2;
      w0 = sized b.w0 e.w0;
      w1 = sized b.w1 e.w1;
      w2 = sized b.w2 e.w2;
      dv1 = sized b.dv1 e.dv1;
      dv2 = sized b.dv2 e.dv2;
    }

abbrev pub coefficient_bounds : Format → Eight Bound
coefficient_bounds f = with_errors f (coefficient_sizes f)

pub record CoefficientSizesTheorem (f : Format) : Type 0 where
  -- where the computed Δ is below the limit of the series and z not below zero
  pub sizes : (sigma z : Float) (v : Values) → T (lt (coeffs_delta f sigma z) (series_below f)) → T (not (lt z f0))
      → (n : ℕ) →
      EightWithin (2 ^ 100) (eight_of (coeffs_scaled f sigma z v).c)
      (exact_eight (value_of sigma) (value_of z) (most_terms f + n)) (coefficient_bounds f)
