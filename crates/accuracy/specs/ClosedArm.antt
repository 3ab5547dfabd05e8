-- The closed arm from the values that are handed in: the circle functions, by their rows below their limits and by
-- their exact forms above; and what is proved of the coefficients then.
use Rattle.std.specs.Prelude.{ℕ, suc, ◌+◌, ◌*◌, ◌^◌, ◌≡◌, Bool, not, cond, ◌||◌, T, Float}
use Rattle.std.specs.Float.{Format, binary32, binary64}
use Rattle.std.specs.Float.Ieee.{lt, le}
use Rattle.ieee.specs.Numbers.{f0, f1, f2, half}
use Rattle.series.specs.Series.{coeffs_delta, w0_terms}
use Rattle.series.specs.Floats.{Sim3Coeffs}
use Rattle.tables.specs.Tables.{Row, cos_half_row, k_row, a_row, b_row, d_row, row_rule}
use Rattle.circle.specs.Limits.{row_limit, five_short_limit}
use Rattle.arms.specs.Limits.{form_b_below}
use Rattle.arms.specs.Arm.{coeffs_arm, arm_ends}
use Rattle.arms.specs.Floats.{Values}
use Rattle.coeffs.specs.Group.{coeffs_scaled}
use Rattle.rounding.specs.Value.{Value, minus, times, ratio, value_of, AtLeast}
use Rattle.rounding.specs.Tree.{Bound, prod_bound, ForwardError}
use Rattle.rounding.specs.Leaves.{Bounded, errorless}
use Rattle.accuracy.specs.Series.{Eight}
use Rattle.accuracy.specs.Rows.{exact_row}
use Rattle.accuracy.specs.ClosedForm.{Handed, handed, HandedWithin, exact_inputs, unit, closed_holds, ClosedError}

-- ---- the exact values: θ, sin(θ/2), cos(θ/2), sin θ, e^-|σ| and e^-|σ| - 1
pub record Given (A : Type 0) : Type 0 where
  pub root : A
  pub sin_half : A
  pub cos_half : A
  pub sin : A
  pub e : A
  pub m : A

-- whether z is below the limit of a row, or below that of all
abbrev pub by_row : Format → Row → Float → Bool
by_row f row z = lt z (five_short_limit f) || lt z (row_limit f row)

-- the sum of n terms of a row there, and its exact form elsewhere
abbrev pub exact_member : Format → Row → Float → ℕ → Value → Value
exact_member f row z n form = cond (by_row f row z) (exact_row (row_rule row) (value_of z) 0 n) form

-- 2 sin²(θ/2) / z
abbrev pub exact_a : Float → Value → Value
exact_a z s = ratio (times (times (value_of f2) s) s) (value_of z)

unfoldable pub exact_handed : Format → Float → Given Value → ℕ → Handed Value
exact_handed f z h n =
    let k = exact_member f k_row z n (ratio h.sin_half h.root) in
    let c = exact_member f cos_half_row z n h.cos_half in
    let a = exact_a z h.sin_half in
    record {
      e = h.e;
      m = h.m;
      a = exact_member f a_row z n a;
      b = exact_member f b_row z n (ratio (minus (value_of f1) (ratio h.sin h.root)) (value_of z));
      sinc = times (times (value_of f2) k) c;
      d = exact_member f d_row z n (ratio (minus (value_of half) a) (value_of z));
    }

-- ---- the bounds, in units of 2^-100
-- what is handed in is within one unit in the last place of the largest that it can be
abbrev pub given_bound : ℕ → Given Bound
given_bound u =
    record {
      root = record { magnitude = 811 * 2 ^ 93; error = 8 * u };
      sin_half = record { magnitude = 2 ^ 100; error = u };
      cos_half = record { magnitude = 2 ^ 100; error = u };
      sin = record { magnitude = 2 ^ 100; error = u };
      e = record { magnitude = 2 ^ 100; error = u };
      m = record { magnitude = 2 ^ 100; error = u };
    }

abbrev pub given_errors : Format → Given Bound
given_errors binary32 = given_bound (2 ^ 76)
given_errors binary64 = given_bound (2 ^ 47)

-- of the members of the rows
abbrev pub member_bound : Format → Row → Bound
member_bound binary32 cos_half_row = record { magnitude = 7 * 2 ^ 98; error = 2 ^ 79 }
member_bound binary32 k_row = record { magnitude = 3 * 2 ^ 98; error = 2 ^ 77 }
member_bound binary32 a_row = record { magnitude = 17 * 2 ^ 96; error = 2 ^ 78 }
member_bound binary32 b_row = record { magnitude = 17 * 2 ^ 94; error = 2 ^ 76 }
member_bound binary32 d_row = record { magnitude = 2 ^ 97; error = 2 ^ 75 }
member_bound binary64 cos_half_row = record { magnitude = 7 * 2 ^ 98; error = 2 ^ 50 }
member_bound binary64 k_row = record { magnitude = 3 * 2 ^ 98; error = 2 ^ 48 }
member_bound binary64 a_row = record { magnitude = 13 * 2 ^ 96; error = 2 ^ 49 }
member_bound binary64 b_row = record { magnitude = 2 ^ 98; error = 2 ^ 47 }
member_bound binary64 d_row = record { magnitude = 2 ^ 97; error = 2 ^ 46 }

abbrev pub handed_errors : Format → Handed Bound
handed_errors f =
    record {
      e = (given_errors f).e;
      m = (given_errors f).m;
      a = member_bound f a_row;
      b = member_bound f b_row;
      sinc =
          prod_bound f unit (prod_bound f unit (errorless (2 * unit)) (member_bound f k_row))
          (member_bound f cos_half_row);
      d = member_bound f d_row;
    }

-- of the coefficients: |σ| up to 1 and z up to 10, more than π²; and |σ| up to 4 and z up to 40, more than (2π)²
abbrev pub half_turn_errors : Format → Eight ℕ
half_turn_errors binary32 =
    record { v0 = 2 ^ 80; v1 = 2 ^ 83; v2 = 2 ^ 82; w0 = 2 ^ 81; w1 = 2 ^ 84; w2 = 2 ^ 83; dv1 = 2 ^ 82; dv2 = 2 ^ 81 }
half_turn_errors binary64 =
    record { v0 = 2 ^ 51; v1 = 2 ^ 54; v2 = 2 ^ 53; w0 = 2 ^ 52; w1 = 2 ^ 55; w2 = 2 ^ 55; dv1 = 2 ^ 53; dv2 = 2 ^ 53 }

abbrev pub half_turn_chi : Format → ℕ
half_turn_chi binary32 = 2 ^ 85
half_turn_chi binary64 = 2 ^ 56

abbrev pub turn_errors : Format → Eight ℕ
turn_errors binary32 =
    record { v0 = 2 ^ 80; v1 = 2 ^ 86; v2 = 2 ^ 84; w0 = 2 ^ 85; w1 = 2 ^ 89; w2 = 2 ^ 87; dv1 = 2 ^ 86; dv2 = 2 ^ 84 }
turn_errors binary64 =
    record { v0 = 2 ^ 51; v1 = 2 ^ 58; v2 = 2 ^ 55; w0 = 2 ^ 56; w1 = 2 ^ 60; w2 = 2 ^ 58; dv1 = 2 ^ 57; dv2 = 2 ^ 55 }

abbrev pub turn_chi : Format → ℕ
turn_chi binary32 = 2 ^ 88
turn_chi binary64 = 2 ^ 59

-- as many terms as the longest row has
abbrev pub row_most : Format → ℕ
row_most binary32 = 9
row_most binary64 = 12

-- ---- what is proved
-- z is from 0 to 40, what is handed in is within its bounds of exact values h, and θ is at least 11/4 where it divides
pub record GivenWithin (f : Format) (z : Float) (v : Values) (h : Given Value) : Type 0 where
  pub nonnegative : T (not (lt z f0))
  pub most : Bounded unit z (5 * 2 ^ 103)
  pub root : ForwardError unit v.root h.root (given_errors f).root
  pub sin_half : ForwardError unit v.sin_half h.sin_half (given_errors f).sin_half
  pub cos_half : ForwardError unit v.cos_half h.cos_half (given_errors f).cos_half
  pub sin : ForwardError unit v.sin h.sin (given_errors f).sin
  pub e : ForwardError unit v.e h.e (given_errors f).e
  pub m : ForwardError unit v.m h.m (given_errors f).m
  pub least : T (not (by_row f k_row z) || not (by_row f b_row z)) → AtLeast unit h.root (11 * 2 ^ 98)

-- c are the coefficients at σ and z on the closed arm, |σ| at most s and z at most y: each is within its bound of the
-- closed form of the exact values, with every sum of a row and of the series of v₀ and w₀ of as many terms or more
abbrev pub ClosedArmIn : Format → ℕ → ℕ → Eight ℕ → ℕ → Float → Float → Values → Sim3Coeffs → Type 0
ClosedArmIn f s y e g sigma z v c =
    let delta = coeffs_delta f sigma z in
    coeffs_arm f delta ≡ 5 → Bounded unit sigma s → Bounded unit z y →
    (h : Given Value) → GivenWithin f z v h → (n i : ℕ) →
    ClosedError c (le (form_b_below f) delta)
    (exact_inputs sigma z (exact_handed f z h (row_most f + i)) (arm_ends f sigma 5) (suc (w0_terms f) + n)) e g

-- the same in every box whose bounds are computed to be at most e and g
abbrev pub ClosedArmAccurate : Format → Float → Float → Values → Sim3Coeffs → Type 0
ClosedArmAccurate f sigma z v c =
    (s y : ℕ) (e : Eight ℕ) (g : ℕ) → T (closed_holds f s y (handed_errors f) e g) → ClosedArmIn f s y e g sigma z v c

pub record ClosedArmTheorem (f : Format) : Type 0 where
  -- what is handed in and the circle functions
  pub circle : (z : Float) (v : Values) (h : Given Value) → GivenWithin f z v h → (i : ℕ) →
      HandedWithin unit (handed f z v) (exact_handed f z h (row_most f + i)) (handed_errors f)
  -- the coefficients
  pub coefficients : (sigma z : Float) (v : Values) → ClosedArmAccurate f sigma z v (coeffs_scaled f sigma z v).c
  pub half_turn : (sigma z : Float) (v : Values) →
      ClosedArmIn f (2 ^ 100) (5 * 2 ^ 101) (half_turn_errors f) (half_turn_chi f) sigma z v
      (coeffs_scaled f sigma z v).c
  pub turn : (sigma z : Float) (v : Values) →
      ClosedArmIn f (2 ^ 102) (5 * 2 ^ 103) (turn_errors f) (turn_chi f) sigma z v (coeffs_scaled f sigma z v).c
