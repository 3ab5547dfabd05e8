-- The circle functions and the coefficients on the closed arm, from what is handed in. Assumes nothing.
use mathlib.Core.Path.{◌≡◌, refl, subst₂}
use mathlib.Core.Bool.{Bool, true, false, not, ◌&&◌, ◌||◌, cond}
use mathlib.Core.List.{List, [], ◌∷◌}
use Prim.Native.Nat.{ℕ, zero, suc, ◌+◌, ◌-◌, ◌*◌, ◌/◌, ◌^◌, ◌≤◌}
use native.Mathlib.Nat.{mul-le-mul, mul-le-mul_right}
use native.Mathlib.Omega.{arith}
use lib.Dec.{T, eqb, eqb→eq, leb, leb→le, lit<}
use lib.Ieee.{Float, nan, inf, fin, Format, binary32, binary64, sub, mul, div, lt, of_bits}
use lib.Ieee.Fits.{and_l, and_r}
use Rattle.ieee.specs.Numbers.{f0, f1, f2, half}
use Rattle.ieee.specs.Table.{factorial, entries}
use Rattle.tables.specs.Tables.{Row, cos_half_row, k_row, a_row, b_row, d_row, row_rule, row_table}
use Rattle.circle.specs.Limits.{row_limit, row_terms, five_short_limit}
use Rattle.circle.specs.Kernel.{horner_sum, row_series, row_short, row_whole, row_own, row_member, exact_b, exact_d}
use Rattle.circle.specs.Kernel.{sinc_from, circle_sinc_abd}
use Rattle.circle.specs.Kernel as Kernel
use Rattle.arms.specs.Floats.{Values}
use Rattle.coeffs.specs.Group.{coeffs_scaled}
use Rattle.rounding.specs.Value.{Value, minus, times, ratio, value_of, AtLeast}
use Rattle.rounding.specs.Tree.{Term, leaf, prod, quot, diff, computed, exact, Bound, upward, prod_reach, prod_bound}
use Rattle.rounding.specs.Tree.{bound, in_range, well_defined, DivisorsAtLeast, ForwardError}
use Rattle.rounding.specs.Leaves.{Bounded, nth, no_bound, errorless}
use Rattle.rounding.proofs.Differences.{expand}
use Rattle.rounding.proofs.Forward.{forward_prod}
use Rattle.rounding.proofs.Leaves.{leaf_forward, AllForwardError, nth_forward, two_bounded}
use Rattle.rounding.proofs.Quotients.{forward_error-divided}
use Rattle.accuracy.specs.Rows.{exact_row, row_bound, row_no_overflow, rest_unit, rest_most}
use Rattle.accuracy.specs.ClosedForm.{HandedWithin, handed, unit, ends_hold, forms_hold, delta_holds}
use Rattle.accuracy.specs.ClosedArm.{Given, by_row, exact_member, exact_a, exact_handed, given_errors, member_bound}
use Rattle.accuracy.specs.ClosedArm.{handed_errors, row_most, GivenWithin, ClosedArmAccurate, ClosedArmTheorem}
use Rattle.accuracy.proofs.Series.{one_forward}
use Rattle.accuracy.proofs.Rows.{one-num, row_dens, cos_ratio, k_ratio, bounded_below, row_in}
use Rattle.accuracy.proofs.ClosedForm.{forward_wider, half_bounded, plain_limit, limit_at_least, closed_accurate}

-- ---- limits
abbrev limit_units : Float → ℕ
limit_units L = unit * (value_of L).p / (value_of L).d

limit_below : (w x : ℕ) (z L : Float) → T (plain_limit L) → T (lt z L) → T (not (lt z f0))
    → w * (value_of L).p ≤ x * (value_of L).d → Bounded w z x
unfolding value_of
limit_below w x z nan p t h k = absurd p
limit_below w x z (inf s) p t h k = absurd p
limit_below w x z (fin true n d) p t h k = absurd p
limit_below w x z (fin false n d) p t h k = bounded_below w x z n d t h k

-- ---- one arm of a row, k terms more than one, for z of at most y
abbrev short_last : Format → ℕ
short_last binary32 = 2
short_last binary64 = 4

abbrev rest_of : Row → ℕ → ℕ → ℕ
rest_of row y k = upward (rest_unit unit (row_rule row) 0 k) (unit * rest_most y k)

abbrev all_of : List Bool → Bool
all_of [] = true
all_of (b ∷ l) = b && all_of l

each : (l : List Bool) → T (all_of l) → (i : ℕ) → T (nth true l i)
each [] t i = tt
each (b ∷ l) t zero = and_l b (all_of l) t
each (b ∷ l) t (suc i) = each l (and_r b (all_of l) t) i

abbrev row_tests : Format → Row → ℕ → ℕ → List Bool
row_tests f row y k =
    let b = row_bound f unit (row_rule row) (errorless y) 0 k in
    let c = rest_of row y k in
    row_no_overflow f unit (row_rule row) (errorless y) 0 k
    ∷ leb (unit * rest_most y k) (c * rest_unit unit (row_rule row) 0 k)
    ∷ leb (b.error + c) (member_bound f row).error
    ∷ leb (b.magnitude + c) (member_bound f row).magnitude
    ∷ leb y (15 * unit)
    ∷ []

next_two : (w y F a b : ℕ) → y ≤ 15 * w → 6 ≤ a → 5 ≤ b → F * (y * 2) ≤ w * (a * (b * F))
next_two w y F a b h ha hb =
    let x = mul-le-mul_right (F * 2) h in
    let q : 6 * 5 ≤ a * b = mul-le-mul ha hb in
    let k = mul-le-mul_right (w * F) q in
    simp expand (omega (arith, simp expand at x, simp expand at k))

later_den : (w y m n : ℕ) → y ≤ 15 * w → 4 ≤ m → n ≡ suc (suc m) → factorial m * (y * 2) ≤ w * factorial n
unfolding factorial
later_den w y m n h l e =
    rw e (next_two w y (factorial m) (suc (suc m)) (suc m) h (omega (arith, l)) (omega (arith, l)))

row_ratio : (row : Row) (w y : ℕ) → y ≤ 15 * w → (i : ℕ)
    → (row_rule row (suc i)).den * (y * 2) ≤ w * (row_rule row (suc (suc i))).den
unfolding row_rule
row_ratio cos_half_row w y h i = cos_ratio w y (omega (arith, h)) i
row_ratio k_row w y h i = k_ratio w y (omega (arith, h)) i
row_ratio a_row w y h i = later_den w y (2 * suc i + 2) (2 * suc (suc i) + 2) h (omega arith) (omega arith)
row_ratio b_row w y h i = later_den w y (2 * suc i + 3) (2 * suc (suc i) + 3) h (omega arith) (omega arith)
row_ratio d_row w y h i = later_den w y (2 * suc i + 4) (2 * suc (suc i) + 4) h (omega arith) (omega arith)

arm_forward : (f : Format) (row : Row) (y k : ℕ) → T (all_of (row_tests f row y k)) → (z : Float) → Bounded unit z y
    → (n : ℕ)
    → ForwardError unit (horner_sum f z (entries f (row_rule row) 0 (suc k)))
    (exact_row (row_rule row) (value_of z) 0 (suc (k + n))) (member_bound f row)
arm_forward f row y k t z h n =
    let b = row_bound f unit (row_rule row) (errorless y) 0 k in
    let c = rest_of row y k in
    let B = member_bound f row in
    let q = each (row_tests f row y k) t in
    row_in f unit y k c B.error B.magnitude (row_rule row) (one-num row) (row_dens row)
    (row_ratio row unit y (leb→le y (15 * unit) (q 4))) (lit< tt) z h (q 0)
    (leb→le (unit * rest_most y k) (c * rest_unit unit (row_rule row) 0 k) (q 1))
    (leb→le (b.error + c) B.error (q 2)) (leb→le (b.magnitude + c) B.magnitude (q 3)) n

-- ---- a member of the group: short, whole, or by its exact form
abbrev whole_last : Format → Row → ℕ
whole_last f row = row_terms f row - 1

abbrev limit_tests : Float → List Bool
limit_tests L =
    plain_limit L ∷ leb (unit * (value_of L).p) (limit_units L * (value_of L).d)
    ∷ leb ((limit_units L + 0) * (value_of L).d) (unit * (value_of L).p)
    ∷ []

abbrev member_tests : Format → Row → List Bool
member_tests f row =
    all_of (limit_tests (five_short_limit f)) ∷ all_of (limit_tests (row_limit f row))
    ∷ all_of (row_tests f row (limit_units (five_short_limit f)) (short_last f))
    ∷ all_of (row_tests f row (limit_units (row_limit f row)) (whole_last f row))
    ∷ eqb (suc (short_last f + (row_most f - suc (short_last f)))) (row_most f)
    ∷ eqb (suc (whole_last f row + (row_most f - suc (whole_last f row)))) (row_most f)
    ∷ []

member_hold : (f : Format) (row : Row) → T (all_of (member_tests f row))
unfolding row_no_overflow row_bound rest_unit rest_most row_rule factorial of_bits value_of
member_hold binary32 cos_half_row = tt
member_hold binary32 k_row = tt
member_hold binary32 a_row = tt
member_hold binary32 b_row = tt
member_hold binary32 d_row = tt
member_hold binary64 cos_half_row = tt
member_hold binary64 k_row = tt
member_hold binary64 a_row = tt
member_hold binary64 b_row = tt
member_hold binary64 d_row = tt

abbrev AreSums : Format → Row → Float → Type 0
AreSums f row z =
    (horner_sum f z (entries f (row_rule row) 0 (suc (short_last f))) ≡ row_short f row z)
    × (horner_sum f z (entries f (row_rule row) 0 (suc (whole_last f row))) ≡ row_whole f row z)

are_sums : (f : Format) (row : Row) (z : Float) → AreSums f row z
unfolding row_short row_whole row_series row_table entries
are_sums binary32 cos_half_row z = (refl, refl)
are_sums binary32 k_row z = (refl, refl)
are_sums binary32 a_row z = (refl, refl)
are_sums binary32 b_row z = (refl, refl)
are_sums binary32 d_row z = (refl, refl)
are_sums binary64 cos_half_row z = (refl, refl)
are_sums binary64 k_row z = (refl, refl)
are_sums binary64 a_row z = (refl, refl)
are_sums binary64 b_row z = (refl, refl)
are_sums binary64 d_row z = (refl, refl)

later : (k m i : ℕ) → suc (k + (m - suc k)) ≡ m → suc (k + (m - suc k + i)) ≡ m + i
later k m i e = omega (arith, e)

z_least : (z L : Float) (y : ℕ) → T (all_of (limit_tests L)) → Bounded unit z y → T (not (lt z L))
    → AtLeast unit (value_of z) (limit_units L)
z_least z L y t h k =
    let q = each (limit_tests L) t in
    limit_at_least unit (limit_units L) 0 z (value_of z) L (q 0) (leaf_forward unit z y h).close k
    (leb→le ((limit_units L + 0) * (value_of L).d) (unit * (value_of L).p) (q 2))

module _ (f : Format) (row : Row) (z : Float) (p : T (not (lt z f0))) (E : Float) (x : Value) (i : ℕ)
    (h : T (not (by_row f row z)) → ForwardError unit E x (member_bound f row)) where
  arm : (L : Float) (k : ℕ) (y : Float) → T (all_of (limit_tests L)) → T (all_of (row_tests f row (limit_units L) k))
      → suc (k + (row_most f - suc k)) ≡ row_most f
      → horner_sum f z (entries f (row_rule row) 0 (suc k)) ≡ y → T (lt z L)
      → ForwardError unit y (exact_row (row_rule row) (value_of z) 0 (row_most f + i)) (member_bound f row)
  arm L k y tl tr e q t =
      let l = each (limit_tests L) tl in
      let b =
      limit_below unit (limit_units L) z L (l 0) t p
      (leb→le (unit * (value_of L).p) (limit_units L * (value_of L).d) (l 1)) in
      subst₂ (λ (u : Float) (n : ℕ). ForwardError unit u (exact_row (row_rule row) (value_of z) 0 n)
      (member_bound f row)) q (later k (row_most f) i e)
      (arm_forward f row (limit_units L) k tr z b (row_most f - suc k + i))

  member_forward : ForwardError unit (row_member f (lt z (five_short_limit f)) row z E)
      (exact_member f row z (row_most f + i) x) (member_bound f row)
  unfolding row_member row_own
  member_forward =
      let t = each (member_tests f row) (member_hold f row) in
      let s = are_sums f row z in
      go (lt z (five_short_limit f)) (lt z (row_limit f row))
      (arm (five_short_limit f) (short_last f) (row_short f row z) (t 0) (t 2)
      (eqb→eq (suc (short_last f + (row_most f - suc (short_last f)))) (row_most f) (t 4)) s.0)
      (arm (row_limit f row) (whole_last f row) (row_whole f row z) (t 1) (t 3)
      (eqb→eq (suc (whole_last f row + (row_most f - suc (whole_last f row)))) (row_most f) (t 5)) s.1)
      h
    where
      go : (a b : Bool)
          → (T a → ForwardError unit (row_short f row z) (exact_row (row_rule row) (value_of z) 0 (row_most f + i))
          (member_bound f row))
          → (T b → ForwardError unit (row_whole f row z) (exact_row (row_rule row) (value_of z) 0 (row_most f + i))
          (member_bound f row))
          → (T (not (a || b)) → ForwardError unit E x (member_bound f row))
          → ForwardError unit (cond a (row_short f row z) (cond b (row_whole f row z) E))
          (cond (a || b) (exact_row (row_rule row) (value_of z) 0 (row_most f + i)) x) (member_bound f row)
      go true b k l m = k tt
      go false true k l m = l tt
      go false false k l m = m tt

-- ---- the exact forms, over 2, 1, 1/2, z, θ, sin(θ/2) and sin θ
abbrev least_root : ℕ
least_root = 11 * 2 ^ 98

abbrev a_tree : ℕ → Term
a_tree l = quot l (prod (prod (leaf 0) (leaf 5)) (leaf 5)) (leaf 3)

abbrev form_tree : Format → Row → Term
form_tree f cos_half_row = leaf 7
form_tree f k_row = quot least_root (leaf 5) (leaf 4)
form_tree f a_row = a_tree (limit_units (row_limit f a_row))
form_tree f b_row = quot (limit_units (row_limit f b_row)) (diff (leaf 1) (quot least_root (leaf 6) (leaf 4))) (leaf 3)
form_tree f d_row =
    quot (limit_units (row_limit f d_row)) (diff (leaf 2) (a_tree (limit_units (row_limit f d_row)))) (leaf 3)

abbrev form_bounds : Format → List Bound
form_bounds f =
    let g = given_errors f in
    errorless (2 * unit) ∷ errorless unit ∷ errorless (2 ^ 99) ∷ errorless (5 * 2 ^ 103) ∷ g.root ∷ g.sin_half ∷ g.sin
    ∷ g.cos_half ∷ []

abbrev form_tests : Format → Row → List Bool
form_tests f row =
    let b = nth no_bound (form_bounds f) in
    let t = form_tree f row in
    well_defined f unit b t
    ∷ leb (bound f unit b t).magnitude (member_bound f row).magnitude
    ∷ leb (bound f unit b t).error (member_bound f row).error
    ∷ []

form_hold : (f : Format) (row : Row) → T (all_of (form_tests f row))
unfolding well_defined bound of_bits value_of
form_hold binary32 cos_half_row = tt
form_hold binary32 k_row = tt
form_hold binary32 a_row = tt
form_hold binary32 b_row = tt
form_hold binary32 d_row = tt
form_hold binary64 cos_half_row = tt
form_hold binary64 k_row = tt
form_hold binary64 a_row = tt
form_hold binary64 b_row = tt
form_hold binary64 d_row = tt

abbrev sinc_tests : Format → List Bool
sinc_tests f =
    let k = prod_bound f unit (errorless (2 * unit)) (member_bound f k_row) in
    in_range f unit (prod_reach unit (errorless (2 * unit)) (member_bound f k_row)) ∷ in_range f unit
    (prod_reach unit k (member_bound f cos_half_row)) ∷ []

sinc_hold : (f : Format) → T (all_of (sinc_tests f))
sinc_hold binary32 = tt
sinc_hold binary64 = tt

not_right : (a b : Bool) → T (not (a || b)) → T (not b)
not_right true b t = absurd t
not_right false b t = t

or_left : (a b : Bool) → T a → T (a || b)
or_left true b t = tt
or_left false b t = absurd t

or_right : (a b : Bool) → T b → T (a || b)
or_right true b t = tt
or_right false b t = t

module _ (f : Format) (z : Float) (v : Values) (h : Given Value) (g : GivenWithin f z v h) where
  abbrev floats : List Float
  floats = f2 ∷ f1 ∷ half ∷ z ∷ v.root ∷ v.sin_half ∷ v.sin ∷ v.cos_half ∷ []

  abbrev values : List Value
  values = value_of f2 ∷ value_of f1 ∷ value_of half ∷ value_of z ∷ h.root ∷ h.sin_half ∷ h.sin ∷ h.cos_half ∷ []

  abbrev FormWithin : Row → Type 0
  FormWithin row =
      ForwardError unit (computed f (nth f0 floats) (form_tree f row))
      (exact (nth (value_of f0) values) (form_tree f row)) (member_bound f row)

  form_within : (row : Row) → DivisorsAtLeast unit (nth (value_of f0) values) (form_tree f row) → FormWithin row
  form_within row d =
      let t = form_tree f row in
      let q = each (form_tests f row) (form_hold f row) in
      let all : AllForwardError unit floats values (form_bounds f) = (
        leaf_forward unit f2 (2 * unit) (two_bounded unit),
        (
          one_forward unit,
          (
            leaf_forward unit half (2 ^ 99) half_bounded,
            (leaf_forward unit z (5 * 2 ^ 103) g.most, (g.root, (g.sin_half, (g.sin, (g.cos_half, tt))))),
          ),
        ),
      ) in
      let b = bound f unit (nth no_bound (form_bounds f)) t in
      let B = member_bound f row in
      forward_wider unit (computed f (nth f0 floats) t) (exact (nth (value_of f0) values) t) b B
      (leb→le b.magnitude B.magnitude (q 1)) (leb→le b.error B.error (q 2))
      (forward_error-divided f unit (nth f0 floats) (nth (value_of f0) values) (nth no_bound (form_bounds f)) (lit< tt)
      (nth_forward unit floats values (form_bounds f) all) t (q 0) d)

  above : (row : Row) → T (not (by_row f row z)) → AtLeast unit (value_of z) (limit_units (row_limit f row))
  above row t =
      z_least z (row_limit f row) (5 * 2 ^ 103) (each (member_tests f row) (member_hold f row) 1) g.most
      (not_right (lt z (five_short_limit f)) (lt z (row_limit f row)) t)

  divisors : (row : Row) → T (not (by_row f row z)) → DivisorsAtLeast unit (nth (value_of f0) values) (form_tree f row)
  unfolding DivisorsAtLeast exact
  divisors cos_half_row t = tt
  divisors k_row t = (tt, (tt, g.least (or_left (not (by_row f k_row z)) (not (by_row f b_row z)) t)))
  divisors a_row t = (((tt, tt), tt), (tt, above a_row t))
  divisors b_row t =
      ((tt, (tt, (tt, g.least (or_right (not (by_row f k_row z)) (not (by_row f b_row z)) t)))), (tt, above b_row t))
  divisors d_row t = ((tt, (((tt, tt), tt), (tt, above d_row t))), (tt, above d_row t))

  -- each is its tree
  own : (row : Row) (E : Float) (x : Value) (i : ℕ) → computed f (nth f0 floats) (form_tree f row) ≡ E
      → exact (nth (value_of f0) values) (form_tree f row) ≡ x
      → ForwardError unit (row_member f (lt z (five_short_limit f)) row z E) (exact_member f row z (row_most f + i) x)
      (member_bound f row)
  own row E x i p q =
      member_forward f row z g.nonnegative E x i
      (λ t. subst₂ (λ (a : Float) (b : Value). ForwardError unit a b (member_bound f row)) p q
      (form_within row (divisors row t)))

  circle_within : (i : ℕ) → HandedWithin unit (handed f z v) (exact_handed f z h (row_most f + i)) (handed_errors f)
  unfolding circle_sinc_abd sinc_from exact_handed computed exact exact_b exact_d Kernel.exact_a sub
  circle_within i =
      let k = own k_row (div f v.sin_half v.root) (ratio h.sin_half h.root) i refl refl in
      let c = own cos_half_row v.cos_half h.cos_half i refl refl in
      let q = each (sinc_tests f) (sinc_hold f) in
      let K = row_member f (lt z (five_short_limit f)) k_row z (div f v.sin_half v.root) in
      let C = row_member f (lt z (five_short_limit f)) cos_half_row z v.cos_half in
      let x = exact_member f k_row z (row_most f + i) (ratio h.sin_half h.root) in
      let y = exact_member f cos_half_row z (row_most f + i) h.cos_half in
      record {
        e = g.e;
        m = g.m;
        a = own a_row (Kernel.exact_a f z v.sin_half) (exact_a z h.sin_half) i refl refl;
        b =
            own b_row (exact_b f z v.root v.sin) (ratio (minus (value_of f1) (ratio h.sin h.root)) (value_of z)) i
            refl refl;
        sinc =
            forward_prod f unit (mul f f2 K) C (times (value_of f2) x) y
            (prod_bound f unit (errorless (2 * unit)) (member_bound f k_row)) (member_bound f cos_half_row) (lit< tt)
            (forward_prod f unit f2 K (value_of f2) x (errorless (2 * unit)) (member_bound f k_row) (lit< tt)
            (leaf_forward unit f2 (2 * unit) (two_bounded unit)) k (q 0)) c (q 1);
        d =
            own d_row (exact_d f z (Kernel.exact_a f z v.sin_half))
            (ratio (minus (value_of half) (exact_a z h.sin_half)) (value_of z)) i refl refl;
      }

pub closed_arm_accurate : (f : Format) (sigma z : Float) (v : Values)
    → ClosedArmAccurate f sigma z v (coeffs_scaled f sigma z v).c
closed_arm_accurate f sigma z v s y e g t arm hs hz h k n i =
    closed_accurate f sigma z v s y (handed_errors f) e g t arm hs hz (exact_handed f z h (row_most f + i))
    (circle_within f z v h k i) n

-- what specs/ClosedArm.antt states
pub closed_arm : (f : Format) → ClosedArmTheorem f
unfolding ends_hold forms_hold delta_holds of_bits
closed_arm binary32 =
    record {
      circle = circle_within binary32;
      coefficients = closed_arm_accurate binary32;
      half_turn = λ sigma z v. closed_arm_accurate binary32 sigma z v _ _ _ _ tt;
      turn = λ sigma z v. closed_arm_accurate binary32 sigma z v _ _ _ _ tt;
    }
closed_arm binary64 =
    record {
      circle = circle_within binary64;
      coefficients = closed_arm_accurate binary64;
      half_turn = λ sigma z v. closed_arm_accurate binary64 sigma z v _ _ _ _ tt;
      turn = λ sigma z v. closed_arm_accurate binary64 sigma z v _ _ _ _ tt;
    }
