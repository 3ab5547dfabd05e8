-- The rows of the circle functions: rounding and truncation. Assumes nothing.
use mathlib.Core.Path.{◌≡◌, refl, sym, ap, ◌∙◌, subst}
use Prim.Native.Nat.{ℕ, zero, suc, ◌+◌, ◌*◌, ◌^◌, ◌≤◌, ◌<◌}
use native.Mathlib.Nat.{one-le-pow, le_trans, le_of_eq, mul-pos, add_assoc, zero-add, suc-add, pow-suc, mul-le-mul}
use native.Mathlib.Nat.{mul-le-mul_left, mul-le-mul_right, le_of_mul-le-mul_right}
use native.Mathlib.Omega.{arith}
use mathlib.Core.Bool.{Bool, true, false, not, cond, ◌&&◌}
use lib.IntN.{ℤ, pos, negsuc}
use lib.Dec.{T, ltb→lt, nltb→le, lit≤, lit<}
use lib.Ieee.{Float, nan, inf, fin, Format, binary32, binary64, emax, up, down, mul, lt, of_bits}
use lib.Ieee.Fits.{down_pos, and_l, and_r}
use Rattle.ieee.specs.Numbers.{f0}
use Rattle.ieee.specs.Table.{factorial, Rational, rounded, entries}
use Rattle.circle.specs.Limits.{row_limit, exp_short_limit}
use Rattle.tables.specs.Tables.{Row, cos_half_row, k_row, a_row, b_row, d_row, row_rule, row_table}
use Rattle.circle.specs.Kernel.{horner_sum, row_series, row_short, row_whole, row_own, row_member, circle_exp}
use Rattle.rounding.specs.Value.{Value, plus, times, value_of, AtMost, Near, AbsoluteError}
use Rattle.rounding.specs.Roundoff.{rounding_error}
use Rattle.rounding.specs.Tree.{Bound, sum_reach, prod_reach, prod_bound, in_range, ForwardError}
use Rattle.linalg.specs.Vector.{vec_norm_sq}
use Rattle.linalg.specs.Floats.{Vec3}
use Rattle.so3.specs.So3.{so3_exp}
use Rattle.so3.specs.Floats.{Quat}
use Rattle.accuracy.specs.Box.{VecIn, QuatError, exact_vec}
use Rattle.rounding.specs.Leaves.{Bounded, errorless}
use Rattle.circle.proofs.Angle.{norm_not_below}
use Rattle.accuracy.specs.Exponential.{CircleAccurate, RotationAt, row_terms, cos_error}
use Rattle.accuracy.specs.Rows.{rule_value, exact_row, entry_size, entry_bound, row_bound, row_no_overflow, rest_unit}
use Rattle.accuracy.specs.Rows.{rest_most, longer, exact_rotation}
use Rattle.rounding.proofs.Differences.{expand}
use Rattle.rounding.proofs.Fractions.{near-plus, most-plus, most_wider, most-near}
use Rattle.rounding.proofs.Roundoff.{rounding-error}
use Rattle.rounding.proofs.Forward.{forward_sum, forward_prod, upward_enough, error_trans, error_wider}
use Rattle.rounding.proofs.Leaves.{leaf_forward, most-signed}
use Rattle.accuracy.proofs.HornerTail.{near_factor, near_convert, most_convert, most_factor}
use Rattle.accuracy.proofs.Arms.{near_turn}
use Rattle.accuracy.proofs.Series.{factorial_pos}

-- ---- the rounding
module _ (f : Format) (w : ℕ) (rule : ℕ → Rational) (dens : (i : ℕ) → 0 < (rule i).den) (x : Float) (z : Value)
    (b : Bound) (wp : 0 < w) (h : ForwardError w x z b) where
  entry-within : (i : ℕ) → T (in_range f w (entry_size w rule i)) →
      ForwardError w (rounded f (rule i)) (rule_value rule i) (entry_bound f w rule i)
  unfolding rounded
  entry-within i t =
      let s = entry_size w rule i in
      let l : w * (rule i).num ≤ s * (rule i).den = upward_enough (rule i).den (w * (rule i).num) (dens i) in
      record {
        close =
            rounding-error f w s (rule i).negative (rule i).num (rule i).den (dens i) l
            (ltb→lt (s + rounding_error f w s) (2 ^ suc (emax f) * w) t);
        size = most-signed w s (rule i).negative (rule i).num (rule i).den l;
        above = dens i;
      }

  row_within : (n i : ℕ) → T (row_no_overflow f w rule b i n) →
      ForwardError w (horner_sum f x (entries f rule i (suc n))) (exact_row rule z i (suc n)) (row_bound f w rule b i n)
  unfolding horner_sum entries exact_row row_bound row_no_overflow
  row_within zero i t = entry-within i t
  row_within (suc n) i t =
      let B = row_bound f w rule b (suc i) n in
      let E = entry_bound f w rule i in
      let a = in_range f w (entry_size w rule i) in
      let r = row_no_overflow f w rule b (suc i) n in
      let c = in_range f w (prod_reach w b B) in
      let d = in_range f w (sum_reach E (prod_bound f w b B)) in
      let t1 : T (r && (c && d)) = and_r a (r && (c && d)) t in
      let t2 : T (c && d) = and_r r (c && d) t1 in
      let S = horner_sum f x (entries f rule (suc i) (suc n)) in
      let V1 = exact_row rule z (suc i) (suc n) in
      forward_sum f w (rounded f (rule i)) (mul f x S) (rule_value rule i) (times z V1) E (prod_bound f w b B) wp
      (entry-within i (and_l a (r && (c && d)) t))
      (forward_prod f w x S z V1 b B wp h (row_within n (suc i) (and_l r (c && d) t1)) (and_l c d t2)) (and_r c d t2)

-- ---- the truncation, for a row of 1 / den
near_add : (u e : ℕ) (x y : Value) → AtMost u y e → Near u (plus x y) x e
near_add u e x y h =
    record {
      above = one u e x.p x.n x.d y.p y.n y.d (mul-le-mul_right (x.d * x.d) h.above);
      below = two u e x.p x.n x.d y.p y.n y.d (mul-le-mul_right (x.d * x.d) h.below);
    }
  where
    one : (u e p n d q m c : ℕ) → u * q * (d * d) ≤ (u * m + e * c) * (d * d) →
        u * ((p * c + q * d) * d + n * (d * c)) ≤ u * ((n * c + m * d) * d + p * (d * c)) + e * (d * c * d)
    one u e p n d q m c h = simp expand (omega (arith, simp expand at h))

    two : (u e p n d q m c : ℕ) → u * m * (d * d) ≤ (u * q + e * c) * (d * d) →
        u * (p * (d * c) + (n * c + m * d) * d) ≤ u * (n * (d * c) + (p * c + q * d) * d) + e * (d * (d * c))
    two u e p n d q m c h = simp expand (omega (arith, simp expand at h))

near_same : (u : ℕ) (x : Value) (e : ℕ) → Near u x x e
near_same u x e = record { above = omega arith; below = omega arith }

module _ (w y : ℕ) (rule : ℕ → Rational) (ones : (i : ℕ) → (rule i).num ≡ 1) (dens : (i : ℕ) → 0 < (rule i).den)
    (ratio : (i : ℕ) → (rule (suc i)).den * (y * 2) ≤ w * (rule (suc (suc i))).den) (z : Value) (wp : 0 < w)
    (h : AtMost w z y) where
  entry-most : (i : ℕ) → AtMost (rule i).den (rule_value rule i) 1
  entry-most i =
      most-signed (rule i).den 1 (rule i).negative (rule i).num (rule i).den
      (le_of_eq (ap (λ (x : ℕ). (rule i).den * x) (ones i) ∙ one (rule i).den))
    where
      one : (d : ℕ) → d * 1 ≡ 1 * d
      one d = omega arith

  pub row-most : (n i : ℕ) → AtMost (rule (suc i)).den (exact_row rule z (suc i) (suc n)) 2
  unfolding exact_row
  row-most zero i = most_wider (rule (suc i)).den (rule_value rule (suc i)) 1 2 (lit≤ tt) (entry-most (suc i))
  row-most (suc n) i =
      let d = (rule (suc i)).den in
      let d' = (rule (suc (suc i))).den in
      let V1 = exact_row rule z (suc (suc i)) (suc n) in
      most-plus d (rule_value rule (suc i)) (times z V1) 1 1 (entry-most (suc i))
      (most_convert d (w * d') (times z V1) 1 (y * 2) (mul-pos wp (dens (suc (suc i))))
      (le_trans (ratio i) (le_of_eq (one (w * d')))) (most_factor w d' z V1 y 2 h (row-most n (suc i))))
    where
      one : (d : ℕ) → d ≡ 1 * d
      one d = omega arith

  row-tail : (k i n : ℕ) → Near (rest_unit w rule i k) (exact_row rule z i (suc (longer k n)))
      (exact_row rule z i (suc k)) (rest_most y k)
  unfolding exact_row rest_unit rest_most longer
  row-tail zero i zero = near_same (w * (rule (suc i)).den) (rule_value rule i) (y * 2)
  row-tail zero i (suc n) =
      near_add (w * (rule (suc i)).den) (y * 2) (rule_value rule i) (times z (exact_row rule z (suc i) (suc n)))
      (most_factor w (rule (suc i)).den z (exact_row rule z (suc i) (suc n)) y 2 h (row-most n i))
  row-tail (suc k) i n =
      let u = rest_unit w rule (suc i) k in
      let long = exact_row rule z (suc i) (suc (longer k n)) in
      let short = exact_row rule z (suc i) (suc k) in
      subst (λ (e : ℕ). Near (w * u) (plus (rule_value rule i) (times z long))
      (plus (rule_value rule i) (times z short)) e) (zero-add (y * rest_most y k))
      (near-plus (w * u) (rule_value rule i) (rule_value rule i) (times z long) (times z short) 0 (y * rest_most y k)
      (near_same (w * u) (rule_value rule i) 0) (near_factor w u z long short y (rest_most y k) h
      (row-tail k (suc i) n)))

  rest_above : (k i : ℕ) → 0 < rest_unit w rule i k
  unfolding rest_unit
  rest_above zero i = mul-pos wp (dens (suc i))
  rest_above (suc k) i = mul-pos wp (rest_above k (suc i))

-- ---- both
longer-is : (k n : ℕ) → longer k n ≡ k + n
unfolding longer
longer-is zero n = sym (zero-add n)
longer-is (suc k) n = ap (λ (x : ℕ). suc x) (longer-is k n) ∙ sym (suc-add k n)

pub row-close : (f : Format) (w y k c g : ℕ) (rule : ℕ → Rational) → ((i : ℕ) → (rule i).num ≡ 1) →
    ((i : ℕ) → 0 < (rule i).den) →
    ((i : ℕ) → (rule (suc i)).den * (y * 2) ≤ w * (rule (suc (suc i))).den) → 0 < w → (x : Float) → Bounded w x y
    → T (row_no_overflow f w rule (errorless y) 0 k) → w * rest_most y k ≤ c * rest_unit w rule 0 k →
    (row_bound f w rule (errorless y) 0 k).error + c ≤ g → (n : ℕ)
    → AbsoluteError w (horner_sum f x (entries f rule 0 (suc k))) (exact_row rule (value_of x) 0 (suc (k + n))) g
row-close f w y k c g rule ones dens ratio wp x h t r m n =
    let z = value_of x in
    let hx = leaf_forward w x y h in
    let a = row_within f w rule dens x z (errorless y) wp hx k 0 t in
    let X = horner_sum f x (entries f rule 0 (suc k)) in
    let E = (row_bound f w rule (errorless y) 0 k).error in
    let long = exact_row rule z 0 (suc (longer k n)) in
    let short = exact_row rule z 0 (suc k) in
    let tl : Near w long short c = near_convert w (rest_unit w rule 0 k) long short c (rest_most y k)
    (rest_above w y rule ones dens ratio z wp hx.size k 0) r (row-tail w y rule ones dens ratio z wp hx.size k 0 n) in
    subst (λ (j : ℕ). AbsoluteError w X (exact_row rule z 0 (suc j)) g) (longer-is k n)
    (error_wider w X long (E + c) g m (error_trans w X short long E c a.above a.close (near_turn w long short c tl)))

pub row-above : (rule : ℕ → Rational) (dens : (i : ℕ) → 0 < (rule i).den) (z : Value) → 0 < z.d → (n i : ℕ) →
    0 < (exact_row rule z i (suc n)).d
unfolding exact_row
row-above rule dens z h zero i = dens i
row-above rule dens z h (suc n) i = mul-pos (dens i) (mul-pos h (row-above rule dens z h n (suc i)))

-- with its size
pub row_in : (f : Format) (w y k c g b : ℕ) (rule : ℕ → Rational) → ((i : ℕ) → (rule i).num ≡ 1) →
    ((i : ℕ) → 0 < (rule i).den) →
    ((i : ℕ) → (rule (suc i)).den * (y * 2) ≤ w * (rule (suc (suc i))).den) → 0 < w → (x : Float) → Bounded w x y
    → T (row_no_overflow f w rule (errorless y) 0 k) → w * rest_most y k ≤ c * rest_unit w rule 0 k →
    (row_bound f w rule (errorless y) 0 k).error + c ≤ g
    → (row_bound f w rule (errorless y) 0 k).magnitude + c ≤ b → (n : ℕ) →
    ForwardError w (horner_sum f x (entries f rule 0 (suc k)))
    (exact_row rule (value_of x) 0 (suc (k + n))) (record { magnitude = b; error = g })
row_in f w y k c g b rule ones dens ratio wp x h t r m l n =
    let z = value_of x in
    let hx = leaf_forward w x y h in
    let a = row_within f w rule dens x z (errorless y) wp hx k 0 t in
    let B = (row_bound f w rule (errorless y) 0 k).magnitude in
    let long = exact_row rule z 0 (suc (longer k n)) in
    let short = exact_row rule z 0 (suc k) in
    let tl : Near w long short c = near_convert w (rest_unit w rule 0 k) long short c (rest_most y k)
    (rest_above w y rule ones dens ratio z wp hx.size k 0) r (row-tail w y rule ones dens ratio z wp hx.size k 0 n) in
    record {
      close = row-close f w y k c g rule ones dens ratio wp x h t r m n;
      size =
          subst (λ (j : ℕ). AtMost w (exact_row rule z 0 (suc j)) b) (longer-is k n)
          (most_wider w long (B + c) b l (most-near w long short B c a.above tl a.size));
      above = row-above rule dens z hx.above (k + n) 0;
    }

-- ---- the two rows of an exponential
pub one-num : (row : Row) (i : ℕ) → (row_rule row i).num ≡ 1
unfolding row_rule
one-num cos_half_row i = refl
one-num k_row i = refl
one-num a_row i = refl
one-num b_row i = refl
one-num d_row i = refl

pub row_dens : (row : Row) (i : ℕ) → 0 < (row_rule row i).den
unfolding row_rule
row_dens cos_half_row i = mul-pos (one-le-pow i 4 (lit< tt)) (factorial_pos (2 * i))
row_dens k_row i = mul-pos (lit< tt) (mul-pos (one-le-pow i 4 (lit< tt)) (factorial_pos (2 * i + 1)))
row_dens a_row i = factorial_pos (2 * i + 2)
row_dens b_row i = factorial_pos (2 * i + 3)
row_dens d_row i = factorial_pos (2 * i + 4)

ratio_of : (w y P F a b : ℕ) → y ≤ 24 * w → 4 ≤ a → 3 ≤ b → P * F * (y * 2) ≤ w * (P * 4 * (a * (b * F)))
ratio_of w y P F a b h ha hb =
    let x = mul-le-mul_right (P * F * 2) h in
    let q : 4 * 3 ≤ a * b = mul-le-mul ha hb in
    let k = mul-le-mul_right (w * (P * (F * 4))) q in
    simp expand (omega (arith, simp expand at x, simp expand at k))

two_more : (i : ℕ) → 2 * suc (suc i) ≡ suc (suc (2 * suc i))
two_more i = omega arith

pub cos_ratio : (w y : ℕ) → y ≤ 24 * w → (i : ℕ) → (row_rule cos_half_row (suc i)).den * (y * 2)
    ≤ w * (row_rule cos_half_row (suc (suc i))).den
unfolding row_rule factorial
cos_ratio w y h i =
    let m = 2 * suc i in
    subst (λ (j : ℕ). 4 ^ suc i * factorial m * (y * 2) ≤ w * (4 ^ suc (suc i) * factorial j)) (sym (two_more i))
    (subst (λ (p : ℕ). 4 ^ suc i * factorial m * (y * 2) ≤ w * (p * (suc (suc m) * (suc m * factorial m))))
    (sym (pow-suc 4 (suc i)))
    (ratio_of w y (4 ^ suc i) (factorial m) (suc (suc m)) (suc m) h (four i) (three i)))
  where
    four : (i : ℕ) → 4 ≤ suc (suc (2 * suc i))
    four i = omega arith

    three : (i : ℕ) → 3 ≤ suc (2 * suc i)
    three i = omega arith

two_more' : (i : ℕ) → 2 * suc (suc i) + 1 ≡ suc (suc (2 * suc i + 1))
two_more' i = omega arith

pub k_ratio : (w y : ℕ) → y ≤ 24 * w → (i : ℕ) → (row_rule k_row (suc i)).den * (y * 2)
    ≤ w * (row_rule k_row (suc (suc i))).den
unfolding row_rule factorial
k_ratio w y h i =
    let m = 2 * suc i + 1 in
    subst (λ (j : ℕ). 2 * (4 ^ suc i * factorial m) * (y * 2) ≤ w * (2 * (4 ^ suc (suc i) * factorial j)))
    (sym (two_more' i))
    (subst (λ (p : ℕ). 2 * (4 ^ suc i * factorial m) * (y * 2) ≤ w * (2 * (p * (suc (suc m) * (suc m * factorial m)))))
    (sym (pow-suc 4 (suc i)))
    (twice w y (4 ^ suc i) (factorial m) (suc (suc m)) (suc m)
    (ratio_of w y (4 ^ suc i) (factorial m) (suc (suc m)) (suc m) h (four i) (three i))))
  where
    four : (i : ℕ) → 4 ≤ suc (suc (2 * suc i + 1))
    four i = omega arith

    three : (i : ℕ) → 3 ≤ suc (2 * suc i + 1)
    three i = omega arith

    twice : (w y P F a b : ℕ) → P * F * (y * 2) ≤ w * (P * 4 * (a * (b * F))) →
        2 * (P * F) * (y * 2) ≤ w * (2 * (P * 4 * (a * (b * F))))
    twice w y P F a b h = let x = mul-le-mul_left 2 h in simp expand (omega (arith, simp expand at x))

-- ---- z from 0 to a limit
pub bounded_below : (w x : ℕ) (z : Float) (n : ℕ) (d : ℤ) → T (lt z (fin false n d)) → T (not (lt z f0)) →
    w * (n * up d) ≤ x * down d → Bounded w z x
unfolding lt
bounded_below w x nan n d t p h = absurd t
bounded_below w x (inf true) n d t p h = absurd p
bounded_below w x (inf false) n d t p h = absurd t
bounded_below w x (fin false m e) n d t p h =
    go w x (m * up e) (down e) (n * up d) (down d) (down_pos d) (ltb→lt (m * up e * down d) (n * up d * down e) t) h
  where
    go : (w x a b c d : ℕ) → 0 < d → a * d < c * b → w * c ≤ x * d → w * a ≤ x * b
    go w x a b c d z h k =
        let i = mul-le-mul_right w (less (a * d) (c * b) h) in
        let j = mul-le-mul_right b k in
        le_of_mul-le-mul_right {k = d} (simp expand (omega (arith, simp expand at i, simp expand at j))) z
      where
        less : (a b : ℕ) → a < b → a ≤ b
        less a b h = omega arith
bounded_below w x (fin true m e) n d t p h =
    go w x (m * up e) (down e) (nltb→le 0 (m * up e * down (pos 0) + 0 * up (pos 0) * down e) p)
  where
    go : (w x a b : ℕ) → a * 1 + 0 * 1 * b ≤ 0 → w * a ≤ x * b
    go w x a b h = let e : a ≡ 0 = omega arith in let k : w * a ≡ w * 0 = ap (λ (i : ℕ). w * i) e in omega arith

-- ---- the circle functions of an exponential where z is below both limits, in units of 2 ^ -100
member : (P : Float → Type 0) (s t : Bool) (a b c : Float) → T t → (T s → P a) → P b → P (cond s a (cond t b c))
member P true t a b c h k l = k tt
member P false true a b c h k l = l
member P false false a b c h k l = absurd h

more : (P : ℕ → Type 0) (j i m : ℕ) → j + i ≡ m → ((n : ℕ) → P (suc (j + n))) → (n : ℕ) → P (suc (m + n))
more P j i m e h n = subst (λ (k : ℕ). P (suc k)) (sym (add_assoc j i n) ∙ ap (λ (k : ℕ). k + n) e) (h (i + n))

-- the computed |φ|² is not below zero
pub norm_plain : (f : Format) (phi : Vec3) → T (not (lt (vec_norm_sq f phi) f0))
norm_plain f phi = subst (λ (b : Bool). T (not b)) (sym (norm_not_below f phi)) tt

-- binary64: of every sum of 11 terms or more
pub circle_in64 : (z root sh ch : Float) → T (lt z (row_limit binary64 cos_half_row)) →
    T (lt z (row_limit binary64 k_row)) → T (not (lt z f0)) → (n : ℕ)
    → ForwardError (2 ^ 100) (circle_exp binary64 z root sh ch).cos_half
    (exact_row (row_rule cos_half_row) (value_of z) 0 (suc (10 + n)))
    (record { magnitude = (7 * 2 ^ 98); error = (2 ^ 50) })
    × ForwardError (2 ^ 100) (circle_exp binary64 z root sh ch).k
    (exact_row (row_rule k_row) (value_of z) 0 (suc (10 + n)))
    (record { magnitude = (3 * 2 ^ 98); error = (2 ^ 48) })
unfolding circle_exp row_member row_own row_short row_whole row_series row_table entries row_no_overflow row_bound
    rest_unit rest_most row_rule factorial of_bits
circle_in64 z root sh ch tc tk p n =
    let w = 2 ^ 100 in
    let C = exact_row (row_rule cos_half_row) (value_of z) 0 in
    let K = exact_row (row_rule k_row) (value_of z) 0 in (
      member (λ (x : Float). ForwardError w x (C (suc (10 + n)))
          (record { magnitude = (7 * 2 ^ 98); error = (2 ^ 50) })) (lt z (exp_short_limit binary64))
          (lt z (row_limit binary64 cos_half_row)) _ _ _ tc
          (λ t. more (λ (i : ℕ). ForwardError w (row_short binary64 cos_half_row z) (C i)
          (record { magnitude = (7 * 2 ^ 98); error = (2 ^ 50) })) 4 6 10 refl
          (row_in binary64 w (3016614013290099 * 2 ^ 41) 4 (2 ^ 44) (2 ^ 50) (7 * 2 ^ 98) (row_rule cos_half_row)
          (one-num cos_half_row)
          (row_dens cos_half_row) (cos_ratio w (3016614013290099 * 2 ^ 41) (lit≤ tt)) (lit< tt) z
          (bounded_below w (3016614013290099 * 2 ^ 41) z 3016614013290099 (negsuc 58) t p (lit≤ tt)) tt (lit≤ tt)
          (lit≤ tt) (lit≤ tt)) n)
          (more (λ (i : ℕ). ForwardError w (row_whole binary64 cos_half_row z) (C i)
          (record { magnitude = (7 * 2 ^ 98); error = (2 ^ 50) })) 9 1 10 refl
          (row_in binary64 w (5891824244707225 * 2 ^ 50) 9 (2 ^ 44) (2 ^ 50) (7 * 2 ^ 98) (row_rule cos_half_row)
          (one-num cos_half_row)
          (row_dens cos_half_row) (cos_ratio w (5891824244707225 * 2 ^ 50) (lit≤ tt)) (lit< tt) z
          (bounded_below w (5891824244707225 * 2 ^ 50) z 5891824244707225 (negsuc 49) tc p (lit≤ tt)) tt (lit≤ tt)
          (lit≤ tt) (lit≤ tt)) n),
      member (λ (x : Float). ForwardError w x (K (suc (10 + n)))
          (record { magnitude = (3 * 2 ^ 98); error = (2 ^ 48) })) (lt z (exp_short_limit binary64))
          (lt z (row_limit binary64 k_row)) _ _ _ tk
          (λ t. more (λ (i : ℕ). ForwardError w (row_short binary64 k_row z) (K i)
          (record { magnitude = (3 * 2 ^ 98); error = (2 ^ 48) })) 4 6 10 refl
          (row_in binary64 w (3016614013290099 * 2 ^ 41) 4 (2 ^ 40) (2 ^ 48) (3 * 2 ^ 98) (row_rule k_row)
          (one-num k_row) (row_dens k_row)
          (k_ratio w (3016614013290099 * 2 ^ 41) (lit≤ tt)) (lit< tt) z
          (bounded_below w (3016614013290099 * 2 ^ 41) z 3016614013290099 (negsuc 58) t p (lit≤ tt)) tt (lit≤ tt)
          (lit≤ tt) (lit≤ tt)) n)
          (more (λ (i : ℕ). ForwardError w (row_whole binary64 k_row z) (K i)
          (record { magnitude = (3 * 2 ^ 98); error = (2 ^ 48) })) 10 0 10 refl
          (row_in binary64 w (2715281069981685 * 2 ^ 52) 10 (2 ^ 40) (2 ^ 48) (3 * 2 ^ 98) (row_rule k_row)
          (one-num k_row) (row_dens k_row)
          (k_ratio w (2715281069981685 * 2 ^ 52) (lit≤ tt)) (lit< tt) z
          (bounded_below w (2715281069981685 * 2 ^ 52) z 2715281069981685 (negsuc 47) tk p (lit≤ tt)) tt (lit≤ tt)
          (lit≤ tt) (lit≤ tt)) n),
    )

pub circle_binary64 : (z root sh ch : Float) → CircleAccurate binary64 z (circle_exp binary64 z root sh ch)
circle_binary64 z root sh ch tc tk p n = let h = circle_in64 z root sh ch tc tk p n in (h.0.close, h.1.close)

-- the rotation of an exponential: φ of numbers up to 5 / 2, with the exact sums at the computed |φ|²
pub rotation_binary64 : (phi : Vec3) (root sh ch : Float) →
    RotationAt binary64 (value_of (vec_norm_sq binary64 phi)) (cos_error binary64) phi (so3_exp binary64 phi root sh ch)
unfolding so3_exp exact_rotation
rotation_binary64 phi root sh ch tc tk hp n =
    let w = 2 ^ 100 in
    let z = vec_norm_sq binary64 phi in
    let c = circle_exp binary64 z root sh ch in
    let h = circle_in64 z root sh ch tc tk (norm_plain binary64 phi) n in
    let K = exact_row (row_rule k_row) (value_of z) 0 (suc (10 + n)) in
    let B : Bound = record { magnitude = (3 * 2 ^ 98); error = (2 ^ 48) } in
    let part : (x : Float) → Bounded w x (5 * 2 ^ 99) → AbsoluteError w (mul binary64 c.k x) (times K (value_of x))
    (2 ^ 50) =
    λ x s. error_wider w (mul binary64 c.k x) (times K (value_of x))
    (prod_bound binary64 w B (errorless (5 * 2 ^ 99))).error (2 ^ 50) (lit≤ tt)
    (forward_prod binary64 w c.k x K (value_of x) B (errorless (5 * 2 ^ 99)) (lit< tt) h.1
    (leaf_forward w x (5 * 2 ^ 99) s) tt).close in
    record {
      w =
          error_wider w c.cos_half (exact_row (row_rule cos_half_row) (value_of z) 0 (suc (10 + n))) (2 ^ 50) (2 ^ 50)
          (lit≤ tt)
          h.0.close;
      x = part phi.x hp.x;
      y = part phi.y hp.y;
      z = part phi.z hp.z;
    }

-- binary32: of every sum of 7 terms or more
pub circle_in32 : (z root sh ch : Float) → T (lt z (row_limit binary32 cos_half_row)) →
    T (lt z (row_limit binary32 k_row)) → T (not (lt z f0)) → (n : ℕ)
    → ForwardError (2 ^ 100) (circle_exp binary32 z root sh ch).cos_half
    (exact_row (row_rule cos_half_row) (value_of z) 0 (suc (6 + n)))
    (record { magnitude = (7 * 2 ^ 98); error = (2 ^ 79) })
    × ForwardError (2 ^ 100) (circle_exp binary32 z root sh ch).k
    (exact_row (row_rule k_row) (value_of z) 0 (suc (6 + n)))
    (record { magnitude = (3 * 2 ^ 98); error = (2 ^ 77) })
unfolding circle_exp row_member row_own row_short row_whole row_series row_table entries row_no_overflow row_bound
    rest_unit rest_most row_rule factorial of_bits
circle_in32 z root sh ch tc tk p n =
    let w = 2 ^ 100 in
    let C = exact_row (row_rule cos_half_row) (value_of z) 0 in
    let K = exact_row (row_rule k_row) (value_of z) 0 in (
      member (λ (x : Float). ForwardError w x (C (suc (6 + n))) (record { magnitude = (7 * 2 ^ 98); error = (2 ^ 79) }))
          (lt z (exp_short_limit binary32)) (lt z (row_limit binary32 cos_half_row)) _ _ _ tc
          (λ t. more (λ (i : ℕ). ForwardError w (row_short binary32 cos_half_row z) (C i)
          (record { magnitude = (7 * 2 ^ 98); error = (2 ^ 79) })) 2 4 6 refl
          (row_in binary32 w (16414961 * 2 ^ 67) 2 (2 ^ 74) (2 ^ 79) (7 * 2 ^ 98) (row_rule cos_half_row)
          (one-num cos_half_row) (row_dens cos_half_row)
          (cos_ratio w (16414961 * 2 ^ 67) (lit≤ tt)) (lit< tt) z
          (bounded_below w (16414961 * 2 ^ 67) z 16414961 (negsuc 32) t p (lit≤ tt)) tt
          (lit≤ tt) (lit≤ tt) (lit≤ tt)) n)
          (more (λ (i : ℕ). ForwardError w (row_whole binary32 cos_half_row z) (C i)
          (record { magnitude = (7 * 2 ^ 98); error = (2 ^ 79) })) 5 1 6 refl
          (row_in binary32 w (2375855 * 2 ^ 81) 5 (2 ^ 74) (2 ^ 79) (7 * 2 ^ 98) (row_rule cos_half_row)
          (one-num cos_half_row) (row_dens cos_half_row)
          (cos_ratio w (2375855 * 2 ^ 81) (lit≤ tt)) (lit< tt) z
          (bounded_below w (2375855 * 2 ^ 81) z 2375855 (negsuc 18) tc p (lit≤ tt)) tt
          (lit≤ tt) (lit≤ tt) (lit≤ tt)) n),
      member (λ (x : Float). ForwardError w x (K (suc (6 + n))) (record { magnitude = (3 * 2 ^ 98); error = (2 ^ 77) }))
          (lt z (exp_short_limit binary32)) (lt z (row_limit binary32 k_row)) _ _ _ tk
          (λ t. more (λ (i : ℕ). ForwardError w (row_short binary32 k_row z) (K i)
          (record { magnitude = (3 * 2 ^ 98); error = (2 ^ 77) })) 2 4 6 refl
          (row_in binary32 w (16414961 * 2 ^ 67) 2 (2 ^ 69) (2 ^ 77) (3 * 2 ^ 98) (row_rule k_row) (one-num k_row)
          (row_dens k_row)
          (k_ratio w (16414961 * 2 ^ 67) (lit≤ tt)) (lit< tt) z
          (bounded_below w (16414961 * 2 ^ 67) z 16414961 (negsuc 32) t p (lit≤ tt)) tt
          (lit≤ tt) (lit≤ tt) (lit≤ tt)) n)
          (more (λ (i : ℕ). ForwardError w (row_whole binary32 k_row z) (K i)
          (record { magnitude = (3 * 2 ^ 98); error = (2 ^ 77) })) 6 0 6 refl
          (row_in binary32 w (5057605 * 2 ^ 81) 6 (2 ^ 69) (2 ^ 77) (3 * 2 ^ 98) (row_rule k_row) (one-num k_row)
          (row_dens k_row)
          (k_ratio w (5057605 * 2 ^ 81) (lit≤ tt)) (lit< tt) z
          (bounded_below w (5057605 * 2 ^ 81) z 5057605 (negsuc 18) tk p (lit≤ tt)) tt
          (lit≤ tt) (lit≤ tt) (lit≤ tt)) n),
    )

pub circle_binary32 : (z root sh ch : Float) → CircleAccurate binary32 z (circle_exp binary32 z root sh ch)
circle_binary32 z root sh ch tc tk p n = let h = circle_in32 z root sh ch tc tk p n in (h.0.close, h.1.close)

-- the rotation of an exponential: φ of numbers up to 5 / 2
pub rotation_binary32 : (phi : Vec3) (root sh ch : Float) →
    RotationAt binary32 (value_of (vec_norm_sq binary32 phi)) (cos_error binary32) phi (so3_exp binary32 phi root sh ch)
unfolding so3_exp exact_rotation
rotation_binary32 phi root sh ch tc tk hp n =
    let w = 2 ^ 100 in
    let z = vec_norm_sq binary32 phi in
    let c = circle_exp binary32 z root sh ch in
    let h = circle_in32 z root sh ch tc tk (norm_plain binary32 phi) n in
    let K = exact_row (row_rule k_row) (value_of z) 0 (suc (6 + n)) in
    let B : Bound = record { magnitude = (3 * 2 ^ 98); error = (2 ^ 77) } in
    let part : (x : Float) → Bounded w x (5 * 2 ^ 99) → AbsoluteError w (mul binary32 c.k x) (times K (value_of x))
    (2 ^ 79) =
    λ x s. error_wider w (mul binary32 c.k x) (times K (value_of x))
    (prod_bound binary32 w B (errorless (5 * 2 ^ 99))).error (2 ^ 79) (lit≤ tt)
    (forward_prod binary32 w c.k x K (value_of x) B (errorless (5 * 2 ^ 99)) (lit< tt) h.1
    (leaf_forward w x (5 * 2 ^ 99) s) tt).close in
    record {
      w =
          error_wider w c.cos_half (exact_row (row_rule cos_half_row) (value_of z) 0 (suc (6 + n))) (2 ^ 79) (2 ^ 79)
          (lit≤ tt)
          h.0.close;
      x = part phi.x hp.x;
      y = part phi.y hp.y;
      z = part phi.z hp.z;
    }
