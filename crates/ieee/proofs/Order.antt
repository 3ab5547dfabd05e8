-- The comparisons, as comparisons of signed fractions: `le` is reflexive, and respects `Same`; without a NaN `lt` is
-- its opposite, and negation reverses both. Assumes nothing.
use mathlib.Core.Path.{◌≡◌, refl, sym, ap, ◌∙◌}
use mathlib.Core.Logic.{◌⊎◌, inl, inr}
use Prim.Native.Nat.{ℕ, zero, suc, ◌+◌, ◌*◌, ◌≤◌, zero-le}
use native.Mathlib.Nat.{le_of_eq, le_of_lt, zero-add, add-zero, add_comm as plus_comm}
use native.Mathlib.Omega.{arith}
use mathlib.Core.Bool.{Bool, true, false, not, ◌&&◌, ◌||◌, and-true}
use lib.IntN.{pos}
use lib.Dec.{T, leb, ltb, eqb, eqb→eq, leb→le, le→leb, not_T}
use borrow.Author.Tests.{lt-ltb, le-ltb, le-leb, lt-leb, eq-eqb, ne_eqb}
use lib.Ieee.{Float, nan, inf, fin, up, down, below, level, lt, le, eq, neg}
use lib.Ieee.Fits.{eq→eqb, and_i, and_l, and_r}
use lib.Ieee.Positive.{den}
use lib.Ieee.Scale.{finite}
use Rattle.std.proofs.lemmas.Float.{le_trans, lt_irrefl, lt_of_lt_of_le}
use Rattle.std.proofs.lemmas.Bool.{cases_lt}
use Rattle.ieee.specs.Signs.{unsigned_zero, Same}
use Rattle.ieee.proofs.Signed.{over, under, hi, lo, over-mul, under_mul, hi_neg, lo_neg, den-neg, finite-neg, Level}
use Rattle.ieee.proofs.Signed.{zero-level}

-- not a NaN
abbrev pub number : Float → Bool
number nan = false
number (inf s) = true
number (fin s m e) = true

-- ---- tests
pub iff : (a b : Bool) → (T a → T b) → (T b → T a) → a ≡ b
iff true true p q = refl
iff true false p q = absurd (p tt)
iff false true p q = absurd (q tt)
iff false false p q = refl

leb_is : (a b : ℕ) → (ltb a b || eqb a b) ≡ leb a b
leb_is a b = elim (cases_lt a b) [
  | inl h ↦ rw (lt-ltb a b h, le-leb a b (le_of_lt h)) refl
  | inr h ↦ rw (le-ltb a b h) (elim (cases_lt b a) [
    | inl k ↦ rw (ne_eqb a b (λ e. omega arith), lt-leb a b k) refl
    | inr k ↦ let e : a ≡ b = omega arith in rw (eq-eqb a b e, le-leb a b k) refl
  ])
]

-- ---- ±a and ±b
below-is : (s : Bool) (a : ℕ) (t : Bool) (b : ℕ) → below s a t b ≡ ltb (over s a + under t b) (over t b + under s a)
below-is false a false b = simp add-zero
below-is false a true b = sym (le-ltb (a + b) 0 zero-le)
below-is true a false b = rw (plus_comm a b)
below-is true a true b = simp zero-add

zeros : (a b : ℕ) → (eqb a b && eqb a 0) ≡ eqb (a + b) 0
zeros a b =
    iff (eqb a b && eqb a 0) (eqb (a + b) 0)
    (λ t. let p = eqb→eq a b (and_l (eqb a b) (eqb a 0) t) in let q = eqb→eq a 0 (and_r (eqb a b) (eqb a 0) t) in
    eq→eqb {a = a + b} {b = 0} (omega arith))
    (λ t. let p = eqb→eq (a + b) 0 t in and_i (eqb a b) (eqb a 0) (eq→eqb {a = a} {b = b} (omega arith))
    (eq→eqb {a = a} {b = 0} (omega arith)))

eqb_comm : (a b : ℕ) → eqb a b ≡ eqb b a
eqb_comm a b = iff (eqb a b) (eqb b a) (λ t. eq→eqb (sym (eqb→eq a b t))) (λ t. eq→eqb (sym (eqb→eq b a t)))

level-is : (s : Bool) (a : ℕ) (t : Bool) (b : ℕ) → level s a t b ≡ eqb (over s a + under t b) (over t b + under s a)
level-is false a false b = simp add-zero (and-true (eqb a b))
level-is false a true b = zeros a b
level-is true a false b = zeros a b ∙ rw (plus_comm a b) (eqb_comm (b + a) 0)
level-is true a true b = simp zero-add (and-true (eqb a b) ∙ eqb_comm a b)

-- ---- two finite values: x < y, x = y and x ≤ y are those of the fractions
-- x - y, the part that counts for x
abbrev pub side : Float → Float → ℕ
side x y = hi x * den y + lo y * den x

pub lt-is : (x y : Float) → T (finite x) → T (finite y) → lt x y ≡ ltb (side x y) (side y x)
unfolding lt
lt-is nan y p q = absurd p
lt-is (inf s) y p q = absurd p
lt-is (fin s m e) nan p q = absurd q
lt-is (fin s m e) (inf t) p q = absurd q
lt-is (fin s m e) (fin t n d) p q =
    below-is s (m * up e * down d) t (n * up d * down e)
    ∙ rw (
      over-mul s (m * up e) (down d),
      over-mul t (n * up d) (down e),
      under_mul s (m * up e) (down d),
      under_mul t
          (n * up d) (down e),
    )

pub eq_is : (x y : Float) → T (finite x) → T (finite y) → eq x y ≡ eqb (side x y) (side y x)
unfolding eq
eq_is nan y p q = absurd p
eq_is (inf s) y p q = absurd p
eq_is (fin s m e) nan p q = absurd q
eq_is (fin s m e) (inf t) p q = absurd q
eq_is (fin s m e) (fin t n d) p q =
    level-is s (m * up e * down d) t (n * up d * down e)
    ∙ rw (
      over-mul s (m * up e) (down d),
      over-mul t (n * up d) (down e),
      under_mul s (m * up e) (down d),
      under_mul t
          (n * up d) (down e),
    )

pub le_is : (x y : Float) → T (finite x) → T (finite y) → le x y ≡ leb (side x y) (side y x)
unfolding le
le_is x y p q = rw (lt-is x y p q, eq_is x y p q) (leb_is (side x y) (side y x))

-- x ≤ y, as an order of numbers
abbrev pub Under : Float → Float → Type 0
Under x y = side x y ≤ side y x

pub le→under : (x y : Float) → T (finite x) → T (finite y) → T (le x y) → Under x y
le→under x y p q h = leb→le (side x y) (side y x) (rw (le_is x y p q) at h)

pub under→le : (x y : Float) → T (finite x) → T (finite y) → Under x y → T (le x y)
under→le x y p q h = rw (le_is x y p q) (le→leb (side x y) (side y x) h)

-- ---- reflexive
pub le_refl : (x : Float) → T (number x) → T (le x x)
le_refl nan p = absurd p
le_refl (inf true) p = unfold le in tt
le_refl (inf false) p = unfold le in tt
le_refl (fin s m e) p = under→le (fin s m e) (fin s m e) tt tt (le_of_eq refl)

-- ---- without a NaN `lt` is the opposite of `le`
ltb_not : (a b : ℕ) → ltb a b ≡ not (leb b a)
ltb_not a b =
    elim (cases_lt a b) [ inl h ↦ rw (lt-ltb a b h, lt-leb b a h) refl | inr h ↦ rw (le-ltb a b h, le-leb b a h) refl ]

pub lt_not_le : (x y : Float) → T (number x) → T (number y) → lt x y ≡ not (le y x)
lt_not_le nan y p q = absurd p
lt_not_le (inf s) nan p q = absurd q
lt_not_le (fin s m e) nan p q = absurd q
lt_not_le (inf true) (inf true) p q = unfold le in refl
lt_not_le (inf true) (inf false) p q = unfold le in refl
lt_not_le (inf false) (inf true) p q = unfold le in refl
lt_not_le (inf false) (inf false) p q = unfold le in refl
lt_not_le (inf true) (fin t n d) p q = unfold le in refl
lt_not_le (inf false) (fin t n d) p q = unfold le in refl
lt_not_le (fin s m e) (inf true) p q = unfold le in refl
lt_not_le (fin s m e) (inf false) p q = unfold le in refl
lt_not_le (fin s m e) (fin t n d) p q =
    rw (lt-is (fin s m e) (fin t n d) tt tt, le_is (fin t n d) (fin s m e) tt tt)
    (ltb_not (side (fin s m e) (fin t n d)) (side (fin t n d) (fin s m e)))

-- ---- negation reverses an order
pub lt-neg : (x y : Float) → lt (neg x) (neg y) ≡ lt y x
lt-neg nan nan = unfold lt neg in refl
lt-neg nan (inf t) = unfold lt neg in refl
lt-neg nan (fin t n d) = unfold lt neg in refl
lt-neg (inf s) nan = unfold lt neg in refl
lt-neg (inf true) (inf true) = unfold lt neg in refl
lt-neg (inf true) (inf false) = unfold lt neg in refl
lt-neg (inf false) (inf true) = unfold lt neg in refl
lt-neg (inf false) (inf false) = unfold lt neg in refl
lt-neg (inf s) (fin t n d) = unfold lt neg in refl
lt-neg (fin s m e) nan = unfold lt neg in refl
lt-neg (fin s m e) (inf true) = unfold lt neg in refl
lt-neg (fin s m e) (inf false) = unfold lt neg in refl
lt-neg (fin s m e) (fin t n d) = finites (fin s m e) (fin t n d) tt tt
  where
    finites : (x y : Float) → T (finite x) → T (finite y) → lt (neg x) (neg y) ≡ lt y x
    finites x y p q =
        lt-is (neg x) (neg y) (rw finite-neg p) (rw finite-neg q)
        ∙ rw (hi_neg x, hi_neg y, lo_neg x, lo_neg y, den-neg x, den-neg y)
        (rw (plus_comm (lo x * den y), plus_comm (lo y * den x)) (sym (lt-is y x q p)))

pub eq-neg : (x y : Float) → eq (neg x) (neg y) ≡ eq y x
eq-neg nan nan = unfold eq neg in refl
eq-neg nan (inf t) = unfold eq neg in refl
eq-neg nan (fin t n d) = unfold eq neg in refl
eq-neg (inf s) nan = unfold eq neg in refl
eq-neg (inf true) (inf true) = unfold eq neg in refl
eq-neg (inf true) (inf false) = unfold eq neg in refl
eq-neg (inf false) (inf true) = unfold eq neg in refl
eq-neg (inf false) (inf false) = unfold eq neg in refl
eq-neg (inf s) (fin t n d) = unfold eq neg in refl
eq-neg (fin s m e) nan = unfold eq neg in refl
eq-neg (fin s m e) (inf t) = unfold eq neg in refl
eq-neg (fin s m e) (fin t n d) = finites (fin s m e) (fin t n d) tt tt
  where
    finites : (x y : Float) → T (finite x) → T (finite y) → eq (neg x) (neg y) ≡ eq y x
    finites x y p q =
        eq_is (neg x) (neg y) (rw finite-neg p) (rw finite-neg q)
        ∙ rw (hi_neg x, hi_neg y, lo_neg x, lo_neg y, den-neg x, den-neg y)
        (rw (plus_comm (lo x * den y), plus_comm (lo y * den x)) (sym (eq_is y x q p)))

pub le-neg : (x y : Float) → le (neg x) (neg y) ≡ le y x
unfolding le
le-neg x y = rw (lt-neg x y, eq-neg x y)

-- ---- `Same` values compare in the same way
pub level→le : (x y : Float) → T (finite x) → T (finite y) → Level x y → T (le x y) × T (le y x)
level→le x y p q h = (under→le x y p q (le_of_eq h), under→le y x q p (le_of_eq (sym h)))

le-unsigned_zero : (x : Float) → T (number x) → T (le x (unsigned_zero x)) × T (le (unsigned_zero x) x)
unfolding unsigned_zero
le-unsigned_zero nan p = absurd p
le-unsigned_zero (inf s) p = (le_refl (inf s) tt, le_refl (inf s) tt)
le-unsigned_zero (fin s zero e) p = level→le (fin s zero e) (fin false 0 (pos 0)) tt tt (zero-level s e)
le-unsigned_zero (fin s (suc m) e) p = (le_refl (fin s (suc m) e) tt, le_refl (fin s (suc m) e) tt)

le_left : (y : Float) → le nan y ≡ false
unfolding le
le_left y = refl

le_right : (x : Float) → le x nan ≡ false
unfolding le
le_right nan = refl
le_right (inf s) = refl
le_right (fin s m e) = refl

-- x is the NaN or it is not
pub nan_or : (x : Float) → (x ≡ nan) ⊎ T (number x)
nan_or nan = inl refl
nan_or (inf s) = inr tt
nan_or (fin s m e) = inr tt

plain_nan : unsigned_zero nan ≡ nan
unfolding unsigned_zero
plain_nan = refl

le-to-unsigned_zero : (x y : Float) → le x y ≡ le (unsigned_zero x) (unsigned_zero y)
le-to-unsigned_zero x y = elim (nan_or x) [
  | inl e ↦ rw (e, plain_nan, le_left y, le_left (unsigned_zero y)) refl
  | inr p ↦ elim (nan_or y) [
    | inl e ↦ rw (e, plain_nan, le_right x, le_right (unsigned_zero x)) refl
    | inr q ↦
        iff (le x y) (le (unsigned_zero x) (unsigned_zero y))
        (λ h. le_trans (unsigned_zero x) x (unsigned_zero y) (le-unsigned_zero x p).1
        (le_trans x y (unsigned_zero y) h (le-unsigned_zero y q).0))
        (λ h. le_trans x (unsigned_zero x) y (le-unsigned_zero x p).0
        (le_trans (unsigned_zero x) (unsigned_zero y) y h (le-unsigned_zero y q).1))
  ]
]

pub le_same : (x x' y y' : Float) → Same x x' → Same y y' → le x y ≡ le x' y'
le_same x x' y y' p q =
    le-to-unsigned_zero x y ∙ ap (λ (z : Float). le z (unsigned_zero y)) p
    ∙ ap (λ (z : Float). le (unsigned_zero x') z) q ∙ sym (le-to-unsigned_zero x' y')

-- ---- `lt` and `le` of the same two

-- x < y from the negation of y ≤ x, and back
pub lt_i : (x y : Float) → T (number x) → T (number y) → (T (le y x) → ⊥) → T (lt x y)
lt_i x y p q n = rw (lt_not_le x y p q) (not_T (le y x) n)

pub lt-e : (x y : Float) → T (lt x y) → T (le y x) → ⊥
lt-e x y t h = lt_irrefl x (lt_of_lt_of_le x y x t h)
