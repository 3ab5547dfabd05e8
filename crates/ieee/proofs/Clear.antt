-- Where a result is not -0; the lemmas' names call this clear. A sum is -0 only if its first operand is: a sum that is
-- not zero does not round to zero, since both operands are multiples of the format's smallest value. So for values that
-- fit and are not -0, `Same` is equality. Assumes nothing.
use mathlib.Core.Path.{◌≡◌, refl, sym, ap, ◌∙◌, subst}
use mathlib.Core.Logic.{◌⊎◌, inl, inr}
use Prim.Native.Nat.{ℕ, zero, suc, ◌+◌, ◌-◌, ◌*◌, ◌^◌, ◌≤◌, ◌<◌}
use native.Mathlib.Nat.{le_trans, le_of_eq, le_of_lt, zero-lt-suc, one-mul, mul_comm as times-comm, mul-pos}
use native.Mathlib.Nat.{mul-le-mul_right, mul-le-mul, add-sub_of_le, pow-succ', lt_of_mul-lt-mul_right}
use native.Mathlib.Omega.{arith}
use mathlib.Core.Bool.{Bool, true, false, beq, cond}
use lib.IntN.{ℤ, pos, negsuc}
use lib.Dec.{T, ltb, leb→le, eqb→eq, lit<}
use lib.Pow.{pow_pos, pow-add}
use borrow.Author.Tests.{lt-ltb, le-ltb}
use lib.Ieee.{Float, nan, inf, fin, Format, binary32, binary64, prec, emax, low, up, down, odd, units, round, neg, sum}
use lib.Ieee.{add, fits}
use lib.Ieee.Fits.{up_pos, down_pos, and_l, and_r, round_is, add-fits}
use lib.Ieee.Exact.{HasValue, round_exact}
use lib.Ieee.Order.{round_mono}
use lib.Ieee.Positive.{above, above_of_le, positive_of_value}
use Rattle.std.proofs.lemmas.Bool.{cases_lt}
use Rattle.ieee.specs.Signs.{unsigned_zero, Same, not_minus_zero}
use Rattle.ieee.proofs.Sign.{round-neg}
use Rattle.ieee.proofs.Signed.{add_same, add_comm}

-- ---- what `fits` says of the exponent

flat : (e : ℤ) → up e * down e ≡ 1 → e ≡ pos 0
flat (pos zero) h = refl
flat (pos (suc k)) h = absurd (omega (arith, rw (pow-succ' 2 k) at h))
flat (negsuc k) h = absurd (omega (arith, rw (pow-succ' 2 k) at h))

pub zero_exp : (f : Format) (s : Bool) (e : ℤ) → T (fits f (fin s zero e)) → e ≡ pos 0
unfolding fits
zero_exp f s e t = flat e (eqb→eq (up e * down e) 1 t)

pub fits_down : (f : Format) (s : Bool) (m : ℕ) (e : ℤ) → T (fits f (fin s m e)) → down e ≤ 2 ^ low f
unfolding fits
fits_down f s zero e t = subst (λ (z : ℤ). down z ≤ 2 ^ low f) (sym (zero_exp f s e t)) (pow_pos (low f))
fits_down f s (suc m) e t = search (and_l, and_r, leb→le)

-- ---- a fraction of one unit at least does not round to zero
unit-value : (f : Format) → HasValue (round f false 1 (2 ^ low f)) false 1 (2 ^ low f)
unit-value binary32 =
    round_exact binary32 false 1 (2 ^ low binary32) 1 0 (pow_pos (low binary32)) (lit< tt) (lit< tt) refl
unit-value binary64 =
    round_exact binary64 false 1 (2 ^ low binary64) 1 0 (pow_pos (low binary64)) (lit< tt) (lit< tt) refl

pub round-above : (f : Format) (a c : ℕ) → 0 < c → c ≤ a * 2 ^ low f → T (above (round f false a c))
round-above f a c C h =
    above_of_le (round f false 1 (2 ^ low f)) (round f false a c)
    (positive_of_value (round f false 1 (2 ^ low f)) 1 (2 ^ low f) (unit-value f) (zero-lt-suc 0))
    (round_mono f 1 (2 ^ low f) a c (pow_pos (low f)) C (rw one-mul h))

neg_clear : (x : Float) → T (above x) → T (not_minus_zero (neg x))
unfolding neg
neg_clear nan t = tt
neg_clear (inf s) t = tt
neg_clear (fin true m e) t = absurd t
neg_clear (fin false zero e) t = absurd t
neg_clear (fin false (suc m) e) t = tt

round_clear_true : (f : Format) (a c : ℕ) → 0 < c → c ≤ a * 2 ^ low f → T (not_minus_zero (round f true a c))
round_clear_true f a c C h = rw (round-neg f false a c) (neg_clear (round f false a c) (round-above f a c C h))

odd_clear : (d q k l : ℕ) → T (not_minus_zero (odd d false q k l))
unfolding odd
odd_clear d zero k l = tt
odd_clear d (suc q) k l = tt

pub cond_clear : (b : Bool) (x y : Float) → T (not_minus_zero x) → T (not_minus_zero y) →
    T (not_minus_zero (cond b x y))
cond_clear true x y p q = p
cond_clear false x y p q = q

units_clear : (f : Format) (q k : ℕ) → T (not_minus_zero (units f false q k))
unfolding units
units_clear f q k =
    cond_clear (ltb (q * 2 ^ k) (2 ^ (low f + suc (emax f)))) (odd (suc (prec f)) false q k (low f)) (inf false)
    (odd_clear (suc (prec f)) q k (low f)) tt

pub round_clear_false : (f : Format) (a c : ℕ) → T (not_minus_zero (round f false a c))
round_clear_false f a c = rw (round_is f false a c) (units_clear f _ _)

-- ---- `sum`
sum_clear :
    (f : Format) (s : Bool) (a : ℕ) (t : Bool) (b c : ℕ) → 0 < c → (T s → c ≤ a * 2 ^ low f) →
    (a < b → c ≤ (b - a) * 2 ^ low f) → (b < a → c ≤ (a - b) * 2 ^ low f) →
    T (not_minus_zero (sum f s a t b c))
unfolding sum
sum_clear f false a false b c C h k l = round_clear_false f (a + b) c
sum_clear f true a true b c C h k l =
    round_clear_true f (a + b) c C (le_trans (h tt) (mul-le-mul_right (2 ^ low f) (omega arith)))
sum_clear f false a true b c C h k l = elim (cases_lt a b) [
  | inl o ↦ rw (lt-ltb a b o) (round_clear_true f (b - a) c C (k o))
  | inr o ↦ rw (le-ltb a b o) (round_clear_false f (a - b) c)
]
sum_clear f true a false b c C h k l = elim (cases_lt a b) [
  | inl o ↦ rw (lt-ltb a b o) (round_clear_false f (b - a) c)
  | inr o ↦ rw (le-ltb a b o) (elim (cases_lt b a) [
    | inl u ↦
        rw (lt-ltb b a u) (round_clear_true f (a - b) c C (l u))
    | inr u ↦
        rw (le-ltb b a u) (round_clear_false f (a - b) c)
  ])
]

-- ---- a difference of two multiples of 1 / de and 1 / dd that is not 0 is one unit at least
abbrev pub tail : ℤ → ℕ
tail (pos k) = 0
tail (negsuc k) = suc k

pub down_is : (e : ℤ) → down e ≡ 2 ^ tail e
down_is (pos k) = refl
down_is (negsuc k) = refl

-- one of the two divides the other
ratio : (e d : ℤ) → ((r : ℕ) × (down d ≡ down e * r)) ⊎ ((r : ℕ) × (down e ≡ down d * r))
ratio e d = elim (cases_lt (tail e) (tail d)) [
  | inl h ↦ inl (2 ^ (tail d - tail e), quotient e d (le_of_lt h))
  | inr h ↦ inr (2 ^ (tail e - tail d), quotient d e h)
]
  where
    quotient : (e d : ℤ) → tail e ≤ tail d → down d ≡ down e * 2 ^ (tail d - tail e)
    quotient e d h = rw (down_is d, down_is e, ← pow-add 2 (tail e) (tail d - tail e), add-sub_of_le h)

-- A / de < B / dd, with dd = de * r, and with de = dd * r: the difference of the cross products is a multiple of the
-- smaller of the two
grain_l : (A B de r L : ℕ) → A * (de * r) < B * de → de * r ≤ L → de * (de * r) ≤ (B * de - A * (de * r)) * L
grain_l A B de r L h u =
    let k : A * r < B = lt_of_mul-lt-mul_right de (omega arith) in
    let g : de ≤ B * de - A * (de * r) = omega (arith, mul-le-mul_right de k) in
    mul-le-mul g u

grain_r : (A B dd r L : ℕ) → A * dd < B * (dd * r) → dd * r ≤ L → dd * r * dd ≤ (B * (dd * r) - A * dd) * L
grain_r A B dd r L h u =
    let k : A < B * r = lt_of_mul-lt-mul_right dd (omega arith) in
    let g : dd ≤ B * (dd * r) - A * dd = omega (arith, mul-le-mul_right dd k) in
    le_trans (le_of_eq (times-comm (dd * r) dd)) (mul-le-mul g u)

grain : (A : ℕ) (e : ℤ) (B : ℕ) (d : ℤ) (L : ℕ) → down e ≤ L → down d ≤ L → A * down d < B * down e →
    down e * down d ≤ (B * down e - A * down d) * L
grain A e B d L u v h = elim (ratio e d) [
  | inl q ↦ rw q.1 (grain_l A B (down e) q.0 L (rw q.1 at h) (rw q.1 at v))
  | inr q ↦ rw q.1 (grain_r A B (down d) q.0 L (rw q.1 at h) (rw q.1 at u))
]

-- ---- `add`
lead : (f : Format) (s : Bool) (m : ℕ) (e d : ℤ) → T (fits f (fin s m e)) → T (not_minus_zero (fin s m e)) → T s →
    down e * down d ≤ m * up e * down d * 2 ^ low f
lead f false m e d t c g = absurd g
lead f true zero e d t c g = absurd c
lead f true (suc m) e d t c g =
    le_trans (mul-le-mul_right (down d) (fits_down f true (suc m) e t))
    (le_trans (le_of_eq (times-comm (2 ^ low f) (down d)))
    (mul-le-mul_right (2 ^ low f) (le_trans (le_of_eq (sym (one-mul (down d))))
    (mul-le-mul_right (down d) (mul-pos (zero-lt-suc m) (up_pos e))))))

pub add_clear : (f : Format) (x y : Float) → T (fits f x) → T (fits f y) → T (not_minus_zero x) →
    T (not_minus_zero (add f x y))
unfolding add
add_clear f nan y p q c = tt
add_clear f (inf s) nan p q c = tt
add_clear f (inf s) (inf t) p q c = cond_clear (beq s t) (inf s) nan tt tt
add_clear f (inf s) (fin t n d) p q c = tt
add_clear f (fin s m e) nan p q c = tt
add_clear f (fin s m e) (inf t) p q c = tt
add_clear f (fin s m e) (fin t n d) p q c =
    let u = fits_down f s m e p in
    let v = fits_down f t n d q in
    sum_clear f s (m * up e * down d) t (n * up d * down e) (down e * down d) (mul-pos (down_pos e) (down_pos d))
    (lead f s m e d p c)
    (grain (m * up e) e (n * up d) d (2 ^ low f) u v)
    (λ h. le_trans (le_of_eq (times-comm (down e) (down d))) (grain (n * up d) d (m * up e) e (2 ^ low f) v u h))

pub add_clear_r : (f : Format) (x y : Float) → T (fits f x) → T (fits f y) → T (not_minus_zero y) →
    T (not_minus_zero (add f x y))
add_clear_r f x y p q c = rw (add_comm f x y) (add_clear f y x q p c)

-- ---- `Same` is equality
pub plain_id : (f : Format) (x : Float) → T (fits f x) → T (not_minus_zero x) → unsigned_zero x ≡ x
unfolding unsigned_zero
plain_id f nan p c = refl
plain_id f (inf s) p c = refl
plain_id f (fin true zero e) p c = absurd c
plain_id f (fin true (suc m) e) p c = refl
plain_id f (fin false zero e) p c = ap (λ (z : ℤ). fin false 0 z) (sym (zero_exp f false e p))
plain_id f (fin false (suc m) e) p c = refl

pub same-is : (f : Format) (x y : Float) → T (fits f x) → T (fits f y) → T (not_minus_zero x) → T (not_minus_zero y) →
    Same x y → x ≡ y
same-is f x y p q c d h = sym (plain_id f x p c) ∙ h ∙ plain_id f y q d

-- so a sum of values that are the same is the same value, if it starts from one that is not -0
pub add-is-same :
    (f : Format) (x x' y y' : Float) → T (fits f x) → T (fits f x') → T (fits f y) → T (fits f y') →
    T (not_minus_zero x) → T (not_minus_zero x') → Same x x' → Same y y' →
    add f x y ≡ add f x' y'
add-is-same f x x' y y' p p' q q' c c' X Y =
    same-is f (add f x y) (add f x' y') (add-fits f x y) (add-fits f x' y') (add_clear f x y p q c)
    (add_clear f x' y' p' q' c') (add_same f x x' y y' X Y)
