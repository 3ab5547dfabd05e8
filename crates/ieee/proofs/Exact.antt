-- If a result is a value that the format holds, rounding returns that value: so x + 0 is x up to the sign of a zero.
-- And two values that fit and are the same number are `Same`. For claims on neighbouring values: there is no third
-- between two of them. Assumes nothing.
use mathlib.Core.Path.{◌≡◌, refl, sym, ap, ◌∙◌, subst}
use mathlib.Core.Logic.{inl, inr}
use Prim.Native.Nat.{ℕ, zero, suc, ◌+◌, ◌-◌, ◌*◌, ◌%◌, ◌^◌, ◌≤◌, ◌<◌}
use native.Mathlib.Nat.{le_antisymm, not-le_of_lt, zero-lt-suc, zero-mul, mul-one, mul_assoc, mul-pos}
use native.Mathlib.Nat.{mul-lt-mul_of_pos_right, lt_of_mul-lt-mul_right, pow-succ'}
use native.Mathlib.Omega.{arith}
use mathlib.Core.Bool.{Bool, true, false}
use lib.IntN.{ℤ, pos, negsuc}
use lib.Dec.{T, ltb→lt, eqb→eq}
use lib.Pow.{pow_pos, pow-add, pow-lt}
use lib.Ieee.{Float, nan, inf, fin, Format, prec, emax, low, up, down, round, add, le, fits}
use lib.Ieee.Fits.{up_pos, down_pos, and_l, and_r, round-fits}
use lib.Ieee.Exact.{HasValue, round_exact}
use lib.Ieee.Positive.{den, den_pos}
use lib.Ieee.Scale.{finite}
use Rattle.std.proofs.lemmas.Bool.{cases_lt}
use Rattle.ieee.specs.Numbers.{f0}
use Rattle.ieee.specs.Signs.{unsigned_zero, Same}
use Rattle.ieee.proofs.Zero.{round-zero}
use Rattle.ieee.proofs.Signed.{signed, signed_same, signed-plus, signed-minus, hi, lo, Level, add_is}
use Rattle.ieee.proofs.Clear.{zero_exp, fits_down, tail, down_is}
use Rattle.ieee.proofs.Order.{le→under}

-- ---- a number above 0 has one representation: an odd m times a power of two
odd_pow : (m n a b : ℕ) → m % 2 ≡ 1 → n % 2 ≡ 1 → m * 2 ^ a ≡ n * 2 ^ b → (m ≡ n) × (a ≡ b)
odd_pow m n zero zero o p h = (sym (mul-one m) ∙ h ∙ mul-one n, refl)
odd_pow m n zero (suc b) o p h = absurd (omega (arith, rw (pow-succ' 2 b) at h))
odd_pow m n (suc a) zero o p h = absurd (omega (arith, rw (pow-succ' 2 a) at h))
odd_pow m n (suc a) (suc b) o p h =
    let r = odd_pow m n a b o p (omega (arith, rw (pow-succ' 2 a, pow-succ' 2 b) at h)) in
    (r.0, ap suc r.1)

-- up e is 2 ^ head e, as down e is 2 ^ tail e
abbrev head : ℤ → ℕ
head (pos k) = k
head (negsuc k) = 0

up_is : (e : ℤ) → up e ≡ 2 ^ head e
up_is (pos k) = refl
up_is (negsuc k) = refl

exp-is : (e d : ℤ) → head e + tail d ≡ head d + tail e → e ≡ d
exp-is (pos k) (pos l) h = ap pos (omega arith)
exp-is (pos k) (negsuc l) h = absurd (omega arith)
exp-is (negsuc k) (pos l) h = absurd (omega arith)
exp-is (negsuc k) (negsuc l) h = ap negsuc (omega arith)

fits_odd : (f : Format) (s : Bool) (m : ℕ) (e : ℤ) → T (fits f (fin s (suc m) e)) → suc m % 2 ≡ 1
unfolding fits
fits_odd f s m e t = search (and_l, and_r, eqb→eq)

fits_prec : (f : Format) (s : Bool) (m : ℕ) (e : ℤ) → T (fits f (fin s (suc m) e)) → suc m < 2 ^ prec f
unfolding fits
fits_prec f s m e t = search (and_l, and_r, ltb→lt)

fits_top : (f : Format) (s : Bool) (m : ℕ) (e : ℤ) → T (fits f (fin s (suc m) e)) →
    suc m * up e < 2 ^ suc (emax f) * down e
unfolding fits
fits_top f s m e t = search (and_l, and_r, ltb→lt)

-- the same sign and the same size
one_way :
    (f : Format) (s : Bool) (m : ℕ) (e : ℤ) (n : ℕ) (d : ℤ) → T (fits f (fin s (suc m) e)) →
    T (fits f (fin s (suc n) d)) → suc m * up e * down d ≡ suc n * up d * down e →
    fin s (suc m) e ≡ fin s (suc n) d
one_way f s m e n d p q h =
    let r = odd_pow (suc m) (suc n) (head e + tail d) (head d + tail e) (fits_odd f s m e p) (fits_odd f s n d q)
    (rw (
      pow-add 2 (head e) (tail d),
      pow-add 2 (head d) (tail e),
      ← up_is e,
      ← up_is d,
      ← down_is e,
      ← down_is d,
      ←
          mul_assoc (suc m),
      ← mul_assoc (suc n),
    ) h) in
    λ i. fin s (r.0 i) (exp-is e d r.1 i)

-- ---- a value that fits rounds to itself
le_of_pow : (i j : ℕ) → 2 ^ i ≤ 2 ^ j → i ≤ j
le_of_pow i j h = elim (cases_lt j i) [ inl l ↦ absurd (not-le_of_lt (pow-lt l) h) | inr l ↦ l ]

whole_part : (L t : ℕ) → t ≤ L → 2 ^ L ≡ 2 ^ (L - t) * 2 ^ t
whole_part L t h = ap (λ (x : ℕ). 2 ^ x) (omega arith) ∙ pow-add 2 (L - t) t

regroup : (m h a b : ℕ) → m * h * (a * b) ≡ m * (h * a) * b
regroup m h a b = omega arith

-- m * 2 ^ e in units of 2 ^ -L
in_units : (m : ℕ) (e : ℤ) (L : ℕ) → tail e ≤ L → m * up e * 2 ^ L ≡ m * 2 ^ (head e + (L - tail e)) * down e
in_units m e L h =
    rw (pow-add 2 (head e) (L - tail e), down_is e, up_is e, whole_part L (tail e) h)
    (regroup m (2 ^ head e) (2 ^ (L - tail e)) (2 ^ tail e))

fine : (m u d E L k : ℕ) → 0 < L → m * u < E * d → m * u * L ≡ k * d → k < L * E
fine m u d E L k P h e = lt_of_mul-lt-mul_right d (omega (arith, mul-lt-mul_of_pos_right h P))

pub round_id : (f : Format) (s : Bool) (m : ℕ) (e : ℤ) → T (fits f (fin s m e)) →
    round f s (m * up e) (down e) ≡ fin s m e
round_id f s zero e t = rw (zero-mul, round-zero f s (down e) (down_pos e), zero_exp f s e t)
round_id f s (suc m) e t =
    go (round f s (suc m * up e) (down e)) (round-fits f s (suc m * up e) (down e))
    (round_exact f s (suc m * up e) (down e) (suc m) (head e + (low f - tail e)) (down_pos e) (fits_prec f s m e t)
    (rw (pow-add 2 (low f) (suc (emax f))) (fine (suc m) (up e) (down e) (2 ^ suc (emax f)) (2 ^ low f)
    (suc m * 2 ^ (head e + (low f - tail e))) (pow_pos (low f)) (fits_top f s m e t) same))
    same)
  where
    same : suc m * up e * 2 ^ low f ≡ suc m * 2 ^ (head e + (low f - tail e)) * down e
    same = in_units (suc m) e (low f) (le_of_pow (tail e) (low f) (rw (← down_is e) (fits_down f s (suc m) e t)))

    go : (z : Float) → T (fits f z) → HasValue z s (suc m * up e) (down e) → z ≡ fin s (suc m) e
    go nan p v = absurd v
    go (inf u) p v = absurd v
    go (fin u zero d) p v = absurd (omega (arith, mul-pos (mul-pos (zero-lt-suc m) (up_pos e)) (down_pos d), v.1))
    go (fin u (suc n) d) p v =
        ap (λ (b : Bool). fin b (suc n) d) v.0 ∙ one_way f s n d m e
        (subst (λ (b : Bool). T (fits f (fin b (suc n) d))) v.0 p) t v.1

-- ---- so a result that is a value z of the format is z
own : (f : Format) (z : Float) → T (finite z) → T (fits f z) →
    unsigned_zero (signed f (hi z) (lo z) (den z)) ≡ unsigned_zero z
own f nan p t = absurd p
own f (inf s) p t = absurd p
own f (fin false m e) p t = sym (signed-plus f (m * up e) (down e)) ∙ ap unsigned_zero (round_id f false m e t)
own f (fin true m e) p t =
    sym (signed-minus f (m * up e) (down e) (down_pos e)) ∙ ap unsigned_zero (round_id f true m e t)

pub signed-exact : (f : Format) (p n c : ℕ) (z : Float) → 0 < c → T (finite z) → T (fits f z) →
    p * den z + lo z * c ≡ hi z * c + n * den z → unsigned_zero (signed f p n c) ≡ unsigned_zero z
signed-exact f p n c z C q t e =
    ap unsigned_zero (signed_same f p n c (hi z) (lo z) (den z) C (den_pos z) e) ∙ own f z q t

-- two values that fit and are the same number
pub level→same : (f : Format) (x y : Float) → T (finite x) → T (finite y) → T (fits f x) → T (fits f y) → Level x y →
    Same x y
level→same f x y p q t u e = sym (own f x p t) ∙ signed-exact f (hi x) (lo x) (den x) y (den_pos x) q u e

pub le_antisym : (f : Format) (x y : Float) → T (fits f x) → T (fits f y) → T (le x y) → T (le y x) → Same x y
le_antisym f nan y t u h k = absurd (unfold le in h)
le_antisym f (inf s) nan t u h k = absurd (unfold le in k)
le_antisym f (inf true) (inf true) t u h k = refl
le_antisym f (inf true) (inf false) t u h k = absurd (unfold le in k)
le_antisym f (inf false) (inf true) t u h k = absurd (unfold le in h)
le_antisym f (inf false) (inf false) t u h k = refl
le_antisym f (inf true) (fin v n d) t u h k = absurd (unfold le in k)
le_antisym f (inf false) (fin v n d) t u h k = absurd (unfold le in h)
le_antisym f (fin s m e) nan t u h k = absurd (unfold le in k)
le_antisym f (fin s m e) (inf true) t u h k = absurd (unfold le in h)
le_antisym f (fin s m e) (inf false) t u h k = absurd (unfold le in k)
le_antisym f (fin s m e) (fin v n d) t u h k =
    level→same f (fin s m e) (fin v n d) tt tt t u (le_antisymm (le→under (fin s m e) (fin v n d) tt tt h)
    (le→under (fin v n d) (fin s m e) tt tt k))

-- ---- x + 0
add-zero-finite : (f : Format) (x : Float) → T (finite x) → T (fits f x) → Same (add f x f0) x
add-zero-finite f x p t =
    add_is f x f0 p tt ∙ signed-exact f _ _ _ x (mul-pos (den_pos x) (den_pos f0)) p t (omega arith)

pub add-zero-same : (f : Format) (x : Float) → T (fits f x) → Same (add f x f0) x
add-zero-same f nan t = unfold add in refl
add-zero-same f (inf s) t = unfold add in refl
add-zero-same f (fin s m e) t = add-zero-finite f (fin s m e) tt t
