-- A sum as one rounding of a signed fraction: (p - n) / c, for numbers p and n. Up to the sign of a zero, `add` is the
-- rounded sum of the operands' fractions, and equal fractions round alike, so `add` and `sub` respect `Same`, and a
-- sign can be taken out of a sum. Assumes nothing.
use mathlib.Core.Path.{◌≡◌, refl, sym, ap, ◌∙◌, subst₂}
use mathlib.Core.Logic.{inl, inr}
use Prim.Native.Nat.{ℕ, zero, suc, ◌+◌, ◌-◌, ◌*◌, ◌≤◌, ◌<◌, zero-le}
use native.Mathlib.Nat.{not-le_of_lt, le_of_lt, lt_of_mul-lt-mul_right, le_of_eq, zero-mul, zero-add, add-zero}
use native.Mathlib.Nat.{add_comm as plus_comm, sub-zero}
use native.Mathlib.Nat.{mul_comm as times-comm, mul-pos, eq-zero-or-pos, add-mul, mul-lt-mul_of_pos_right}
use native.Mathlib.Omega.{arith}
use mathlib.Core.Bool.{Bool, true, false, not, beq, cond}
use lib.IntN.{ℤ, pos}
use lib.Dec.{T, ltb}
use borrow.Author.Tests.{lt-ltb, le-ltb}
use lib.Ieee.{Float, nan, inf, fin, Format, up, down, round, neg, sum, add, sub}
use lib.Ieee.Fits.{down_pos}
use lib.Ieee.Positive.{den, den_pos}
use lib.Ieee.Scale.{round_same, finite}
use Rattle.std.proofs.lemmas.Bool.{cases_lt}
use Rattle.ieee.specs.Signs.{unsigned_zero, Same}
use Rattle.ieee.proofs.Sign.{neg-cond, round-neg}
use Rattle.ieee.proofs.Zero.{neg_same, round-zero}

-- ---- the two parts of ±a: one of them is 0
abbrev pub over : Bool → ℕ → ℕ
over false a = a
over true a = 0

abbrev pub under : Bool → ℕ → ℕ
under false a = 0
under true a = a

-- (p - n) / c rounded. A zero is +0.
unfoldable pub signed : Format → ℕ → ℕ → ℕ → Float
signed f p n c = cond (ltb p n) (round f true (n - p) c) (round f false (p - n) c)

-- ---- cases
pub signed_lt : (f : Format) (p n c : ℕ) → p < n → signed f p n c ≡ round f true (n - p) c
unfolding signed
signed_lt f p n c h = rw (lt-ltb p n h)

pub signed_ge : (f : Format) (p n c : ℕ) → n ≤ p → signed f p n c ≡ round f false (p - n) c
unfolding signed
signed_ge f p n c h = rw (le-ltb p n h)

-- ---- equal fractions round alike
cross : (x p c x' p' c' : ℕ) → p * c' + (x' + p') * c ≡ p' * c + (x + p) * c' → x * c' ≡ x' * c
cross x p c x' p' c' e = omega arith

pub part : (p n : ℕ) → p ≤ n → n ≡ n - p + p
part p n h = omega arith

-- the sign of one is that of the other
lt_too : (p n c p' n' c' : ℕ) → 0 < c' → p * c' + n' * c ≡ p' * c + n * c' → p < n → p' < n'
lt_too p n c p' n' c' C' e h = lt_of_mul-lt-mul_right c (omega (arith, mul-lt-mul_of_pos_right h C'))

pub signed_same : (f : Format) (p n c p' n' c' : ℕ) → 0 < c → 0 < c' → p * c' + n' * c ≡ p' * c + n * c' →
    signed f p n c ≡ signed f p' n' c'
signed_same f p n c p' n' c' C C' e = elim (cases_lt p n) [ inl h ↦ below h | inr h ↦ above h ]
  where
    below : p < n → signed f p n c ≡ signed f p' n' c'
    below h =
        let h' : p' < n' = lt_too p n c p' n' c' C' e h in
        signed_lt f p n c h
        ∙ round_same f true (n - p) c (n' - p') c' C C'
        (cross (n - p) p c (n' - p') p' c' (subst₂ (λ (u v : ℕ). p * c' + u * c ≡ p' * c + v * c')
        (part p' n' (le_of_lt h')) (part p n (le_of_lt h)) e))
        ∙ sym (signed_lt f p' n' c' h')

    above : n ≤ p → signed f p n c ≡ signed f p' n' c'
    above h =
        let h' : n' ≤ p' =
        elim (cases_lt p' n') [
          | inl k ↦ absurd (not-le_of_lt (lt_too p' n' c' p n c C (omega arith) k) h)
          | inr k ↦
              k
        ] in
        signed_ge f p n c h
        ∙ round_same f false (p - n) c (p' - n') c' C C'
        (cross (p - n) n c (p' - n') n' c' (subst₂ (λ (u v : ℕ). n * c' + v * c ≡ n' * c + u * c') (part n p h)
        (part n' p' h') (omega arith)))
        ∙ sym (signed_ge f p' n' c' h')

-- ---- `sum`
no_difference : (a b : ℕ) → a ≤ b → b ≤ a → a - b ≡ b - a
no_difference a b h k = omega arith

pub unsigned_zero-zero : (f : Format) (s t : Bool) (a b c : ℕ) → 0 < c → a ≡ 0 → b ≡ 0 →
    unsigned_zero (round f s a c) ≡ unsigned_zero (round f t b c)
unfolding unsigned_zero
unsigned_zero-zero f s t a b c C p q = rw (p, q, round-zero f s c C, round-zero f t c C)

-- a fraction with a sign
pub signed-plus : (f : Format) (a c : ℕ) → unsigned_zero (round f false a c) ≡ unsigned_zero (signed f a 0 c)
signed-plus f a c = ap unsigned_zero (sym (signed_ge f a 0 c zero-le ∙ rw sub-zero))

pub signed-minus : (f : Format) (a c : ℕ) → 0 < c → unsigned_zero (round f true a c) ≡ unsigned_zero (signed f 0 a c)
signed-minus f a c C = elim (eq-zero-or-pos a) [
  | inl z ↦ rw (signed_ge f 0 a c (le_of_eq z)) (unsigned_zero-zero f true false a (0 - a) c C z (omega arith))
  | inr h ↦ rw (signed_lt f 0 a c h, sub-zero) refl
]

pub sum_is : (f : Format) (s : Bool) (a : ℕ) (t : Bool) (b c : ℕ) → 0 < c →
    unsigned_zero (sum f s a t b c) ≡ unsigned_zero (signed f (over s a + over t b) (under s a + under t b) c)
unfolding sum
sum_is f false a false b c C = signed-plus f (a + b) c
sum_is f false a true b c C = rw (add-zero, zero-add) (unfold signed in refl)
sum_is f true a false b c C = rw (add-zero, zero-add) (elim (cases_lt a b) [
  | inl h ↦ rw (lt-ltb a b h, signed_ge f b a c (le_of_lt h)) refl
  | inr h ↦ rw (le-ltb a b h) (elim (cases_lt b a) [
    | inl k ↦ rw (lt-ltb b a k, signed_lt f b a c k) refl
    | inr k ↦
        rw (le-ltb b a k, signed_ge f b a c k, no_difference a b k h) refl
  ])
])
sum_is f true a true b c C = signed-minus f (a + b) c C

-- ---- a finite value is (hi - lo) / den
abbrev pub hi : Float → ℕ
hi nan = 0
hi (inf s) = 0
hi (fin s m e) = over s (m * up e)

abbrev pub lo : Float → ℕ
lo nan = 0
lo (inf s) = 0
lo (fin s m e) = under s (m * up e)

-- two finite values that are the same number
abbrev pub Level : Float → Float → Type 0
Level x y = hi x * den y + lo y * den x ≡ hi y * den x + lo x * den y

pub over-mul : (s : Bool) (a k : ℕ) → over s (a * k) ≡ over s a * k
over-mul true a k = sym (zero-mul k)
over-mul false a k = refl

pub under_mul : (s : Bool) (a k : ℕ) → under s (a * k) ≡ under s a * k
under_mul true a k = refl
under_mul false a k = sym (zero-mul k)

pub add_is : (f : Format) (x y : Float) → T (finite x) → T (finite y) →
    unsigned_zero (add f x y)
    ≡ unsigned_zero (signed f (hi x * den y + hi y * den x) (lo x * den y + lo y * den x) (den x * den y))
unfolding add
add_is f nan y p q = absurd p
add_is f (inf s) y p q = absurd p
add_is f (fin s m e) nan p q = absurd q
add_is f (fin s m e) (inf t) p q = absurd q
add_is f (fin s m e) (fin t n d) p q =
    sum_is f s (m * up e * down d) t (n * up d * down e) (down e * down d) (mul-pos (down_pos e) (down_pos d))
    ∙ rw (
      over-mul s (m * up e) (down d),
      over-mul t (n * up d) (down e),
      under_mul s (m * up e) (down d),
      under_mul t
          (n * up d) (down e),
    )

pub spread : (a b h k c d : ℕ) → (a * b + h * k) * (c * d) ≡ a * c * (b * d) + h * d * (k * c)
spread a b h k c d = omega arith

-- a + b = c + d and e + g = k + l, so a + e + (b + g) = c + k + (d + l)
both : (a b c d e g k l : ℕ) → a + b ≡ c + d → e + g ≡ k + l → a + e + (b + g) ≡ c + k + (d + l)
both a b c d e g k l p q = omega arith

pub times : (a b c d k : ℕ) → a + b ≡ c + d → a * k + b * k ≡ c * k + d * k
times a b c d k p = sym (add-mul a b k) ∙ ap (λ (z : ℕ). z * k) p ∙ add-mul c d k

sums : (hx lx dx hx' lx' dx' hy ly dy hy' ly' dy' : ℕ) → hx * dx' + lx' * dx ≡ hx' * dx + lx * dx' →
    hy * dy' + ly' * dy ≡ hy' * dy + ly * dy'
    → (hx * dy + hy * dx) * (dx' * dy') + (lx' * dy' + ly' * dx') * (dx * dy)
    ≡ (hx' * dy' + hy' * dx') * (dx * dy) + (lx * dy + ly * dx) * (dx' * dy')
sums hx lx dx hx' lx' dx' hy ly dy hy' ly' dy' X Y =
    let A = times (hx * dx') (lx' * dx) (hx' * dx) (lx * dx') (dy * dy') X in
    let B = times (hy * dy') (ly' * dy) (hy' * dy) (ly * dy') (dx * dx') Y in
    rw (
      spread hx dy hy dx dx' dy',
      spread lx' dy' ly' dx' dx dy,
      spread hx' dy' hy' dx' dx dy,
      spread lx dy ly dx dx'
          dy',
      times-comm dy' dy,
      times-comm dx' dx,
    )
    (both (hx * dx' * (dy * dy')) (lx' * dx * (dy * dy')) (hx' * dx * (dy * dy')) (lx * dx' * (dy * dy'))
    (hy * dy' * (dx * dx')) (ly' * dy * (dx * dx')) (hy' * dy * (dx * dx')) (ly * dy' * (dx * dx')) A B)

pub add-level : (f : Format) (x x' y y' : Float) → T (finite x) → T (finite x') → T (finite y) → T (finite y') →
    Level x x' → Level y y' → Same (add f x y) (add f x' y')
add-level f x x' y y' p p' q q' X Y =
    let e = signed_same f (hi x * den y + hi y * den x) (lo x * den y + lo y * den x) (den x * den y)
    (hi x' * den y' + hi y' * den x') (lo x' * den y' + lo y' * den x') (den x' * den y')
    (mul-pos (den_pos x) (den_pos y)) (mul-pos (den_pos x') (den_pos y'))
    (sums (hi x) (lo x) (den x) (hi x') (lo x') (den x') (hi y) (lo y) (den y) (hi y') (lo y') (den y') X Y) in
    add_is f x y p q ∙ ap unsigned_zero e ∙ sym (add_is f x' y' p' q')

-- any zero is on a level with +0
pub zero-level : (s : Bool) (e : ℤ) → Level (fin s 0 e) (fin false 0 (pos 0))
zero-level true e = simp zero-mul
zero-level false e = simp zero-mul

pub unsigned_zero-add : (f : Format) (x y : Float) → unsigned_zero (add f x y)
    ≡ unsigned_zero (add f (unsigned_zero x) (unsigned_zero y))
unfolding add unsigned_zero
unsigned_zero-add f nan y = refl
unsigned_zero-add f (inf s) nan = refl
unsigned_zero-add f (inf s) (inf t) = refl
unsigned_zero-add f (inf s) (fin t zero d) = refl
unsigned_zero-add f (inf s) (fin t (suc n) d) = refl
unsigned_zero-add f (fin s zero e) nan = refl
unsigned_zero-add f (fin s zero e) (inf t) = refl
unsigned_zero-add f (fin s zero e) (fin t zero d) =
    add-level f (fin s zero e) (fin false 0 (pos 0)) (fin t zero d) (fin false 0 (pos 0)) tt tt tt tt (zero-level s e)
    (zero-level t d)
unsigned_zero-add f (fin s zero e) (fin t (suc n) d) =
    add-level f (fin s zero e) (fin false 0 (pos 0)) (fin t (suc n) d) (fin t (suc n) d) tt tt tt tt
    (zero-level s e) refl
unsigned_zero-add f (fin s (suc m) e) nan = refl
unsigned_zero-add f (fin s (suc m) e) (inf t) = refl
unsigned_zero-add f (fin s (suc m) e) (fin t zero d) =
    add-level f (fin s (suc m) e) (fin s (suc m) e) (fin t zero d) (fin false 0 (pos 0)) tt tt tt tt refl
    (zero-level t d)
unsigned_zero-add f (fin s (suc m) e) (fin t (suc n) d) = refl

pub add_same : (f : Format) (x x' y y' : Float) → Same x x' → Same y y' → Same (add f x y) (add f x' y')
add_same f x x' y y' p q =
    unsigned_zero-add f x y ∙ ap (λ (z : Float). unsigned_zero (add f z (unsigned_zero y))) p
    ∙ ap (λ (z : Float). unsigned_zero (add f (unsigned_zero x') z)) q ∙ sym (unsigned_zero-add f x' y')

pub sub_same : (f : Format) (x x' y y' : Float) → Same x x' → Same y y' → Same (sub f x y) (sub f x' y')
unfolding sub
sub_same f x x' y y' p q = add_same f x x' (neg y) (neg y') p (neg_same y y' q)

-- ---- a sign, taken out of a sum

neg-signed : (f : Format) (p n c : ℕ) → 0 < c → unsigned_zero (signed f n p c) ≡ unsigned_zero (neg (signed f p n c))
neg-signed f p n c C = elim (cases_lt p n) [
  | inl h ↦ rw (signed_lt f p n c h, signed_ge f n p c (le_of_lt h), ← round-neg f true (n - p) c) refl
  | inr h ↦ rw (signed_ge f p n c h, ← round-neg f false (p - n) c) (elim (cases_lt n p) [
    | inl k ↦ rw (signed_lt f n p c k) refl
    | inr k ↦ rw (signed_ge f n p c k) (unsigned_zero-zero f false true (n - p) (p - n) c C (omega arith) (omega arith))
  ])
]

pub hi_neg : (x : Float) → hi (neg x) ≡ lo x
unfolding neg
hi_neg nan = refl
hi_neg (inf s) = refl
hi_neg (fin true m e) = refl
hi_neg (fin false m e) = refl

pub lo_neg : (x : Float) → lo (neg x) ≡ hi x
unfolding neg
lo_neg nan = refl
lo_neg (inf s) = refl
lo_neg (fin true m e) = refl
lo_neg (fin false m e) = refl

pub den-neg : (x : Float) → den (neg x) ≡ den x
unfolding neg
den-neg nan = refl
den-neg (inf s) = refl
den-neg (fin s m e) = refl

pub finite-neg : (x : Float) → finite (neg x) ≡ finite x
unfolding neg
finite-neg nan = refl
finite-neg (inf s) = refl
finite-neg (fin s m e) = refl

neg-add-finite : (f : Format) (x y : Float) → T (finite x) → T (finite y) →
    Same (add f (neg x) (neg y)) (neg (add f x y))
neg-add-finite f x y p q =
    add_is f (neg x) (neg y) (rw finite-neg p) (rw finite-neg q)
    ∙ rw (hi_neg x, hi_neg y, lo_neg x, lo_neg y, den-neg x, den-neg y)
    (neg-signed f (hi x * den y + hi y * den x) (lo x * den y + lo y * den x) (den x * den y)
    (mul-pos (den_pos x) (den_pos y)))
    ∙ neg_same (signed f (hi x * den y + hi y * den x) (lo x * den y + lo y * den x) (den x * den y)) (add f x y)
    (sym (add_is f x y p q))

beq_not : (s t : Bool) → beq (not s) (not t) ≡ beq s t
beq_not true true = refl
beq_not true false = refl
beq_not false true = refl
beq_not false false = refl

pub neg-add : (f : Format) (x y : Float) → Same (add f (neg x) (neg y)) (neg (add f x y))
neg-add f nan y = unfold add neg in refl
neg-add f (inf s) nan = unfold add neg in refl
neg-add f (inf s) (inf t) =
    unfold add neg in (ap unsigned_zero (ap (λ (b : Bool). cond b (inf (not s)) nan) (beq_not s t)
    ∙ sym (neg-cond (beq s t) (inf s) nan)))
neg-add f (inf s) (fin t n d) = unfold add neg in refl
neg-add f (fin s m e) nan = unfold add neg in refl
neg-add f (fin s m e) (inf t) = unfold add neg in refl
neg-add f (fin s m e) (fin t n d) = neg-add-finite f (fin s m e) (fin t n d) tt tt

pub neg-sub : (f : Format) (x y : Float) → Same (sub f (neg x) (neg y)) (neg (sub f x y))
unfolding sub
neg-sub f x y = neg-add f x (neg y)

-- ---- the operands of a sum change places
beq_comm : (s t : Bool) → beq s t ≡ beq t s
beq_comm true true = refl
beq_comm true false = refl
beq_comm false true = refl
beq_comm false false = refl

pub sum_comm : (f : Format) (s : Bool) (a : ℕ) (t : Bool) (b c : ℕ) → sum f s a t b c ≡ sum f t b s a c
unfolding sum
sum_comm f true a true b c = rw (plus_comm a b)
sum_comm f false a false b c = rw (plus_comm a b)
sum_comm f true a false b c = elim (cases_lt a b) [
  | inl h ↦ rw (lt-ltb a b h, le-ltb b a (le_of_lt h)) refl
  | inr h ↦ rw (le-ltb a b h) (elim (cases_lt b a) [
    | inl k ↦ rw (lt-ltb b a k) refl
    | inr k ↦
        rw (le-ltb b a k, no_difference a b k h) refl
  ])
]
sum_comm f false a true b c = elim (cases_lt b a) [
  | inl h ↦ rw (lt-ltb b a h, le-ltb a b (le_of_lt h)) refl
  | inr h ↦ rw (le-ltb b a h) (elim (cases_lt a b) [
    | inl k ↦ rw (lt-ltb a b k) refl
    | inr k ↦
        rw (le-ltb a b k, no_difference a b h k) refl
  ])
]

both_same : (s t : Bool) → cond (beq s t) (inf s) nan ≡ cond (beq s t) (inf t) nan
both_same true true = refl
both_same true false = refl
both_same false true = refl
both_same false false = refl

pub add_comm : (f : Format) (x y : Float) → add f x y ≡ add f y x
unfolding add
add_comm f nan nan = refl
add_comm f nan (inf t) = refl
add_comm f nan (fin t n d) = refl
add_comm f (inf s) nan = refl
add_comm f (inf s) (inf t) = both_same s t ∙ ap (λ (b : Bool). cond b (inf t) nan) (beq_comm s t)
add_comm f (inf s) (fin t n d) = refl
add_comm f (fin s m e) nan = refl
add_comm f (fin s m e) (inf t) = refl
add_comm f (fin s m e) (fin t n d) =
    sum_comm f s (m * up e * down d) t (n * up d * down e) (down e * down d) ∙ rw (times-comm (down e) (down d))
