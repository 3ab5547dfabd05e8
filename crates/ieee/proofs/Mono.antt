-- Rounding keeps the order of signed fractions, so a sum grows with each operand. Infinities are included, as long as
-- no result is a NaN. For claims on Δ, which rises with z, and on the arm, which rises with Δ. Assumes nothing.
use mathlib.Core.Path.{◌≡◌, refl, subst₂}
use mathlib.Core.Logic.{inl, inr}
use Prim.Native.Nat.{ℕ, ◌+◌, ◌-◌, ◌*◌, ◌≤◌, ◌<◌, zero-le}
use native.Mathlib.Nat.{le_of_lt, zero-mul, mul_comm as times-comm, add-mul, mul-pos, mul-le-mul_right}
use native.Mathlib.Nat.{mul-lt-mul_of_pos_right, zero-lt-suc}
use native.Mathlib.Omega.{arith}
use mathlib.Core.Bool.{Bool, true, false}
use lib.Dec.{T}
use lib.Ieee.{Float, nan, inf, fin, Format, round, neg, add, le}
use lib.Ieee.Positive.{den, den_pos}
use lib.Ieee.Order.{round_mono}
use lib.Ieee.Scale.{finite}
use Rattle.std.proofs.lemmas.Float.{le_trans}
use Rattle.std.proofs.lemmas.Bool.{cases_lt}
use Rattle.ieee.specs.Signs.{Same}
use Rattle.ieee.proofs.Sign.{round-neg}
use Rattle.ieee.proofs.Zero.{round-zero}
use Rattle.ieee.proofs.Signed.{signed, signed_lt, signed_ge, hi, lo, part, spread, add_is}
use Rattle.ieee.proofs.Order.{number, le_refl, le_same, le-neg, le→under}

-- ---- a negative fraction rounds to no more than a positive one
below-zero : (f : Format) (a c b d : ℕ) → 0 < c → 0 < d → T (le (round f true a c) (round f false b d))
below-zero f a c b d C D =
    let z = round f false 0 1 in
    le_trans (round f true a c) (neg z) (round f false b d)
    (rw (round-neg f false a c, le-neg (round f false a c) z)
    (round_mono f 0 1 a c (zero-lt-suc 0) C (rw zero-mul zero-le)))
    (le_trans (neg z) z (round f false b d) (rw (round-zero f false 1 (zero-lt-suc 0)) (unfold neg le in tt))
    (round_mono f 0 1 b d (zero-lt-suc 0) D (rw zero-mul zero-le)))

cross_le : (x p c x' p' c' : ℕ) → p * c' + (x' + p') * c ≤ p' * c + (x + p) * c' → x' * c ≤ x * c'
cross_le x p c x' p' c' h = omega arith

-- (p - n) / c ≤ (p' - n') / c'
pub signed_mono : (f : Format) (p n c p' n' c' : ℕ) → 0 < c → 0 < c' → p * c' + n' * c ≤ p' * c + n * c' →
    T (le (signed f p n c) (signed f p' n' c'))
signed_mono f p n c p' n' c' C C' e = elim (cases_lt p n) [
  | inl h ↦ rw (signed_lt f p n c h) (elim (cases_lt p' n') [
    | inl k ↦ rw (signed_lt f p' n' c' k, round-neg f false (n - p) c, round-neg f false (n' - p') c', le-neg)
        (round_mono f (n' - p') c' (n - p) c C' C (both_less h k))
    | inr k ↦ rw (signed_ge f p' n' c' k) (below-zero f (n - p) c (p' - n') c' C C')
  ])
  | inr h ↦ rw (signed_ge f p n c h) (elim (cases_lt p' n') [
    | inl k ↦ absurd (no_way h k)
    | inr k ↦ rw (signed_ge f p' n' c' k) (round_mono f (p - n) c (p' - n') c' C C' (both_more h k))
  ])
]
  where
    both_less : p < n → p' < n' → (n' - p') * c ≤ (n - p) * c'
    both_less h k =
        cross_le (n - p) p c (n' - p') p' c' (subst₂ (λ (u v : ℕ). p * c' + u * c ≤ p' * c + v * c')
        (part p' n' (le_of_lt k)) (part p n (le_of_lt h)) e)

    both_more : n ≤ p → n' ≤ p' → (p - n) * c' ≤ (p' - n') * c
    both_more h k =
        cross_le (p' - n') n' c' (p - n) n c (subst₂ (λ (u v : ℕ). n' * c + u * c' ≤ n * c' + v * c) (part n p h)
        (part n' p' k) (omega arith))

    no_way : n ≤ p → p' < n' → ⊥
    no_way h k = omega (arith, mul-le-mul_right c' h, mul-lt-mul_of_pos_right k C)

-- ---- sums of finite values
both_le : (a b c d e g k l : ℕ) → a + b ≤ c + d → e + g ≤ k + l → a + e + (b + g) ≤ c + k + (d + l)
both_le a b c d e g k l p q = omega arith

times-le : (a b c d k : ℕ) → a + b ≤ c + d → a * k + b * k ≤ c * k + d * k
times-le a b c d k p = subst₂ (λ (u v : ℕ). u ≤ v) (add-mul a b k) (add-mul c d k) (mul-le-mul_right k p)

sums_le : (hx lx dx hx' lx' dx' hy ly dy hy' ly' dy' : ℕ) → hx * dx' + lx' * dx ≤ hx' * dx + lx * dx' →
    hy * dy' + ly' * dy ≤ hy' * dy + ly * dy'
    → (hx * dy + hy * dx) * (dx' * dy') + (lx' * dy' + ly' * dx') * (dx * dy)
    ≤ (hx' * dy' + hy' * dx') * (dx * dy) + (lx * dy + ly * dx) * (dx' * dy')
sums_le hx lx dx hx' lx' dx' hy ly dy hy' ly' dy' X Y =
    let A = times-le (hx * dx') (lx' * dx) (hx' * dx) (lx * dx') (dy * dy') X in
    let B = times-le (hy * dy') (ly' * dy) (hy' * dy) (ly * dy') (dx * dx') Y in
    rw (
      spread hx dy hy dx dx' dy',
      spread lx' dy' ly' dx' dx dy,
      spread hx' dy' hy' dx' dx dy,
      spread lx dy ly dx dx'
          dy',
      times-comm dy' dy,
      times-comm dx' dx,
    )
    (both_le (hx * dx' * (dy * dy')) (lx' * dx * (dy * dy')) (hx' * dx * (dy * dy')) (lx * dx' * (dy * dy'))
    (hy * dy' * (dx * dx')) (ly' * dy * (dx * dx')) (hy' * dy * (dx * dx')) (ly * dy' * (dx * dx')) A B)

-- x and y under other names, up to the sign of a zero
pub le_through : (x x' y y' : Float) → Same x x' → Same y y' → T (le x' y') → T (le x y)
le_through x x' y y' p q h = rw (le_same x x' y y' p q) h

pub add_mono_finite : (f : Format) (x x' y y' : Float) → T (finite x) → T (finite x') → T (finite y) → T (finite y') →
    T (le x x') → T (le y y') → T (le (add f x y) (add f x' y'))
add_mono_finite f x x' y y' p p' q q' h k =
    le_through (add f x y) _ (add f x' y') _ (add_is f x y p q) (add_is f x' y' p' q')
    (signed_mono f (hi x * den y + hi y * den x) (lo x * den y + lo y * den x) (den x * den y)
    (hi x' * den y' + hi y' * den x') (lo x' * den y' + lo y' * den x') (den x' * den y')
    (mul-pos (den_pos x) (den_pos y)) (mul-pos (den_pos x') (den_pos y'))
    (sums_le (hi x) (lo x) (den x) (hi x') (lo x') (den x') (hi y) (lo y) (den y) (hi y') (lo y') (den y')
    (le→under x x' p p' h) (le→under y y' q q' k)))

-- ---- infinities
pub le_bottom : (z : Float) → T (number z) → T (le (inf true) z)
unfolding le
le_bottom nan p = absurd p
le_bottom (inf true) p = tt
le_bottom (inf false) p = tt
le_bottom (fin s m e) p = tt

pub le_top : (z : Float) → T (number z) → T (le z (inf false))
unfolding le
le_top nan p = absurd p
le_top (inf true) p = tt
le_top (inf false) p = tt
le_top (fin s m e) p = tt

add_inf : (f : Format) (s : Bool) (y : Float) → T (number (add f (inf s) y)) → add f (inf s) y ≡ inf s
unfolding add
add_inf f s nan p = absurd p
add_inf f true (inf true) p = refl
add_inf f true (inf false) p = absurd p
add_inf f false (inf true) p = absurd p
add_inf f false (inf false) p = refl
add_inf f s (fin t n d) p = refl

pub add_mono_r : (f : Format) (x y y' : Float) → T (le y y') → T (number (add f x y)) → T (number (add f x y')) →
    T (le (add f x y) (add f x y'))
unfolding add
add_mono_r f nan y y' h p q = absurd p
add_mono_r f (inf s) y y' h p q = rw (add_inf f s y p, add_inf f s y' q) (le_refl (inf s) tt)
add_mono_r f (fin s m e) nan y' h p q = absurd (unfold le in h)
add_mono_r f (fin s m e) (inf true) y' h p q = le_bottom (add f (fin s m e) y') q
add_mono_r f (fin s m e) (inf false) nan h p q = absurd (unfold le in h)
add_mono_r f (fin s m e) (inf false) (inf true) h p q = absurd (unfold le in h)
add_mono_r f (fin s m e) (inf false) (inf false) h p q = le_refl (add f (fin s m e) (inf false)) p
add_mono_r f (fin s m e) (inf false) (fin t n d) h p q = absurd (unfold le in h)
add_mono_r f (fin s m e) (fin t n d) nan h p q = absurd (unfold le in h)
add_mono_r f (fin s m e) (fin t n d) (inf true) h p q = absurd (unfold le in h)
add_mono_r f (fin s m e) (fin t n d) (inf false) h p q = le_top (add f (fin s m e) (fin t n d)) p
add_mono_r f (fin s m e) (fin t n d) (fin u o g) h p q =
    add_mono_finite f (fin s m e) (fin s m e) (fin t n d) (fin u o g) tt tt tt tt (le_refl (fin s m e) tt) h
