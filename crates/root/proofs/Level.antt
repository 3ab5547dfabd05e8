-- Where the remainder is the root: m = r × (r + 1), and m is a multiple of 2 ^ 52, so one of r and r + 1 is; there are
-- two such r. Assumes nothing.
use mathlib.Core.Path.{◌≡◌, sym, ap, ◌∙◌}
use mathlib.Core.Logic.{inl, inr}
use Prim.Native.Nat.{ℕ, zero, suc, ◌+◌, ◌-◌, ◌*◌, ◌/◌, ◌%◌, ◌^◌, ◌≤◌, ◌<◌}
use native.Mathlib.Nat.{mul-one, mul_assoc, pow-suc}
use native.Mathlib.Omega.{arith}
use Rattle.root.specs.Theorem.{Largest, Level}
use Rattle.root.proofs.Largest.{largest_only}

-- ---- a power of two that divides a × b divides a, where b is odd
odd-product : (a b q : ℕ) → a * (b * 2 + 1) ≡ q * 2 → a ≡ a / 2 * 2
odd-product a b q e = omega (arith, even)
  where
    even : a ≡ (q - a * b) * 2
    even = omega arith

doubled : (t k : ℕ) → t * 2 ^ k * 2 ≡ t * 2 ^ suc k
doubled t k = mul_assoc t (2 ^ k) 2 ∙ ap (λ (x : ℕ). t * x) (sym (pow-suc 2 k))

divides : (k a b q : ℕ) → a * (b * 2 + 1) ≡ q * 2 ^ k → (t : ℕ) × (a ≡ t * 2 ^ k)
divides zero a b q e = (a, sym (mul-one a))
divides (suc k) a b q e =
    let whole = e ∙ sym (doubled q k) in
    let even : a ≡ a / 2 * 2 = odd-product a b (q * 2 ^ k) whole in
    let g = divides k (a / 2) b q (half (a / 2) (q * 2 ^ k) (sym (ap (λ (x : ℕ). x * (b * 2 + 1)) even) ∙ whole)) in
    (g.0, even ∙ ap (λ (x : ℕ). x * 2) g.1 ∙ doubled g.0 k)
  where
    half : (h c : ℕ) → h * 2 * (b * 2 + 1) ≡ c * 2 → h * (b * 2 + 1) ≡ c
    half h c p = omega arith

-- ---- the r with 53 digits: 2 ^ 52, and the one before 2 ^ 53
even_root : (t r m : ℕ) → 2 ^ 52 ≤ r → r < 2 ^ 53 → m ≡ r * r + r → r ≡ t * 2 ^ 52 → Level m
even_root t r m lo hi e d =
    let is : r ≡ 2 ^ 52 = omega arith in
    inl (e ∙ ap (λ (x : ℕ). x * x + x) is)

odd-root : (t r m : ℕ) → 2 ^ 52 ≤ r → r < 2 ^ 53 → m ≡ r * r + r → r + 1 ≡ t * 2 ^ 52 → Level m
odd-root t r m lo hi e d =
    let is : r ≡ 2 ^ 53 - 1 = omega arith in
    inr (e ∙ ap (λ (x : ℕ). x * x + x) is)

pub level_of : (c r m : ℕ) → 2 ^ 52 ≤ r → r < 2 ^ 53 → m ≡ c * 2 ^ 52 → m ≡ r * r + r → Level m
level_of c r m lo hi w e = parity (r % 2) (r / 2) (omega arith) (omega arith)
  where
    parity : (b h : ℕ) → b < 2 → r ≡ h * 2 + b → Level m
    parity zero h l s =
        let is : h * 2 ≡ r = omega arith in
        let odd : r * (h * 2 + 1) ≡ c * 2 ^ 52 = ap (λ (x : ℕ). r * (x + 1)) is ∙ product ∙ w in
        let g = divides 52 r h c odd in
        even_root g.0 r m lo hi e g.1
      where
        product : r * (r + 1) ≡ m
        product = omega arith
    parity (suc zero) h l s =
        let odd : (r + 1) * (h * 2 + 1) ≡ c * 2 ^ 52 = ap (λ (x : ℕ). (r + 1) * x) (sym s) ∙ product ∙ w in
        let g = divides 52 (r + 1) h c odd in
        odd-root g.0 r m lo hi e g.1
      where
        product : (r + 1) * r ≡ m
        product = omega arith
    parity (suc (suc b)) h l s = absurd (omega arith)

-- ---- and at those two the remainder is the root
at-root : (r s m : ℕ) → Largest m r → m ≡ s * s + s → m - r * r ≡ r
at-root r s m h e =
    let is : r ≡ s = largest_only r s m h (record { low = omega arith; high = omega arith }) in
    omega (arith, e, is, ap (λ (x : ℕ). x * x) is)

pub level-at : (r m : ℕ) → Largest m r → Level m → m - r * r ≡ r
level-at r m h (inl e) = at-root r (2 ^ 52) m h e
level-at r m h (inr e) = at-root r (2 ^ 53 - 1) m h e
