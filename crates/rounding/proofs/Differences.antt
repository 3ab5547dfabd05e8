-- Whole numbers written as differences, p - n. Assumes nothing.
use mathlib.Core.Path.{◌≡◌, subst}
use mathlib.Core.Bool.{Bool, true, false, not}
use lib.Dec.{T, leb, leb→le, nleb→lt}
use Prim.Native.Nat.{ℕ, ◌+◌, ◌-◌, ◌*◌, ◌≤◌, ◌<◌}
use native.Mathlib.Nat.{mul-add, add-mul, mul_assoc, mul_comm, mul_left_comm, zero-mul, mul-zero, zero-add, add-zero}
use native.Mathlib.Nat.{mul-le-mul_left, mul-le-mul_right}
use native.Mathlib.Omega.{arith}

-- both sides of an order as sums of products, the factors in one order
pub ruleset expand = (mul-add, add-mul, mul_assoc, mul_comm, mul_left_comm)

pub ruleset zeros = (zero-mul, mul-zero, zero-add, add-zero)

-- ---- p - n is at most a in size, and q - m at most b: so their product is at most a b
up_case : (n k q m a b : ℕ) → k ≤ a → q ≤ m + b → (n + k) * q + n * m ≤ (n + k) * m + n * q + a * b
up_case n k q m a b h u =
    let x : k * q ≤ k * (m + b) = mul-le-mul_left k u in
    let y : k * b ≤ a * b = mul-le-mul_right b h in
    simp expand (omega (arith, simp expand at x, y))

down_case : (p k q m a b : ℕ) → k ≤ a → m ≤ q + b → p * q + (p + k) * m ≤ p * m + (p + k) * q + a * b
down_case p k q m a b h u =
    let x : k * m ≤ k * (q + b) = mul-le-mul_left k u in
    let y : k * b ≤ a * b = mul-le-mul_right b h in
    simp expand (omega (arith, simp expand at x, y))

pub product : (p n q m a b : ℕ) → p ≤ n + a → n ≤ p + a → q ≤ m + b → m ≤ q + b → p * q + n * m ≤ p * m + n * q + a * b
product p n q m a b h k u v = go (leb n p) (leb→le n p) (nleb→lt n p)
  where
    go : (t : Bool) → (T t → n ≤ p) → (T (not t) → p < n) → p * q + n * m ≤ p * m + n * q + a * b
    go true l g =
        let y : n ≤ p = l tt in
        let e : n + (p - n) ≡ p = omega arith in
        subst (λ (x : ℕ). x * q + n * m ≤ x * m + n * q + a * b) e (up_case n (p - n) q m a b (omega arith) u)
    go false l g =
        let y : p < n = g tt in
        let e : p + (n - p) ≡ n = omega arith in
        subst (λ (x : ℕ). p * q + x * m ≤ p * m + x * q + a * b) e (down_case p (n - p) q m a b (omega arith) v)

-- ---- x y against x' y', with x = p - n, y = q - m: x is within e of x', y within g of y', x at most a and y' at most
-- b in size
pub products : (p n p' n' q m q' m' e g a b : ℕ)
    → p + n' ≤ n + p' + e → n + p' ≤ p + n' + e → q + m' ≤ m + q' + g → m + q' ≤ q + m' + g
    → p ≤ n + a → n ≤ p + a → q' ≤ m' + b → m' ≤ q' + b
    → p * q + n * m + (p' * m' + n' * q') ≤ p * m + n * q + (p' * q' + n' * m') + (a * g + e * b)
products p n p' n' q m q' m' e g a b x1 x2 y1 y2 xa xb ya yb =
    let one = product p n (q + m') (m + q') a g xa xb y1 y2 in
    let two = product (p + n') (n + p') q' m' e b x1 x2 ya yb in
    omega (arith, simp expand at one, simp expand at two)
