-- Squares and sizes of whole numbers written as differences. Assumes nothing.
use mathlib.Core.Path.{◌≡◌, subst}
use Prim.Native.Nat.{ℕ, suc, ◌+◌, ◌-◌, ◌*◌, ◌≤◌, ◌<◌}
use native.Mathlib.Nat.{mul_comm, suc-mul, mul-le-mul_left, mul-le-mul_right}
use mathlib.Core.Bool.{Bool, true, false, not}
use lib.Dec.{T, leb, leb→le, nleb→lt}
use native.Mathlib.Omega.{arith}
use Rattle.rounding.proofs.Differences.{expand, product}

-- ---- roots
root_case : (b d r : ℕ) → (b + d) * (b + d) + b * b ≤ r * r + 2 * ((b + d) * b) → d * d ≤ r * r
root_case b d r h = omega (arith, simp expand at h)

pub square_le : (d r : ℕ) → d * d ≤ r * r → d ≤ r
square_le d r h = go (leb d r) (leb→le d r) (nleb→lt d r)
  where
    go : (t : Bool) → (T t → d ≤ r) → (T (not t) → r < d) → d ≤ r
    go true l g = l tt
    go false l g =
        let k : r < d = g tt in
        let a : r * d ≤ d * d = mul-le-mul_right d (omega arith) in
        let b : r * r ≤ r * d = mul-le-mul_left r (omega arith) in
        let c : suc r * d ≤ d * d = mul-le-mul_right d k in
        let e : suc r * d ≡ r * d + d = suc-mul r d in
        absurd (omega arith)

pub root : (a b r : ℕ) → a * a + b * b ≤ r * r + 2 * (a * b) → a ≤ b + r
root a b r h = go (leb a b) (leb→le a b) (nleb→lt a b)
  where
    go : (t : Bool) → (T t → a ≤ b) → (T (not t) → b < a) → a ≤ b + r
    go true l g = let k : a ≤ b = l tt in omega arith
    go false l g =
        let k : b < a = g tt in
        let e : a ≡ b + (a - b) = omega arith in
        let d : a - b ≤ r =
        square_le (a - b) r (root_case b (a - b) r (subst (λ (i : ℕ). i * i + b * b ≤ r * r + 2 * (i * b)) e h)) in
        omega arith

pub twice-le : (x x' : ℕ) → 2 * (x * x') ≤ x * x + x' * x'
twice-le x x' = go (leb x x') (leb→le x x') (nleb→lt x x')
  where
    up : (a d : ℕ) → 2 * (a * (a + d)) ≤ a * a + (a + d) * (a + d)
    up a d = simp expand (omega arith)

    dn : (a d : ℕ) → 2 * ((a + d) * a) ≤ (a + d) * (a + d) + a * a
    dn a d = simp expand (omega arith)

    go : (t : Bool) → (T t → x ≤ x') → (T (not t) → x' < x) → 2 * (x * x') ≤ x * x + x' * x'
    go true l g =
        let k : x ≤ x' = l tt in
        let e : x + (x' - x) ≡ x' = omega arith in
        subst (λ (i : ℕ). 2 * (x * i) ≤ x * x + i * i) e (up x (x' - x))
    go false l g =
        let k : x' < x = g tt in
        let e : x' + (x - x') ≡ x = omega arith in
        subst (λ (i : ℕ). 2 * (i * x') ≤ i * i + x' * x') e (dn x' (x - x'))

-- p - n is at most b in size
pub record Size (p n b : ℕ) : Type 0 where
  pub above : p ≤ n + b
  pub below : n ≤ p + b

pub size-root : (a b r : ℕ) → a * a + b * b ≤ r * r + 2 * (a * b) → Size a b r
size-root a b r h = record { above = root a b r h; below = root b a r (omega (arith, mul_comm a b)) }

pub size-product : (p n q m a b : ℕ) → Size p n a → Size q m b → Size (p * q + n * m) (p * m + n * q) (a * b)
size-product p n q m a b h k =
    record {
      above = product p n q m a b h.above h.below k.above k.below;
      below =
          product p n m q a b h.above h.below k.below k.above;
    }

pub size-sum : (p n q m a b : ℕ) → Size p n a → Size q m b → Size (p + q) (n + m) (a + b)
size-sum p n q m a b h k =
    let x = h.above in
    let y = h.below in
    let u = k.above in
    let v = k.below in
    record { above = omega arith; below = omega arith }

pub size_same : (p n a b : ℕ) → a ≡ b → Size p n a → Size p n b
size_same p n a b e h = subst (λ (i : ℕ). Size p n i) e h
