-- Squares of whole numbers, and the step that widens a root by two digits of a base b. Assumes nothing.
use mathlib.Core.Path.{◌≡◌, ap}
use mathlib.Core.Logic.{inl, inr}
use Prim.Native.Nat.{ℕ, zero, suc, ◌+◌, ◌-◌, ◌*◌, ◌/◌, ◌%◌, ◌^◌, ◌≤◌, ◌<◌}
use native.Mathlib.Nat.{mul-le-mul, mul-le-mul_right, mul-le-mul_left, mod-lt, div-add-mod'}
use native.Mathlib.Omega.{arith}
use Rattle.std.proofs.lemmas.Bool.{cases_lt}

pub square-lt : (a b : ℕ) → a * a < b * b → a < b
square-lt a b h = elim (cases_lt a b) [ inl l ↦ l | inr l ↦ absurd (omega (arith, mul-le-mul l l)) ]

pub square_le : (a b : ℕ) → a ≤ b → a * a ≤ b * b
square_le a b h = mul-le-mul h h

pub above_zero_lem : (q t : ℕ) → t < q * q → 1 ≤ q
above_zero_lem zero t h = absurd (omega arith)
above_zero_lem (suc q) t h = omega arith

-- what `widen` requires
pub record Step (s r b a l : ℕ) : Type 0 where
  pub small : s < 2 ^ 27
  pub rest : r ≤ 2 * s
  pub base : b ≤ 2 ^ 26
  pub wide : b ≤ 2 * s
  pub digit : a < b
  pub digit2 : l < b

module _ (s r b a l : ℕ) (h : Step s r b a l) where
  pub product : r * b ≤ 2 ^ 54
  product = omega (arith, mul-le-mul h.rest h.base, h.small)

  pub divided : (r * b + a) / (2 * s) * (2 * s) + (r * b + a) % (2 * s) ≡ r * b + a
  divided = div-add-mod' (r * b + a) (2 * s)

  pub below : (r * b + a) % (2 * s) < 2 * s
  below = mod-lt (r * b + a) (omega arith)

  module _ (q u : ℕ) (e : q * (2 * s) + u ≡ r * b + a) (k : u < 2 * s) where
    quotient_le : q ≤ b
    quotient_le =
        elim (cases_lt b q) [
          | inl g ↦
              absurd (omega (arith, mul-le-mul_right (2 * s) g, mul-le-mul_right b h.rest))
          | inr g ↦ g
        ]

    quotient_small : q * q ≤ 2 ^ 52
    quotient_small = omega (arith, mul-le-mul quotient_le quotient_le, mul-le-mul h.base h.base)

    left_small : u * b + l < 2 * s * b
    left_small = omega (arith, mul-le-mul_right b k)

    root_small : s * b ≤ 2 ^ 53
    root_small = omega (arith, mul-le-mul_right b h.small, mul-le-mul_left (2 ^ 27) h.base)

    square-is : (s * b + q) * (s * b + q) + (u * b + l) ≡ (s * s + r) * (b * b) + a * b + l + q * q
    square-is = omega (arith, ap (λ (x : ℕ). x * b) e)

    enough : q * q ≤ u * b + l → ((s * b + q) * (s * b + q) + (u * b + l - q * q) ≡ (s * s + r) * (b * b) + a * b + l)
        × (u * b + l - q * q ≤ 2 * (s * b + q))
    enough g = (omega (arith, square-is), omega (arith, left_small))

    some : u * b + l < q * q → 1 ≤ q
    some g = above_zero_lem q (u * b + l) g

    short : u * b + l < q * q → q * q ≤ u * b + l + 2 * (s * b + q) - 1
    short g = omega (arith, some g, mul-le-mul quotient_le quotient_le, mul-le-mul_right b h.wide)

    back : (k' t w : ℕ) → w ≤ t + 2 * (k' + 1) - 1 → k' * k' + (t + 2 * (k' + 1) - 1 - w) + w ≡ (k' + 1) * (k' + 1) + t
    back k' t w g = omega arith

    one_less : (x t w z : ℕ) → 1 ≤ x → w ≤ t + 2 * x - 1 → t < w → x * x + t ≡ z + w →
        ((x - 1) * (x - 1) + (t + 2 * x - 1 - w) ≡ z) × (t + 2 * x - 1 - w ≤ 2 * (x - 1))
    one_less zero t w z o g g2 f = absurd (omega arith)
    one_less (suc x) t w z o g g2 f =
        let y : suc x - 1 ≡ x = omega arith in
        (rw y (omega (arith, back x t w (omega arith))), omega arith)

    too_large : u * b + l < q * q →
        ((s * b + q - 1) * (s * b + q - 1) + (u * b + l + 2 * (s * b + q) - 1 - q * q)
        ≡ (s * s + r) * (b * b) + a * b + l) × (u * b + l + 2 * (s * b + q) - 1 - q * q ≤ 2 * (s * b + q - 1))
    too_large g =
        one_less (s * b + q) (u * b + l) (q * q) ((s * s + r) * (b * b) + a * b + l) (omega (arith, some g))
        (short g) g square-is

-- what follows, at the quotient q and the remainder u
pub record Stepped (s r b a l q u : ℕ) : Type 0 where
  pub product : r * b ≤ 2 ^ 54
  pub left : u * b + l ≤ 2 ^ 54
  pub square : q * q ≤ 2 ^ 52
  pub root : s * b + q ≤ 2 ^ 54
  pub enough : q * q ≤ u * b + l → ((s * b + q) * (s * b + q) + (u * b + l - q * q) ≡ (s * s + r) * (b * b) + a * b + l)
      × (u * b + l - q * q ≤ 2 * (s * b + q))
  pub some : u * b + l < q * q → 1 ≤ q
  pub short : u * b + l < q * q → q * q ≤ u * b + l + 2 * (s * b + q) - 1
  pub too_large : u * b + l < q * q →
      ((s * b + q - 1) * (s * b + q - 1) + (u * b + l + 2 * (s * b + q) - 1 - q * q)
      ≡ (s * s + r) * (b * b) + a * b + l) × (u * b + l + 2 * (s * b + q) - 1 - q * q ≤ 2 * (s * b + q - 1))

pub stepped : (s r b a l : ℕ) → Step s r b a l → Stepped s r b a l ((r * b + a) / (2 * s)) ((r * b + a) % (2 * s))
stepped s r b a l h =
    let q = (r * b + a) / (2 * s) in
    let u = (r * b + a) % (2 * s) in
    let e = divided s r b a l h in
    let k = below s r b a l h in
    record {
      product = product s r b a l h;
      left = omega (arith, left_small s r b a l h q u e k, root_small s r b a l h q u e k);
      square = quotient_small s r b a l h q u e k;
      root = omega (arith, quotient_le s r b a l h q u e k, h.base, root_small s r b a l h q u e k);
      enough = enough s r b a l h q u e k;
      some = some s r b a l h q u e k;
      short = short s r b a l h q u e k;
      too_large = too_large s r b a l h q u e k;
    }

-- the root x of n, with remainder y, lies where n does
pub bracket : (x y n lo hi : ℕ) → x * x + y ≡ n → y ≤ 2 * x → lo * lo ≤ n → n < hi * hi → (lo ≤ x) × (x < hi)
bracket x y n lo hi e k p q =
    let l : lo < x + 1 = square-lt lo (x + 1) (omega arith) in
    (omega arith, square-lt x hi (omega arith))

-- the digits of c, two at a time after the first 14
pub first_two : (c s : ℕ) → s * s ≤ c / 0x100_0000_0000 → (s * s + (c / 0x100_0000_0000 - s * s)) * (0x80 * 0x80)
    + c / 0x2_0000_0000 % 0x80 * 0x80 + c / 0x400_0000 % 0x80 ≡ c / 0x400_0000
first_two c s h = omega arith

pub next_two : (c : ℕ) → c / 0x400_0000 * (0x2000 * 0x2000) + c / 0x2000 % 0x2000 * 0x2000 + c % 0x2000 ≡ c
next_two c = omega arith
