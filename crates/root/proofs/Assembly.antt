-- From the digits and the power of a number of units, and a root with its remainder, to `root_parts`. Assumes nothing.
use mathlib.Core.Path.{◌≡◌, refl, sym, ap, ◌∙◌, subst}
use mathlib.Core.Logic.{◌⊎◌, inl, inr}
use Prim.Native.Nat.{ℕ, zero, suc, ◌+◌, ◌-◌, ◌*◌, ◌/◌, ◌%◌, ◌^◌, ◌≤◌, ◌<◌}
use native.Mathlib.Nat.{one-le-pow, zero-lt-suc, le_antisymm, lt_of_lt_of_le, not-le_of_lt, mul-div_cancel}
use native.Mathlib.Nat.{le_of_mul-le-mul_right, lt_of_mul-lt-mul_right, mul-le-mul_right, mul-lt-mul_of_pos_right}
use native.Mathlib.Nat.{pow-suc}
use native.Mathlib.Omega.{arith}
use mathlib.Core.Bool.{false, cond}
use borrow.Author.Tests.{le-leb, lt-leb}
use lib.IntN.{sub_ℕ}
use lib.Pow.{pow-add, pow_pos, pow_mono}
use lib.Ieee.{Float, binary64, size, round, of_bits}
use lib.Ieee.Digits.{size-lt, size-le}
use lib.Ieee.Exact.{HasValue}
use lib.Ieee.Scale.{round_same}
use lib.Ieee.Bits.{of_bits-fits}
use Rattle.std.proofs.lemmas.Nat.{mul-pow}
use Rattle.std.proofs.lemmas.Bool.{cases_lt}
use Rattle.ieee.specs.Patterns.{pattern_units}
use Rattle.ieee.proofs.Values.{value-rounds}
use Rattle.ieee.proofs.Patterns.{units_large, pattern_value}
use Rattle.root.specs.declared.RootParts.{RootParts}
use Rattle.root.specs.Root.{whole_root, quarters, nearer, parts_at, root_parts}
use Rattle.root.specs.Private.{ScaledTo}
use Rattle.root.specs.Theorem.{Largest}
use Rattle.root.proofs.Squares.{bracket}
use Rattle.root.proofs.Largest.{whole-root-is}

-- ---- how many digits
pub size_is : (n y : ℕ) → 2 ^ y ≤ n → n < 2 ^ suc y → size n ≡ suc y
size_is n y p q =
    le_antisymm (size-le n (suc y) q)
    (elim (cases_lt (size n) (suc y)) [
      | inl l ↦
          absurd (not-le_of_lt (lt_of_lt_of_le (size-lt n) (pow_mono (omega arith))) p)
      | inr l ↦ l
    ])

module _ (n c y : ℕ) (h : ScaledTo n c y) where
  digits : size n ≡ suc y
  digits =
      size_is n y
      (le_of_mul-le-mul_right (omega (arith, h.value, mul-le-mul_right (2 ^ y) h.low)) (pow_pos 52))
      (lt_of_mul-lt-mul_right (2 ^ 52)
      (rw (pow-suc 2 y) (omega (arith, h.value, mul-lt-mul_of_pos_right h.high (pow_pos y)))))

  pub quarters-is : quarters n ≡ y / 2
  unfolding quarters
  quarters-is = rw digits (omega arith)

-- ---- powers of four
four_is : (k : ℕ) → 2 ^ (k * 2) ≡ 4 ^ k
four_is k = ap (λ (x : ℕ). 2 ^ x) (omega arith) ∙ pow-add 2 k k ∙ sym (mul-pow 2 2 k)

bit_is : (b : ℕ) → b < 2 → 2 ^ b ≡ 1 + b
bit_is zero h = refl
bit_is (suc zero) h = refl
bit_is (suc (suc b)) h = absurd (omega arith)

power_is : (y : ℕ) → 2 ^ y ≡ 4 ^ (y / 2) * (1 + y % 2)
power_is y =
    ap (λ (x : ℕ). 2 ^ x) (omega arith) ∙ pow-add 2 (y / 2 * 2) (y % 2)
    ∙ (λ i. four_is (y / 2) i * bit_is (y % 2) (omega arith) i)

pub whole_even : (n c y : ℕ) → n * 2 ^ 52 ≡ c * 2 ^ y → n * 2 ^ 104 ≡ c * (1 + y % 2) * 2 ^ 52 * 4 ^ (y / 2)
whole_even n c y e = go (4 ^ (y / 2)) (y % 2) (e ∙ ap (λ (x : ℕ). c * x) (power_is y))
  where
    go : (F b : ℕ) → n * 2 ^ 52 ≡ c * (F * (1 + b)) → n * 2 ^ 104 ≡ c * (1 + b) * 2 ^ 52 * F
    go F b k = omega arith

pub whole-m : (n c y : ℕ) → n * 2 ^ 52 ≡ c * 2 ^ y → n * 2 ^ 104 / 4 ^ (y / 2) ≡ c * (1 + y % 2) * 2 ^ 52
whole-m n c y e =
    ap (λ (x : ℕ). x / 4 ^ (y / 2)) (whole_even n c y e) ∙ mul-div_cancel (c * (1 + y % 2) * 2 ^ 52)
    (one-le-pow (y / 2) 4 (zero-lt-suc 3))

-- ---- the double
pub regroup : (v p a b : ℕ) → v * (p * a) * b ≡ v * p * (a * b)
regroup v p a b = omega arith

pub nearest-is : (v j : ℕ) → 2 ^ 52 ≤ v → v < 2 ^ 53 → j ≤ 1048 →
    of_bits binary64 ((j + 485) * 2 ^ 52 + v) ≡ round binary64 false (v * 2 ^ j) (2 ^ 589)
nearest-is v j lo hi few =
    let b = (j + 485) * 2 ^ 52 + v in
    let w : pattern_units binary64 b ≡ v * 2 ^ (j + 485) = units_large binary64 b (omega arith)
    ∙ (λ i. p b (omega arith) i * 2 ^ q b (omega arith) i) in
    let value = subst (λ (x : ℕ). HasValue (of_bits binary64 b) false x (2 ^ 1074)) w
    (pattern_value binary64 b (omega arith)) in
    sym (value-rounds binary64 (of_bits binary64 b) false (v * 2 ^ (j + 485)) (2 ^ 1074) (of_bits-fits binary64 b)
    (pow_pos 1074) value)
    ∙ round_same binary64 false (v * 2 ^ (j + 485)) (2 ^ 1074) (v * 2 ^ j) (2 ^ 589) (pow_pos 1074) (pow_pos 589)
    (rw (pow-add 2 j 485) (regroup v (2 ^ j) (2 ^ 485) (2 ^ 589)))
  where
    p : (b : ℕ) → b ≡ (j + 485) * 2 ^ 52 + v → 2 ^ 52 + b % 2 ^ 52 ≡ v
    p b e = omega arith

    q : (b : ℕ) → b ≡ (j + 485) * 2 ^ 52 + v → b / 2 ^ 52 - 1 ≡ j + 485
    q b e = omega arith

-- ---- r and v, which is r or r + 1, have 53 digits; r + 1 too, for of the largest m the remainder is r
pub either : (r rest v : ℕ) → v ≡ nearer r rest → ((rest ≤ r) × (v ≡ r)) ⊎ ((r < rest) × (v ≡ r + 1))
either r rest v e = elim (cases_lt r rest) [
  | inl l ↦ inr (l, e ∙ ap (λ b. cond b r (r + 1)) (lt-leb rest r l))
  | inr l ↦ inl (l, e ∙ ap (λ b. cond b r (r + 1)) (le-leb rest r l))
]

-- m is at least 2 ^ 104, and at most its value for 2 ^ 53 − 1, the largest digits, doubled
module _ (m r rest v : ℕ) (least : 2 ^ 104 ≤ m) (most : m ≤ (2 ^ 53 - 1) * 2 ^ 53) (e : r * r + rest ≡ m)
    (k : rest ≤ 2 * r) (q : v ≡ nearer r rest) where
  pub r_range : (2 ^ 52 ≤ r) × (r < 2 ^ 53)
  r_range = bracket r rest m (2 ^ 52) (2 ^ 53) e k (omega arith) (omega arith)

  pub next_small : r < rest → r + 1 < 2 ^ 53
  next_small l = elim (cases_lt (r + 1) (2 ^ 53)) [
    | inl g ↦ g
    | inr g ↦
        let o : r ≡ 2 ^ 53 - 1 = omega (arith, r_range) in
        absurd (omega (arith, ap (λ (x : ℕ). x * x) o))
  ]

  pub v_range : (2 ^ 52 ≤ v) × (v < 2 ^ 53)
  v_range = elim (either r rest v q) [
    | inl l ↦ (omega (arith, l.1, r_range), omega (arith, l.1, r_range))
    | inr l ↦ (omega (arith, l.1, r_range), omega (arith, l.1, next_small l.0))
  ]

  pub is_largest : Largest m r
  is_largest = record { low = omega arith; high = omega arith }

-- ---- all of it
doubled : (c b : ℕ) → 2 ^ 52 ≤ c → c < 2 ^ 53 → b < 2 → (2 ^ 52 ≤ c * (1 + b)) × (c * (1 + b) < 2 ^ 54)
    × (2 ^ 104 ≤ c * (1 + b) * 2 ^ 52) × (c * (1 + b) * 2 ^ 52 ≤ (2 ^ 53 - 1) * 2 ^ 53)
doubled c zero p q h = (omega arith, omega arith, omega arith, omega arith)
doubled c (suc zero) p q h = (omega arith, omega arith, omega arith, omega arith)
doubled c (suc (suc b)) p q h = absurd (omega arith)

module _ (n c y : ℕ) (h : ScaledTo n c y) where
  pub range : (2 ^ 52 ≤ c * (1 + y % 2)) × (c * (1 + y % 2) < 2 ^ 54) × (2 ^ 104 ≤ c * (1 + y % 2) * 2 ^ 52)
      × (c * (1 + y % 2) * 2 ^ 52 ≤ (2 ^ 53 - 1) * 2 ^ 53)
  range = doubled c (y % 2) h.low h.high (omega arith)

  module _ (r rest v : ℕ) (e : r * r + rest ≡ c * (1 + y % 2) * 2 ^ 52) (k : rest ≤ 2 * r) (q : v ≡ nearer r rest) where
    pub ranges : (r < 2 ^ 53) × (2 ^ 52 ≤ v) × (v < 2 ^ 53)
    ranges =
        let m = c * (1 + y % 2) * 2 ^ 52 in
        let s = v_range m r rest v range.2 range.3 e k q in
        ((r_range m r rest v range.2 range.3 e k q).1, s.0, s.1)

    at-parts : root_parts n ≡ parts_at (y / 2) (c * (1 + y % 2) * 2 ^ 52) r
    unfolding root_parts
    at-parts =
        let m = c * (1 + y % 2) * 2 ^ 52 in
        ap (λ (j : ℕ). parts_at j (n * 2 ^ 104 / 4 ^ j) (whole_root 53 (n * 2 ^ 104 / 4 ^ j))) (quarters-is n c y h)
        ∙ ap (λ (x : ℕ). parts_at (y / 2) x (whole_root 53 x)) (whole-m n c y h.value)
        ∙ ap (λ (x : ℕ). parts_at (y / 2) m x) (whole-root-is 53 m r (omega (arith, range.3))
        (is_largest m r rest v range.2 range.3 e k q))

    left_over : c * (1 + y % 2) * 2 ^ 52 - r * r ≡ rest
    left_over = omega arith

    pub parts_are : (x : Float) → x ≡ of_bits binary64 ((y / 2 + 485) * 2 ^ 52 + v) →
        ◌≡◌ {A = RootParts} (record { root = r; remainder = rest; exponent = sub_ℕ (y / 2) 589; nearest = x })
        (root_parts n)
    parts_are x w =
        let m = c * (1 + y % 2) * 2 ^ 52 in
        let d : x ≡ round binary64 false (nearer r (m - r * r) * 2 ^ (y / 2)) (2 ^ 589) =
        w ∙ nearest-is v (y / 2) ranges.1 ranges.2 (omega (arith, h.few))
        ∙ ap (λ (x : ℕ). round binary64 false (x * 2 ^ (y / 2)) (2 ^ 589))
        (q ∙ ap (λ (x : ℕ). nearer r x) (sym left_over)) in
        (λ i. record { root = r; remainder = sym left_over i; exponent = sub_ℕ (y / 2) 589; nearest = d i })
        ∙ sym at-parts
