-- What the root's numbers are, in the request's words and without the way they are computed: `RootTheorem` below,
-- proved as `root_theorem` in proofs/Theorem.antt.
use Rattle.std.specs.Prelude.{◌≡◌, ◌⊎◌, Bool, true, false, ℕ, ◌+◌, ◌-◌, ◌*◌, ◌^◌, ◌≤◌, ◌<◌, ℤ, pos, T, Float}
use Rattle.std.proofs.Math.IntN.{sub_ℕ}
use Rattle.std.specs.Float.{nan, inf, fin, binary64}
use Rattle.std.specs.Float.Ieee.{of_bits, up, down, round, fits, lt, le}
use Rattle.std.specs.Float.Ieee.Exact.{HasValue}
use Rattle.std.specs.Float.Ieee.Positive.{positive}
use Rattle.ieee.specs.Numbers.{f0}
use Rattle.linalg.specs.Answer.{answers, refuses}
use Rattle.root.specs.declared.RootParts.{RootParts}
use Rattle.root.specs.Root.{nearer, root_of}

-- `HasValue x false a c` says that x is a / c; 2 ^ s is up s / down s
pub record Scaling (z : Float) (m : ℕ) (s : ℤ) : Type 0 where
  pub value : HasValue z false (m * (up s * up s)) (down s * down s)
  pub least : 2 ^ 104 ≤ m
  pub most : m < 2 ^ 106

-- r is the largest whole number whose square is at most m
pub record Largest (m r : ℕ) : Type 0 where
  pub low : r * r ≤ m
  pub high : m < (r + 1) * (r + 1)

-- p is the result that the request specifies at z
pub record RootIs (z : Float) (p : RootParts) : Type 0 where
  pub m : ℕ
  pub scaling : Scaling z m p.exponent
  pub root : Largest m p.root
  pub remainder : p.root * p.root + p.remainder ≡ m
  pub double : T (fits binary64 p.nearest)
  pub nearest : HasValue p.nearest false (nearer p.root p.remainder * up p.exponent) (down p.exponent)

-- In units of 2 ^ −1074, where every double is a whole number, z is n, so √z is √(n × 2 ^ 1074). The double a is nearer
-- to √z than the double b or −b, and not as near: √z lies on a's side of their middle, (a + b) / 2 or (a − b) / 2. For
-- −b that is above the middle, and a − b ends at 0.
abbrev pub Nearer : ℕ → ℕ → Bool → ℕ → Type 0
Nearer n a true b = (a - b) * (a - b) < 4 * (n * 2 ^ 1074)
Nearer n a false b = (a < b → 4 * (n * 2 ^ 1074) < (a + b) * (a + b)) × (b < a → (a + b) * (a + b) < 4 * (n * 2 ^ 1074))

-- x is the square root of z, correctly rounded: no double is nearer to √z, and there is no tie
pub record Rounded (z x : Float) : Type 0 where
  pub nearer : (y : Float) → T (fits binary64 y) → (n a : ℕ) (t : Bool) (b : ℕ)
      → HasValue z false n (2 ^ 1074) → HasValue x false a (2 ^ 1074) → HasValue y t b (2 ^ 1074) → Nearer n a t b

-- the fraction a / q lies with √m between r and r + 1, and on the same side of their middle: below it where the
-- remainder is at most r, and else above it
pub record Beside (r remainder a q : ℕ) : Type 0 where
  pub some : 0 < q
  pub from : r * q ≤ a
  pub to : a < (r + 1) * q
  pub below : remainder ≤ r → 2 * a < (2 * r + 1) * q
  pub above : r < remainder → (2 * r + 1) * q < 2 * a

-- m is that of 3ff0000000000001 or of 400fffffffffffff: z is one of the two times a power of four
abbrev pub Level : ℕ → Type 0
Level m = (m ≡ (2 ^ 52 + 1) * 2 ^ 52) ⊎ (m ≡ (2 ^ 53 - 1) * 2 ^ 53)

-- the ranges of the numbers
pub record Ranges (m : ℕ) (p : RootParts) : Type 0 where
  -- the exponent is j − 589, from −589 to 459
  pub j : ℕ
  pub few : j ≤ 1048
  pub exponent : p.exponent ≡ sub_ℕ j 589
  -- r has 53 binary digits, and so has r + 1 where the double is made of it
  pub least : 2 ^ 52 ≤ p.root
  pub most : p.root < 2 ^ 53
  pub next : p.root < p.remainder → p.root + 1 < 2 ^ 53
  -- the double is not subnormal: the least normal double is not above it
  pub normal : T (le (of_bits binary64 0x0010000000000000) p.nearest)
  -- where the remainder is r, the middle between r and r + 1 is as near as it can be
  pub level : p.remainder ≡ p.root → Level m
  pub level_at : Level m → p.remainder ≡ p.root

-- the answer is what the request specifies, nothing else is, and the double is the correctly rounded root
pub record Answered (z : Float) : Type 0 where
  pub parts : RootParts
  pub answered : root_of z ≡ answers parts
  pub is : RootIs z parts
  pub only : (p : RootParts) → RootIs z p → p ≡ parts
  pub ranges : Ranges is.m parts
  pub rounded : Rounded z parts.nearest
  -- the format's rounding agrees: it takes every fraction close to √m, times 2 ^ s, to this double
  pub rounds : (a q : ℕ) → Beside parts.root parts.remainder a q →
      round binary64 false (a * up parts.exponent) (q * down parts.exponent) ≡ parts.nearest

pub record RootTheorem : Type 0 where
  -- for every double that is finite and above 0
  pub above_zero : (z : Float) → T (fits binary64 z) → T (positive z) → Answered z
  -- for a zero all numbers are 0, and the double keeps its sign
  pub zeros : (s : Bool) →
      root_of (fin s 0 (pos 0))
      ≡ answers (record { root = 0; remainder = 0; exponent = pos 0; nearest = fin s 0 (pos 0) })
  -- 1 comes before 8: −∞ gets 1
  pub below_zero : (z : Float) → lt z f0 ≡ true → root_of z ≡ refuses 1
  pub minus_infinity : root_of (inf true) ≡ refuses 1
  pub plus_infinity : root_of (inf false) ≡ refuses 8
  pub not_a_number : root_of nan ≡ refuses 8
