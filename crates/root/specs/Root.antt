-- The square root of a double with its remainder. For a finite z > 0, z = m × 4 ^ s with m whole, 2 ^ 104 ≤ m < 2 ^
-- 106: r, the largest whole number whose square is at most m, the remainder m − r × r, the exponent s, and the double r
-- × 2 ^ s if the remainder is at most r, else (r + 1) × 2 ^ s. Theorem.antt says that these are what is computed here,
-- and that no others are.
use Rattle.std.specs.Prelude.{false, cond, ℕ, zero, suc, ◌+◌, ◌-◌, ◌*◌, ◌/◌, ◌^◌, leb, pos, Float}
use Rattle.std.proofs.Math.IntN.{sub_ℕ}
use Rattle.std.specs.Float.{nan, inf, fin, binary64}
use Rattle.std.specs.Float.Ieee.{size, round, lt}
use Rattle.ieee.specs.Numbers.{f0}
use Rattle.ieee.specs.Patterns.{units_of}
use Rattle.linalg.specs.Answer.{Answer, answers, refuses}
use Rattle.root.specs.declared.RootParts.{RootParts}

-- the largest r with r × r ≤ m, for an m below 4 ^ k: twice the root of m / 4, or one more
unfoldable pub whole_root : ℕ → ℕ → ℕ
whole_root zero m = 0
whole_root (suc k) m = let r = 2 * whole_root k (m / 4) in cond (leb ((r + 1) * (r + 1)) m) (r + 1) r

-- r, or r + 1 where the remainder is above r
abbrev pub nearer : ℕ → ℕ → ℕ
nearer r remainder = cond (leb remainder r) r (r + 1)

-- from m, its root r, and j = s + 589; the double is a value of the format, so its rounding changes nothing
abbrev pub parts_at : ℕ → ℕ → ℕ → RootParts
parts_at j m r = record {
  root = r;
  remainder = m - r * r;
  exponent = sub_ℕ j 589;
  nearest = round binary64 false (nearer r (m - r * r) * 2 ^ j) (2 ^ 589);
}

-- the j with 4 ^ j ≤ n < 4 ^ (j + 1), for an n above 0
unfoldable pub quarters : ℕ → ℕ
unfolding size
quarters n = (size n - 1) / 2

-- z has n units of 2 ^ −1074. As 1074 + 104 = 2 × 589, z = n / 2 ^ 1074 is (n × 2 ^ 104 / 4 ^ j) × 4 ^ (j − 589), and
-- the division leaves no remainder
unfoldable pub root_parts : ℕ → RootParts
unfolding whole_root quarters
root_parts n =
    let j = quarters n in
    let m = n * 2 ^ 104 / 4 ^ j in
    parts_at j m (whole_root 53 m)

-- for a zero all numbers are 0, and the double is the zero itself, with its sign
abbrev pub root_zero : Float → RootParts
root_zero z = record { root = 0; remainder = 0; exponent = pos 0; nearest = z }

-- a z that is not below zero: refusal 8 for a NaN or an infinity
unfoldable pub root_from : Float → Answer RootParts
unfolding root_parts units_of
root_from nan = refuses 8
root_from (inf s) = refuses 8
root_from (fin s zero e) = answers (root_zero (fin s zero e))
root_from (fin s (suc m) e) = answers (root_parts (units_of binary64 (suc m) e))

-- refusal 1 comes first, for −∞ too; −0 and NaN are not below zero
unfoldable pub root_of : Float → Answer RootParts
unfolding lt root_from
root_of z = cond (lt z f0) (refuses 1) (root_from z)
