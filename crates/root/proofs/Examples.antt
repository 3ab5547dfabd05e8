-- Worked examples, computed from the definition: numbers, zeros and refusals. Patterns and whole numbers are
-- hexadecimal. Assumes nothing.
use mathlib.Core.Path.{◌≡◌, refl}
use mathlib.Core.Bool.{true, false}
use Prim.Native.Nat.{ℕ}
use lib.IntN.{ℤ, pos, negsuc}
use lib.Ieee.{fin, binary64, size, round, lt, of_bits}
use Rattle.ieee.specs.Patterns.{units_of}
use Rattle.linalg.specs.Answer.{answers, refuses}
use Rattle.root.specs.Root.{whole_root, quarters, root_parts, root_from, root_zero, root_of}

-- the double with the pattern b has the root r, the remainder `left`, the exponent s and the nearest double with the
-- pattern near
abbrev Gives : ℕ → ℕ → ℕ → ℤ → ℕ → Type 0
Gives b r left s near =
    root_of (of_bits binary64 b)
    ≡ answers (record { root = r; remainder = left; exponent = s; nearest = of_bits binary64 near })

abbrev Refuses : ℕ → ℕ → Type 0
Refuses b n = root_of (of_bits binary64 b) ≡ refuses n

-- 2
two : Gives 0x4000000000000000 0x16a09e667f3bcc 0x198d4d0da05570 (negsuc 51) 0x3ff6a09e667f3bcd
unfolding root_of root_from root_parts units_of quarters whole_root size round lt of_bits
two = refl

-- 4
four : Gives 0x4010000000000000 0x10000000000000 0x0 (negsuc 50) 0x4000000000000000
unfolding root_of root_from root_parts units_of quarters whole_root size round lt of_bits
four = refl

-- the double after 1, whose remainder is r exactly
one_more : Gives 0x3ff0000000000001 0x10000000000000 0x10000000000000 (negsuc 51) 0x3ff0000000000000
unfolding root_of root_from root_parts units_of quarters whole_root size round lt of_bits
one_more = refl

-- the double before 4, whose remainder is r exactly
before-four : Gives 0x400fffffffffffff 0x1fffffffffffff 0x1fffffffffffff (negsuc 51) 0x3fffffffffffffff
unfolding root_of root_from root_parts units_of quarters whole_root size round lt of_bits
before-four = refl

-- the largest double: its remainder is r too
largest : Gives 0x7fefffffffffffff 0x1fffffffffffff 0x1fffffffffffff (pos 459) 0x5fefffffffffffff
unfolding root_of root_from root_parts units_of quarters whole_root size round lt of_bits
largest = refl

-- the least subnormal
least : Gives 0x1 0x10000000000000 0x0 (negsuc 588) 0x1e60000000000000
unfolding root_of root_from root_parts units_of quarters whole_root size round lt of_bits
least = refl

-- the largest subnormal
subnormal : Gives 0xfffffffffffff 0x1ffffffffffffe 0x3ffffffffffffc (negsuc 563) 0x1fffffffffffffff
unfolding root_of root_from root_parts units_of quarters whole_root size round lt of_bits
subnormal = refl

-- 1/9 rounded down
ninth : Gives 0x3fbc71c71c71c71c 0x15555555555555 0x71c71c71c71c7 (negsuc 53) 0x3fd5555555555555
unfolding root_of root_from root_parts units_of quarters whole_root size round lt of_bits
ninth = refl

-- a zero of either sign, which the double keeps
plus-zero : root_of (of_bits binary64 0x0) ≡ answers (root_zero (fin false 0 (pos 0)))
unfolding root_of root_from lt of_bits
plus-zero = refl

minus-zero : root_of (of_bits binary64 0x8000000000000000) ≡ answers (root_zero (fin true 0 (pos 0)))
unfolding root_of root_from lt of_bits
minus-zero = refl

-- the greatest double below zero
minus-least : Refuses 0x8000000000000001 1
unfolding root_of root_from lt of_bits
minus-least = refl

-- −∞, which is below zero
minus_infinity_lem : Refuses 0xfff0000000000000 1
unfolding root_of root_from lt of_bits
minus_infinity_lem = refl

-- +∞
infinity : Refuses 0x7ff0000000000000 8
unfolding root_of root_from lt of_bits
infinity = refl

-- a NaN
a_nan : Refuses 0x7ff8000000000000 8
unfolding root_of root_from lt of_bits
a_nan = refl

-- a NaN with its sign set
minus_nan : Refuses 0xfff8000000000001 8
unfolding root_of root_from lt of_bits
minus_nan = refl
