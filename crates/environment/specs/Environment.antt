-- The probe: two products, at least one of which is rounded to another number under every other setting of flushing and
-- rounding. It has no format as argument: one register of the processor holds the setting for all formats.
use Rattle.std.specs.Prelude.{◌≡◌, Bool, true, Float}
use Rattle.std.specs.Float.{binary64}
use Rattle.std.specs.Float.Ieee.{eq, of_bits}
use Rattle.ieee.specs.Infix.{operations}

infixl 70 ◌⊗◌
open operations binary64 use {◌⊗◌}

-- 0x1.4000000000001p-49
abbrev pub due : Float
due = of_bits binary64 0x3ce4000000000001

unfoldable pub product_is_due : Float → Float → Float → Bool
product_is_due a b c = eq (a ⊗ b ⊗ c) due

-- The documented numbers: 4.75; 0x1p-1074, the least double above zero; 0x1.0000000000001p+1023.
abbrev pub first : Float
first = of_bits binary64 0x4013000000000000

abbrev pub second : Float
second = of_bits binary64 1

abbrev pub third : Float
third = of_bits binary64 0x7fe0000000000001

-- The theorem on these numbers. So a machine that returns something else is not the one of the proofs.
abbrev pub DocumentedIsDue : Type 0
DocumentedIsDue = product_is_due first second third ≡ true
