-- Equality up to the sign of a zero, and the values that are not -0.
use Rattle.std.specs.Prelude.{◌≡◌, zero, suc, Bool, true, false, pos, Float}
use Rattle.std.specs.Float.{nan, inf, fin}

-- a value with the sign of a zero dropped
unfoldable pub unsigned_zero : Float → Float
unsigned_zero nan = nan
unsigned_zero (inf s) = inf s
unsigned_zero (fin s zero e) = fin false zero (pos zero)
unsigned_zero (fin s (suc m) e) = fin s (suc m) e

-- equal up to the sign of a zero: a NaN is the same as a NaN, and -0 as +0. It is an equation, so `refl`, `sym` and
-- `◌∙◌` apply.
abbrev pub Same : Float → Float → Type 0
Same x y = unsigned_zero x ≡ unsigned_zero y

-- not -0
abbrev pub not_minus_zero : Float → Bool
not_minus_zero nan = true
not_minus_zero (inf s) = true
not_minus_zero (fin false m e) = true
not_minus_zero (fin true zero e) = false
not_minus_zero (fin true (suc m) e) = true
