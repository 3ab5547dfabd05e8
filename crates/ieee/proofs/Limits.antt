-- Why some lemmas say no more: computed counterexamples. Assumes nothing.
use mathlib.Core.Path.{◌≡◌, refl}
use mathlib.Core.Bool.{true, false}
use lib.IntN.{pos, negsuc}
use lib.Ieee.{nan, inf, fin, binary64, neg, add, div, eq}
use Rattle.ieee.specs.Signs.{unsigned_zero}

-- `add_clear` requires values that fit: +0 and a number far below the format's smallest one round to -0
unfit : add binary64 (fin false 0 (pos 0)) (fin true 1 (negsuc 5000)) ≡ fin true 0 (pos 0)
unfolding add
unfit = refl

-- `neg-add` is not an equality: -(1 + -1) is -0, and -1 + 1 is +0
turned : neg (add binary64 (fin false 1 (pos 0)) (fin true 1 (pos 0))) ≡ fin true 0 (pos 0)
unfolding add neg
turned = refl

not_turned : add binary64 (neg (fin false 1 (pos 0))) (neg (fin true 1 (pos 0))) ≡ fin false 0 (pos 0)
unfolding add neg
not_turned = refl

-- `add-zero-same` is not an equality: -0 + 0 is +0
lost : add binary64 (fin true 0 (pos 0)) (fin false 0 (pos 0)) ≡ fin false 0 (pos 0)
unfolding add
lost = refl

-- `div` does not respect `Same` in its divisor
plus_quotient : div binary64 (fin false 1 (pos 0)) (fin false 0 (pos 0)) ≡ inf false
unfolding div
plus_quotient = refl

minus_quotient : div binary64 (fin false 1 (pos 0)) (fin true 0 (pos 0)) ≡ inf true
unfolding div
minus_quotient = refl

-- `Same` is not `eq`: a NaN is the same as a NaN
nan_same : unsigned_zero nan ≡ unsigned_zero nan
nan_same = refl

nan_not_eq : eq nan nan ≡ false
unfolding eq
nan_not_eq = refl
