-- The coefficients with their arms have as many numbers as their lists have elements.
use Rattle.std.proofs.Common.{◌≡◌, refl, length, length-append}
use Rattle.std.specs.Float.{Format}
use Rattle.coeffs.specs.Floats.{Armed}
use Rattle.pairs.specs.Floats.{ArmedPair}
use Rattle.layout.specs.Layout.{scaled_pair_numbers}
use Rattle.layout.proofs.Numbers.{scaled-count}
use Rattle.to_lists.specs.Written.{arm_numbers, armed_numbers, armed_pair_numbers}

pub arm-count : (f : Format) (a : Armed) → length (arm_numbers f a) ≡ 2
unfolding arm_numbers
arm-count f a = refl

pub armed-count : (f : Format) (a : Armed) → length (armed_numbers f a) ≡ 12
unfolding armed_numbers
armed-count f a = simp (length-append, arm-count, scaled-count)

pub armed-pair-count : (f : Format) (p : ArmedPair) → length (armed_pair_numbers f p) ≡ 24
unfolding armed_pair_numbers scaled_pair_numbers
armed-pair-count f p = simp (length-append, arm-count, scaled-count)
