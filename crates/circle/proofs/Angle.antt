-- The squared norm of a rotation vector is never below zero, so a function that computes it has nothing to refuse.
-- Assumes nothing.
use mathlib.Core.Path.{◌≡◌}
use mathlib.Core.Bool.{false}
use lib.Ieee.{Format, lt}
use Rattle.ieee.specs.Numbers.{f0}
use Rattle.ieee.proofs.Square.{squares_not_below}
use Rattle.linalg.specs.Vector.{vec_dot, vec_norm_sq}
use Rattle.linalg.specs.Floats.{Vec3}

pub norm_not_below : (f : Format) (v : Vec3) → lt (vec_norm_sq f v) f0 ≡ false
unfolding vec_norm_sq vec_dot
norm_not_below f v = squares_not_below f v.x v.y v.z
