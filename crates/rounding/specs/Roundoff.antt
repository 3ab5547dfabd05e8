-- The bound of one rounding.
use Rattle.std.specs.Prelude.{ℕ, suc, ◌+◌, ◌/◌, ◌^◌}
use Rattle.std.specs.Float.{Format}
use Rattle.std.specs.Float.Ieee.{prec, low}

-- Of a number of size x / w, in units of 1 / w: x 2 ^ -prec, and half the smallest subnormal. Each is counted upward to
-- the next unit.
abbrev pub rounding_error : Format → ℕ → ℕ → ℕ
rounding_error f w x = suc (x / 2 ^ prec f) + suc (w / 2 ^ suc (low f))
