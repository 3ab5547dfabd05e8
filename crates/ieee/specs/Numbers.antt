-- The constants that the definitions name. Each is the same value in every format.
use Rattle.std.specs.Prelude.{false, pos, negsuc, Float}
use Rattle.std.specs.Float.{fin}

-- +0
abbrev pub f0 : Float
f0 = fin false 0 (pos 0)

abbrev pub f1 : Float
f1 = fin false 1 (pos 0)

abbrev pub f2 : Float
f2 = fin false 1 (pos 1)

abbrev pub f3 : Float
f3 = fin false 3 (pos 0)

-- 0.5
abbrev pub half : Float
half = fin false 1 (negsuc 0)
