-- The ten function values that the caller passes, and the scope's mirrored values.
use Rattle.std.specs.Prelude.{Bool, cond, ◌&&◌, Float}
use Rattle.std.specs.Float.Ieee.{le}
use Rattle.ieee.specs.Numbers.{f0}
use Rattle.arms.specs.Floats.{Values}

-- σ is +0 or -0
unfoldable pub at_zero : Float → Bool
at_zero sigma = le sigma f0 && le f0 sigma

-- the values of the negative tangent: up and down exchanged, and if σ is ±0 also E and E0, M and M0
unfoldable pub mirrored : Float → Values → Values
mirrored sigma v =
    let zero = at_zero sigma in
    record {
      root = v.root;
      sin_half = v.sin_half;
      cos_half = v.cos_half;
      sin = v.sin;
      e = cond zero v.e0 v.e;
      m = cond zero v.m0 v.m;
      e0 = cond zero v.e v.e0;
      m0 = cond zero v.m v.m0;
      up = v.down;
      down = v.up;
    }
