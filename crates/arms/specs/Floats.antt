-- The structs over floats that the definitions use, and each struct of the code as one of them: `h` maps a number to
-- its float.
use Rattle.std.specs.Prelude.{Float}
use Rattle.arms.specs.declared.values.Values as CodeValues

abbrev pub Values : Type 0
Values = CodeValues.Values Float

abbrev pub as_values : {T : Type 0} → (T → Float) → CodeValues.Values T → Values
as_values h a =
    record {
      root = h a.root;
      sin_half = h a.sin_half;
      cos_half = h a.cos_half;
      sin = h a.sin;
      e = h a.e;
      m =
          h a.m;
      e0 = h a.e0;
      m0 = h a.m0;
      up = h a.up;
      down = h a.down;
    }
