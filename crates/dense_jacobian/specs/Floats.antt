-- The struct over floats that the definitions use, and the code's struct as one of them: `h` maps a number to its
-- float.
use Rattle.std.specs.Prelude.{Float}
use Rattle.dense_jacobian.specs.declared.Seven as CodeSeven
use Rattle.sim3.specs.Floats.{as_sim3_tangent}

abbrev pub Seven : Type 0
Seven = CodeSeven.Seven Float

abbrev pub as_seven : {T : Type 0} → (T → Float) → CodeSeven.Seven T → Seven
as_seven h a =
    record {
      c0 = as_sim3_tangent h a.c0;
      c1 = as_sim3_tangent h a.c1;
      c2 = as_sim3_tangent h a.c2;
      c3 =
          as_sim3_tangent h a.c3;
      c4 = as_sim3_tangent h a.c4;
      c5 = as_sim3_tangent h a.c5;
      c6 = as_sim3_tangent h a.c6;
    }
