-- The structs over floats that the definitions use, and each struct of the code as one of them: `h` maps a number to
-- its float.
use Rattle.std.specs.Prelude.{Float}
use Rattle.so3.specs.declared.quat.Quat as CodeQuat

abbrev pub Quat : Type 0
Quat = CodeQuat.Quat Float

abbrev pub as_quat : {T : Type 0} → (T → Float) → CodeQuat.Quat T → Quat
as_quat h a = record { w = h a.w; x = h a.x; y = h a.y; z = h a.z }
