-- The structs over floats that the definitions use, and each struct of the code as one of them: `h` maps a number to
-- its float.
use Rattle.std.specs.Prelude.{Float}
use Rattle.linalg.specs.declared.vector.Vec3 as CodeVec3
use Rattle.linalg.specs.declared.matrix.Mat3 as CodeMat3
use Rattle.linalg.specs.declared.matrix.Inverse as CodeInverse

abbrev pub Vec3 : Type 0
Vec3 = CodeVec3.Vec3 Float

abbrev pub as_vec3 : {T : Type 0} → (T → Float) → CodeVec3.Vec3 T → Vec3
as_vec3 h a = record { x = h a.x; y = h a.y; z = h a.z }

abbrev pub Mat3 : Type 0
Mat3 = CodeMat3.Mat3 Float

abbrev pub as_mat3 : {T : Type 0} → (T → Float) → CodeMat3.Mat3 T → Mat3
as_mat3 h a = record { c0 = as_vec3 h a.c0; c1 = as_vec3 h a.c1; c2 = as_vec3 h a.c2 }

abbrev pub Inverse : Type 0
Inverse = CodeInverse.Inverse Float

abbrev pub as_inverse : {T : Type 0} → (T → Float) → CodeInverse.Inverse T → Inverse
as_inverse h a = record { inv = as_mat3 h a.inv; det = h a.det }
