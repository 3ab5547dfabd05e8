-- The struct over floats that the definitions use, and the code's struct as one of them: `h` maps a number to its
-- float.
use Rattle.std.specs.Prelude.{Float}
use Rattle.jacobian.specs.declared.jac.Sim3Jac as CodeSim3Jac
use Rattle.linalg.specs.Floats.{as_mat3, as_vec3}

abbrev pub Sim3Jac : Type 0
Sim3Jac = CodeSim3Jac.Sim3Jac Float

abbrev pub as_sim3_jac : {T : Type 0} → (T → Float) → CodeSim3Jac.Sim3Jac T → Sim3Jac
as_sim3_jac h a = record { a = as_mat3 h a.a; b = as_mat3 h a.b; c = as_mat3 h a.c; f = as_vec3 h a.f; e = h a.e }
