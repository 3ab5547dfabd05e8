-- The structs over floats that the definitions use, and each struct of the code as one of them: `h` maps a number to
-- its float.
use Rattle.std.specs.Prelude.{Float}
use Rattle.sim3.specs.declared.sim3.Sim3 as CodeSim3
use Rattle.sim3.specs.declared.sim3.Three as CodeThree
use Rattle.sim3.specs.declared.tangent.Sim3Tangent as CodeSim3Tangent
use Rattle.so3.specs.Floats.{as_quat}
use Rattle.linalg.specs.Floats.{as_vec3}

abbrev pub Sim3 : Type 0
Sim3 = CodeSim3.Sim3 Float

abbrev pub as_sim3 : {T : Type 0} → (T → Float) → CodeSim3.Sim3 T → Sim3
as_sim3 h a = record { q = as_quat h a.q; t = as_vec3 h a.t; sigma = h a.sigma }

abbrev pub Sim3Tangent : Type 0
Sim3Tangent = CodeSim3Tangent.Sim3Tangent Float

abbrev pub as_sim3_tangent : {T : Type 0} → (T → Float) → CodeSim3Tangent.Sim3Tangent T → Sim3Tangent
as_sim3_tangent h a = record { phi = as_vec3 h a.phi; rho = as_vec3 h a.rho; sigma = h a.sigma }

abbrev pub Three : Type 0
Three = CodeThree.Three Float

abbrev pub as_three : {T : Type 0} → (T → Float) → CodeThree.Three T → Three
as_three h a = record { x0 = h a.x0; x1 = h a.x1; x2 = h a.x2 }
