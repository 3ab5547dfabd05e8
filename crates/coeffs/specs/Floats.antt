-- The structs over floats that the definitions use, and each struct of the code as one of them: `h` maps a number to
-- its float.
use Rattle.std.specs.Prelude.{ℕ, Bool, Float}
use Rattle.coeffs.specs.declared.closed_form.Ws as CodeWs
use Rattle.coeffs.specs.declared.closed_form.Dvs as CodeDvs
use Rattle.coeffs.specs.declared.closed_form.EtMt as CodeEtMt
use Rattle.coeffs.specs.declared.closed_form.Exps as CodeExps
use Rattle.coeffs.specs.declared.sim3.Scaled as CodeScaled
use Rattle.coeffs.specs.declared.sim3.Armed as CodeArmed
use Rattle.series.specs.declared.sim3.Sim3Coeffs as CodeSim3Coeffs
use Rattle.series.specs.declared.sim3.Coeffs4 as CodeCoeffs4
use Rattle.series.specs.Floats.{Coeffs4, Sim3Coeffs, as_coeffs4, as_sim3_coeffs}
use Rattle.arms.specs.Arm.{arm_number}

abbrev pub Ws : Type 0
Ws = CodeWs.Ws Float

abbrev pub as_ws : {T : Type 0} → (T → Float) → CodeWs.Ws T → Ws
as_ws h a = record { w1 = h a.w1; w2 = h a.w2 }

abbrev pub Dvs : Type 0
Dvs = CodeDvs.Dvs Float

abbrev pub as_dvs : {T : Type 0} → (T → Float) → CodeDvs.Dvs T → Dvs
as_dvs h a = record { dv1 = h a.dv1; dv2 = h a.dv2 }

abbrev pub EtMt : Type 0
EtMt = CodeEtMt.EtMt Float

abbrev pub as_et_mt : {T : Type 0} → (T → Float) → CodeEtMt.EtMt T → EtMt
as_et_mt h a = record { et = h a.et; mt = h a.mt }

abbrev pub Exps : Type 0
Exps = CodeExps.Exps Float

abbrev pub as_exps : {T : Type 0} → (T → Float) → CodeExps.Exps T → Exps
as_exps h a = record { e = h a.e; m1 = h a.m1; g = h a.g }

abbrev pub Scaled : Type 0
Scaled = CodeScaled.Scaled Sim3Coeffs

abbrev pub as_scaled : {T : Type 0} → (T → Float) → CodeScaled.Scaled (CodeSim3Coeffs.Sim3Coeffs T) → Scaled
as_scaled h a = record { c = as_sim3_coeffs h a.c; scaled = a.scaled }

abbrev pub VScaled : Type 0
VScaled = CodeScaled.Scaled Coeffs4

abbrev pub as_v_scaled : {T : Type 0} → (T → Float) → CodeScaled.Scaled (CodeCoeffs4.Coeffs4 T) → VScaled
as_v_scaled h a = record { c = as_coeffs4 h a.c; scaled = a.scaled }

-- the armed coefficients, with the arm as its number
pub record Armed : Type 0 where
  pub s : Scaled
  pub arm : ℕ
  pub ends : Bool

abbrev pub as_armed : {T : Type 0} → (T → Float) → CodeArmed.Armed T → Armed
as_armed h a = record { s = as_scaled h a.s; arm = arm_number a.arm; ends = a.ends }
