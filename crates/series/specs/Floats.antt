-- The structs over floats that the definitions use, and each struct of the code as one of them: `h` maps a number to
-- its float.
use Rattle.std.specs.Prelude.{Float}
use Rattle.series.specs.declared.recurrence.Level as CodeLevel
use Rattle.series.specs.declared.recurrence.Sums as CodeSums
use Rattle.series.specs.declared.recurrence.Tail as CodeTail
use Rattle.series.specs.declared.recurrence.SeriesState as CodeSeriesState
use Rattle.series.specs.declared.sim3.Sim3Coeffs as CodeSim3Coeffs
use Rattle.series.specs.declared.sim3.Coeffs4 as CodeCoeffs4
use Rattle.series.specs.declared.sim3.Signs as CodeSigns
use Rattle.series.specs.declared.sim3.Horner as CodeHorner
use Rattle.series.specs.declared.stopped.Stopped as CodeStopped

abbrev pub Level : Type 0
Level = CodeLevel.Level Float

abbrev pub as_level : {T : Type 0} → (T → Float) → CodeLevel.Level T → Level
as_level h a = record { xi = h a.xi; dxi = h a.dxi; zeta = h a.zeta; dzeta = h a.dzeta; p = h a.p }

abbrev pub Sums : Type 0
Sums = CodeSums.Sums Float

abbrev pub as_sums : {T : Type 0} → (T → Float) → CodeSums.Sums T → Sums
as_sums h a = record { v1 = h a.v1; dv1 = h a.dv1; v2 = h a.v2; dv2 = h a.dv2; w1 = h a.w1; w2 = h a.w2 }

abbrev pub Tail : Type 0
Tail = CodeTail.Tail Float

abbrev pub as_tail : {T : Type 0} → (T → Float) → CodeTail.Tail T → Tail
as_tail h a =
    record {
      v2 = h a.v2;
      w2 = h a.w2;
      dv1 = h a.dv1;
      dv1_next = h a.dv1_next;
      dv2 = h a.dv2;
      dv2_next =
          h a.dv2_next;
      dv2_last = h a.dv2_last;
    }

abbrev pub SeriesState : Type 0
SeriesState = CodeSeriesState.SeriesState Float

abbrev pub as_series_state : {T : Type 0} → (T → Float) → CodeSeriesState.SeriesState T → SeriesState
as_series_state h a = record { level = as_level h a.level; sums = as_sums h a.sums }

abbrev pub Sim3Coeffs : Type 0
Sim3Coeffs = CodeSim3Coeffs.Sim3Coeffs Float

abbrev pub as_sim3_coeffs : {T : Type 0} → (T → Float) → CodeSim3Coeffs.Sim3Coeffs T → Sim3Coeffs
as_sim3_coeffs h a =
    record {
      v0 = h a.v0;
      v1 = h a.v1;
      v2 = h a.v2;
      w0 = h a.w0;
      w1 = h a.w1;
      w2 = h a.w2;
      dv1 = h a.dv1;
      dv2 =
          h a.dv2;
      chi_delta = h a.chi_delta;
    }

abbrev pub Coeffs4 : Type 0
Coeffs4 = CodeCoeffs4.Coeffs4 Float

abbrev pub as_coeffs4 : {T : Type 0} → (T → Float) → CodeCoeffs4.Coeffs4 T → Coeffs4
as_coeffs4 h a = record { v0 = h a.v0; v1 = h a.v1; v2 = h a.v2; chi_delta = h a.chi_delta }

-- a value at sigma and one at -sigma
abbrev pub Signs : Type 0 → Type 0
Signs X = CodeSigns.Signs X

abbrev pub as_signs : {X Y : Type 0} → (X → Y) → CodeSigns.Signs X → Signs Y
as_signs h a = record { pos = h a.pos; neg = h a.neg }

abbrev pub Horner : Type 0
Horner = CodeHorner.Horner Float

abbrev pub as_horner : {T : Type 0} → (T → Float) → CodeHorner.Horner T → Horner
as_horner h a = record { v0 = as_signs h a.v0; w0 = as_signs h a.w0 }

abbrev pub Stopped : Type 0
Stopped = CodeStopped.Stopped Float

abbrev pub as_stopped : {T : Type 0} → (T → Float) → CodeStopped.Stopped T → Stopped
as_stopped h a =
    record {
      series = as_horner h a.series;
      series_alone = as_horner h a.series_alone;
      closed =
          as_horner h a.closed;
      closed_alone = as_horner h a.closed_alone;
    }
