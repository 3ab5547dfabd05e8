-- The structs over floats that the definitions use, and each struct of the code as one of them: `h` maps a number to
-- its float.
use Rattle.std.specs.Prelude.{Float}
use Rattle.series.specs.Floats.{Signs, Sim3Coeffs, as_level, as_sums, as_signs, as_sim3_coeffs}
use Rattle.coeffs.specs.declared.sim3.Scaled as CodeScaled
use Rattle.coeffs.specs.declared.sim3.Armed as CodeArmed
use Rattle.series.specs.declared.sim3.Signs as CodeSigns
use Rattle.series.specs.declared.sim3.Sim3Coeffs as CodeSim3Coeffs
use Rattle.coeffs.specs.Floats.{Scaled, Armed, as_scaled, as_armed}
use Rattle.pairs.specs.declared.recurrence.SeriesPairState as CodeSeriesPairState
use Rattle.pairs.specs.declared.closed_form.Ends as CodeEnds

abbrev pub SeriesPairState : Type 0
SeriesPairState = CodeSeriesPairState.SeriesPairState Float

abbrev pub as_series_pair_state : {T : Type 0} → (T → Float) → CodeSeriesPairState.SeriesPairState T → SeriesPairState
as_series_pair_state h a = record { level = as_level h a.level; pos = as_sums h a.pos; neg = as_sums h a.neg }

abbrev pub CoeffsPair : Type 0
CoeffsPair = Signs Sim3Coeffs

abbrev pub as_coeffs_pair : {T : Type 0} → (T → Float) → CodeSigns.Signs (CodeSim3Coeffs.Sim3Coeffs T) → CoeffsPair
as_coeffs_pair h a = as_signs (as_sim3_coeffs h) a

abbrev pub Ends : Type 0
Ends = CodeEnds.Ends Float

abbrev pub as_ends : {T : Type 0} → (T → Float) → CodeEnds.Ends T → Ends
as_ends h a = record { v0 = h a.v0; w0 = h a.w0; v0_neg = h a.v0_neg; w0_neg = h a.w0_neg }

abbrev pub ScaledPair : Type 0
ScaledPair = CodeSigns.Signs Scaled

abbrev pub as_scaled_pair : {T : Type 0} → (T → Float) → CodeSigns.Signs
    (CodeScaled.Scaled (CodeSim3Coeffs.Sim3Coeffs T)) → ScaledPair
as_scaled_pair h a = record { pos = as_scaled h a.pos; neg = as_scaled h a.neg }

abbrev pub ArmedPair : Type 0
ArmedPair = CodeSigns.Signs Armed

abbrev pub as_armed_pair : {T : Type 0} → (T → Float) → CodeSigns.Signs (CodeArmed.Armed T) → ArmedPair
as_armed_pair h a = record { pos = as_armed h a.pos; neg = as_armed h a.neg }
