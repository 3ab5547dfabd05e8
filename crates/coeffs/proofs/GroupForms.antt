-- The definitions to unfold to compute a coefficient group or the answer of a public function.
use Rattle.std.specs.Prelude.{⊤}
use Rattle.series.specs.Series.{coeffs4}
use Rattle.coeffs.specs.Group.{coeffs_armed, coeffs_unscaled, coeffs_v, coeffs_v_scaled}
use Rattle.coeffs.specs.Group.{coeffs_unscale, coeffs_unscale_v}
use Rattle.coeffs.specs.Entries.{scaled_answer, armed_answer}

unfoldable pub entry_answers : ⊤
unfolding scaled_answer armed_answer coeffs_armed
entry_answers = tt

unfoldable pub unscaled_forms : ⊤
unfolding coeffs_unscaled coeffs_v coeffs_v_scaled coeffs_unscale coeffs_unscale_v coeffs4
unscaled_forms = tt
