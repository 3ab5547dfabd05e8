-- The definitions to unfold to compute the closed forms at both signs, the coefficients of both, or the answer of a
-- public function.
use Rattle.std.specs.Prelude.{⊤}
use Rattle.coeffs.specs.Group.{coeffs_armed}
use Rattle.coeffs.specs.Entries.{scaled_answer, armed_answer}
use Rattle.coeffs.proofs.ClosedForms.{closed_forms}
use Rattle.pairs.specs.Group.{coeffs_armed_pair, coeffs_pair}
use Rattle.pairs.specs.Entries.{beside, pair_answer, beside_armed, armed_pair_answer}
use Rattle.pairs.specs.Private.{closed_ends, closed_with}

unfoldable pub both_forms : ⊤
unfolding closed_forms closed_ends closed_with
both_forms = tt

unfoldable pub pair_answers : ⊤
unfolding scaled_answer beside pair_answer armed_answer beside_armed armed_pair_answer coeffs_armed
pair_answers = tt

unfoldable pub armed_forms : ⊤
unfolding coeffs_armed coeffs_armed_pair coeffs_pair
armed_forms = tt
