-- For each function named here, the definitions that its proof unfolds.
use Rattle.std.specs.Prelude.{⊤}
use Rattle.coeffs.specs.Entries.{scaled_answer, coeffs_answer}
use Rattle.coeffs.proofs.GroupForms.{unscaled_forms}

unfoldable pub sim3_coeffs_unfolds : ⊤
unfolding scaled_answer coeffs_answer unscaled_forms
sim3_coeffs_unfolds = tt
