-- The definitions to unfold to compute a closed form. Proof files of functions name it.
use Rattle.std.specs.Prelude.{⊤}
use Rattle.coeffs.specs.ClosedForm.{closed_v, closed_only, closed_from, closed_v_from, closed_v0, closed_w0}
use Rattle.coeffs.specs.ClosedForm.{closed_exps}

unfoldable pub closed_forms : ⊤
unfolding closed_v closed_only closed_from closed_v_from closed_v0 closed_w0 closed_exps
closed_forms = tt
