-- For each function named here, the definitions that its proof unfolds.
use Rattle.std.specs.Prelude.{⊤}
use Rattle.jacobian.specs.Jac.{jac_inverse_answer, jac_inverse}
use Rattle.arms.specs.Values.{at_zero}

unfoldable pub inverse_unfolds : ⊤
unfolding jac_inverse_answer jac_inverse at_zero
inverse_unfolds = tt
