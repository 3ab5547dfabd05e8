-- `error_bounds::coefficients` meets its contract: by what its call ensures. Assumes nothing.
use Rattle.error_bounds.proofs.Holds.{coefficients_hold}
use Rattle.error_bounds.proofs.coefficients.Goals as goal

pub returns : goal.returns
returns g c = coefficients_hold g.T.Real.format _ _ _ _ c.sim3_coeffs_scaled.ensures
