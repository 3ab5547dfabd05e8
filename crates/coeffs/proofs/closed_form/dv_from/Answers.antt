-- `coeffs::closed_form::dv_from` meets its contract: operation by operation, in the definition's order. Assumes
-- nothing.
use Rattle.std.proofs.Common.{rules}
use Rattle.coeffs.specs.ClosedForm.{closed_dvs}
use Rattle.arms.specs.Limits.{coeffs_delta}
use lib.Ieee.{of_bits}
use Rattle.coeffs.proofs.closed_form.dv_from.Goals as goal

pub returns : goal.returns
unfolding closed_dvs coeffs_delta of_bits
returns g c =
    let real = g.met.T.Real in search (rules, real.add_law, real.sub_law, real.mul_law, real.div_law, real.neg_law)
