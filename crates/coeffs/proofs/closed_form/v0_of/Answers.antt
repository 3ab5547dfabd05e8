-- `coeffs::closed_form::v0_of` meets its contract: operation by operation, in the definition's order. Assumes nothing.
use native.Mathlib.Omega.{arith}
use lib.Ieee.{of_bits}
use Rattle.coeffs.specs.ClosedForm.{closed_v0}
use Rattle.coeffs.proofs.closed_form.v0_of.Goals as goal

pub returns-then-small : goal.returns-then-small
unfolding closed_v0
returns-then-small g c = let real = g.met.T.Real in grind (arith, real.mul_law)

pub returns : goal.returns
unfolding closed_v0 of_bits
returns g c = let real = g.met.T.Real in grind (arith, real.div_law)
