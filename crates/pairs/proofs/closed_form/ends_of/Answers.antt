-- `pairs::closed_form::ends_of` meets its contract: by the series of both signs where `small`, else by each sign's own
-- function. Assumes nothing.
use native.Mathlib.Omega.{arith}
use Rattle.series.specs.Series.{g_series_pair}
use Rattle.coeffs.specs.ClosedForm.{closed_v0, closed_w0}
use Rattle.pairs.specs.Private.{closed_ends}
use Rattle.pairs.proofs.closed_form.ends_of.Goals as goal

pub returns-then-small : goal.returns-then-small
unfolding closed_ends closed_v0 closed_w0 g_series_pair
returns-then-small g c = let real = g.met.T.Real in grind (arith, real.mul_law)

pub returns : goal.returns
unfolding closed_ends
returns g c = let real = g.met.T.Real in grind (arith, real.neg_law)
