-- `pairs::closed_form::ends_both` meets its contract: from the exponential's numbers at each sign. Assumes nothing.
use native.Mathlib.Omega.{arith}
use Rattle.pairs.proofs.closed_form.ends_both.Goals as goal

pub returns : goal.returns
returns g c = let real = g.met.T.Real in grind (arith, real.neg_law)
