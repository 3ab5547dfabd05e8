use Rattle.theorems.specs.RhoNegated.{rho_negated}
use Rattle.theorems.proofs.rho_negated.rho_negated.Goals as goal

pub returns : goal.returns
unfolding rho_negated
returns g c = simp c.neg.ensures
