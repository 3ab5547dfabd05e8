-- `theorems::rho_negated::five_calls` meets its contract: each result is the definition's by what its call ensures.
use Rattle.theorems.specs.RhoNegated.{five_calls_of}
use Rattle.theorems.proofs.rho_negated.five_calls.Goals as goal

pub returns : goal.returns
unfolding five_calls_of
returns g c = λ i.
    record {
      exp = c.exp.ensures i;
      left = c.jl.ensures i;
      together = c.exp_and_jl.ensures i;
      inverted = c.jl_and_inverse.ensures i;
      pair = c.block_pair.ensures i;
    }
