-- `theorems::rho_negated::both_rhos` meets its contract: both results are the definitions' by what the calls ensure,
-- and so they are related as the theorem says.
use mathlib.Core.Path.{◌≡◌, sym, ◌∙◌, subst}
use Rattle.linalg.specs.Floats.{as_mat3}
use Rattle.arms.specs.Floats.{as_values}
use Rattle.sim3.specs.Floats.{as_sim3_tangent}
use Rattle.theorems.specs.RhoNegated.{rho_negated, five_calls_of, both_rhos_of, RhoNegated}
use Rattle.theorems.specs.Floats.{BothRhos, as_five_calls}
use Rattle.theorems.proofs.RhoNegated.{rho_negated_theorem}
use Rattle.theorems.proofs.rho_negated.both_rhos.Goals as goal

pub returns : goal.returns
unfolding both_rhos_of
returns g c =
    let f = g.T.Real.format in
    let h = g.T.Real.float in
    let a = c.args in
    let tau = as_sim3_tangent h a.tau in
    let v = as_values h a.v in
    let jl = as_mat3 h a.jl in
    let jl_inv = as_mat3 h a.jl_inv in
    let from = a.frames.from in
    let to = a.frames.to in
    let back : as_sim3_tangent h c.rho_negated-back.result ≡ rho_negated tau = c.rho_negated-back.ensures in
    let at_negated_rho : as_five_calls h c.five_calls-at_negated_rho.result
    ≡ five_calls_of f (rho_negated tau) v jl jl_inv from to =
    c.five_calls-at_negated_rho.ensures ∙ (λ i. five_calls_of f (back i) v jl jl_inv from to) in
    let r : BothRhos = record {
      at_rho = as_five_calls h c.five_calls-at_rho.result;
      at_negated_rho =
          as_five_calls h c.five_calls-at_negated_rho.result;
    } in
    let is : r ≡ both_rhos_of f tau v jl jl_inv from to = λ i. record {
      at_rho =
          c.five_calls-at_rho.ensures i;
      at_negated_rho = at_negated_rho i;
    } in
    record { value = is; at_negated_rho = subst RhoNegated (sym is) (rho_negated_theorem f tau v jl jl_inv from to) }
