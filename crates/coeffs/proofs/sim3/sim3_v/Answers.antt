-- `coeffs::sim3::sim3_v` meets its contract: the scaled answer, unscaled, or its refusal. Assumes nothing.
use mathlib.Core.Path.{sym}
use Rattle.std.proofs.Common.{rules}
use Rattle.arms.specs.Floats.{as_values}
use Rattle.coeffs.specs.Floats.{as_v_scaled}
use Rattle.coeffs.specs.Entries.{v_scaled_answer, v_answer}
use Rattle.coeffs.proofs.Arms.{v-answers}
use Rattle.coeffs.proofs.sim3.sim3_v.Goals as goal

pub returns-in_err-s : goal.returns-in_err-s
unfolding v_scaled_answer v_answer
returns-in_err-s g c = search rules

pub returns : goal.returns
unfolding v_scaled_answer v_answer
returns g c =
    let r = g.T.Real in
    let a = c.args in
    let s = v-answers r.format (r.float a.sigma) (r.float a.z) (as_values r.float a.v) (as_v_scaled r.float c.in_ok-s.s)
    (sym c.in_ok-s.ensures) in
    search (rules, s)
