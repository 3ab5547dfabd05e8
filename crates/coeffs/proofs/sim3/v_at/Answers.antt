-- `coeffs::sim3::v_at` meets its contract: either arm forms the definition's v and χΔ at Δ. Assumes nothing.
use mathlib.Core.Path.{sym, ap, ◌∙◌}
use lib.Dec.{ltb}
use lib.Ieee.{of_bits}
use Rattle.std.proofs.Common.{rules}
use Rattle.arms.specs.Limits.{coeffs_delta}
use Rattle.arms.specs.Arm.{arm_terms}
use Rattle.arms.specs.Floats.{as_values}
use Rattle.arms.proofs.Arm.{series-below}
use Rattle.coeffs.proofs.Arms.{v-series, v-closed}
use Rattle.coeffs.proofs.sim3.v_at.Goals as goal

pub returns-in-Series : goal.returns-in-Series
unfolding coeffs_delta
returns-in-Series g c =
    let r = g.T.Real in
    let a = c.args in
    let real = g.met.T.Real in
    let e = simp (real.add_law _ _ _ c.add-delta.ensures, real.mul_law _ _ _ c.mul.ensures) at c.in-Series.ensures in
    let t = ap (λ n. ltb n 5) (sym e) ∙ series-below c.in-Series.by in
    let s = v-series r.format (r.float a.sigma) (r.float a.z) (as_values r.float a.v) _ t
    (c.arm_terms.ensures.count ∙ ap (arm_terms r.format) e) in
    search (rules, s)

pub returns-in-Closed : goal.returns-in-Closed
unfolding coeffs_delta of_bits
returns-in-Closed g c =
    let r = g.T.Real in
    let a = c.args in
    let real = g.met.T.Real in
    let e = simp (real.add_law _ _ _ c.add-delta.ensures, real.mul_law _ _ _ c.mul.ensures) at c.in-Closed.ensures in
    let s = v-closed r.format (r.float a.sigma) (r.float a.z) (as_values r.float a.v) (ap (λ n. ltb n 5) (sym e)) in
    search (rules, real.add_law, real.mul_law, s)
