-- `pairs::sim3::armed_pair_at` meets its contract: either arm forms the definition's coefficients at Δ, and the result
-- has the arm for both signs. Assumes nothing.
use mathlib.Core.Path.{sym, ap, ◌∙◌}
use lib.Dec.{ltb}
use Rattle.std.proofs.Common.{rules}
use Rattle.arms.specs.Limits.{coeffs_delta}
use Rattle.arms.specs.Floats.{as_values}
use Rattle.arms.proofs.Arm.{ends-series, ends-closed, series-below}
use Rattle.pairs.proofs.Even.{pair_by_series, pair-closed, armed-pair-is}
use Rattle.pairs.proofs.sim3.armed_pair_at.Goals as goal

pub returns-in-Series : goal.returns-in-Series
unfolding coeffs_delta
returns-in-Series g c =
    let r = g.T.Real in
    let a = c.args in
    let real = g.met.T.Real in
    let e = simp (real.add_law _ _ _ c.add-delta.ensures, real.mul_law _ _ _ c.mul.ensures) at c.in-Series.ensures in
    let t = ap (λ n. ltb n 5) (sym e) ∙ series-below c.in-Series.by in
    let s = pair_by_series r.format (r.float a.sigma) (r.float a.z) (as_values r.float a.v) t in
    let n = ends-series r.format (r.float a.sigma) _ t in
    search (rules, s, n, e, armed-pair-is)

pub returns-in-Closed : goal.returns-in-Closed
unfolding coeffs_delta
returns-in-Closed g c =
    let r = g.T.Real in
    let a = c.args in
    let real = g.met.T.Real in
    let e = simp (real.add_law _ _ _ c.add-delta.ensures, real.mul_law _ _ _ c.mul.ensures) at c.in-Closed.ensures in
    let t = ap (λ n. ltb n 5) (sym e) in
    let s = pair-closed r.format (r.float a.sigma) (r.float a.z) (as_values r.float a.v) t in
    let n = ends-closed r.format (r.float a.sigma) _ t in
    search (rules, real.add_law, real.mul_law, s, n, e, armed-pair-is)
