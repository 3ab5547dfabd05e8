-- `coeffs::sim3::armed_at` meets its contract: either arm forms the definition's coefficients at Δ, and the result says
-- which arm and whether v0 and w0 come from their own series. Assumes nothing.
use mathlib.Core.Path.{sym, ap, ◌∙◌}
use lib.Dec.{ltb}
use Rattle.std.proofs.Common.{rules}
use Rattle.arms.specs.Limits.{coeffs_delta}
use Rattle.arms.specs.Floats.{as_values}
use Rattle.arms.proofs.Arm.{ends-series, ends-closed, series-below}
use Rattle.coeffs.specs.Group.{coeffs_armed}
use Rattle.coeffs.proofs.Arms.{by_series, by_closed}
use Rattle.coeffs.proofs.sim3.armed_at.Goals as goal

pub returns-in-Series : goal.returns-in-Series
unfolding coeffs_delta coeffs_armed
returns-in-Series g c =
    let r = g.T.Real in
    let a = c.args in
    let real = g.met.T.Real in
    let e = simp (real.add_law _ _ _ c.add-delta.ensures, real.mul_law _ _ _ c.mul.ensures) at c.in-Series.ensures in
    let t = ap (λ n. ltb n 5) (sym e) ∙ series-below c.in-Series.by in
    let s = by_series r.format (r.float a.sigma) (r.float a.z) (as_values r.float a.v) t in
    let n = ends-series r.format (r.float a.sigma) _ t in
    search (rules, s, n, e)

pub returns-in-Closed : goal.returns-in-Closed
unfolding coeffs_delta coeffs_armed
returns-in-Closed g c =
    let r = g.T.Real in
    let a = c.args in
    let real = g.met.T.Real in
    let e = simp (real.add_law _ _ _ c.add-delta.ensures, real.mul_law _ _ _ c.mul.ensures) at c.in-Closed.ensures in
    let t = ap (λ n. ltb n 5) (sym e) in
    let s = by_closed r.format (r.float a.sigma) (r.float a.z) (as_values r.float a.v) t in
    let n = ends-closed r.format (r.float a.sigma) _ t in
    search (rules, real.add_law, real.mul_law, s, n, e)
