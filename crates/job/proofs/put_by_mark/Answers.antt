-- `job::put_by_mark` meets its contract: i turns have stored the first i counts. Assumes nothing.
use native.Mathlib.Omega.{arith}
use mathlib.Core.Path.{refl, ◌∙◌}
use Rattle.job.proofs.Rows.{stored_none, stored_more}
use Rattle.job.proofs.put_by_mark.Goals as goal

pub loop-i-init : goal.loop-i-init
loop-i-init c = (stored_none c.args.by_mark c.args.out.now c.args.at, refl)

pub loop-i-preserved : goal.loop-i-preserved
loop-i-preserved c =
    let a = c.args in
    let l = c.loop-i in
    let p = c.put_count in
    let n = stored_more a.by_mark a.out.now a.at l.i (omega (arith, c.loop-i-test.true)) in
    (rw l.invariant.0 at p.ensures ∙ n, p.auto.out ∙ l.invariant.1)
