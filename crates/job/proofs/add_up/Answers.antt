-- `job::add_up` meets its contract: after i turns it has subtracted the sum of the first i counts. Assumes nothing.
use native.Mathlib.Omega.{arith}
use Rattle.job.proofs.Rows.{taken_none, taken_short, taken_more}
use Rattle.job.proofs.add_up.Goals as goal

pub loop-x-init : goal.loop-x-init
loop-x-init c = taken_none c.args.by_mark c.args.n

pub returns-then-left-x : goal.returns-then-left-x
returns-then-left-x c =
    let l = c.loop-x in
    taken_short c.args.by_mark l.x-index l.left c.args.n (omega (arith, c.loop-x-test.true)) l.invariant
    c.if-left-x.true

pub loop-x-preserved : goal.loop-x-preserved
loop-x-preserved c =
    let l = c.loop-x in
    taken_more c.args.by_mark l.x-index l.left c.args.n (omega (arith, c.loop-x-test.true)) l.invariant
    c.if-left-x.false
