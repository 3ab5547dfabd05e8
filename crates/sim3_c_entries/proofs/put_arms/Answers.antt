-- `sim3_c_entries::put_arms` meets its contract: it writes the arms, and the numbers to an `out` of the right length;
-- for any other it leaves both as they were. Assumes nothing.
use Rattle.std.proofs.Common.{◌∙◌, ap}
use borrow.Author.Tests.{eq-eqb}
use Rattle.layout.proofs.Numbers.{scaled-pair-count}
use Rattle.to_lists.specs.Written.{status, written}
use Rattle.sim3_c_entries.specs.Calls.{arm_lists, arms_fitting}
use Rattle.sim3_c_entries.proofs.Arms.{fits-not}
use Rattle.sim3_c_entries.proofs.put_arms.Goals as goal

pub returns-in_err-put-clause-out_after : goal.returns-in_err-put-clause-out_after
unfolding status written arms_fitting
returns-in_err-put-clause-out_after g c =
    let e = rw c.in_err-put.was at c.put.ensures.value in
    let (short, same) = fits-not (g.T.Real.floats c.args.out.now) _ _ c.in_err-put.field-0.0 (scaled-pair-count _) e in
    rw (short, eq-eqb _ _ c.if-arms-ne-ARMS.false) (ap (arm_lists c.args.arms.now) (c.put.ensures.out_after ∙ same))
