-- `sim3_c_doubles::shelf::sim3_sheets_put` meets its contract: it reads the lists, passes the shot to the store, and
-- writes the result or returns the refusal. Assumes nothing.
use borrow.Author.Rules.{rules}
use borrow.Author.Tests.{eq-eqb}
use mathlib.Core.Path.{◌≡◌}
use Rattle.linalg.specs.Answer.{answers}
use Rattle.layout.specs.Lists.{pose_lists}
use Rattle.from_lists.specs.Lists.{framed_from}
use Rattle.sim3_c_doubles.specs.Shelf.{put_call}
use Rattle.sim3_c_doubles.proofs.shelf.sim3_sheets_put.Goals as goal

pub returns-clause-value : goal.returns-clause-value
unfolding put_call
returns-clause-value c =
    let l = c.args in
    let a : framed_from (pose_lists l.x.now l.x_frames.now) ≡ answers c.in_ok-pose.pose = search rules in
    rw (a, eq-eqb _ _ c.if-out-ne-SHELVED.false) (rw c.put.ensures.result_value at c.put_shelved.ensures.value)
