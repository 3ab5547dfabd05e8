-- `sim3_c_doubles::join::sim3_running_push` meets its contract: it reads the lists, joins the pose, and writes the
-- running pose or returns the refusal. Assumes nothing.
use borrow.Author.Rules.{rules}
use mathlib.Core.Path.{◌≡◌}
use Rattle.linalg.specs.Answer.{answers}
use Rattle.layout.specs.Lists.{pose_lists}
use Rattle.from_lists.specs.Lists.{framed_from}
use Rattle.to_lists.specs.Written.{status, written}
use Rattle.sim3_c_doubles.specs.Join.{run_lists, running_from, push_call}
use Rattle.sim3_c_doubles.proofs.join.sim3_running_push.Goals as goal

pub returns : goal.returns
unfolding status written push_call
returns c =
    let l = c.args in
    let r : running_from (run_lists l.pose.now l.state.now) ≡ answers c.in_ok-r.r = search rules in
    let a : framed_from (pose_lists l.x.now l.x_frames.now) ≡ answers c.in_ok-a.a = search rules in
    rw (r, a)
    (record {
      value = rw c.join.ensures at c.put_joint.ensures.value;
      state_after = rw c.join.ensures at c.put_joint.ensures.state_after;
    })
