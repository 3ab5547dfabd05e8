-- `sim3_c_doubles::shelf::put_shot` meets its contract: it writes take, numbers and frames to lists of the right
-- lengths, and leaves any other three as they were. Assumes nothing.
use borrow.Author.Tests.{eq-eqb}
use mathlib.Core.Path.{◌∙◌}
use mathlib.Core.List.{[], ◌∷◌}
use Rattle.layout.specs.Lists.{pose_lists}
use Rattle.to_lists.specs.Written.{written}
use Rattle.sim3_c_doubles.specs.Shelf.{shot_lists, shot_fitting}
use Rattle.to_lists.proofs.Fits.{sets-all, framed_fitted}
use Rattle.sim3_c_doubles.proofs.shelf.put_shot.Goals as goal

pub returns-clause-out_frames_after : goal.returns-clause-out_frames_after
unfolding written shot_fitting
returns-clause-out_frames_after c =
    let a = c.args in
    let take = sets-all a.take.now (a.s.take ∷ []) c.if-take-ne-TAKE.false in
    let put = framed_fitted (pose_lists a.out.now a.out_frames.now) a.s.pose c.if-out-ne-POSE.false
    c.if-out_frames-ne-FRAMES.false in
    let both = c.put_framed.ensures.out_frames_after ∙ put.1 in
    rw (
      eq-eqb _ _ c.if-take-ne-TAKE.false,
      eq-eqb _ _ c.if-out-ne-POSE.false,
      eq-eqb _ _
          c.if-out_frames-ne-FRAMES.false,
    )
    (λ i. shot_lists (take i) (both i).numbers (both i).frames)
