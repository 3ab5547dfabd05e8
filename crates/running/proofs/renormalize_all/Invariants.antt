use Rattle.std.proofs.Common.{◌≡◌, ◌≤◌, length}
use Rattle.std.specs.Float.{binary64}
use Rattle.frames.specs.Pose.{framed_renormalized}
use Rattle.running.proofs.Each.{up_to}
use Rattle.running.proofs.renormalize_all.Given as goal

-- after i turns the first i poses are renormalised and the rest is as before
abbrev pub invariant-loop-p : goal.invariant-loop-p
invariant-loop-p l = record {
  in_range : l.p-index ≤ length l.initial.poses;
  so_far : l.poses ≡ up_to (framed_renormalized binary64) l.p-index l.initial.poses;
}
