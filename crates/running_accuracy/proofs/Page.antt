-- The running join and a page in numbers. Assumes nothing.
use Prim.Native.Nat.{ℕ, ◌*◌, ◌^◌, ◌≤◌}
use lib.Dec.{lit≤}
use lib.Ieee.{Float, Format, binary32, binary64}
use Rattle.std.specs.Prelude.{Some, None}
use Rattle.linalg.specs.Floats.{Vec3}
use Rattle.sim3.specs.Pose.{pose_act}
use Rattle.running.specs.Running.{Start}
use Rattle.rounding.specs.Value.{Value}
use Rattle.running_accuracy.specs.Joins.{Exact, exact_pose}
use Rattle.running_accuracy.specs.Running.{exact_ran, pose_after, exact_act_by, ActionError}
use Rattle.accuracy.proofs.Rotation.{vec_wider}
use Rattle.running_accuracy.specs.Running.{box_doubles, box_singles, page_box, run_holds, act_test, RunningIn, PageIn}
use Rattle.running_accuracy.specs.Running.{RunningTheorem}
use Rattle.running_accuracy.proofs.Running.{running_accurate, page_accurate, length_accurate}

-- each with a test of its own: what the steps of one definition allow
doubles : RunningIn binary64 box_doubles 1000 (2 ^ 63) (2 ^ 86)
doubles n p up l = running_accurate binary64 n p up l box_doubles (2 ^ 63) (2 ^ 86) 1000 tt tt (unfold run_holds in tt)

singles : RunningIn binary32 box_singles 100 (2 ^ 89) (2 ^ 108)
singles n p up l = running_accurate binary32 n p up l box_singles (2 ^ 89) (2 ^ 108) 100 tt tt (unfold run_holds in tt)

page_hundred : PageIn binary64 page_box 100 (2 ^ 86)
page_hundred n p up l scale z pt =
    page_accurate binary64 n p up l page_box (2 ^ 116) (2 ^ 102) (2 ^ 50) (2 ^ 86) 100 scale z pt tt tt
    (unfold run_holds act_test in tt)

pub page_thousand : PageIn binary64 page_box 1000 (6 * 2 ^ 90)
page_thousand n p up l scale z pt =
    page_accurate binary64 n p up l page_box (2 ^ 116) (2 ^ 102) (2 ^ 50) (6 * 2 ^ 90) 1000 scale z pt tt tt
    (unfold run_holds act_test in tt)

action_wider : (f : Format) (u e k : ℕ) (up : Float) (s : Value) (p : Vec3) (r : Start) (X : Exact) → e ≤ k →
    ActionError f u e up s p r X → ActionError f u k up s p r X
unfolding ActionError
action_wider f u e k up s p None X l h = h
action_wider f u e k up s p (Some x) X l h =
    vec_wider u e k (pose_act f x.sim3 up p) (exact_act_by X s p) l h

-- what specs/Running.antt states
pub running : RunningTheorem
running =
    record {
      running = running_accurate;
      page = page_accurate;
      length = length_accurate;
      doubles = doubles;
      singles = singles;
      page_hundred = page_hundred;
      page_thousand = λ n p up l scale z pt c nz nm hp a hb hu hs ha.
          action_wider binary64 (2 ^ 100) (6 * 2 ^ 90) (2 ^ 93) scale z pt (pose_after binary64 n p up l)
          (exact_ran n 0 p.from (exact_pose p.sim3) l) (lit≤ tt)
          (page_thousand n p up l scale z pt c nz nm hp a hb hu hs ha);
    }
