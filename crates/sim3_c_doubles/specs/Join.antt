-- The running join between calls, and the Newton step on a list of poses. The return value of a call and its lists
-- afterwards are defined as in Written.antt of crate `to_lists`. Two lists hold a running join: the eight numbers of
-- the running pose; and its frames, from and to, n, how many products there were since the last renormalisation, and 1
-- if there is a pose.
use Rattle.std.specs.Prelude.{ℕ, zero, suc, ◌*◌, ◌/◌, ◌%◌, ◌≡◌, cond, ◌&&◌, List, [], ◌∷◌, ◌++◌, eqb, get_or, set}
use Rattle.std.specs.Prelude.{length, Float, Some, None}
use Rattle.std.specs.Float.{Format}
use Rattle.ieee.specs.Numbers.{f0}
use Rattle.linalg.specs.Answer.{Answer, answers, refuses, and_then}
use Rattle.linalg.specs.Vector.{vec}
use Rattle.so3.specs.Quat.{quat}
use Rattle.sim3.specs.Pose.{pose, pose_renormalized}
use Rattle.frames.specs.Pose.{framed}
use Rattle.frames.specs.Floats.{Pose}
use Rattle.running.specs.Running.{Start, Joint, join_of, every_of, running_none}
use Rattle.running.specs.declared.Running.{Running}
use Rattle.layout.specs.Layout.{pose_count, pose_in, pose_numbers}
use Rattle.layout.specs.Lists.{wrong_length, PoseLists}
use Rattle.from_lists.specs.Lists.{sized, number_in, pose_from, framed_from}
use Rattle.to_lists.specs.Written.{written}

pub record RunLists : Type 0 where
  pub numbers : List Float
  pub state : List ℕ

abbrev pub run_lists : List Float → List ℕ → RunLists
run_lists numbers state = record { numbers = numbers; state = state }

abbrev pub state_count : ℕ
state_count = 5

-- ---- read
unfoldable pub start_in : Pose → ℕ → Start
start_in x s = cond (eqb s 1) (Some x) None

unfoldable pub running_from : RunLists → Answer Running
running_from l =
    and_then (pose_from l.numbers) (λ x. sized l.state state_count (record {
      pose = start_in (framed x (get_or l.state 0 0) (get_or l.state 1 0)) (get_or l.state 4 0);
      every = get_or l.state 2 0;
      since = get_or l.state 3 0;
    }))

-- ---- written, to lists that must have exactly these lengths
abbrev pub held_lists : Pose → ℕ → ℕ → ℕ → RunLists
held_lists x n k s = run_lists (pose_numbers x.sim3) (x.from ∷ x.to ∷ n ∷ k ∷ s ∷ [])

unfoldable pub run_fitting : RunLists → Pose → ℕ → ℕ → ℕ → Answer RunLists
run_fitting out x n k s =
    cond (eqb (length out.numbers) pose_count && eqb (length out.state) state_count) (answers (held_lists x n k s))
    (refuses wrong_length)

-- the running pose of the reply, with n and the count; a refusal leaves the lists as they were
unfoldable pub joint_fitting : RunLists → Joint → Answer RunLists
joint_fitting out j = and_then j.answer (λ p. run_fitting out p j.running.every j.running.since 1)

-- ---- the calls
-- all numbers 0: no pose yet, and no renormalisation
abbrev pub zero_pose : Pose
zero_pose = framed (pose (quat f0 f0 f0 f0) (vec f0 f0 f0) f0) 0 0

unfoldable pub start_call : RunLists → Answer RunLists
start_call out = run_fitting out zero_pose 0 0 0

unfoldable pub push_call : Format → PoseLists → Float → RunLists → Answer RunLists
push_call f x up out =
    and_then (running_from out) (λ r. and_then (framed_from x) (λ a. joint_fitting out (join_of f r a up)))

unfoldable pub every_call : List ℕ → ℕ → Answer (List ℕ)
every_call state n = sized state state_count (set state 2 n)

-- the lists of a running join after a call
abbrev pub run_written : (RunLists → Answer RunLists) → RunLists → RunLists
run_written call out = written (call out) out

-- ---- a list of poses, eight numbers each: the first n with their quaternions renormalised
unfoldable pub poses_renormalized : Format → List Float → ℕ → List Float
poses_renormalized f l zero = []
poses_renormalized f l (suc n) =
    poses_renormalized f l n ++ pose_numbers (pose_renormalized f (pose_in (number_in l) (n * 8)))

unfoldable pub renormalize_all_call : Format → List Float → Answer (List Float)
renormalize_all_call f l =
    cond (eqb (length l % 8) 0) (answers (poses_renormalized f l (length l / 8))) (refuses wrong_length)

-- ---- the lists hold the running join of crate `running`, call by call. Proved as `held` in proofs/Held.antt
pub record HeldTheorem : Type 0 where
  pub started : (out l : RunLists) → start_call out ≡ answers l → running_from l ≡ answers running_none
  pub pushed :
      (f : Format) (out l : RunLists) (x : PoseLists) (up : Float) (r : Running) (a : Pose) →
      running_from out ≡ answers r → framed_from x ≡ answers a
      → push_call f x up out ≡ answers l → running_from l ≡ answers (join_of f r a up).running
  pub renewed :
      (numbers : List Float) (state k : List ℕ) (n : ℕ) (r : Running) →
      running_from (run_lists numbers state) ≡ answers r → every_call state n ≡ answers k
      → running_from (run_lists numbers k) ≡ answers (every_of r n)
