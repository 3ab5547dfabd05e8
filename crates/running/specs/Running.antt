-- The running join: how a pose and a new n change it, in any format.
use Rattle.std.specs.Prelude.{Option, Some, None, ℕ, ◌+◌, Bool, cond, ◌&&◌, List, map, ltb, leb, Float}
use Rattle.std.specs.Float.{Format}
use Rattle.linalg.specs.Answer.{Answer, answers, refuses}
use Rattle.frames.specs.Pose.{framed_renormalized}
use Rattle.frames.specs.Joins.{framed_mul}
use Rattle.linalg.specs.Answer.{answer}
use Rattle.frames.specs.Floats.{Pose}
use Rattle.running.specs.declared.Running.{Running}
use Rattle.running.specs.declared.Joined.{Joined}

-- the running pose; none before the first pose
abbrev pub Start : Type 0
Start = Option Pose

-- before any pose
abbrev pub running_none : Running
running_none = record { pose = None; every = 0; since = 0 }

-- one more product; 65535 means that many or more
unfoldable pub one_more : ℕ → ℕ
one_more k = cond (ltb k 65535) (k + 1) k

-- whether to renormalise the kth product since the last renormalisation: never, if n is 0
unfoldable pub due : ℕ → ℕ → Bool
due n k = ltb 0 n && leb n k

-- ---- a pose: the running join after it, and the reply, which is the running pose or the refusal
pub record Joint : Type 0 where
  pub running : Running
  pub answer : Answer Pose

abbrev pub joint_view : Joined → Joint
joint_view j = record { running = j.running; answer = answer j.answer }

abbrev pub stands : Pose → ℕ → ℕ → Joint
stands p n k = record { running = record { pose = Some p; every = n; since = k }; answer = answers p }

-- p is a product, the kth since the last renormalisation
unfoldable pub produced_of : Format → Pose → ℕ → ℕ → Joint
produced_of f p n k = cond (due n k) (stands (framed_renormalized f p) n 0) (stands p n k)

-- a refused product changes nothing
unfoldable pub product_on : Format → Running → Answer Pose → Joint
product_on f r (answers p) = produced_of f p r.every (one_more r.since)
product_on f r (refuses e) = record { running = r; answer = refuses e }

-- the first pose is not a product: its frames are not tested, and `up` is not used
unfoldable pub join_on : Format → Start → Running → Pose → Float → Joint
join_on f None r x up = stands x r.every r.since
join_on f (Some p) r x up = product_on f r (framed_mul f p x up)

abbrev pub join_of : Format → Running → Pose → Float → Joint
join_of f r x up = join_on f r.pose r x up

-- ---- a new n
abbrev pub every_of : Running → ℕ → Running
every_of r n = record { pose = r.pose; every = n; since = r.since }

-- ---- a list of poses, each with its quaternion renormalised
unfoldable pub all_renormalized : Format → List Pose → List Pose
all_renormalized f l = map (framed_renormalized f) l
