-- Any history of the running join: its products and renormalisations in their order, with a count that has no bound.
-- Proved as `history` in proofs/Past.antt.
use Rattle.std.specs.Prelude.{Some, None, ℕ, ◌+◌, ◌<◌, ◌≡◌, cond, List, [], ◌∷◌, eqb, Float}
use Rattle.std.specs.Float.{Format}
use Rattle.sim3.specs.Pose.{pose_mul, pose_renormalized}
use Rattle.frames.specs.Pose.{framed}
use Rattle.frames.specs.Floats.{Pose}
use Rattle.running.specs.declared.Running.{Running}
use Rattle.running.specs.Running.{Start, running_none, due, join_of, every_of}

pub data Event : Type 0 where
  -- a pose, with `up` of the running pose
  join : Pose → Float → Event
  -- a new n
  renew : ℕ → Event

-- the running join after these events
unfoldable pub after : Format → Running → List Event → Running
after f r [] = r
after f r (join x up ∷ h) = after f (join_of f r x up).running h
after f r (renew n ∷ h) = after f (every_of r n) h

-- P X, and P X with its quaternion renormalised
abbrev pub product : Format → Pose → Pose → Float → Pose
product f p x up = framed (pose_mul f p.sim3 x.sim3 up) x.from p.to

abbrev pub renormalized_product : Format → Pose → Pose → Float → Pose
renormalized_product f p x up = framed (pose_renormalized f (pose_mul f p.sim3 x.sim3 up)) x.from p.to

-- the running pose after these events, from the pose s on, where n is set and k products came since the last
-- renormalisation; a product is accepted if the frames match
unfoldable pub ran : Format → Start → ℕ → ℕ → List Event → Start
ran f s n k [] = s
ran f s n k (renew m ∷ h) = ran f s m k h
ran f None n k (join x up ∷ h) = ran f (Some x) n k h
ran f (Some p) n k (join x up ∷ h) =
    cond (eqb p.from x.to)
    (cond (due n (k + 1)) (ran f (Some (renormalized_product f p x up)) n 0 h)
    (ran f (Some (product f p x up)) n (k + 1) h))
    (ran f (Some p) n k h)

-- every n has 16 bits
unfoldable pub Small : List Event → Type 0
Small [] = Unit {0}
Small (join x up ∷ h) = Small h
Small (renew n ∷ h) = (n < 65536) × Small h

abbrev pub HistoryTheorem : Type 0
HistoryTheorem = (f : Format) (h : List Event) → Small h → (after f running_none h).pose ≡ ran f None 0 0 h
