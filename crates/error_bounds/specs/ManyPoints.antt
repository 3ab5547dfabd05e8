-- What is proved of the errors of a list of points that is moved by the matrix s R.
use Rattle.std.specs.Prelude.{◌≡◌, false, ℕ, ◌/◌, ◌<◌, List, length, Float}
use Rattle.std.specs.Float.{Format}
use Rattle.linalg.specs.Answer.{Answer, answers, refuses}
use Rattle.sim3.specs.Floats.{Sim3}
use Rattle.point_lists.specs.Points.{point_at, points_accepted}
use Rattle.accuracy.specs.ManyPoints.{MatrixActionAccurate}

-- where the lists are answered, each point of `out` is the action on that of `pts`; else their lengths are not accepted
abbrev pub PointsAccurate : Format → Sim3 → Float → List Float → Answer (Unit {0}) → List Float → Type 0
PointsAccurate f x up pts (answers u) out =
    (i : ℕ) → i < length pts / 3 → MatrixActionAccurate f x up (point_at pts i) (point_at out i)
PointsAccurate f x up pts (refuses e) out = points_accepted (length pts) (length out) ≡ false
