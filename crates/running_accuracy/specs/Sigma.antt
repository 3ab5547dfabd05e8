-- σ of the running pose beside the exact sum of the poses' σ, the logarithm of the product of their scales.
use Rattle.std.specs.Prelude.{Some, None, not, cond, List, [], ◌∷◌, ℕ, ◌+◌, ◌*◌, ◌^◌, ◌≤◌, ◌<◌, T, eqb, Float}
use Rattle.std.specs.Float.{Format, binary32, binary64}
use Rattle.frames.specs.Floats.{Pose}
use Rattle.running.specs.Running.{Start}
use Rattle.running.specs.History.{Small}
use Rattle.rounding.specs.Value.{Value, plus, value_of, AtMost, AbsoluteError}
use Rattle.rounding.specs.Roundoff.{rounding_error}
use Rattle.rounding.specs.Tree.{in_range}
use Rattle.rounding.specs.Leaves.{Bounded}
use Rattle.running_accuracy.specs.Running.{Step, joins, renews, count, history_of, pose_after}

-- S and the σ of the poses that are accepted; the running pose is from the frame i
unfoldable pub exact_sigma : ℕ → Value → List Step → Value
exact_sigma i S [] = S
exact_sigma i S (renews m ∷ l) = exact_sigma i S l
exact_sigma i S (joins x up s ∷ l) =
    cond (eqb i x.to) (exact_sigma x.from (plus S (value_of x.sim3.sigma)) l) (exact_sigma i S l)

-- each σ is finite, at most b / w, and each of those sums at most m / w
unfoldable pub SumsIn : ℕ → ℕ → ℕ → ℕ → Value → List Step → Type 0
SumsIn w b m i S [] = Unit {0}
SumsIn w b m i S (renews k ∷ l) = SumsIn w b m i S l
SumsIn w b m i S (joins x up s ∷ l) =
    let sum = plus S (value_of x.sim3.sigma) in
    Bounded w x.sim3.sigma b
    × ((T (eqb i x.to) → AtMost w sum m × SumsIn w b m x.from sum l) × (T (not (eqb i x.to)) → SumsIn w b m i S l))

-- the running pose is there, and its σ within e / w of S
unfoldable pub SigmaError : ℕ → ℕ → Start → Value → Type 0
SigmaError w e None S = ⊥
SigmaError w e (Some p) S = AbsoluteError w p.sim3.sigma S e

-- ---- what is proved
-- where no exact sum of σ is greater than m / w, after up to N joins the σ of the running pose r is within e / w of the
-- exact sum: for every e that N roundings of a sum of m + e come to
abbrev pub SigmaAccurate : Format → ℕ → Pose → Float → List Step → Start → Type 0
SigmaAccurate f n p up l r =
    (w b m e N : ℕ) → 0 < w → T (in_range f w (m + e)) → N * rounding_error f w (m + e) ≤ e →
    count l ≤ N → Small (history_of n p up l) → Bounded w p.sim3.sigma b →
    SumsIn w b m p.from (value_of p.sim3.sigma) l →
    SigmaError w e r (exact_sigma p.from (value_of p.sim3.sigma) l)

-- sums of σ up to m, at most N joins: within e
abbrev pub SigmaIn : Format → ℕ → ℕ → ℕ → Type 0
SigmaIn f m N e =
    (b n : ℕ) (p : Pose) (up : Float) (l : List Step) → count l ≤ N → Small (history_of n p up l) →
    Bounded (2 ^ 100) p.sim3.sigma b → SumsIn (2 ^ 100) b m p.from (value_of p.sim3.sigma) l →
    SigmaError (2 ^ 100) e (pose_after f n p up l) (exact_sigma p.from (value_of p.sim3.sigma) l)

pub record SigmaTheorem : Type 0 where
  -- any format, bound and number of joins
  pub sigma : (f : Format) (n : ℕ) (p : Pose) (up : Float) (l : List Step) →
      SigmaAccurate f n p up l (pose_after f n p up l)
  -- sums up to 2: within 2^-42 after up to 1000 joins at doubles, and within 2^-16 after up to 100 at singles
  pub doubles : SigmaIn binary64 (2 ^ 101) 1000 (2 ^ 58)
  pub singles : SigmaIn binary32 (2 ^ 101) 100 (2 ^ 84)
