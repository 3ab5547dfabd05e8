-- The scale of the running pose beside the product of the poses' scales, e^(the exact sum of their σ).
use Rattle.std.specs.Prelude.{Some, None, List, ℕ, zero, suc, ◌+◌, ◌*◌, ◌^◌, ◌≤◌, ◌<◌, T, Float}
use Rattle.std.specs.Float.{Format, binary32, binary64}
use Rattle.ieee.specs.Numbers.{f1}
use Rattle.ieee.specs.Table.{factorial}
use Rattle.frames.specs.Floats.{Pose}
use Rattle.running.specs.Running.{Start}
use Rattle.running.specs.History.{Small}
use Rattle.rounding.specs.Value.{Value, times, value_of, AtMost, AbsoluteError}
use Rattle.rounding.specs.Roundoff.{rounding_error}
use Rattle.rounding.specs.Tree.{in_range}
use Rattle.rounding.specs.Leaves.{Bounded}
use Rattle.accuracy.specs.Series.{exact_recip, exact_total}
use Rattle.running_accuracy.specs.Running.{Step, count, history_of, pose_after}
use Rattle.running_accuracy.specs.Sigma.{exact_sigma, SumsIn}

unfoldable pub exact_power : Value → ℕ → Value
exact_power x zero = value_of f1
exact_power x (suc n) = times (exact_power x n) x

-- n terms of e^x: the sum of x^j / j!
abbrev pub exact_exp : Value → ℕ → Value
exact_exp x n = exact_total (λ j. times (exact_power x j) (exact_recip j)) n

-- the float y is within h / w of every sum of k terms of e^x or more
abbrev pub ExpError : ℕ → Float → Value → ℕ → ℕ → Type 0
ExpError w y x h k = (n : ℕ) → AbsoluteError w y (exact_exp x (suc k + n)) h

-- up, as the host hands it in, is within h / w of e^σ of the running pose
unfoldable pub HostScale : ℕ → Float → ℕ → ℕ → Start → Type 0
HostScale w up h k None = Unit {0}
HostScale w up h k (Some p) = ExpError w up (value_of p.sim3.sigma) h k

-- ---- what is proved
-- With what is known in SigmaAccurate, for sums of σ up to m / w whose error is e / w: where the host's scale is within
-- h / w of e^σ of the running pose r, it is within h / w and d / w of e^S, S being the exact sum. d is as 2 a e, where
-- (2 x)^j / j! is at most a for x = (m + e) / w, at each j.
abbrev pub ScaleAccurate : Format → ℕ → Pose → Float → List Step → Start → Type 0
ScaleAccurate f n p up l r =
    (w b m e N a c h k : ℕ) (scale : Float) → 0 < w → T (in_range f w (m + e)) → N * rounding_error f w (m + e) ≤ e →
    ((j : ℕ) → 2 ^ j * (m + e) ^ j ≤ a * (w ^ j * factorial j)) → e * a ≤ c →
    count l ≤ N → Small (history_of n p up l) → Bounded w p.sim3.sigma b → AtMost w (value_of p.sim3.sigma) m →
    SumsIn w b m p.from (value_of p.sim3.sigma) l → HostScale w scale h k r →
    ExpError w scale (exact_sigma p.from (value_of p.sim3.sigma) l) (h + 2 * c) k

-- sums of σ up to m, at most N joins: within d more than the host's error
abbrev pub ScaleIn : Format → ℕ → ℕ → ℕ → Type 0
ScaleIn f m N d =
    (b n h k : ℕ) (p : Pose) (up : Float) (l : List Step) (scale : Float) → count l ≤ N → Small (history_of n p up l) →
    Bounded (2 ^ 100) p.sim3.sigma b → AtMost (2 ^ 100) (value_of p.sim3.sigma) m →
    SumsIn (2 ^ 100) b m p.from (value_of p.sim3.sigma) l → HostScale (2 ^ 100) scale h k (pose_after f n p up l) →
    ExpError (2 ^ 100) scale (exact_sigma p.from (value_of p.sim3.sigma) l) (h + d) k

pub record ScaleTheorem : Type 0 where
  -- any format, bound and number of joins
  pub scale : (f : Format) (n : ℕ) (p : Pose) (up : Float) (l : List Step) →
      ScaleAccurate f n p up l (pose_after f n p up l)
  -- sums up to 3 / 2, so scales up to 4.48: 2^-42 after up to 100 joins at doubles, 2^-39 after up to 1000, and 2^-13
  -- after up to 100 at singles
  pub hundred : ScaleIn binary64 (3 * 2 ^ 99) 100 (2 ^ 58)
  pub thousand : ScaleIn binary64 (3 * 2 ^ 99) 1000 (2 ^ 61)
  pub singles : ScaleIn binary32 (3 * 2 ^ 99) 100 (2 ^ 87)
