-- What is proved of the running join when one pose more is joined, at doubles.
use Rattle.std.specs.Prelude.{◌≡◌, List, [], ◌∷◌, ◌++◌, ℕ, Float}
use Rattle.std.specs.Float.{binary64}
use Rattle.frames.specs.Floats.{Pose}
use Rattle.running.specs.Running.{running_none}
use Rattle.running.specs.History.{after}
use Rattle.running.specs.declared.Running.{Running}
use Rattle.rounding.specs.Value.{Value}
use Rattle.running_accuracy.specs.Similarity.{SimilarityAccurate}
use Rattle.running_accuracy.specs.Sigma.{SigmaAccurate}
use Rattle.running_accuracy.specs.Scale.{ScaleAccurate}
use Rattle.running_accuracy.specs.Running.{Step, joins, history_of, RunningAccurate, PageAccurate}

-- r is the running join after the history of n, a first pose p and the steps l, and r' after the pose x more: its pose
-- is accurate for the longer history, and so are its σ, its scale and its action, also beside the product of the poses
-- as similarities. The exact scale s of the running pose may be any value.
pub record JoinAccurate (r : Running) (x : Pose) (up : Float) (r' : Running) : Type 0 where
  pub pose : (n : ℕ) (p : Pose) (first : Float) (l : List Step) (s : Value) →
      r ≡ after binary64 running_none (history_of n p first l) →
      RunningAccurate binary64 n p (l ++ (joins x up s ∷ [])) r'.pose
  pub action : (n : ℕ) (p : Pose) (first : Float) (l : List Step) (s : Value) →
      r ≡ after binary64 running_none (history_of n p first l) →
      PageAccurate binary64 n p (l ++ (joins x up s ∷ [])) r'.pose
  pub similarity : (n : ℕ) (p : Pose) (first : Float) (l : List Step) (s : Value) →
      r ≡ after binary64 running_none (history_of n p first l) →
      SimilarityAccurate binary64 n p (l ++ (joins x up s ∷ [])) r'.pose
  pub sigma : (n : ℕ) (p : Pose) (first : Float) (l : List Step) (s : Value) →
      r ≡ after binary64 running_none (history_of n p first l) →
      SigmaAccurate binary64 n p first (l ++ (joins x up s ∷ [])) r'.pose
  pub scale : (n : ℕ) (p : Pose) (first : Float) (l : List Step) (s : Value) →
      r ≡ after binary64 running_none (history_of n p first l) →
      ScaleAccurate binary64 n p first (l ++ (joins x up s ∷ [])) r'.pose
