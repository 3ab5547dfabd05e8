-- What is proved of rounding errors, for every format.
use Rattle.std.specs.Prelude.{Bool, ℕ, suc, ◌+◌, ◌*◌, ◌^◌, ◌≤◌, ◌<◌, T, Float}
use Rattle.std.specs.Float.{Format, binary64}
use Rattle.std.specs.Float.Ieee.{emax, round, div}
use Rattle.rounding.specs.Value.{Value, signed, value_of, ratio, AtLeast, AbsoluteError}
use Rattle.rounding.specs.Roundoff.{rounding_error}
use Rattle.rounding.specs.Tree.{Term, computed, exact, Bound, bound, no_overflow, well_defined, DivisorsAtLeast}
use Rattle.rounding.specs.Tree.{ForwardError}
use Rattle.rounding.specs.Leaves.{Bounded}

pub record ForwardErrorTheorem : Type 0 where
  -- one rounding: num / den of size at most x / w comes out finite, within its rounding error
  pub rounding : (f : Format) (w x : ℕ) (s : Bool) (num den : ℕ) →
      0 < den → w * num ≤ x * den → x + rounding_error f w x < 2 ^ suc (emax f) * w →
      AbsoluteError w (round f s num den) (signed s num den) (rounding_error f w x)
  -- a tree without quotients: where the leaves are within their bounds and no node can overflow, its computed value is
  -- finite and within the tree's bound of the exact one
  pub tree : (f : Format) (w : ℕ) (x : ℕ → Float) (v : ℕ → Value) (b : ℕ → Bound) →
      0 < w → ((i : ℕ) → ForwardError w (x i) (v i) (b i)) → (t : Term) → T (no_overflow f w b t) →
      ForwardError w (computed f x t) (exact v t) (bound f w b t)
  -- with quotients: the same, where each exact divisor is at least its lower bound
  pub divided : (f : Format) (w : ℕ) (x : ℕ → Float) (v : ℕ → Value) (b : ℕ → Bound) →
      0 < w → ((i : ℕ) → ForwardError w (x i) (v i) (b i)) → (t : Term) → T (well_defined f w b t) →
      DivisorsAtLeast w v t →
      ForwardError w (computed f x t) (exact v t) (bound f w b t)
  -- a quotient of doubles up to 16 in size, the divisor at least 1 / 4: within 2^-46
  pub quotient_doubles : (x y : Float) →
      Bounded (2 ^ 100) x (2 ^ 104) → Bounded (2 ^ 100) y (2 ^ 104) → AtLeast (2 ^ 100) (value_of y) (2 ^ 98) →
      AbsoluteError (2 ^ 100) (div binary64 x y) (ratio (value_of x) (value_of y)) (2 ^ 54)
