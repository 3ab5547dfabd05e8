-- The results of the private functions of the search; no public contract cites it.
use Rattle.std.specs.Prelude.{ℕ, ◌≤◌, ◌<◌}

-- b splits the patterns: those before it have an arm of at most a, and those from it on an arm above a
pub record Parts (arm : ℕ → ℕ) (end a b : ℕ) : Type 0 where
  pub within : b ≤ end
  pub before : (q : ℕ) → q < b → arm q ≤ a
  pub after : (q : ℕ) → b ≤ q → q < end → a < arm q
