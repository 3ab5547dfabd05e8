-- The rule of a table: entry i is an exact rational, rounded once to the format.
use Rattle.std.specs.Prelude.{List, [], ◌∷◌, Bool, ℕ, zero, suc, ◌*◌, Float}
use Rattle.std.specs.Float.{Format}
use Rattle.std.specs.Float.Ieee.{round}

-- n!
unfoldable pub factorial : ℕ → ℕ
factorial zero = 1
factorial (suc n) = suc n * factorial n

-- ± num / den
pub record Rational : Type 0 where
  pub negative : Bool
  pub num : ℕ
  pub den : ℕ

unfoldable pub rounded : Format → Rational → Float
rounded f q = round f q.negative q.num q.den

-- the first n entries of the table with this rule, from entry i on
unfoldable pub entries : Format → (ℕ → Rational) → ℕ → ℕ → List Float
entries f rule i zero = []
entries f rule i (suc n) = rounded f (rule i) ∷ entries f rule (suc i) n
