-- The four operations as infix operators, for a format: a file of definitions opens these four names, and `a ⊗ b ⊕ c`
-- there is `add f (mul f a b) c`.
use Rattle.std.specs.Prelude.{Float}
use Rattle.std.specs.Float.{Format}
use Rattle.std.specs.Float.Ieee.{add, sub, mul, div}

pub record Operations : Type 0 where
  pub ◌⊕◌ : Float → Float → Float
  pub ◌⊖◌ : Float → Float → Float
  pub ◌⊗◌ : Float → Float → Float
  pub ◌⊘◌ : Float → Float → Float

abbrev pub operations : Format → Operations
operations f = record { ◌⊕◌ = add f; ◌⊖◌ = sub f; ◌⊗◌ = mul f; ◌⊘◌ = div f }
