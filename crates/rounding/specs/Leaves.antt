-- Floats of bounded size, as the leaves of a tree.
use Rattle.std.specs.Prelude.{ℕ, zero, suc, ◌*◌, ◌≤◌, List, [], ◌∷◌, Bool, ◌&&◌, leb, Float}
use Rattle.std.specs.Float.{nan, inf, fin, Format}
use Rattle.std.specs.Float.Ieee.{up, down}
use Rattle.ieee.specs.Numbers.{f0}
use Rattle.rounding.specs.Value.{Value, value_of}
use Rattle.rounding.specs.Tree.{Bound, Term, bound, no_overflow}

-- x is finite, and at most b / w in size
abbrev pub Bounded : ℕ → Float → ℕ → Type 0
Bounded w nan b = ⊥
Bounded w (inf s) b = ⊥
Bounded w (fin s m e) b = w * (m * up e) ≤ b * down e

-- entry i of a list, and +0 past its end
abbrev pub at : List Float → ℕ → Float
at [] i = f0
at (x ∷ l) zero = x
at (x ∷ l) (suc i) = at l i

-- the same with exact values
abbrev pub exact_at : List Float → ℕ → Value
exact_at l i = value_of (at l i)

-- leaves that are what they are: no error
abbrev pub sizes : List ℕ → ℕ → Bound
sizes [] i = record { magnitude = 0; error = 0 }
sizes (b ∷ l) zero = record { magnitude = b; error = 0 }
sizes (b ∷ l) (suc i) = sizes l i

-- each float of a list at most the number beside it
abbrev pub AllBounded : ℕ → List Float → List ℕ → Type 0
AllBounded w [] [] = Unit {0}
AllBounded w [] (b ∷ bs) = ⊥
AllBounded w (x ∷ xs) [] = ⊥
AllBounded w (x ∷ xs) (b ∷ bs) = Bounded w x b × AllBounded w xs bs

-- the bound of a tree over such leaves is at most e, and nothing in it overflows: a test
abbrev pub error_at_most : Format → ℕ → List ℕ → Term → ℕ → Bool
error_at_most f w bs t e = no_overflow f w (sizes bs) t && leb (bound f w (sizes bs) t).error e

-- entry i of a list, and d past its end
abbrev pub nth : {A : Type 0} → A → List A → ℕ → A
nth d [] i = d
nth d (x ∷ l) zero = x
nth d (x ∷ l) (suc i) = nth d l i

abbrev pub no_bound : Bound
no_bound = record { magnitude = 0; error = 0 }

-- a number of at most b units, with no error
abbrev pub errorless : ℕ → Bound
errorless b = record { magnitude = b; error = 0 }
