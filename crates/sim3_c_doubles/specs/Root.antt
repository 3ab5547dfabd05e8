-- The square root with its remainder, in three lists, since not every remainder is a double. The return value of a call
-- and its lists afterwards are defined as in Written.antt of crate `to_lists`.
use Rattle.std.specs.Prelude.{ℕ, Bool, cond, ◌&&◌, List, [], ◌∷◌, eqb, ℤ, length, Float}
use Rattle.linalg.specs.Answer.{Answer, answers, refuses, and_then}
use Rattle.root.specs.declared.RootParts.{RootParts}
use Rattle.root.specs.Root.{root_of}
use Rattle.layout.specs.Lists.{wrong_length}
use Rattle.to_lists.specs.Written.{written}

pub record RootLists : Type 0 where
  pub whole : List ℕ
  pub exponent : List ℤ
  pub nearest : List Float

abbrev pub root_lists : List ℕ → List ℤ → List Float → RootLists
root_lists whole exponent nearest = record { whole = whole; exponent = exponent; nearest = nearest }

-- r and the remainder; s; the double
abbrev pub root_numbers : RootParts → RootLists
root_numbers p = root_lists (p.root ∷ p.remainder ∷ []) (p.exponent ∷ []) (p.nearest ∷ [])

-- whether the lists have exactly these lengths
unfoldable pub root_fits : RootLists → Bool
root_fits out = eqb (length out.whole) 2 && eqb (length out.exponent) 1 && eqb (length out.nearest) 1

unfoldable pub root_call : Float → RootLists → Answer RootLists
root_call z out = and_then (root_of z) (λ p. cond (root_fits out) (answers (root_numbers p)) (refuses wrong_length))

abbrev pub root_written : Float → RootLists → RootLists
root_written z out = written (root_call z out) out
