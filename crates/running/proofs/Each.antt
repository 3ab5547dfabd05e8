-- A step on each element of a list, one after another: after i turns the first i are changed and the rest is as before.
-- Assumes nothing.
use Prim.Native.Nat.{ℕ, zero, suc}
use mathlib.Core.Path.{◌≡◌, refl, ap}
use mathlib.Core.List.{List, [], ◌∷◌, map}
use lib.ListN.{length, get_or, set}

module _ {X : Type 0} (g : X → X) where
  abbrev pub up_to : ℕ → List X → List X
  up_to zero l = l
  up_to (suc i) [] = []
  up_to (suc i) (x ∷ l) = g x ∷ up_to i l

  pub up_to_length : (i : ℕ) (l : List X) → length (up_to i l) ≡ length l
  up_to_length zero l = refl
  up_to_length (suc i) [] = refl
  up_to_length (suc i) (x ∷ l) = ap suc (up_to_length i l)

  pub up_to_more : (i : ℕ) (l : List X) (d : X) → set (up_to i l) i (g (get_or (up_to i l) i d)) ≡ up_to (suc i) l
  up_to_more zero [] d = refl
  up_to_more zero (x ∷ l) d = refl
  up_to_more (suc i) [] d = refl
  up_to_more (suc i) (x ∷ l) d = ap (λ (r : List X). g x ∷ r) (up_to_more i l d)

  pub up_to_all : (l : List X) → up_to (length l) l ≡ map g l
  up_to_all [] = refl
  up_to_all (x ∷ l) = ap (λ (r : List X). g x ∷ r) (up_to_all l)
