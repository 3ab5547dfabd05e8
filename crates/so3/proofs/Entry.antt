-- An entry of a list of numbers, as the definitions read it. Assumes nothing.
use Rattle.std.proofs.Common.{◌≡◌, ℕ, ◌<◌, List, length, get_or, map, sym}
use Rattle.std.proofs.lemmas.List.{get_or-map}
use lib.Ieee.{Float, nan}

-- h: the number that an element is. d: the result of the code's read past the end
pub number_at : {A : Type 0} (h : A → Float) (xs : List A) (i : ℕ) → i < length xs → (d : A) →
    h (get_or xs i d) ≡ get_or (map h xs) i nan
number_at h xs i within d = sym (get_or-map h xs i d nan within)
