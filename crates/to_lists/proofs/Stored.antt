-- A list of one element and one of two, after a store at each. Assumes nothing.
use Rattle.std.proofs.Common.{◌≡◌, List, [], ◌∷◌, length, set, refl, arith}

pub one_stored : {A : Type 0} (l : List A) (x : A) → length l ≡ 1 → set l 0 x ≡ x ∷ []
one_stored [] x h = absurd (omega (arith, h))
one_stored (a ∷ []) x h = refl
one_stored (a ∷ b ∷ l) x h = absurd (omega (arith, h))

pub two_stored : {A : Type 0} (l : List A) (x y : A) → length l ≡ 2 → set (set l 0 x) 1 y ≡ x ∷ y ∷ []
two_stored [] x y h = absurd (omega (arith, h))
two_stored (a ∷ []) x y h = absurd (omega (arith, h))
two_stored (a ∷ b ∷ []) x y h = refl
two_stored (a ∷ b ∷ c ∷ l) x y h = absurd (omega (arith, h))
