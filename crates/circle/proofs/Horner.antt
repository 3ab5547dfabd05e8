-- Horner's sum from the last term down: the last two terms combine into one, the first of them plus z times the second.
-- Assumes nothing.
use mathlib.Core.Path.{◌≡◌, refl, ap}
use mathlib.Core.List.{List, [], ◌∷◌, ◌++◌}
use lib.Ieee.{Float, Format, add, mul}
use Rattle.circle.specs.Kernel.{horner_sum}

pub horner_join : (f : Format) (z : Float) (l : List Float) (a b : Float) →
    horner_sum f z (l ++ (a ∷ b ∷ [])) ≡ horner_sum f z (l ++ (add f a (mul f z b) ∷ []))
unfolding horner_sum
horner_join f z [] a b = refl
horner_join f z (x ∷ []) a b = refl
horner_join f z (x ∷ y ∷ l) a b = ap (λ s. add f x (mul f z s)) (horner_join f z (y ∷ l) a b)
