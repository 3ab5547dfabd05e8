-- How near another arm is, as whole numbers: the count, the direction, which is 0 for down and 1 for up, and the arm
-- there. Three zeros mean that there is none: every permitted z has the same arm.
use Rattle.std.specs.Prelude.{ℕ, cond, List, [], ◌∷◌, eqb, length, Float}
use Rattle.std.specs.Float.{Format}
use Rattle.linalg.specs.Answer.{Answer, answers, refuses, and_then}
use Rattle.nearest.specs.Nearest.{Way, down, up, Near, step, none, preferred, nearest_of}
use Rattle.layout.specs.Lists.{wrong_length}

abbrev pub way_number : Way → ℕ
way_number down = 0
way_number up = 1

unfoldable pub near_numbers : Near → List ℕ
near_numbers (step n d a) = n ∷ way_number d ∷ a ∷ []
near_numbers none = 0 ∷ 0 ∷ 0 ∷ []

unfoldable pub near_call : Format → Float → Float → List ℕ → Answer (List ℕ)
near_call f sigma z out =
    and_then (nearest_of f preferred sigma z) (λ r. cond (eqb (length out) 3) (answers (near_numbers r))
    (refuses wrong_length))
