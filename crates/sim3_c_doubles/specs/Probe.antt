-- The result of the machine's probe for any list: 1 or 0 for three numbers, by whether they have the expected product,
-- and the refusal of a wrong length for any other list.
use Rattle.std.specs.Prelude.{ℕ, ◌≡◌, Bool, cond, List, [], ◌∷◌, eqb, length, Float, Result, Ok, Err}
use Rattle.linalg.specs.Answer.{number}
use Rattle.linalg.specs.declared.refusal.Refusal.{Refusal}
use Rattle.environment.specs.Environment.{product_is_due, first, second, third}
use Rattle.layout.specs.Lists.{wrong_length}
use Rattle.from_lists.specs.Lists.{number_in}

unfoldable pub probe_call : List Float → ℕ
probe_call l =
    cond (eqb (length l) 3) (cond (product_is_due (number_in l 0) (number_in l 1) (number_in l 2)) 1 0) wrong_length

-- the number that a result means
abbrev pub probe_view : Result Bool Refusal → ℕ
probe_view (Ok due) = cond due 1 0
probe_view (Err r) = number r

-- The theorem on the numbers that sim3.h names: the probe returns 1 for them. So a machine that returns 0 is not the
-- one of the proofs.
abbrev pub DocumentedIsOne : Type 0
DocumentedIsOne = probe_call (first ∷ second ∷ third ∷ []) ≡ 1
