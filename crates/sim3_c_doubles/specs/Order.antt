-- The results of the calls on tangents by their bit patterns: the order of two, and a list of them sorted in place.
-- Numbers are patterns here, so that no NaN loses its bits.
use Rattle.std.specs.Prelude.{ℕ, cond, List, [], ◌∷◌, eqb, ℤ, pos, negsuc, length}
use Rattle.std.specs.Float.{binary64}
use Rattle.linalg.specs.Answer.{Answer, answers, refuses, and_then}
use Rattle.order.specs.Order.{tangent_order, sort_answer, sort_out}
use Rattle.std.specs.declared.cmp.Ordering.{Ordering}
use Rattle.std.specs.declared.cmp.Ordering.TheVariants.{Less, Equal, Greater}
use Rattle.layout.specs.Layout.{tangent_count}
use Rattle.layout.specs.Lists.{wrong_length}
use Rattle.from_lists.specs.Lists.{sized}

-- −1 if the first comes before the second, 0 if they are the same bits, 1 if it comes after
unfoldable pub order_number : Ordering → ℤ
order_number Less = negsuc 0
order_number Equal = pos 0
order_number Greater = pos 1

unfoldable pub patterns_from : List ℕ → Answer (List ℕ)
patterns_from l = sized l tangent_count l

unfoldable pub compare_call : List ℕ → List ℕ → List ℤ → Answer (List ℤ)
compare_call a b out =
    and_then (patterns_from a) (λ t. and_then (patterns_from b)
    (λ u. cond (eqb (length out) 1) (answers (order_number (tangent_order binary64 t u) ∷ []))
    (refuses wrong_length)))

-- in place: the list is read and then written
unfoldable pub sort_call : List ℕ → Answer (List ℕ)
sort_call l = and_then (sort_answer l) (λ done. answers (sort_out binary64 l))
