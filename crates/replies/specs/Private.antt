-- Definitions for the contracts of private functions: the result of a call, as an answer.
use Rattle.std.specs.Prelude.{ℕ, ◌%◌, cond, List, [], ◌∷◌, ◌++◌, eqb, Float}
use Rattle.linalg.specs.Answer.{Answer, answers, refuses}
use Rattle.wire.specs.Wire.{Item, word, numbers}

-- the answer of a call, from its status and the items of the lists that it wrote
abbrev pub status_view : ℕ → List Item → Answer (List Item)
status_view n l = cond (eqb n 0) (answers l) (refuses (n % 256))

-- whole numbers of k bytes
unfoldable pub words : ℕ → List ℕ → List Item
words k [] = []
words k (n ∷ l) = word k n ∷ words k l

-- a pose's numbers and then its frames; the arms and then the pair
abbrev pub framed_both : List Float → List ℕ → List Item
framed_both y k = numbers y ++ words 2 k

abbrev pub armed_both : List ℕ → List Float → List Item
armed_both a y = words 1 a ++ numbers y
