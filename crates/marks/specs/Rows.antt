-- The counts by mark: the place of a record among them is that of its row in the table of marks.
use Rattle.std.specs.Prelude.{ℕ, ◌+◌, List, [], ◌∷◌, length}
use Rattle.linalg.specs.Answer.{Answer, answers, refuses}
use Rattle.marks.specs.Marks.{table, Listed, mark_of}

-- the place of what is in no row, after all rows; and how many places there are
abbrev pub unlisted : ℕ
unlisted = length table

abbrev pub row_count : ℕ
row_count = length table + 1

-- the place of two bytes, by what the table says of them
unfoldable pub row_known : Answer Listed → ℕ
row_known (answers l) = l.place
row_known (refuses k) = unlisted

-- the place of the head of the input, whole or cut; half a mark is in no row
unfoldable pub row_at : List ℕ → ℕ
row_at [] = unlisted
row_at (a ∷ []) = unlisted
row_at (a ∷ b ∷ s) = row_known (mark_of a b)
