-- The tables, in every format: each entry is the exact rational of its row's rule, rounded once.
use Rattle.std.specs.Prelude.{Option, Some, None, ℕ, ◌+◌, ◌*◌, ◌^◌, ◌%◌, List, false, cond, eqb, ltb, Float}
use Rattle.std.specs.Float.{Format}
use Rattle.ieee.specs.Table.{factorial, Rational, rounded, entries}

-- the rows of the circle functions
pub data Row : Type 0 where
  cos_half_row k_row a_row b_row d_row : Row

-- (-1)^i / n
abbrev pub alternating : ℕ → ℕ → Rational
alternating i n = record { negative = eqb (i % 2) 1; num = 1; den = n }

-- entry i, exact
unfoldable pub row_rule : Row → ℕ → Rational
row_rule cos_half_row i = alternating i (4 ^ i * factorial (2 * i))
row_rule k_row i = alternating i (2 * (4 ^ i * factorial (2 * i + 1)))
row_rule a_row i = alternating i (factorial (2 * i + 2))
row_rule b_row i = alternating i (factorial (2 * i + 3))
row_rule d_row i = alternating i (factorial (2 * i + 4))

-- 1 / n!, exact
unfoldable pub recip_rule : ℕ → Rational
recip_rule n = record { negative = false; num = 1; den = factorial n }

-- the tables: the rows, and the reciprocals; with the rule of each, and how many entries it has
pub data Table : Type 0 where
  circle_table : Row → Table
  recip_row : Table

abbrev pub table_rule : Table → ℕ → Rational
table_rule (circle_table row) = row_rule row
table_rule recip_row = recip_rule

abbrev pub table_length : Table → ℕ
table_length (circle_table row) = 16
table_length recip_row = 33

-- the entries of a row, each rounded once
unfoldable pub row_table : Format → Row → List Float
row_table f row = entries f (table_rule (circle_table row)) 0 (table_length (circle_table row))

-- 1 / n!, rounded once
unfoldable pub recip_fact : Format → ℕ → Float
recip_fact f n = rounded f (table_rule recip_row n)

-- the table ends at index 32: there is no entry past it (02, K7)
unfoldable pub recip_table : Format → ℕ → Option Float
recip_table f n = cond (ltb n (table_length recip_row)) (Some (recip_fact f n)) None
