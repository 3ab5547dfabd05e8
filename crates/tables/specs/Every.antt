-- The 226 entries of both widths follow one rule (02, K6): each is the exact rational of its table's rule, rounded once
-- at its width.
use Rattle.std.specs.Prelude.{ℕ, ◌+◌, ◌<◌, ◌≡◌, List, [], ◌∷◌, length, get_or}
use Rattle.std.specs.Float.{Format, binary32, binary64}
use Rattle.std.specs.Float.Ieee.{to_bits}
use Rattle.ieee.specs.Table.{rounded}
use Rattle.tables.specs.Tables.{cos_half_row, k_row, a_row, b_row, d_row, Table, circle_table, recip_row, table_rule}
use Rattle.tables.specs.Tables.{table_length}
use Rattle.tables.specs.Patterns.{patterns}

abbrev pub every_table : List Table
every_table =
    circle_table cos_half_row ∷ circle_table k_row ∷ circle_table a_row ∷ circle_table b_row ∷ circle_table d_row
    ∷ recip_row ∷ []

-- how many patterns these tables have at a width
abbrev pub patterns_in : Format → List Table → ℕ
patterns_in f [] = 0
patterns_in f (t ∷ ts) = length (patterns f t) + patterns_in f ts

pub record EveryEntry : Type 0 where
  -- by width, table and index: the pattern is that of the rational, rounded once
  pub entry : (f : Format) (t : Table) (i : ℕ) → i < table_length t →
      get_or (patterns f t) i 0 ≡ to_bits f (rounded f (table_rule t i))
  -- and no table has more entries
  pub whole : (f : Format) (t : Table) → length (patterns f t) ≡ table_length t
  -- at both widths they are 226
  pub count : patterns_in binary32 every_table + patterns_in binary64 every_table ≡ 226
