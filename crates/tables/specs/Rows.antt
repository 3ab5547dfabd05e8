-- The row of the definitions that a case of the code's enum names.
use Rattle.tables.specs.Tables.{Row, cos_half_row, k_row, a_row, b_row, d_row}
use Rattle.tables.specs.declared.Row as code
use Rattle.tables.specs.declared.Row.TheVariants as named

abbrev pub row_named : code.Row → Row
row_named named.K = k_row
row_named named.A = a_row
row_named named.B = b_row
row_named named.D = d_row
row_named named.CosHalf = cos_half_row
