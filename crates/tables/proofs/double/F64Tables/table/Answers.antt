use lib.Ieee.{binary64, of_bits, neg}
use Rattle.tables.specs.Tables.{cos_half_row, k_row, a_row, b_row, d_row}
use Rattle.tables.specs.Patterns.{patterns}
use Rattle.ieee.proofs.Table.{floats}
use Rattle.tables.proofs.Every.{table_is}
use Rattle.tables.proofs.double.F64Tables.table.Goals as goal

pub returns-in-K : goal.returns-in-K
unfolding floats patterns of_bits neg
returns-in-K c = rw c.in-K.is (table_is binary64 k_row)

pub returns-in-A : goal.returns-in-A
unfolding floats patterns of_bits neg
returns-in-A c = rw c.in-A.is (table_is binary64 a_row)

pub returns-in-B : goal.returns-in-B
unfolding floats patterns of_bits neg
returns-in-B c = rw c.in-B.is (table_is binary64 b_row)

pub returns-in-D : goal.returns-in-D
unfolding floats patterns of_bits neg
returns-in-D c = rw c.in-D.is (table_is binary64 d_row)

pub returns-in-CosHalf : goal.returns-in-CosHalf
unfolding floats patterns of_bits neg
returns-in-CosHalf c = rw c.in-CosHalf.is (table_is binary64 cos_half_row)
