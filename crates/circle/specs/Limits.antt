-- How many terms of a row an arm reads, and below which limit, in each format. The binary64 limits are the scope's, the
-- binary32 ones the Rust's.
use Rattle.std.specs.Prelude.{ℕ, Float}
use Rattle.std.specs.Float.{Format, binary32, binary64}
use Rattle.std.specs.Float.Ieee.{of_bits}
use Rattle.tables.specs.Tables.{Row, cos_half_row, k_row, a_row, b_row, d_row}

-- ---- the whole series: its terms, and the limit below which a member takes it
abbrev pub row_terms : Format → Row → ℕ
row_terms binary64 cos_half_row = 10
row_terms binary64 k_row = 11
row_terms binary64 a_row = 12
row_terms binary64 b_row = 12
row_terms binary64 d_row = 12
row_terms binary32 cos_half_row = 6
row_terms binary32 k_row = 7
row_terms binary32 a_row = 9
row_terms binary32 b_row = 8
row_terms binary32 d_row = 8

abbrev pub row_limit : Format → Row → Float
row_limit binary64 cos_half_row = of_bits binary64 0x4014ee953b2f4f99
row_limit binary64 k_row = of_bits binary64 0x40234b1147487fea
row_limit binary64 a_row = of_bits binary64 0x4017515241baffec
row_limit binary64 b_row = of_bits binary64 0x401f1837c8ed2f09
row_limit binary64 d_row = of_bits binary64 0x4020b50e65c5be18
row_limit binary32 cos_half_row = of_bits binary32 0x409102bc
row_limit binary32 k_row = of_bits binary32 0x411a588a
row_limit binary32 a_row = of_bits binary32 0x411a588a
row_limit binary32 b_row = of_bits binary32 0x410fa144
row_limit binary32 d_row = of_bits binary32 0x411a588a

-- ---- the short series: its terms, and the limit of each group, the least short limit of its members
abbrev pub short_terms : Format → ℕ
short_terms binary64 = 5
short_terms binary32 = 3

-- k and cosine-half
abbrev pub exp_short_limit : Format → Float
exp_short_limit binary64 = of_bits binary64 0x3f756f305d5f8ce6
exp_short_limit binary32 = of_bits binary32 0x3afa78f1

-- all five
abbrev pub five_short_limit : Format → Float
five_short_limit binary64 = of_bits binary64 0x3f65a3f024984d68
five_short_limit binary32 = of_bits binary32 0x3a83126f
