-- The order of the limits. Assumes nothing.
use mathlib.Core.Path.{◌≡◌, sym, subst}
use mathlib.Core.Bool.{true}
use lib.Dec.{T}
use lib.Ieee.{Float, Format, binary32, binary64, of_bits, lt, le}
use lib.Ieee.Bits.{is_true}
use Rattle.std.proofs.lemmas.Float.{lt_of_lt_of_le}
use Rattle.tables.specs.Tables.{Row, cos_half_row, k_row, a_row, b_row, d_row}
use Rattle.circle.specs.Limits.{row_limit}

-- cosine-half has the least limit, so below it every member is below its limit
cos_half-least : (f : Format) (row : Row) → T (le (row_limit f cos_half_row) (row_limit f row))
unfolding of_bits le
cos_half-least binary32 cos_half_row = tt
cos_half-least binary32 k_row = tt
cos_half-least binary32 a_row = tt
cos_half-least binary32 b_row = tt
cos_half-least binary32 d_row = tt
cos_half-least binary64 cos_half_row = tt
cos_half-least binary64 k_row = tt
cos_half-least binary64 a_row = tt
cos_half-least binary64 b_row = tt
cos_half-least binary64 d_row = tt

pub below_all : (f : Format) (row : Row) (z : Float) → lt z (row_limit f cos_half_row) ≡ true →
    lt z (row_limit f row) ≡ true
below_all f row z e =
    is_true _ (lt_of_lt_of_le z (row_limit f cos_half_row) (row_limit f row) (subst T (sym e) tt)
    (cos_half-least f row))
