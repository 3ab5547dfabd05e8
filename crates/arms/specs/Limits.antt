-- Where the arms of the coefficients change. The binary64 limits are the scope's, the binary32 ones the Rust's.
use Rattle.std.specs.Prelude.{Float}
use Rattle.std.specs.Float.{Format, binary32, binary64}
use Rattle.std.specs.Float.Ieee.{of_bits}
unfoldable pub use Rattle.series.specs.Series.{coeffs_delta}

-- ---- in Δ
-- the series with the fewest terms below it
abbrev pub short_below : Format → Float
short_below binary32 = of_bits binary32 0x3a7ce158
short_below binary64 = of_bits binary64 0x3f0c70e59cfc9f1f

-- with more below it
abbrev pub mid_below : Format → Float
mid_below binary32 = of_bits binary32 0x3e03ba20
mid_below binary64 = of_bits binary64 0x3fa59742aa36710d

-- with still more below it
abbrev pub upper_below : Format → Float
upper_below binary32 = of_bits binary32 0x3f205df3
upper_below binary64 = of_bits binary64 0x3fd0e8139c96fc79

-- the series with the most terms below it, and the closed arm elsewhere
abbrev pub series_below : Format → Float
series_below binary32 = of_bits binary32 0x4017c496
series_below binary64 = of_bits binary64 0x3fffb1ffbc2a9c8c

-- form b of v₁ at and above it
abbrev pub form_b_below : Format → Float
form_b_below binary32 = of_bits binary32 0x40ba8a92
form_b_below binary64 = of_bits binary64 0x3fffb1ffbc2a9c8c

-- ---- in σ·σ
-- v₀ and w₀ of the closed arm by their series below it
abbrev pub w0_below : Format → Float
w0_below binary32 = of_bits binary32 0x3f153ba8
w0_below binary64 = of_bits binary64 0x3fe2a77501626657
