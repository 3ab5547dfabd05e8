-- The structs over floats that the definitions use, and each struct of the code as one of them: `h` maps a number to
-- its float.
use Rattle.std.specs.Prelude.{Float}
use Rattle.circle.specs.declared.kernel.ExpCoeffs as CodeExpCoeffs
use Rattle.circle.specs.declared.kernel.SincABD as CodeSincABD
use Rattle.circle.specs.declared.kernel.SincA as CodeSincA

abbrev pub ExpCoeffs : Type 0
ExpCoeffs = CodeExpCoeffs.ExpCoeffs Float

abbrev pub as_exp_coeffs : {T : Type 0} → (T → Float) → CodeExpCoeffs.ExpCoeffs T → ExpCoeffs
as_exp_coeffs h a = record { k = h a.k; cos_half = h a.cos_half }

abbrev pub SincABD : Type 0
SincABD = CodeSincABD.SincABD Float

abbrev pub as_sinc_abd : {T : Type 0} → (T → Float) → CodeSincABD.SincABD T → SincABD
as_sinc_abd h a = record { a = h a.a; b = h a.b; sinc = h a.sinc; d = h a.d }

abbrev pub SincA : Type 0
SincA = CodeSincA.SincA Float

abbrev pub as_sinc_a : {T : Type 0} → (T → Float) → CodeSincA.SincA T → SincA
as_sinc_a h a = record { sinc = h a.sinc; a = h a.a }
