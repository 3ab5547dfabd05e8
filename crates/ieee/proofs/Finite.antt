-- A product that begins with 0 shows whether all its factors are finite, in every format. Assumes nothing.
use Prim.Native.Nat.{ℕ, zero, suc, ◌*◌}
use mathlib.Core.Path.{◌≡◌, refl}
use mathlib.Core.Bool.{Bool, true, false, not, ◌&&◌}
use native.Mathlib.Omega.{arith}
use borrow.Author.Tests.{eq-eqb}
use lib.Dec.{T}
use lib.IntN.{ℤ}
use lib.Ieee.{Float, nan, inf, fin, Format, binary32, binary64, up, down, mul, eq, of_bits, is_nan}
use Rattle.ieee.specs.Signs.{unsigned_zero}
use Rattle.ieee.specs.Finite.{is_finite, ZeroIf}
use Rattle.ieee.proofs.Product.{mul-zero_l}

-- the product before any factor
pub zero-starts : (f : Format) → ZeroIf true (of_bits f 0)
unfolding unsigned_zero of_bits
zero-starts binary32 = refl
zero-starts binary64 = refl

-- a zero times a value
zero_by : (f : Format) (s : Bool) (e : ℤ) (x : Float) → ZeroIf (is_finite x) (mul f (fin s 0 e) x)
unfolding unsigned_zero is_finite mul
zero_by f s e nan = refl
zero_by f s e (inf t) = refl
zero_by f s e (fin t n d) = mul-zero_l f s e t n d

-- one factor more
pub zero-times : (f : Format) (b : Bool) (z x : Float) → ZeroIf b z → ZeroIf (b && is_finite x) (mul f z x)
unfolding unsigned_zero mul
zero-times f true nan x h = cc
zero-times f false nan x h = refl
zero-times f true (inf s) x h = cc
zero-times f false (inf s) x h = cc
zero-times f true (fin s zero e) x h = zero_by f s e x
zero-times f false (fin s zero e) x h = cc
zero-times f true (fin s (suc m) e) x h = let q : suc m ≡ 0 = cc in absurd (omega arith)
zero-times f false (fin s (suc m) e) x h = cc

-- such a product is finite exactly where it is a zero
zero-finite : (b : Bool) (z : Float) → ZeroIf b z → is_finite z ≡ b
unfolding unsigned_zero is_finite
zero-finite true nan h = cc
zero-finite false nan h = refl
zero-finite true (inf s) h = cc
zero-finite false (inf s) h = refl
zero-finite true (fin s m e) h = refl
zero-finite false (fin s zero e) h = cc
zero-finite false (fin s (suc m) e) h = cc

-- the product of two
pub zero-joins : (f : Format) (b c : Bool) (z w : Float) → ZeroIf b z → ZeroIf c w → ZeroIf (b && c) (mul f z w)
zero-joins f b c z w h k = rw (zero-finite c w k) at (zero-times f b z w h)

-- which of the two it is: a comparison with itself decides
pub equals_itself : (s : Bool) (m : ℕ) (e : ℤ) → eq (fin s m e) (fin s m e) ≡ true
unfolding eq
equals_itself true m e = rw (eq-eqb (m * up e * down e) (m * up e * down e) refl)
equals_itself false m e = rw (eq-eqb (m * up e * down e) (m * up e * down e) refl)

pub zero-view : (b : Bool) (z : Float) → ZeroIf b z → eq z z ≡ b
unfolding unsigned_zero eq
zero-view true nan h = cc
zero-view false nan h = refl
zero-view true (inf s) h = cc
zero-view false (inf s) h = cc
zero-view true (fin s m e) h = equals_itself s m e
zero-view false (fin s zero e) h = cc
zero-view false (fin s (suc m) e) h = cc

-- ---- a finite value is not a NaN
pub finite-no_nan : (x : Float) → is_finite x ≡ true → T (not (is_nan x))
unfolding is_finite is_nan
finite-no_nan nan h = cc
finite-no_nan (inf s) h = tt
finite-no_nan (fin s m e) h = tt
