-- A sum of squares is never below zero: a square is a NaN or carries no minus sign, and so does a sum of two such
-- values. Assumes nothing.
use mathlib.Core.Path.{◌≡◌, refl}
use Prim.Native.Nat.{ℕ, zero, suc, ◌+◌, ◌*◌, ◌^◌, zero-le}
use native.Mathlib.Nat.{zero-mul}
use mathlib.Core.Bool.{Bool, true, false, beq, cond}
use lib.IntN.{pos}
use lib.Dec.{T, ltb}
use borrow.Author.Tests.{le-ltb}
use lib.Ieee.{Float, nan, inf, fin, Format, prec, emax, low, unlike, up, down, odd, units, round, sum, add, mul, lt}
use lib.Ieee.Fits.{round_is}
use Rattle.ieee.specs.Numbers.{f0}

-- a NaN, or a value with no minus sign
abbrev pub upper : Float → Bool
upper nan = true
upper (inf s) = beq s false
upper (fin s m e) = beq s false

cond-upper : (b : Bool) (x y : Float) → T (upper x) → T (upper y) → T (upper (cond b x y))
cond-upper true x y p q = p
cond-upper false x y p q = q

odd-upper : (d q k l : ℕ) → T (upper (odd d false q k l))
unfolding odd
odd-upper d zero k l = tt
odd-upper d (suc q) k l = tt

units_upper : (f : Format) (q k : ℕ) → T (upper (units f false q k))
unfolding units
units_upper f q k =
    cond-upper (ltb (q * 2 ^ k) (2 ^ (low f + suc (emax f)))) (odd (suc (prec f)) false q k (low f)) (inf false)
    (odd-upper (suc (prec f)) q k (low f)) tt

pub round-upper : (f : Format) (a c : ℕ) → T (upper (round f false a c))
round-upper f a c = rw (round_is f false a c) (units_upper f _ _)

unlike_self : (s : Bool) → unlike s s ≡ false
unlike_self true = refl
unlike_self false = refl

pub square-upper : (f : Format) (x : Float) → T (upper (mul f x x))
unfolding mul
square-upper f nan = tt
square-upper f (inf s) = rw (unlike_self s) tt
square-upper f (fin s m e) = rw (unlike_self s) (round-upper f (m * up e * (m * up e)) (down e * down e))

pub add-upper : (f : Format) (x y : Float) → T (upper x) → T (upper y) → T (upper (add f x y))
unfolding add sum
add-upper f nan y p q = tt
add-upper f (inf s) nan p q = tt
add-upper f (inf false) (inf false) p q = tt
add-upper f (inf false) (inf true) p q = tt
add-upper f (inf true) (inf t) p q = absurd p
add-upper f (inf s) (fin t n d) p q = p
add-upper f (fin s m e) nan p q = tt
add-upper f (fin s m e) (inf t) p q = q
add-upper f (fin false m e) (fin false n d) p q =
    round-upper f (m * up e * down d + n * up d * down e) (down e * down d)
add-upper f (fin false m e) (fin true n d) p q = absurd q
add-upper f (fin true m e) (fin t n d) p q = absurd p

-- such a value is not below +0
pub upper_not_below : (x : Float) → T (upper x) → lt x f0 ≡ false
unfolding lt
upper_not_below nan p = refl
upper_not_below (inf false) p = refl
upper_not_below (inf true) p = absurd p
upper_not_below (fin false m e) p =
    rw (zero-mul (up (pos 0))) (rw (zero-mul (down e)) (le-ltb (m * up e * down (pos 0)) 0 zero-le))
upper_not_below (fin true m e) p = absurd p

-- (x² + y²) + z², the order of |φ|²
pub squares_not_below : (f : Format) (x y z : Float) → lt (add f (add f (mul f x x) (mul f y y)) (mul f z z)) f0 ≡ false
squares_not_below f x y z =
    upper_not_below _ (add-upper f _ _ (add-upper f _ _ (square-upper f x) (square-upper f y)) (square-upper f z))
