-- The sum of a number and a finite value is a number: it is a rounded fraction, or the infinity that was added to.
-- Assumes nothing.
use Prim.Native.Nat.{ℕ, zero, suc, ◌+◌, ◌-◌, ◌*◌, ◌^◌}
use mathlib.Core.Bool.{Bool, true, false, ◌&&◌, beq, cond}
use lib.Dec.{T, ltb}
use lib.Ieee.{Float, nan, inf, fin, Format, prec, low, emax, up, down, odd, units, round, sum, add}
use lib.Ieee.Fits.{round_is}
use lib.Ieee.Scale.{finite}
use Rattle.ieee.proofs.Order.{number}

cond-number : (b : Bool) (x y : Float) → T (number x) → T (number y) → T (number (cond b x y))
cond-number true x y p q = p
cond-number false x y p q = q

odd_number : (d : ℕ) (s : Bool) (q k l : ℕ) → T (number (odd d s q k l))
unfolding odd
odd_number d s zero k l = tt
odd_number d s (suc q) k l = tt

units_number : (f : Format) (s : Bool) (q k : ℕ) → T (number (units f s q k))
unfolding units
units_number f s q k =
    cond-number (ltb (q * 2 ^ k) (2 ^ (low f + suc (emax f)))) (odd (suc (prec f)) s q k (low f)) (inf s)
    (odd_number (suc (prec f)) s q k (low f)) tt

round_number : (f : Format) (s : Bool) (a c : ℕ) → T (number (round f s a c))
round_number f s a c = rw (round_is f s a c) (units_number f s _ _)

fractions : (f : Format) (s : Bool) (a : ℕ) (t : Bool) (b c : ℕ) → T (number (sum f s a t b c))
unfolding sum
fractions f s a t b c =
    cond-number (beq s t) (round f s (a + b) c) (cond (ltb a b) (round f t (b - a) c)
    (round f (s && ltb b a) (a - b) c)) (round_number f s (a + b) c)
    (cond-number (ltb a b) (round f t (b - a) c) (round f (s && ltb b a) (a - b) c) (round_number f t (b - a) c)
    (round_number f (s && ltb b a) (a - b) c))

pub sum_number : (f : Format) (x y : Float) → T (number x) → T (finite y) → T (number (add f x y))
unfolding add
sum_number f nan y p q = absurd p
sum_number f (inf s) nan p q = absurd q
sum_number f (inf s) (inf t) p q = absurd q
sum_number f (inf s) (fin t n d) p q = tt
sum_number f (fin s m e) nan p q = absurd q
sum_number f (fin s m e) (inf t) p q = absurd q
sum_number f (fin s m e) (fin t n d) p q = fractions f s (m * up e * down d) t (n * up d * down e) (down e * down d)
