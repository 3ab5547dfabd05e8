-- Other forms of comparisons: with zero, and with a number that is not a NaN. Assumes nothing.
use mathlib.Core.Path.{◌≡◌, refl}
use mathlib.Core.Bool.{true, false, ◌&&◌}
use Prim.Native.Nat.{ℕ}
use native.Mathlib.Omega.{arith}
use lib.Dec.{T, leb, eqb, eqb→eq, leb→le, le→leb}
use lib.Ieee.{Float, nan, inf, fin, le, eq}
use lib.Ieee.Scale.{finite}
use lib.Ieee.Fits.{eq→eqb, and_i, and_l, and_r}
use Rattle.ieee.specs.Numbers.{f0}
use Rattle.ieee.proofs.Order.{iff, eq_is, le_is, side}

both : (a b : ℕ) → eqb a b ≡ (leb a b && leb b a)
both a b =
    iff (eqb a b) (leb a b && leb b a)
    (λ t. let e : a ≡ b = eqb→eq a b t in and_i (leb a b) (leb b a) (le→leb a b (omega arith))
    (le→leb b a (omega arith)))
    (λ t. let p = leb→le a b (and_l (leb a b) (leb b a) t) in let q = leb→le b a (and_r (leb a b) (leb b a) t) in
    eq→eqb {a = a} {b = b} (omega arith))

finite_zero : (x : Float) → T (finite x) → eq x f0 ≡ (le x f0 && le f0 x)
finite_zero x h = rw (eq_is x f0 h tt, le_is x f0 h tt, le_is f0 x tt h) (both (side x f0) (side f0 x))

-- x is +0 or -0
pub zero_is : (x : Float) → eq x f0 ≡ (le x f0 && le f0 x)
zero_is nan = unfold le in refl
zero_is (inf false) = unfold le in refl
zero_is (inf true) = unfold le in refl
zero_is (fin s m e) = finite_zero (fin s m e) tt
