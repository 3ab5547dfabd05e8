-- `HasValue x s a c` says that x has the sign s and the size a / c: x is a number, finite and not -0; and if the format
-- holds x, x is the rounding of a / c, and the only such value. Assumes nothing.
use mathlib.Core.Path.{◌≡◌, sym, ap, ◌∙◌, subst}
use Prim.Native.Nat.{ℕ, zero, suc, ◌*◌, ◌<◌}
use native.Mathlib.Nat.{eq_of_mul-eq-mul_right}
use native.Mathlib.Omega.{arith}
use mathlib.Core.Bool.{Bool, false, not}
use lib.IntN.{ℤ}
use lib.Dec.{T}
use lib.Ieee.{Float, nan, inf, fin, Format, up, down, round, fits, is_nan}
use lib.Ieee.Exact.{HasValue}
use lib.Ieee.Fits.{down_pos}
use lib.Ieee.Scale.{finite, round_same}
use Rattle.ieee.specs.Signs.{not_minus_zero}
use Rattle.ieee.proofs.Order.{number}
use Rattle.ieee.proofs.Exact.{round_id}

pub value-finite : (x : Float) (s : Bool) (a c : ℕ) → HasValue x s a c → T (finite x)
value-finite nan s a c h = absurd h
value-finite (inf t) s a c h = absurd h
value-finite (fin t m e) s a c h = tt

pub value-number : (x : Float) (s : Bool) (a c : ℕ) → HasValue x s a c → T (number x)
value-number nan s a c h = absurd h
value-number (inf t) s a c h = absurd h
value-number (fin t m e) s a c h = tt

pub value_not_nan : (x : Float) (s : Bool) (a c : ℕ) → HasValue x s a c → T (not (is_nan x))
unfolding is_nan
value_not_nan nan s a c h = absurd h
value_not_nan (inf t) s a c h = absurd h
value_not_nan (fin t m e) s a c h = tt

pub value_clear : (x : Float) (a c : ℕ) → HasValue x false a c → T (not_minus_zero x)
value_clear nan a c h = absurd h
value_clear (inf t) a c h = absurd h
value_clear (fin t m e) a c h = subst (λ s. T (not_minus_zero (fin s m e))) (sym h.0) tt

pub value-rounds : (f : Format) (x : Float) (s : Bool) (a c : ℕ) → T (fits f x) → 0 < c → HasValue x s a c →
    round f s a c ≡ x
value-rounds f nan s a c t C h = absurd h
value-rounds f (inf u) s a c t C h = absurd h
value-rounds f (fin u m e) s a c t C h =
    round_same f s a c (m * up e) (down e) C (down_pos e) (sym h.1) ∙ (λ i. round f (sym h.0 i) (m * up e) (down e))
    ∙ round_id f u m e t

pub value-only : (f : Format) (x y : Float) (s : Bool) (a c : ℕ) → T (fits f x) → T (fits f y) → 0 < c →
    HasValue x s a c → HasValue y s a c → x ≡ y
value-only f x y s a c t u C h k = sym (value-rounds f x s a c t C h) ∙ value-rounds f y s a c u C k

-- two fractions of the same size, cross-multiplied
pub value_cross : (x : Float) (s t : Bool) (a c b d : ℕ) → HasValue x s a c → HasValue x t b d → a * d ≡ b * c
value_cross nan s t a c b d h k = absurd h
value_cross (inf u) s t a c b d h k = absurd h
value_cross (fin u m e) s t a c b d h k =
    eq_of_mul-eq-mul_right (down e) (down_pos e) _ _
    (omega (arith, ap (λ (x : ℕ). x * d) h.1, ap (λ (x : ℕ). x * c) k.1))

-- a format holds a value with either sign
pub unsigned : (f : Format) (s : Bool) (m : ℕ) (e : ℤ) → T (fits f (fin s m e)) → T (fits f (fin false m e))
unfolding fits
unsigned f s zero e t = t
unsigned f s (suc m) e t = t
