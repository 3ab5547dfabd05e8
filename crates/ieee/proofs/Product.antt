-- `mul` respects `Same`. (`div` does not in its divisor: 1 / +0 is +∞, and 1 / -0 is -∞.) Assumes nothing.
use mathlib.Core.Path.{◌≡◌, refl, sym, ap, ◌∙◌}
use Prim.Native.Nat.{ℕ, zero, suc, ◌*◌, ◌<◌}
use native.Mathlib.Nat.{zero-mul, mul-pos}
use mathlib.Core.Bool.{Bool, false}
use lib.IntN.{ℤ, pos}
use lib.Ieee.{Float, nan, inf, fin, Format, unlike, up, down, round, mul}
use lib.Ieee.Fits.{down_pos}
use Rattle.ieee.specs.Signs.{unsigned_zero, Same}
use Rattle.ieee.proofs.Sign.{mul_comm}
use Rattle.ieee.proofs.Zero.{round-zero}

round_nothing : (f : Format) (s : Bool) (a c : ℕ) → 0 < c → a ≡ 0 → unsigned_zero (round f s a c) ≡ fin false 0 (pos 0)
unfolding unsigned_zero
round_nothing f s a c C p = rw (p, round-zero f s c C)

pub mul-zero_l : (f : Format) (s : Bool) (e : ℤ) (t : Bool) (n : ℕ) (d : ℤ) →
    unsigned_zero (mul f (fin s 0 e) (fin t n d)) ≡ fin false 0 (pos 0)
unfolding mul
mul-zero_l f s e t n d =
    round_nothing f (unlike s t) (0 * up e * (n * up d)) (down e * down d) (mul-pos (down_pos e) (down_pos d))
    (simp zero-mul)

mul-zero_r : (f : Format) (s : Bool) (m : ℕ) (e : ℤ) (t : Bool) (d : ℤ) →
    unsigned_zero (mul f (fin s m e) (fin t 0 d)) ≡ fin false 0 (pos 0)
mul-zero_r f s m e t d = ap unsigned_zero (mul_comm f (fin s m e) (fin t 0 d)) ∙ mul-zero_l f t d s m e

pub unsigned_zero-mul : (f : Format) (x y : Float) → unsigned_zero (mul f x y)
    ≡ unsigned_zero (mul f (unsigned_zero x) (unsigned_zero y))
unfolding unsigned_zero
unsigned_zero-mul f nan y = unfold mul in refl
unsigned_zero-mul f (inf s) nan = refl
unsigned_zero-mul f (inf s) (inf t) = refl
unsigned_zero-mul f (inf s) (fin t zero d) = unfold mul in refl
unsigned_zero-mul f (inf s) (fin t (suc n) d) = refl
unsigned_zero-mul f (fin s zero e) nan = unfold mul in refl
unsigned_zero-mul f (fin s zero e) (inf t) = unfold mul in refl
unsigned_zero-mul f (fin s zero e) (fin t zero d) =
    mul-zero_l f s e t 0 d ∙ sym (mul-zero_l f false (pos 0) false 0 (pos 0))
unsigned_zero-mul f (fin s zero e) (fin t (suc n) d) =
    mul-zero_l f s e t (suc n) d ∙ sym (mul-zero_l f false (pos 0) t (suc n) d)
unsigned_zero-mul f (fin s (suc m) e) nan = refl
unsigned_zero-mul f (fin s (suc m) e) (inf t) = refl
unsigned_zero-mul f (fin s (suc m) e) (fin t zero d) =
    mul-zero_r f s (suc m) e t d ∙ sym (mul-zero_r f s (suc m) e false (pos 0))
unsigned_zero-mul f (fin s (suc m) e) (fin t (suc n) d) = refl

pub mul-same : (f : Format) (x x' y y' : Float) → Same x x' → Same y y' → Same (mul f x y) (mul f x' y')
mul-same f x x' y y' p q =
    unsigned_zero-mul f x y ∙ ap (λ (z : Float). unsigned_zero (mul f z (unsigned_zero y))) p
    ∙ ap (λ (z : Float). unsigned_zero (mul f (unsigned_zero x') z)) q ∙ sym (unsigned_zero-mul f x' y')
