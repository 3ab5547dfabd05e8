-- Where the steps start: z + 0 is z without the sign of a zero, and the pattern of a finite z from zero up is below the
-- infinity's. Assumes nothing.
use mathlib.Core.Path.{◌≡◌, sym, ap, ◌∙◌, subst}
use Prim.Native.Nat.{ℕ, zero, suc, ◌+◌, ◌*◌, ◌<◌}
use native.Mathlib.Nat.{mul-pos}
use native.Mathlib.Omega.{arith}
use mathlib.Core.Bool.{true, false}
use lib.IntN.{ℤ, pos}
use lib.Dec.{T}
use borrow.Author.Tests.{lt-ltb}
use lib.Ieee.{Float, nan, inf, fin, Format, up, down, to_bits, fits, add, lt}
use lib.Ieee.Fits.{up_pos, down_pos, add-fits}
use Rattle.ieee.specs.Finite.{is_finite}
use Rattle.ieee.specs.Numbers.{f0}
use Rattle.ieee.specs.Patterns.{patterns}
use Rattle.ieee.specs.Signs.{unsigned_zero}
use Rattle.ieee.proofs.Clear.{plain_id, add_clear_r}
use Rattle.ieee.proofs.Exact.{add-zero-same}
use Rattle.ieee.proofs.Patterns.{pattern_below}

pub start_is : (f : Format) (z : Float) → T (fits f z) → to_bits f (add f z f0) ≡ to_bits f (unsigned_zero z)
start_is f z h =
    ap (λ (x : Float). to_bits f x)
    (sym (plain_id f (add f z f0) (add-fits f z f0) (add_clear_r f z f0 h (unfold fits in tt) tt))
    ∙ add-zero-same f z h)

-- a finite value with a minus sign that is not zero is below zero
under : (m : ℕ) (e : ℤ) → 0 < m → lt (fin true m e) f0 ≡ true
unfolding lt
under m e h =
    let a : 0 < m * up e * down (pos 0) = mul-pos (mul-pos h (up_pos e)) (down_pos (pos 0)) in
    let b : 0 < m * up e * down (pos 0) + 0 * up (pos 0) * down e = omega arith in
    lt-ltb 0 _ b

pub start_below : (f : Format) (z : Float) → T (fits f z) → lt z f0 ≡ false → is_finite z ≡ true →
    to_bits f (unsigned_zero z) < patterns f
unfolding unsigned_zero is_finite
start_below f nan h b a = absurd (subst T (sym a) tt)
start_below f (inf s) h b a = absurd (subst T (sym a) tt)
start_below f (fin s zero e) h b a = pattern_below f zero (pos 0) (unfold fits in tt)
start_below f (fin false (suc m) e) h b a = pattern_below f (suc m) e h
start_below f (fin true (suc m) e) h b a = absurd (subst T (sym (under (suc m) e (omega arith)) ∙ b) tt)
