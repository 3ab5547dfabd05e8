-- The answer for each kind of double, by the code's tests: below zero, equal to zero, and the pattern. Assumes nothing.
use Rattle.std.proofs.lemmas.Bool.{true≢false, and_left}
use mathlib.Core.Path.{◌≡◌, refl, sym, ap, ◌∙◌}
use Prim.Native.Nat.{ℕ, zero, suc, ◌+◌, ◌*◌, ◌≤◌, ◌<◌}
use native.Mathlib.Nat.{zero-mul, zero-lt-suc, mul-pos, not-le_of_lt}
use native.Mathlib.Omega.{arith}
use mathlib.Core.Bool.{Bool, true, false}
use borrow.Author.Tests.{lt-ltb, ne_eqb}
use lib.IntN.{ℤ}
use lib.Dec.{T, lit≤}
use lib.Ieee.{Float, nan, inf, fin, binary64, up, down, lt, eq, fits, to_bits}
use lib.Ieee.Fits.{up_pos}
use Rattle.ieee.specs.Numbers.{f0}
use Rattle.ieee.specs.Patterns.{patterns, pattern_units}
use Rattle.ieee.proofs.Patterns.{pattern_below, pattern_pos, pattern_units_lem}
use Rattle.linalg.specs.Answer.{answers, refuses}
use Rattle.root.specs.Root.{root_of, root_from, root_parts, root_zero}

size_pos : (m : ℕ) (e : ℤ) → 0 < suc m * up e
size_pos m e = mul-pos (zero-lt-suc m) (up_pos e)

-- ---- below zero, and not below it
pub below : (z : Float) → lt z f0 ≡ true → refuses 1 ≡ root_of z
unfolding root_of
below z h = rw h

pub from : (z : Float) → lt z f0 ≡ false → root_from z ≡ root_of z
unfolding root_of
from z h = rw h

-- ---- a zero

not_zero : (m : ℕ) (e : ℤ) → suc m * up e * 1 ≡ 0 * 1 * down e → ⊥
not_zero m e q = omega (arith, size_pos m e, q, zero-mul (down e))

pub zeros : (z : Float) → eq z f0 ≡ true → answers (root_zero z) ≡ root_from z
unfolding eq root_from
zeros nan h = absurd (true≢false (sym h))
zeros (inf s) h = absurd (true≢false (sym h))
zeros (fin s zero e) h = refl
zeros (fin s (suc m) e) h =
    absurd (true≢false (sym h ∙ and_left _ _ (ne_eqb (suc m * up e * 1) (0 * 1 * down e) (not_zero m e))))

-- ---- neither
zero-eq : (s : Bool) (e : ℤ) → eq (fin s zero e) f0 ≡ true
unfolding eq
zero-eq true e = simp (zero-mul) refl
zero-eq false e = simp (zero-mul) refl

minus-lt : (m : ℕ) (e : ℤ) → lt (fin true (suc m) e) f0 ≡ true
unfolding lt
minus-lt m e = lt-ltb 0 (suc m * up e * 1 + 0 * 1 * down e) (omega (arith, size_pos m e))

-- a NaN and an infinity, by their patterns
pub other : (z : Float) → T (fits binary64 z) → lt z f0 ≡ false → eq z f0 ≡ false →
    patterns binary64 ≤ to_bits binary64 z → refuses 8 ≡ root_from z
unfolding root_from
other nan t l q h = refl
other (inf s) t l q h = refl
other (fin s zero e) t l q h = absurd (true≢false (sym (zero-eq s e) ∙ q))
other (fin true (suc m) e) t l q h = absurd (true≢false (sym (minus-lt m e) ∙ l))
other (fin false (suc m) e) t l q h = absurd (not-le_of_lt (pattern_below binary64 (suc m) e t) h)

nan_bits : patterns binary64 ≤ to_bits binary64 nan
unfolding to_bits
nan_bits = lit≤ tt

inf_bits : (s : Bool) → patterns binary64 ≤ to_bits binary64 (inf s)
unfolding to_bits
inf_bits true = lit≤ tt
inf_bits false = lit≤ tt

-- finite and above zero
pub good : (z : Float) → T (fits binary64 z) → lt z f0 ≡ false → eq z f0 ≡ false →
    to_bits binary64 z < patterns binary64
    → (0 < to_bits binary64 z) × (answers (root_parts (pattern_units binary64 (to_bits binary64 z))) ≡ root_from z)
unfolding root_from
good nan t l q h = absurd (not-le_of_lt h nan_bits)
good (inf s) t l q h = absurd (not-le_of_lt h (inf_bits s))
good (fin s zero e) t l q h = absurd (true≢false (sym (zero-eq s e) ∙ q))
good (fin true (suc m) e) t l q h = absurd (true≢false (sym (minus-lt m e) ∙ l))
good (fin false (suc m) e) t l q h =
    (pattern_pos binary64 m e t, ap (λ (x : ℕ). answers (root_parts x)) (sym (pattern_units_lem binary64 (suc m) e t)))
