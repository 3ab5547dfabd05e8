-- Neighbouring patterns are neighbouring values: the values rise strictly with the patterns, and every finite value
-- from zero up that is not -0 has a pattern, so none lies between those of p and p + 1. Assumes nothing.
use mathlib.Core.Path.{◌≡◌, sym, ap, ◌∙◌, subst}
use mathlib.Core.Logic.{inl, inr}
use Prim.Native.Nat.{ℕ, ◌+◌, ◌<◌}
use native.Mathlib.Omega.{arith}
use mathlib.Core.Bool.{false}
use lib.IntN.{ℤ}
use lib.Dec.{T}
use lib.Ieee.{Float, fin, Format, of_bits, to_bits, fits, lt, le}
use lib.Ieee.Bits.{of_bits-to_bits, to_bits-of_bits, of_bits-fits}
use Rattle.std.proofs.lemmas.Bool.{cases_lt}
use Rattle.ieee.specs.Patterns.{patterns}
use Rattle.ieee.proofs.Order.{lt_i, lt-e}
use Rattle.ieee.proofs.Clear.{same-is}
use Rattle.ieee.proofs.Exact.{le_antisym}
use Rattle.ieee.proofs.Values.{value-number, value_not_nan, value_clear}
use Rattle.ieee.proofs.Patterns.{rising, pattern_value, under_top, pattern_below}

back : (f : Format) (p : ℕ) → p < patterns f → to_bits f (of_bits f p) ≡ p
back f p h =
    let t = under_top f p h in
    to_bits-of_bits f p (omega arith) (value_not_nan (of_bits f p) false _ _ (pattern_value f p h))

pub strictly_rising : (f : Format) (p q : ℕ) → p < q → q < patterns f → T (lt (of_bits f p) (of_bits f q))
strictly_rising f p q k h =
    let p-in : p < patterns f = omega arith in
    let x = of_bits f p in
    let y = of_bits f q in
    lt_i x y (value-number x false _ _ (pattern_value f p p-in)) (value-number y false _ _ (pattern_value f q h))
    (λ below.
    let same = le_antisym f x y (of_bits-fits f p) (of_bits-fits f q) (rising f p q (omega arith) h) below in
    let e = same-is f x y (of_bits-fits f p) (of_bits-fits f q) (value_clear x _ _ (pattern_value f p p-in))
    (value_clear y _ _ (pattern_value f q h)) same in
    let w : p ≡ q = sym (back f p p-in) ∙ ap (to_bits f) e ∙ back f q h in
    omega arith)

-- nothing lies between neighbours
pub neighbours : (f : Format) (p m : ℕ) (e : ℤ) → p < patterns f → T (fits f (fin false m e)) →
    T (lt (of_bits f p) (fin false m e)) → T (le (of_bits f (p + 1)) (fin false m e))
neighbours f p m e p-in h k =
    let x = fin false m e in
    let q = to_bits f x in
    let is : of_bits f q ≡ x = of_bits-to_bits f x h in
    let few : q < patterns f = pattern_below f m e h in
    elim (cases_lt p q) [
      | inl l ↦ subst (λ (y : Float). T (le (of_bits f (p + 1)) y)) is (rising f (p + 1) q (omega arith) few)
      | inr l ↦ absurd (lt-e (of_bits f p) x k (subst (λ (y : Float). T (le y (of_bits f p))) is (rising f q p l p-in)))
    ]
