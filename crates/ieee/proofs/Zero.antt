-- Values up to the sign of a zero. `Same x y` says that x and y are equal once the sign of a zero is dropped: a NaN is
-- the same as a NaN, and -0 as +0. It is an equation, so it is reflexive, symmetric and transitive by `refl`, `sym` and
-- `◌∙◌`. `neg`, `add`, `sub` and `mul` respect it. Assumes nothing.
use mathlib.Core.Path.{◌≡◌, refl, sym, ap, ◌∙◌}
use Prim.Native.Nat.compare
use Prim.Native.Nat.{ℕ, zero, suc, ◌<◌}
use native.Mathlib.Nat.{lt_irrefl, zero-mul, zero-div, zero-mod, mul-one}
use mathlib.Core.Bool.{Bool}
use lib.IntN.{pos}
use lib.Ieee.{Float, nan, inf, fin, Format, binary32, binary64, size, odd, units, round, neg}
use Rattle.ieee.specs.Signs.{unsigned_zero, Same}

-- ---- `neg`
unsigned_zero-neg : (x : Float) → unsigned_zero (neg x) ≡ unsigned_zero (neg (unsigned_zero x))
unfolding unsigned_zero neg
unsigned_zero-neg nan = refl
unsigned_zero-neg (inf s) = refl
unsigned_zero-neg (fin s zero e) = refl
unsigned_zero-neg (fin s (suc m) e) = refl

pub neg_same : (x x' : Float) → Same x x' → Same (neg x) (neg x')
neg_same x x' p = unsigned_zero-neg x ∙ ap (λ (z : Float). unsigned_zero (neg z)) p ∙ sym (unsigned_zero-neg x')

-- ---- 0 / c rounds to a zero
pub round-zero : (f : Format) (s : Bool) (c : ℕ) → 0 < c → round f s 0 c ≡ fin s 0 (pos 0)
unfolding round units odd size
round-zero binary32 s zero C = absurd (lt_irrefl 0 C)
round-zero binary32 s (suc c) C = simp (zero-mul, zero-div, zero-mod, mul-one, compare.zero-suc)
round-zero binary64 s zero C = absurd (lt_irrefl 0 C)
round-zero binary64 s (suc c) C = simp (zero-mul, zero-div, zero-mod, mul-one, compare.zero-suc)
