-- The digits and the power of a pattern: a subnormal's by its leading zeros, any other's as they are; and the exponent,
-- which fits an i64. Assumes nothing.
use mathlib.Core.Path.{◌≡◌, refl, sym, ap, ◌∙◌, subst}
use mathlib.Core.Logic.{inl, inr}
use Prim.Native.Nat.{ℕ, suc, ◌+◌, ◌-◌, ◌*◌, ◌/◌, ◌%◌, ◌^◌, ◌≤◌, ◌<◌}
use native.Mathlib.Nat.{le_trans, not-le_of_lt, mul_assoc, mul-le-mul_right, mod-eq_of_lt}
use native.Mathlib.Omega.{arith}
use lib.Pow.{pow-add, pow_mono, shl_lt}
use borrow.Author.Tests.{lt-ltb, le-ltb}
use lib.IntN.{pos, sub_ℕ, ◌-ℤ◌}
use lib.Signed.{mag}
use mir.Syntax.{w64}
use mir.Val.{SFits, to_z, of_z}
use mir.Facts.{to_z-of_z, to_z_pos}
use lib.Count.{count_leading_zeros, leading_top}
use lib.Ieee.{binary64}
use Rattle.std.proofs.lemmas.Bool.{cases_lt}
use Rattle.ieee.specs.Patterns.{patterns, pattern_units}
use Rattle.ieee.proofs.Patterns.{units_small, units_large}
use Rattle.root.specs.Private.{ScaledTo}

moved : (b j k : ℕ) → j + k ≡ 52 → 2 ^ j ≤ b → b < 2 ^ suc j → ScaledTo b (b * 2 ^ k % 2 ^ 64) j
moved b j k e lo hi =
    let p : 2 ^ 52 ≤ b * 2 ^ k = subst (λ (x : ℕ). x ≤ b * 2 ^ k) (sym (pow-add 2 j k) ∙ ap (λ (x : ℕ). 2 ^ x) e)
    (mul-le-mul_right (2 ^ k) lo) in
    let w : suc j + k ≡ 53 = omega arith in
    let q : b * 2 ^ k < 2 ^ 53 = subst (λ (x : ℕ). b * 2 ^ k < 2 ^ x) w (shl_lt (suc j) k hi) in
    let m : b * 2 ^ k % 2 ^ 64 ≡ b * 2 ^ k = mod-eq_of_lt (omega arith) in
    rw m (record {
      value = ap (λ (x : ℕ). b * 2 ^ x) (sym e) ∙ ap (λ (x : ℕ). b * x) (pow-add 2 j k) ∙ swap b (2 ^ j) (2 ^ k);
      low = p;
      high = q;
      few = omega arith;
    })
  where
    swap : (a x y : ℕ) → a * (x * y) ≡ a * y * x
    swap a x y = omega arith

pub lead : (b : ℕ) → 0 < b → b < 2 ^ 52
    → (11 ≤ count_leading_zeros 64 b) × (count_leading_zeros 64 b - 11 ≤ 52)
    × ScaledTo (pattern_units binary64 b) (b * 2 ^ (count_leading_zeros 64 b - 11) % 2 ^ 64)
    (52 - (count_leading_zeros 64 b - 11))
lead b p h =
    let t = leading_top 64 b p (omega arith) in
    let j = t.0 in
    let e : count_leading_zeros 64 b + suc j ≡ 64 = t.1 in
    let few : j < 52 = elim (cases_lt j 52) [
      | inl l ↦ l
      | inr l ↦
          absurd (not-le_of_lt h (le_trans (pow_mono l) t.2))
    ] in
    let i : 52 - (count_leading_zeros 64 b - 11) ≡ j = omega arith in (
      omega arith,
      omega arith,
      rw (units_small binary64 b h, i)
          (moved b j (count_leading_zeros 64 b - 11) (omega arith) t.2 t.3),
    )

pub normal : (b : ℕ) → 2 ^ 52 ≤ b → b < patterns binary64 → ScaledTo (pattern_units binary64 b) (2 ^ 52 + b % 2 ^ 52)
    (b / 2 ^ 52 + 51)
normal b l h =
    let c = 2 ^ 52 + b % 2 ^ 52 in
    let k = b / 2 ^ 52 - 1 in
    rw (units_large binary64 b l) (record {
      value =
          mul_assoc c (2 ^ k) (2 ^ 52) ∙ ap (λ (x : ℕ). c * x)
          (sym (pow-add 2 k 52) ∙ ap (λ (x : ℕ). 2 ^ x) (omega arith));
      low = omega arith;
      high = omega arith;
      few = omega arith;
    })

-- every pattern of a value above 0 is scaled to some digits
pub scaled : (b : ℕ) → 0 < b → b < patterns binary64 → (c : ℕ) × (y : ℕ) × ScaledTo (pattern_units binary64 b) c y
scaled b p h =
    let k = count_leading_zeros 64 b - 11 in
    elim (cases_lt b (2 ^ 52)) [
      | inl l ↦ (b * 2 ^ k % 2 ^ 64, 52 - k, (lead b p l).2)
      | inr l ↦ (2 ^ 52 + b % 2 ^ 52, b / 2 ^ 52 + 51, normal b l h)
    ]

-- ---- the exponent
sub_mag : (j : ℕ) → j ≤ 1048 → mag (sub_ℕ j 589) < 2 ^ 63
sub_mag j h =
    elim (cases_lt j 589) [ inl l ↦ rw (lt-ltb j 589 l) (omega arith) | inr l ↦ rw (le-ltb j 589 l) (omega arith) ]

pub exponent_fits : (j : ℕ) → j ≤ 1048 → SFits w64 (to_z w64 j -ℤ pos 589)
exponent_fits j h = rw (to_z_pos w64 {n = j} (omega arith)) (record { sfits = sub_mag j h })

pub exponent-is : (j : ℕ) → j ≤ 1048 → to_z w64 (of_z w64 (to_z w64 j -ℤ pos 589)) ≡ sub_ℕ j 589
exponent-is j h = to_z-of_z (exponent_fits j h) ∙ rw (to_z_pos w64 {n = j} (omega arith)) refl
