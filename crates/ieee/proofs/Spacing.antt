-- How far apart the values of a format are: next to v * 2 ^ h units, where v has all its digits, the next larger value
-- is at least 2 ^ h units away, and so is the next smaller one, unless v is the least number with that many digits.
-- Assumes nothing.
use mathlib.Core.Path.{◌≡◌, sym, ap, ◌∙◌, subst}
use mathlib.Core.Logic.{◌⊎◌, inl, inr}
use Prim.Native.Nat.{ℕ, suc, ◌+◌, ◌-◌, ◌*◌, ◌/◌, ◌%◌, ◌^◌, ◌≤◌, ◌<◌}
use native.Mathlib.Nat.{le_trans, lt_of_lt_of_le, not-le_of_lt, le_of_lt, mod-lt, mul-one, mul_assoc, mul-le-mul_right}
use native.Mathlib.Nat.{mul-le-mul_left, mul-lt-mul_of_pos_right, lt_of_mul-lt-mul_right, pow-succ'}
use native.Mathlib.Omega.{arith}
use mathlib.Core.Bool.{false}
use lib.IntN.{ℤ}
use lib.Dec.{T}
use lib.Pow.{pow_pos, pow-add, pow_mono}
use lib.Ieee.{fin, Format, hid, to_bits, fits}
use Rattle.std.proofs.lemmas.Bool.{cases_lt}
use Rattle.ieee.specs.Patterns.{units_of, pattern_units}
use Rattle.ieee.proofs.Patterns.{hid_pos, units_small, units_large, pattern_units_lem}

-- a value is a number q of at most as many digits as the format keeps, times a power of two
digits : (f : Format) (p : ℕ) → (q : ℕ) × (x : ℕ) × (q < 2 * hid f) × (pattern_units f p ≡ q * 2 ^ x)
digits f p = elim (cases_lt p (hid f)) [
  | inl l ↦ (p, 0, omega arith, units_small f p l ∙ sym (mul-one p))
  | inr l ↦ (hid f + p % hid f, p / hid f - 1, omega (arith, mod-lt p (hid_pos f)), units_large f p l)
]

-- q * 2 ^ x next to v * 2 ^ h
module _ (H v h q x : ℕ) (full : H ≤ v) (few : q < 2 * H) where
  finer : x < h → q * 2 ^ x < H * 2 ^ h
  finer l =
      let twice : 2 * H * 2 ^ x ≡ H * 2 ^ suc x = omega (arith, ap (λ (y : ℕ). H * y) (pow-succ' 2 x)) in
      lt_of_lt_of_le (mul-lt-mul_of_pos_right few (pow_pos x))
      (subst (λ (y : ℕ). y ≤ H * 2 ^ h) (sym twice) (mul-le-mul_left H (pow_mono l)))

  coarser : h ≤ x → q * 2 ^ x ≡ q * 2 ^ (x - h) * 2 ^ h
  coarser l =
      let e : x ≡ x - h + h = omega arith in
      ap (λ (y : ℕ). q * y) (ap (λ (y : ℕ). 2 ^ y) e ∙ pow-add 2 (x - h) h) ∙ sym (mul_assoc q (2 ^ (x - h)) (2 ^ h))

  over : v * 2 ^ h < q * 2 ^ x → (v + 1) * 2 ^ h ≤ q * 2 ^ x
  over g = elim (cases_lt x h) [
    | inl l ↦ absurd (not-le_of_lt g (le_trans (le_of_lt (finer l)) (mul-le-mul_right (2 ^ h) full)))
    | inr l ↦ rw (coarser l)
        (mul-le-mul_right (2 ^ h)
        (next (lt_of_mul-lt-mul_right (2 ^ h) (subst (λ (y : ℕ). v * 2 ^ h < y) (coarser l) g))))
  ]
    where
      next : {a b : ℕ} → a < b → a + 1 ≤ b
      next k = omega arith

  under : q * 2 ^ x < v * 2 ^ h → (q * 2 ^ x ≤ (v - 1) * 2 ^ h) ⊎ (q * 2 ^ x < H * 2 ^ h)
  under g = elim (cases_lt x h) [
    | inl l ↦ inr (finer l)
    | inr l ↦ inl (rw (coarser l)
        (mul-le-mul_right (2 ^ h)
        (last (lt_of_mul-lt-mul_right (2 ^ h) (subst (λ (y : ℕ). y < v * 2 ^ h) (coarser l) g)))))
  ]
    where
      last : {a b : ℕ} → a < b → a ≤ b - 1
      last k = omega arith

module _ (f : Format) (m : ℕ) (e : ℤ) (t : T (fits f (fin false m e))) (v h : ℕ) (full : hid f ≤ v) where
  pub next-above : v * 2 ^ h < units_of f m e → (v + 1) * 2 ^ h ≤ units_of f m e
  next-above g =
      let d = digits f (to_bits f (fin false m e)) in
      let is : units_of f m e ≡ d.0 * 2 ^ d.1 = pattern_units_lem f m e t ∙ d.3 in
      rw is (over (hid f) v h d.0 d.1 full d.2 (subst (λ (y : ℕ). v * 2 ^ h < y) is g))

  pub next-below : units_of f m e < v * 2 ^ h → (units_of f m e ≤ (v - 1) * 2 ^ h) ⊎ (units_of f m e < hid f * 2 ^ h)
  next-below g =
      let d = digits f (to_bits f (fin false m e)) in
      let is : units_of f m e ≡ d.0 * 2 ^ d.1 = pattern_units_lem f m e t ∙ d.3 in
      rw is (under (hid f) v h d.0 d.1 full d.2 (subst (λ (y : ℕ). y < v * 2 ^ h) is g))
