-- The format's rounding of a / q * 2 ^ j / 2 ^ 589, where a / q has 53 digits before the point: the whole number
-- nearest to a / q, times 2 ^ j / 2 ^ 589. Assumes nothing.
use mathlib.Core.Path.{◌≡◌, refl, sym, ap, ◌∙◌, subst}
use Prim.Native.Nat.{ℕ, suc, ◌+◌, ◌-◌, ◌*◌, ◌/◌, ◌%◌, ◌^◌, ◌≤◌, ◌<◌, compare, Ordering}
use native.Mathlib.Nat.{mul-pos, mul-le-mul_right, mul-lt-mul_of_pos_right, le-div_iff_mul-le, div-lt_iff_lt-mul}
use native.Mathlib.Omega.{arith}
use mathlib.Core.Bool.{false, not}
use lib.Dec.{T, is_le, compare_is_eq, eqb, leb→le, nleb→lt, eqb→eq, eqb_refl}
use lib.Arith.{lt_of_le-ne, digits_div, digits_mod}
use lib.Pow.{pow-add, pow_pos}
use lib.Ieee.{binary64, size, nearest, units, round}
use lib.Ieee.Fits.{core, round_is}
use lib.Ieee.Nearest.{closest, closest_same}
use Rattle.root.proofs.Assembly.{size_is}

-- ---- a fraction to the nearest whole number
abbrev Compared : Ordering → ℕ → ℕ → Type 0
Compared Ordering.lt a b = a < b
Compared Ordering.eq a b = a ≡ b
Compared Ordering.gt a b = b < a

compared : (a b : ℕ) → Compared (compare a b) a b
compared a b =
    go (compare a b) (leb→le a b) (nleb→lt a b) (eqb→eq a b)
    (λ (e : a ≡ b). subst (λ (x : ℕ). T (eqb a x)) e (eqb_refl a))
  where
    go : (o : Ordering) → (T (is_le o) → a ≤ b) → (T (not (is_le o)) → b < a) → (T (compare_is_eq o) → a ≡ b) →
        (a ≡ b → T (compare_is_eq o)) → Compared o a b
    go Ordering.lt h k e n = lt_of_le-ne (h tt) n
    go Ordering.eq h k e n = e tt
    go Ordering.gt h k e n = k tt

stays : (w a b : ℕ) (o : Ordering) → Compared o a b → a < b → nearest w o ≡ w
stays w a b Ordering.lt c h = refl
stays w a b Ordering.eq c h = absurd (omega (arith, c))
stays w a b Ordering.gt c h = absurd (omega (arith, c))

moves : (w a b : ℕ) (o : Ordering) → Compared o a b → b < a → nearest w o ≡ suc w
moves w a b Ordering.lt c h = absurd (omega (arith, c))
moves w a b Ordering.eq c h = absurd (omega (arith, c))
moves w a b Ordering.gt c h = refl

module _ (a q r : ℕ) (lo : r * q ≤ a) (hi : a < (r + 1) * q) where
  split : a ≡ r * q + (a - r * q)
  split = omega arith

  whole : a / q ≡ r
  whole = ap (λ (x : ℕ). x / q) split ∙ digits_div r (omega arith)

  left : a % q ≡ a - r * q
  left = ap (λ (x : ℕ). x % q) split ∙ digits_mod r (omega arith)

  pub closest_down : 2 * a < (2 * r + 1) * q → closest a q ≡ r
  closest_down h =
      rw (whole, left) (stays r ((a - r * q) * 2) q (compare ((a - r * q) * 2) q) (compared ((a - r * q) * 2) q)
      (omega arith))

  pub closest_up : (2 * r + 1) * q < 2 * a → closest a q ≡ r + 1
  closest_up h =
      rw (whole, left) (moves r ((a - r * q) * 2) q (compare ((a - r * q) * 2) q) (compared ((a - r * q) * 2) q)
      (omega arith) ∙ omega arith)

-- ---- the digits that are dropped are those after the point
scale-le : (a q h P A B : ℕ) → h * q ≤ a → h * (P * A) * (q * B) ≤ a * P * (A * B)
scale-le a q h P A B k = omega (arith, mul-le-mul_right (P * A * B) k)

scale-lt : (a q h P A B : ℕ) → 0 < P * A * B → a < h * q → a * P * (A * B) < h * (P * A) * (q * B)
scale-lt a q h P A B p k = omega (arith, mul-lt-mul_of_pos_right k p)

scale-eq : (a q P A B : ℕ) → a * P * (A * B) * q ≡ a * (q * B * (P * A))
scale-eq a q P A B = omega arith

module _ (a q j : ℕ) (Q : 0 < q) (lo : 2 ^ 52 * q ≤ a) (hi : a < 2 ^ 53 * q) where
  den_pos : 0 < q * 2 ^ 589
  den_pos = mul-pos Q (pow_pos 589)

  power : (h : ℕ) → 2 ^ h * (2 ^ j * 2 ^ 485) ≡ 2 ^ (h + (j + 485))
  power h = ap (λ (x : ℕ). 2 ^ h * x) (sym (pow-add 2 j 485)) ∙ sym (pow-add 2 h (j + 485))

  over : 2 ^ (52 + (j + 485)) ≤ a * 2 ^ j * 2 ^ 1074 / (q * 2 ^ 589)
  over =
      (le-div_iff_mul-le den_pos).1
      (subst (λ (x : ℕ). x * (q * 2 ^ 589) ≤ a * 2 ^ j * 2 ^ 1074) (power 52)
      (scale-le a q (2 ^ 52) (2 ^ j) (2 ^ 485) (2 ^ 589) lo))

  under : a * 2 ^ j * 2 ^ 1074 / (q * 2 ^ 589) < 2 ^ (53 + (j + 485))
  under =
      let some : 0 < 2 ^ j * 2 ^ 485 * 2 ^ 589 = mul-pos (mul-pos (pow_pos j) (pow_pos 485)) (pow_pos 589) in
      (div-lt_iff_lt-mul den_pos).1
      (subst (λ (x : ℕ). a * 2 ^ j * 2 ^ 1074 < x * (q * 2 ^ 589)) (power 53)
      (scale-lt a q (2 ^ 53) (2 ^ j) (2 ^ 485) (2 ^ 589) some hi))

  dropped : size (a * 2 ^ j * 2 ^ 1074 / (q * 2 ^ 589)) - 53 ≡ j + 485
  dropped =
      let n = a * 2 ^ j * 2 ^ 1074 / (q * 2 ^ 589) in
      let e : 53 + (j + 485) ≡ suc (52 + (j + 485)) = omega arith in
      rw (size_is n (52 + (j + 485)) over (subst (λ (x : ℕ). n < 2 ^ x) e under)) (omega arith)

  pub round_whole : round binary64 false (a * 2 ^ j) (q * 2 ^ 589) ≡ units binary64 false (closest a q) (j + 485)
  round_whole =
      round_is binary64 false (a * 2 ^ j) (q * 2 ^ 589)
      ∙ ap (λ (k : ℕ). core binary64 false (a * 2 ^ j * 2 ^ 1074) (q * 2 ^ 589) k) dropped
      ∙ ap (λ (x : ℕ). units binary64 false x (j + 485))
      (closest_same (a * 2 ^ j * 2 ^ 1074) (q * 2 ^ 589 * 2 ^ (j + 485)) a q (mul-pos den_pos (pow_pos (j + 485))) Q
      (rw (pow-add 2 j 485) (scale-eq a q (2 ^ j) (2 ^ 485) (2 ^ 589))))
