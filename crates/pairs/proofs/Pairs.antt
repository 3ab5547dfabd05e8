-- The pair theorem: one recurrence at sigma with two sets of sums computes the series at sigma and the series at
-- -sigma, each to the bit. The terms at -sigma are sigma's, negated where they are odd, up to the sign of a zero
-- (Mirror), and a sum that is not -0 does not depend on that sign (Sum). Assumes nothing.
use mathlib.Core.Path.{◌≡◌, refl, sym, ap, ◌∙◌}
use Prim.Native.Nat.{ℕ, zero, suc, ◌+◌, ◌%◌}
use native.Mathlib.Omega.{arith}
use native.Mathlib.Numerals.{add-one}
use mathlib.Core.Bool.{Bool, true, false, not, not-not}
use lib.Dec.{T}
use borrow.Author.Tests.{eq-eqb, ne_eqb}
use lib.Ieee.{Float, Format, neg, add, sub, fits}
use lib.Ieee.Fits.{neg-fits, mul-fits}
use Rattle.ieee.specs.Signs.{not_minus_zero}
use Rattle.ieee.proofs.Sign.{mul-neg-neg}
use Rattle.ieee.proofs.Clear.{add-is-same}
use Rattle.tables.specs.Tables.{recip_fact}
use Rattle.series.specs.Series.{series_level, level_terms, series_terms, series_sum, series_sums, coeffs_delta}
use Rattle.series.specs.Series.{series_chi, series_coeffs, series_full}
use Rattle.series.specs.Recurrence.{sums_none, sums_gain, tail_terms}
use Rattle.pairs.specs.Private.{odd, gain_flip, sums_gain_mirrored}
use Rattle.pairs.specs.Private.{sums_last_mirrored, pair_step, pair_steps, pair_sums, pair_full}
use Rattle.series.specs.Floats.{Sums}
use Rattle.pairs.proofs.Mirror.{Turned, mul-turned_l, odd_suc, level_mirror}
use Rattle.series.proofs.Sum.{sum_fits, sum_clear, sums_below, tail-is}
use Rattle.series.proofs.Solo.{last_is}
use Rattle.pairs.proofs.Minus.{steps_twice}

-- ---- the code's turns: an even level, and an even one with the odd one after it
pub even_more :
    (f : Format) (sigma z : Float) (j : ℕ) → j % 2 ≡ 0 → pair_steps f sigma z (j + 1)
    ≡ pair_step f sigma z (recip_fact f (j + 1)) (recip_fact f (j + 2)) false (pair_steps f sigma z j)
unfolding pair_steps
even_more f sigma z j h =
    ap (pair_steps f sigma z) (add-one j)
    ∙ ap (λ b. pair_step f sigma z (recip_fact f (j + 1)) (recip_fact f (j + 2)) b (pair_steps f sigma z j))
    (ne_eqb (j % 2) 1 (λ e. omega arith))

pub two_more :
    (f : Format) (sigma z : Float) (j : ℕ) → j % 2 ≡ 0 →
    pair_steps f sigma z (j + 2) ≡ pair_step f sigma z (recip_fact f (j + 2)) (recip_fact f (j + 3)) true
    (pair_step f sigma z (recip_fact f (j + 1)) (recip_fact f (j + 2)) false (pair_steps f sigma z j))
unfolding pair_steps
two_more f sigma z j h =
    let a : j + 2 ≡ suc (j + 1) = omega arith in
    let b : j + 1 + 1 ≡ j + 2 = omega arith in
    let c : j + 1 + 2 ≡ j + 3 = omega arith in
    ap (pair_steps f sigma z) a ∙ rw (b, c, eq-eqb ((j + 1) % 2) 1 (omega arith))
    (ap (pair_step f sigma z (recip_fact f (j + 2)) (recip_fact f (j + 3)) true) (even_more f sigma z j h))

-- ---- one sum at -sigma: adding or subtracting sigma's term x is adding -sigma's term y
gain_is : (f : Format) (b : Bool) (a x y : Float) → T (fits f a) → T (not_minus_zero a) → T (fits f x) → T (fits f y) →
    Turned b x y → gain_flip f b a x ≡ add f a y
unfolding sub
gain_is f true a x y p c q r h = add-is-same f a a (neg x) y p p (neg-fits f x q) r c c refl (sym h)
gain_is f false a x y p c q r h = add-is-same f a a x y p p q r c c refl (sym h)

-- g is the sum's part of a level's terms
sum_gain :
    (f : Format) (sigma z : Float) (g : Sums → Float) (n m : ℕ) (c b : Bool) → m ≡ suc n → c ≡ b →
    ((x : Float) (j : ℕ) → T (fits f (g (series_terms f x z j)))) →
    Turned b (g (series_terms f sigma z n)) (g (series_terms f (neg sigma) z n)) →
    gain_flip f c (series_sum f (λ j. g (series_terms f (neg sigma) z j)) n) (g (series_terms f sigma z n))
    ≡ series_sum f (λ j. g (series_terms f (neg sigma) z j)) m
unfolding series_sum
sum_gain f sigma z g n m c b e p q h =
    let t : ℕ → Float = λ j. g (series_terms f (neg sigma) z j) in
    rw (e, p) (gain_is f b _ _ _ (sum_fits f t n) (sum_clear f t n (q (neg sigma))) (q sigma n) (q (neg sigma) n) h)

-- each of the six, from level n on: v1, w1 and dv1 have the opposite parity of n, v2, w2 and dv2 the same
module _ (f : Format) (sigma z : Float) (n m : ℕ) (c : Bool) (e : m ≡ suc n) where
  v1_gain : c ≡ not (odd n) → gain_flip f c (sums_below f (neg sigma) z n).v1 (series_terms f sigma z n).v1
      ≡ (sums_below f (neg sigma) z m).v1
  unfolding level_terms
  v1_gain p =
      sum_gain f sigma z (λ t. t.v1) n m c (not (odd n)) e p (λ x j. mul-fits f _ _)
      (mul-turned_l f (not (odd n)) _ _ _ (level_mirror f sigma z n).xi)

  v2_gain : c ≡ odd n → gain_flip f c (sums_below f (neg sigma) z n).v2 (series_terms f sigma z n).v2
      ≡ (sums_below f (neg sigma) z m).v2
  unfolding level_terms
  v2_gain p =
      sum_gain f sigma z (λ t. t.v2) n m c (odd n) e p (λ x j. mul-fits f _ _)
      (mul-turned_l f (odd n) _ _ _ (level_mirror f sigma z n).zeta)

  w1_gain : c ≡ not (odd n) → gain_flip f c (sums_below f (neg sigma) z n).w1 (series_terms f sigma z n).w1
      ≡ (sums_below f (neg sigma) z m).w1
  unfolding level_terms
  w1_gain p =
      sum_gain f sigma z (λ t. t.w1) n m c (not (odd n)) e p (λ x j. mul-fits f _ _)
      (mul-turned_l f (not (odd n)) _ _ _ (level_mirror f sigma z n).xi)

  w2_gain : c ≡ odd n → gain_flip f c (sums_below f (neg sigma) z n).w2 (series_terms f sigma z n).w2
      ≡ (sums_below f (neg sigma) z m).w2
  unfolding level_terms
  w2_gain p =
      sum_gain f sigma z (λ t. t.w2) n m c (odd n) e p (λ x j. mul-fits f _ _)
      (mul-turned_l f (odd n) _ _ _ (level_mirror f sigma z n).zeta)

  dv1_gain : c ≡ not (odd n) → gain_flip f c (sums_below f (neg sigma) z n).dv1 (series_terms f sigma z n).dv1
      ≡ (sums_below f (neg sigma) z m).dv1
  unfolding level_terms
  dv1_gain p =
      sum_gain f sigma z (λ t. t.dv1) n m c (not (odd n)) e p (λ x j. mul-fits f _ _)
      (mul-turned_l f (not (odd n)) _ _ _ (level_mirror f sigma z n).dxi)

  dv2_gain : c ≡ odd n → gain_flip f c (sums_below f (neg sigma) z n).dv2 (series_terms f sigma z n).dv2
      ≡ (sums_below f (neg sigma) z m).dv2
  unfolding level_terms
  dv2_gain p =
      sum_gain f sigma z (λ t. t.dv2) n m c (odd n) e p (λ x j. mul-fits f _ _)
      (mul-turned_l f (odd n) _ _ _ (level_mirror f sigma z n).dzeta)

-- ---- the loop: after n turns it holds level n at sigma, and the sums over the levels below n at sigma and at -sigma
gained : (f : Format) (sigma z : Float) (n : ℕ) → sums_gain_mirrored f (odd n) (sums_below f (neg sigma) z n)
    (series_terms f sigma z n) ≡ sums_below f (neg sigma) z (suc n)
unfolding sums_gain_mirrored
gained f sigma z n =
    λ i. record {
      v1 = v1_gain f sigma z n (suc n) (not (odd n)) refl refl i;
      v2 = v2_gain f sigma z n (suc n) (odd n) refl refl i;
      w1 = w1_gain f sigma z n (suc n) (not (odd n)) refl refl i;
      w2 = w2_gain f sigma z n (suc n) (odd n) refl refl i;
      dv1 = dv1_gain f sigma z n (suc n) (not (odd n)) refl refl i;
      dv2 = dv2_gain f sigma z n (suc n) (odd n) refl refl i;
    }

pub turns_are : (f : Format) (sigma z : Float) (n : ℕ) → pair_steps f sigma z n
    ≡ record { level = series_level f sigma z n; pos = sums_below f sigma z n; neg = sums_below f (neg sigma) z n }
unfolding pair_steps pair_step sums_none sums_gain series_level series_sum
turns_are f sigma z zero = refl
turns_are f sigma z (suc n) =
    ap (pair_step f sigma z (recip_fact f (n + 1)) (recip_fact f (n + 2)) (odd n)) (turns_are f sigma z n)
    ∙ (λ i. record {
      level = series_level f sigma z (suc n);
      pos = sums_below f sigma z (suc n);
      neg =
          gained f sigma z n i;
    })

-- ---- the terms after level k: the parity changes from level to level
last_mirrored-is :
    (f : Format) (sigma z : Float) (k : ℕ) →
    sums_last_mirrored f (odd (k + 1)) (sums_below f (neg sigma) z (k + 1))
    (tail_terms f sigma z (series_level f sigma z (k + 1)) (recip_fact f (k + 2)) (recip_fact f (k + 3))
    (recip_fact f (k + 4)))
    ≡ series_sums f (neg sigma) z k
unfolding sums_last_mirrored series_sums
last_mirrored-is f sigma z k =
    let b = odd (k + 1) in
    let e1 : k + 2 ≡ suc (k + 1) = omega arith in
    let e2 : k + 3 ≡ suc (k + 2) = omega arith in
    let e3 : k + 4 ≡ suc (k + 3) = omega arith in
    let p2 : not b ≡ odd (k + 2) = rw e1 (sym (odd_suc (k + 1))) in
    let p3 : b ≡ not (odd (k + 2)) = sym (not-not b) ∙ ap not p2 in
    let p4 : b ≡ odd (k + 3) = rw e2 (p3 ∙ sym (odd_suc (k + 2))) in
    rw (tail-is f sigma z k)
    (λ i. record {
      v1 = (sums_below f (neg sigma) z (k + 1)).v1;
      v2 = v2_gain f sigma z (k + 1) (k + 2) b e1 refl i;
      w1 = (sums_below f (neg sigma) z (k + 1)).w1;
      w2 = w2_gain f sigma z (k + 1) (k + 2) b e1 refl i;
      dv1 =
          (ap (λ x. gain_flip f b x (series_terms f sigma z (k + 2)).dv1)
          (dv1_gain f sigma z (k + 1) (k + 2) (not b) e1 refl) ∙ dv1_gain f sigma z (k + 2) (k + 3) b e2 p3) i;
      dv2 =
          (ap (λ x. gain_flip f b (gain_flip f (not b) x (series_terms f sigma z (k + 2)).dv2)
          (series_terms f sigma z (k + 3)).dv2) (dv2_gain f sigma z (k + 1) (k + 2) b e1 refl)
          ∙ ap (λ x. gain_flip f b x (series_terms f sigma z (k + 3)).dv2)
          (dv2_gain f sigma z (k + 2) (k + 3) (not b) e2 p2)
          ∙ dv2_gain f sigma z (k + 3) (k + 4) b e3 p4) i;
    })

-- ---- the theorem, for every format and without a premise
-- chi times delta is even in sigma except for v0 and v2
coeffs_even : (f : Format) (sigma z v0 w0 : Float) (s : Sums) →
    series_coeffs f (neg sigma) z v0 w0 s ≡ series_coeffs f sigma z v0 w0 s
unfolding series_coeffs series_chi coeffs_delta
coeffs_even f sigma z v0 w0 s = rw (mul-neg-neg f sigma sigma) refl

pub pair_is : (f : Format) (sigma z : Float) (k : ℕ) → pair_full f sigma z k
    ≡ record { pos = series_full f sigma z k; neg = series_full f (neg sigma) z k }
unfolding pair_full pair_sums series_full
pair_is f sigma z k = simp (turns_are, last_is, last_mirrored-is, coeffs_even)

-- a loop over two levels at a time
pub ruleset two_levels = (steps_twice, two_more)
