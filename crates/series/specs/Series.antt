-- The total-degree series at one sign of sigma, in the operations of a format f, and the answers of its public
-- functions. The pair is two of it: this file shares nothing between the signs.
use Rattle.std.specs.Prelude.{ℕ, zero, suc, ◌+◌, cond, ltb, Float}
use Rattle.std.specs.Float.{Format, binary32, binary64}
use Rattle.std.specs.Float.Ieee.{neg}
use Rattle.ieee.specs.Numbers.{f0, f1}
use Rattle.ieee.specs.Infix.{operations}
use Rattle.linalg.specs.Answer.{Answer, answers, refuses, unless_below_zero}
use Rattle.tables.specs.Tables.{recip_fact}
use Rattle.series.specs.Floats.{Level}
use Rattle.series.specs.Floats.{Sums}
use Rattle.series.specs.Floats.{Sim3Coeffs}
use Rattle.series.specs.Floats.{Coeffs4}
use Rattle.series.specs.Floats.{Signs}

-- ---- level 0 of the recurrence: level j has p = σʲ, ξ, ζ and the z-derivatives ξ', ζ'
unfoldable pub series_first : Level
series_first = record { p = f1; xi = f0; zeta = f0; dxi = f0; dzeta = f0 }

-- the terms of w0 in the closed arm at small sigma; v0 has one more
abbrev pub w0_terms : Format → ℕ
w0_terms binary32 = 8
w0_terms binary64 = 15

-- the fewest terms that an arm of the coefficients takes
abbrev pub fewest_terms : Format → ℕ
fewest_terms binary32 = 4
fewest_terms binary64 = 6

-- v alone: the full one's v and χΔ
unfoldable pub coeffs4 : Sim3Coeffs → Coeffs4
coeffs4 c = record { v0 = c.v0; v1 = c.v1; v2 = c.v2; chi_delta = c.chi_delta }

module _ (f : Format) where
  infixl 60 ◌⊕◌ ◌⊖◌
  infixl 70 ◌⊗◌
  open operations f use {◌⊕◌, ◌⊖◌, ◌⊗◌}

  -- the next level, each number from the old ones
  unfoldable pub series_next : Float → Float → Level → Level
  series_next sigma z l =
      record {
        p = l.p ⊗ sigma;
        xi = sigma ⊗ l.xi ⊕ l.p ⊖ z ⊗ l.zeta;
        zeta = sigma ⊗ l.zeta ⊕ l.xi;
        dxi = sigma ⊗ l.dxi ⊖ l.zeta ⊖ z ⊗ l.dzeta;
        dzeta = sigma ⊗ l.dzeta ⊕ l.dxi;
      }

  unfoldable pub series_level : Float → Float → ℕ → Level
  series_level sigma z zero = series_first
  series_level sigma z (suc j) = series_next sigma z (series_level sigma z j)

  -- ---- the sums: level j adds ξ and ζ over (j + 1)! to v, over (j + 2)! to w, and ξ' and ζ' over (j + 1)! to dv
  unfoldable pub level_terms : Level → Float → Float → Sums
  level_terms l r1 r2 =
      record {
        v1 = l.xi ⊗ r1;
        v2 = l.zeta ⊗ r1;
        w1 = l.xi ⊗ r2;
        w2 = l.zeta ⊗ r2;
        dv1 = l.dxi ⊗ r1;
        dv2 =
            l.dzeta ⊗ r1;
      }

  abbrev pub series_terms : Float → Float → ℕ → Sums
  series_terms sigma z j = level_terms (series_level sigma z j) (recip_fact f (j + 1)) (recip_fact f (j + 2))

  -- t 0 + t 1 + .. + t (n - 1), from +0 and from the left
  unfoldable pub series_sum : (ℕ → Float) → ℕ → Float
  series_sum t zero = f0
  series_sum t (suc n) = series_sum t n ⊕ t n

  -- each sum to its last level: k, k + 1, k, k + 1, k + 2, k + 3
  unfoldable pub series_sums : Float → Float → ℕ → Sums
  series_sums sigma z k =
      record {
        v1 = series_sum (λ j. (series_terms sigma z j).v1) (k + 1);
        v2 = series_sum (λ j. (series_terms sigma z j).v2) (k + 2);
        w1 = series_sum (λ j. (series_terms sigma z j).w1) (k + 1);
        w2 = series_sum (λ j. (series_terms sigma z j).w2) (k + 2);
        dv1 = series_sum (λ j. (series_terms sigma z j).dv1) (k + 3);
        dv2 = series_sum (λ j. (series_terms sigma z j).dv2) (k + 4);
      }

  -- ---- Horner's sum of σⁱ / (i + l)! over i < terms, from the last term: 1 / l! + σ (the sum for l + 1), and +0 for
  -- none
  unfoldable pub g_series : Float → ℕ → ℕ → Float
  g_series sigma l zero = f0
  g_series sigma l (suc n) = recip_fact f l ⊕ sigma ⊗ g_series sigma (suc l) n

  unfoldable pub g_series_pair : Float → ℕ → ℕ → Signs Float
  g_series_pair sigma l terms = record { pos = g_series sigma l terms; neg = g_series (neg sigma) l terms }

  -- ---- the coefficients
  -- Δ
  unfoldable pub coeffs_delta : Float → Float → Float
  coeffs_delta sigma z = sigma ⊗ sigma ⊕ z

  -- χΔ
  unfoldable pub series_chi : Float → Float → Float → Float → Float
  series_chi sigma z v0 v2 = (v0 ⊖ z ⊗ v2) ⊗ coeffs_delta sigma z

  unfoldable pub series_coeffs : Float → Float → Float → Float → Sums → Sim3Coeffs
  series_coeffs sigma z v0 w0 s =
      record {
        v0 = v0;
        v1 = s.v1;
        v2 = s.v2;
        w0 = w0;
        w1 = s.w1;
        w2 = s.w2;
        dv1 = s.dv1;
        dv2 = s.dv2;
        chi_delta = series_chi sigma z v0 s.v2;
      }

  unfoldable pub series_full : Float → Float → ℕ → Sim3Coeffs
  series_full sigma z k = series_coeffs sigma z (g_series sigma 1 k) (g_series sigma 2 k) (series_sums sigma z k)

  unfoldable pub series_v : Float → Float → ℕ → Coeffs4
  series_v sigma z k = coeffs4 (series_full sigma z k)

-- ---- the most terms: the full series reads the reciprocals to k + 4, v alone those to k + 2, and the table ends at 32
abbrev pub series_most : ℕ
series_most = 28

abbrev pub series_v_most : ℕ
series_v_most = 30

-- ---- the answers: refusal 1 for z below zero, then refusal 4 for k above the most terms
abbrev pub terms_guard : {A : Type 0} → ℕ → ℕ → A → Answer A
terms_guard most k a = cond (ltb most k) (refuses 4) (answers a)

abbrev pub series_guard : {A : Type 0} → ℕ → Float → ℕ → A → Answer A
series_guard most z k a = unless_below_zero z (terms_guard most k a)

unfoldable pub series_answer : Format → Float → Float → ℕ → Answer Sim3Coeffs
series_answer f sigma z k = series_guard series_most z k (series_full f sigma z k)

unfoldable pub series_v_answer : Format → Float → Float → ℕ → Answer Coeffs4
series_v_answer f sigma z k = series_guard series_v_most z k (series_v f sigma z k)
