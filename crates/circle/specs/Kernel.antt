-- The circle functions at a squared angle z; the caller passes its root, the sine sh and cosine ch of half the root and
-- the sine s of the root.
use Rattle.std.specs.Prelude.{List, [], ◌∷◌, Bool, cond, ℕ, take, Float}
use Rattle.std.specs.Float.{Format}
use Rattle.std.specs.Float.Ieee.{lt}
use Rattle.ieee.specs.Numbers.{f0, f1, f2, half}
use Rattle.ieee.specs.Infix.{operations}
use Rattle.linalg.specs.Answer.{Answer, answers, unless_below_zero}
use Rattle.tables.specs.Tables.{Row, cos_half_row, k_row, a_row, b_row, d_row, row_table}
use Rattle.circle.specs.Limits.{row_terms, row_limit, short_terms, exp_short_limit, five_short_limit}
use Rattle.circle.specs.Floats.{ExpCoeffs}
use Rattle.circle.specs.Floats.{SincABD}
use Rattle.circle.specs.Floats.{SincA}

module _ (f : Format) where
  infixl 60 ◌⊕◌ ◌⊖◌
  infixl 70 ◌⊗◌ ◌⊘◌
  open operations f use {◌⊕◌, ◌⊖◌, ◌⊗◌, ◌⊘◌}

  -- ---- series
  -- t₀ ⊕ z ⊗ (t₁ ⊕ z ⊗ ..); the innermost sum is the last term itself, and not that term plus z ⊗ 0
  unfoldable pub horner_sum : Float → List Float → Float
  horner_sum z [] = f0
  horner_sum z (t ∷ []) = t
  horner_sum z (t ∷ u ∷ ts) = t ⊕ z ⊗ horner_sum z (u ∷ ts)

  -- the first n terms of a row
  unfoldable pub row_series : Row → ℕ → Float → Float
  row_series row n z = horner_sum z (take n (row_table f row))

  unfoldable pub row_short : Row → Float → Float
  row_short row z = row_series row (short_terms f) z

  unfoldable pub row_whole : Row → Float → Float
  row_whole row z = row_series row (row_terms f row) z

  -- ---- exact forms; k is sh ⊘ root, and cosine-half is ch
  unfoldable pub exact_a : Float → Float → Float
  exact_a z sh = f2 ⊗ sh ⊗ sh ⊘ z

  unfoldable pub exact_b : Float → Float → Float → Float
  exact_b z root s = (f1 ⊖ s ⊘ root) ⊘ z

  unfoldable pub exact_d : Float → Float → Float
  exact_d z a = (half ⊖ a) ⊘ z

  -- ---- a member of a group
  -- by its limit: the whole series below it, else the exact form, which a NaN takes too
  unfoldable pub row_own : Row → Float → Float → Float
  row_own row z exact = cond (lt z (row_limit f row)) (row_whole row z) exact

  -- the short series where the group takes it, else by its limit
  unfoldable pub row_member : Bool → Row → Float → Float → Float
  row_member short row z exact = cond short (row_short row z) (row_own row z exact)

  -- ---- the groups: all members are on the short series together, below the group's limit
  unfoldable pub circle_exp : Float → Float → Float → Float → ExpCoeffs
  circle_exp z root sh ch =
      let short = lt z (exp_short_limit f) in
      record { k = row_member short k_row z (sh ⊘ root); cos_half = row_member short cos_half_row z ch }

  -- sin x / x from k and cosine-half
  unfoldable pub sinc_from : Float → Float → Float
  sinc_from k ch = f2 ⊗ k ⊗ ch

  unfoldable pub circle_sinc : Float → Float → Float → Float → Float
  circle_sinc z root sh ch =
      let c = circle_exp z root sh ch in
      sinc_from c.k c.cos_half

  unfoldable pub circle_sinc_abd : Float → Float → Float → Float → Float → SincABD
  circle_sinc_abd z root sh ch s =
      let short = lt z (five_short_limit f) in
      let a = exact_a z sh in
      record {
        sinc = sinc_from (row_member short k_row z (sh ⊘ root)) (row_member short cos_half_row z ch);
        a = row_member short a_row z a;
        b = row_member short b_row z (exact_b z root s);
        d = row_member short d_row z (exact_d z a);
      }

  -- sinc and a of these, which do not read s
  unfoldable pub circle_sinc_a : Float → Float → Float → Float → SincA
  circle_sinc_a z root sh ch =
      let c = circle_sinc_abd z root sh ch f0 in
      record { sinc = c.sinc; a = c.a }

-- ---- the public functions
abbrev pub not_below_zero : {A : Type 0} → Float → A → Answer A
not_below_zero z x = unless_below_zero z (answers x)

unfoldable pub circle_exp_answer : Format → Float → Float → Float → Float → Answer ExpCoeffs
circle_exp_answer f z root sh ch = not_below_zero z (circle_exp f z root sh ch)

unfoldable pub circle_sinc_answer : Format → Float → Float → Float → Float → Answer Float
circle_sinc_answer f z root sh ch = not_below_zero z (circle_sinc f z root sh ch)

unfoldable pub circle_sinc_abd_answer : Format → Float → Float → Float → Float → Float → Answer SincABD
circle_sinc_abd_answer f z root sh ch s = not_below_zero z (circle_sinc_abd f z root sh ch s)

unfoldable pub circle_sinc_a_answer : Format → Float → Float → Float → Float → Answer SincA
circle_sinc_a_answer f z root sh ch = not_below_zero z (circle_sinc_a f z root sh ch)
