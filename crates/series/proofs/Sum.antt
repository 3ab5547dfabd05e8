-- The series' sums start from +0, so they fit the format and are never -0; and one more level, or the terms after level
-- k, extend them. Assumes nothing.
use mathlib.Core.Path.{◌≡◌, refl}
use Prim.Native.Nat.{ℕ, zero, suc, ◌+◌}
use native.Mathlib.Omega.{arith}
use native.Mathlib.Numerals.{add-one}
use lib.Dec.{T}
use lib.Ieee.{Float, Format, add, fits}
use lib.Ieee.Fits.{add-fits}
use Rattle.ieee.specs.Signs.{not_minus_zero}
use Rattle.ieee.proofs.Clear.{add_clear}
use Rattle.tables.specs.Tables.{recip_fact}
use Rattle.series.specs.Series.{series_next, series_level, level_terms, series_terms, series_sum}
use Rattle.series.specs.Recurrence.{tail_terms}
use Rattle.series.specs.Floats.{Sums}

pub sum_fits : (f : Format) (t : ℕ → Float) (n : ℕ) → T (fits f (series_sum f t n))
unfolding series_sum
sum_fits f t zero = unfold fits in tt
sum_fits f t (suc n) = add-fits f (series_sum f t n) (t n)

pub sum_clear : (f : Format) (t : ℕ → Float) (n : ℕ) → ((j : ℕ) → T (fits f (t j))) →
    T (not_minus_zero (series_sum f t n))
unfolding series_sum
sum_clear f t zero h = tt
sum_clear f t (suc n) h = add_clear f (series_sum f t n) (t n) (sum_fits f t n) (h n) (sum_clear f t n h)

-- the six sums over the levels below n
abbrev pub sums_below : Format → Float → Float → ℕ → Sums
sums_below f sigma z n =
    record {
      v1 = series_sum f (λ j. (series_terms f sigma z j).v1) n;
      v2 = series_sum f (λ j. (series_terms f sigma z j).v2) n;
      w1 = series_sum f (λ j. (series_terms f sigma z j).w1) n;
      w2 = series_sum f (λ j. (series_terms f sigma z j).w2) n;
      dv1 = series_sum f (λ j. (series_terms f sigma z j).dv1) n;
      dv2 = series_sum f (λ j. (series_terms f sigma z j).dv2) n;
    }

-- ---- the turns after level k
-- one more term
pub sum_more : (f : Format) (t : ℕ → Float) (n m : ℕ) → m ≡ n + 1 → add f (series_sum f t n) (t n) ≡ series_sum f t m
unfolding series_sum
sum_more f t n m e = rw (e, add-one n) refl

-- one more level
pub level-after : (f : Format) (sigma z : Float) (n m : ℕ) → n + 1 ≡ m →
    series_level f sigma z m ≡ series_next f sigma z (series_level f sigma z n)
unfolding series_level
level-after f sigma z n m e = rw (← e, add-one n) refl

-- the terms that `tail_terms` has from level k + 1 are those of the levels k + 1, k + 2 and k + 3
pub tail-is :
    (f : Format) (sigma z : Float) (k : ℕ) →
    tail_terms f sigma z (series_level f sigma z (k + 1)) (recip_fact f (k + 2)) (recip_fact f (k + 3))
    (recip_fact f (k + 4))
    ≡ record {
      v2 = (series_terms f sigma z (k + 1)).v2;
      w2 = (series_terms f sigma z (k + 1)).w2;
      dv1 = (series_terms f sigma z (k + 1)).dv1;
      dv1_next = (series_terms f sigma z (k + 2)).dv1;
      dv2 = (series_terms f sigma z (k + 1)).dv2;
      dv2_next = (series_terms f sigma z (k + 2)).dv2;
      dv2_last = (series_terms f sigma z (k + 3)).dv2;
    }
unfolding tail_terms level_terms
tail-is f sigma z k =
    let a : k + 1 + 1 ≡ k + 2 = omega arith in
    let b : k + 1 + 2 ≡ k + 3 = omega arith in
    let c : k + 2 + 1 ≡ k + 3 = omega arith in
    let d : k + 3 + 1 ≡ k + 4 = omega arith in
    rw (a, b, c, d, level-after f sigma z (k + 2) (k + 3) c, level-after f sigma z (k + 1) (k + 2) a) refl
