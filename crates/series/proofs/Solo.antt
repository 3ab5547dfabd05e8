-- The loops of one sign are the series: after n turns they hold level n and the sums over the levels below n. Assumes
-- nothing.
use mathlib.Core.Path.{◌≡◌, refl, ap}
use Prim.Native.Nat.{ℕ, zero, suc, ◌+◌}
use native.Mathlib.Omega.{arith}
use native.Mathlib.Numerals.{add-one}
use lib.Ieee.{Float, Format, add, mul}
use Rattle.tables.specs.Tables.{recip_fact}
use Rattle.series.specs.Series.{series_level, level_terms, series_terms, series_sum, series_sums}
use Rattle.series.specs.Recurrence.{sums_none, sums_gain, tail_terms, sums_last}
use Rattle.series.specs.Private.{solo_step, solo_steps}
use Rattle.series.specs.Floats.{SeriesState}
use Rattle.series.proofs.Sum.{sums_below, sum_more, tail-is}

-- ---- a turn of the loop, at the code's j + 1
pub solo_more : (f : Format) (sigma z : Float) (j : ℕ) → solo_steps f sigma z (j + 1)
    ≡ solo_step f sigma z (recip_fact f (j + 1)) (recip_fact f (j + 2)) (solo_steps f sigma z j)
unfolding solo_steps
solo_more f sigma z j = ap (solo_steps f sigma z) (add-one j)

-- ---- all six sums
pub solo_are : (f : Format) (sigma z : Float) (n : ℕ) → solo_steps f sigma z n
    ≡ record { level = series_level f sigma z n; sums = sums_below f sigma z n }
unfolding solo_steps solo_step sums_none sums_gain series_level series_sum
solo_are f sigma z zero = refl
solo_are f sigma z (suc n) =
    ap (solo_step f sigma z (recip_fact f (n + 1)) (recip_fact f (n + 2))) (solo_are f sigma z n)

-- with the terms after level k they are the series' sums
pub last_is :
    (f : Format) (sigma z : Float) (k : ℕ) →
    sums_last f (sums_below f sigma z (k + 1)) (tail_terms f sigma z (series_level f sigma z (k + 1))
    (recip_fact f (k + 2)) (recip_fact f (k + 3)) (recip_fact f (k + 4))) ≡ series_sums f sigma z k
unfolding sums_last series_sums
last_is f sigma z k =
    let b : k + 2 ≡ k + 1 + 1 = omega arith in
    let c : k + 3 ≡ k + 2 + 1 = omega arith in
    let d : k + 4 ≡ k + 3 + 1 = omega arith in
    rw (tail-is f sigma z k)
    (simp (
      sum_more f (λ j. (series_terms f sigma z j).v2) (k + 1) (k + 2) b,
      sum_more f (λ j. (series_terms f sigma z j).w2) (k + 1) (k + 2) b,
      sum_more f (λ j. (series_terms f sigma z j).dv1) (k + 1) (k + 2) b,
      sum_more f (λ j. (series_terms f sigma z j).dv1) (k + 2) (k + 3) c,
      sum_more f (λ j. (series_terms f sigma z j).dv2) (k + 1) (k + 2) b,
      sum_more f (λ j. (series_terms f sigma z j).dv2) (k + 2) (k + 3) c,
      sum_more f (λ j. (series_terms f sigma z j).dv2) (k + 3) (k + 4) d,
    ))

-- ---- v alone: its two sums, v2 with one term more
pub v1-is : (f : Format) (sigma z : Float) (k : ℕ) → (solo_steps f sigma z (k + 1)).sums.v1
    ≡ (series_sums f sigma z k).v1
unfolding series_sums
v1-is f sigma z k = ap (λ (s : SeriesState). s.sums.v1) (solo_are f sigma z (k + 1))

pub v2-is :
    (f : Format) (sigma z : Float) (k : ℕ) →
    add f (solo_steps f sigma z (k + 1)).sums.v2 (mul f (solo_steps f sigma z (k + 1)).level.zeta
    (recip_fact f (k + 2))) ≡ (series_sums f sigma z k).v2
unfolding series_sums level_terms
v2-is f sigma z k =
    let e : k + 2 ≡ k + 1 + 1 = omega arith in
    rw (solo_are f sigma z (k + 1), e) (sum_more f (λ j. (series_terms f sigma z j).v2) (k + 1) (k + 1 + 1) refl)
