-- A pass over the reciprocals stopped after any number of entries holds the partial sums that each sign alone has then,
-- and after the last entry Horner's sums. For every sigma, NaN and infinities included, every term count and every
-- format. Assumes nothing.
use mathlib.Core.Path.{◌≡◌, refl, ap, ◌∙◌}
use Prim.Native.Nat.{ℕ, zero, suc, ◌+◌, ◌-◌, ◌≤◌}
use native.Mathlib.Omega.{arith}
use native.Mathlib.Numerals.{add-one}
use lib.Dec.{T}
use lib.Ieee.{Float, Format, neg, add, mul, fits}
use lib.Ieee.Fits.{mul-fits}
use Rattle.ieee.specs.Numbers.{f0}
use Rattle.ieee.proofs.Clear.{add-is-same}
use Rattle.ieee.proofs.Exact.{add-zero-same}
use Rattle.ieee.proofs.Product.{mul-same}
use Rattle.tables.specs.Tables.{recip_fact}
use Rattle.series.specs.Series.{g_series, g_series_pair, w0_terms}
use Rattle.series.specs.Pass.{g_stopped, both_stopped, entries_read, horner_stopped}
use Rattle.series.specs.Private.{g_term}
use Rattle.series.specs.Floats.{Signs, Horner, Stopped}
use Rattle.tables.proofs.Every.{recip_fits, recip_clear}

-- ---- one more entry, as a loop counts
pub stopped_more :
    (f : Format) (sigma : Float) (l terms n j : ℕ) → j ≡ terms - (n + 1) + l →
    add f (recip_fact f j) (mul f sigma (g_stopped f sigma l terms n)) ≡ g_stopped f sigma l terms (n + 1)
unfolding g_stopped
stopped_more f sigma l terms n j e = rw (e, add-one n) refl

-- and so at both signs at once
pub both_more :
    (f : Format) (sigma : Float) (l terms n j : ℕ) → j ≡ terms - (n + 1) + l →
    g_term f sigma (neg sigma) (recip_fact f j) (both_stopped f sigma l terms n) ≡ both_stopped f sigma l terms (n + 1)
unfolding g_term
both_more f sigma l terms n j e =
    λ i. record { pos = stopped_more f sigma l terms n j e i; neg = stopped_more f (neg sigma) l terms n j e i }

-- v0 and w0 of k terms at a stop, from the entries read then
pub stopped_at :
    (f : Format) (sigma : Float) (k n stop : ℕ) (h : Horner) →
    n ≡ entries_read stop k → h ≡ record { v0 = both_stopped f sigma 1 k n; w0 = both_stopped f sigma 2 k n } →
    h ≡ horner_stopped f sigma k k stop
unfolding horner_stopped
stopped_at f sigma k n stop h e p = rw (← e) p

-- both arms at a stop, from the pass and from each sign alone
abbrev pub whole : Format → Float → ℕ → ℕ → Stopped
whole f sigma stop k =
    record {
      series = horner_stopped f sigma k k stop;
      series_alone = horner_stopped f sigma k k stop;
      closed = horner_stopped f sigma (w0_terms f + 1) (w0_terms f) stop;
      closed_alone = horner_stopped f sigma (w0_terms f + 1) (w0_terms f) stop;
    }

-- -sigma + 0 is -sigma up to the sign of a zero, which does not change a sum with a reciprocal
pub minus_or_zero :
    (f : Format) (sigma : Float) → T (fits f (neg sigma)) → (j : ℕ) (g : Signs Float) →
    g_term f sigma (add f (neg sigma) f0) (recip_fact f j) g ≡ g_term f sigma (neg sigma) (recip_fact f j) g
unfolding g_term
minus_or_zero f sigma s j g =
    let r = recip_fact f j in
    let same = mul-same f _ _ g.neg g.neg (add-zero-same f (neg sigma) s) refl in
    let p = recip_fits f j in
    let c = recip_clear f j in
    λ i. record {
      pos = add f r (mul f sigma g.pos);
      neg = add-is-same f r r _ _ p p (mul-fits f _ _)
          (mul-fits f _ _) c c refl same i;
    }

-- ---- the partial sum after n entries is Horner's sum of the last n terms, and the whole sum after all of them
stopped_is : (f : Format) (sigma : Float) (l terms n : ℕ) → n ≤ terms →
    g_stopped f sigma l terms n ≡ g_series f sigma (terms - n + l) n
unfolding g_stopped g_series
stopped_is f sigma l terms zero h = refl
stopped_is f sigma l terms (suc n) h =
    let e : suc (terms - suc n + l) ≡ terms - n + l = omega arith in
    rw e (ap (λ (x : Float). add f (recip_fact f (terms - suc n + l)) (mul f sigma x))
    (stopped_is f sigma l terms n (omega arith)))

pub stopped_last : (f : Format) (sigma : Float) (l terms : ℕ) →
    g_stopped f sigma l terms terms ≡ g_series f sigma l terms
stopped_last f sigma l terms =
    let e : terms - terms + l ≡ l = omega arith in
    stopped_is f sigma l terms terms (omega arith) ∙ ap (λ (i : ℕ). g_series f sigma i terms) e

pub both_last : (f : Format) (sigma : Float) (l terms : ℕ) →
    both_stopped f sigma l terms terms ≡ g_series_pair f sigma l terms
unfolding g_series_pair
both_last f sigma l terms =
    λ i. record { pos = stopped_last f sigma l terms i; neg = stopped_last f (neg sigma) l terms i }

-- ---- a sum of m + 1 terms from 1 / l! on reads what one of m terms from 1 / (l + 1)! on does, and one more entry
stopped_shared : (f : Format) (sigma : Float) (l m n : ℕ) → n ≤ m →
    g_stopped f sigma l (m + 1) n ≡ g_stopped f sigma (l + 1) m n
unfolding g_stopped
stopped_shared f sigma l m zero h = refl
stopped_shared f sigma l m (suc n) h =
    let e : m + 1 - suc n + l ≡ m - suc n + (l + 1) = omega arith in
    rw e (ap (λ (x : Float). add f (recip_fact f (m - suc n + (l + 1))) (mul f sigma x))
    (stopped_shared f sigma l m n (omega arith)))

pub both_shared : (f : Format) (sigma : Float) (l m n : ℕ) → n ≤ m →
    both_stopped f sigma l (m + 1) n ≡ both_stopped f sigma (l + 1) m n
both_shared f sigma l m n h =
    λ i. record { pos = stopped_shared f sigma l m n h i; neg = stopped_shared f (neg sigma) l m n h i }
