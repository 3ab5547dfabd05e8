-- The coefficients at -σ and the mirrored values, as far as they are even in σ: Δ, the arm, its ends, the term count,
-- the masks and the circle functions. Assumes nothing.
use mathlib.Core.Path.{◌≡◌, refl, sym, ap, ◌∙◌}
use Prim.Native.Nat.{ℕ}
use mathlib.Core.Bool.{Bool, true, false}
use lib.Dec.{ltb}
use lib.Ieee.{Float, Format, neg, mul, lt}
use Rattle.ieee.specs.Numbers.{f0}
use Rattle.linalg.specs.Answer.{answers, and_then}
use Rattle.linalg.proofs.Answers.{both_as}
use Rattle.circle.specs.Kernel.{not_below_zero, circle_sinc_abd}
use Rattle.series.specs.Series.{series_full}
use Rattle.ieee.proofs.Sign.{mul-neg-neg}
use Rattle.arms.specs.Values.{mirrored}
use Rattle.arms.specs.Limits.{coeffs_delta, w0_below}
use Rattle.arms.specs.Arm.{coeffs_arm, arm_terms, arm_ends}
use Rattle.coeffs.specs.Group.{coeffs_scaled, coeffs_armed}
use Rattle.coeffs.specs.Entries.{scaled_answer, armed_answer}
use Rattle.coeffs.specs.ClosedForm.{closed_from, closed_v_from, closed_exps}
use Rattle.coeffs.specs.Private.{series_arm}
use Rattle.arms.specs.Floats.{Values}
use Rattle.arms.proofs.Arm.{delta_even, arm_even, ends_even}
use Rattle.coeffs.proofs.Arms.{scaled-series, scaled-closed, then_as, view_at}
use Rattle.pairs.specs.Group.{coeffs_pair, coeffs_armed_pair}
use Rattle.pairs.specs.Entries.{beside, pair_answer, beside_armed, armed_pair_answer}
use Rattle.pairs.specs.Private.{closed_ends, closed_with, minus_et_mt, pair_ends, closed_pair, series_arms}
use Rattle.pairs.specs.Floats.{ScaledPair}
use Rattle.pairs.specs.Floats.{ArmedPair}

-- ---- the pair in its two arms
pub pair-series :
    (f : Format) (sigma z : Float) (v : Values) (k : ℕ) → ltb (coeffs_arm f (coeffs_delta f sigma z)) 5 ≡ true →
    k ≡ arm_terms f (coeffs_arm f (coeffs_delta f sigma z)) →
    coeffs_pair f sigma z v ≡ record {
      pos = record { c = series_full f sigma z k; scaled = false };
      neg =
          record { c = series_full f (neg sigma) z k; scaled = false };
    }
unfolding coeffs_pair
pair-series f sigma z v k t e =
    let p = scaled-series f sigma z v k t e in
    let n = scaled-series f (neg sigma) z (mirrored sigma v) k (ap (λ a. ltb a 5) (arm_even f sigma z) ∙ t)
    (e ∙ ap (arm_terms f) (sym (arm_even f sigma z))) in
    λ i. record { pos = p i; neg = n i }

pub pair-closed :
    (f : Format) (sigma z : Float) (v : Values) → ltb (coeffs_arm f (coeffs_delta f sigma z)) 5 ≡ false →
    coeffs_pair f sigma z v
    ≡ closed_pair f sigma z (coeffs_delta f sigma z) (pair_ends f sigma (lt (mul f sigma sigma) (w0_below f)) v)
    (circle_sinc_abd f z v.root v.sin_half v.cos_half v.sin) v
unfolding coeffs_pair closed_pair mirrored pair_ends minus_et_mt closed_with closed_exps closed_ends closed_from
    closed_v_from
pair-closed f sigma z v t =
    let p = scaled-closed f sigma z v t in
    let n = scaled-closed f (neg sigma) z (mirrored sigma v) (ap (λ a. ltb a 5) (arm_even f sigma z) ∙ t) in
    let e = simp (delta_even, mul-neg-neg) at n in
    λ i. record { pos = p i; neg = e i }

-- ---- both answers after one test
pub pair-answer-is : (f : Format) (sigma z : Float) (v : Values) →
    pair_answer f sigma z v ≡ not_below_zero z (coeffs_pair f sigma z v)
unfolding pair_answer beside scaled_answer coeffs_pair
pair-answer-is f sigma z v =
    both_as (lt z f0) 1 (coeffs_scaled f sigma z v) (coeffs_scaled f (neg sigma) z (mirrored sigma v))
    (λ p n. record { pos = p; neg = n })

-- ---- what is formed at both is what the arm forms
pub pair_by_series :
    (f : Format) (sigma z : Float) (v : Values) → ltb (coeffs_arm f (coeffs_delta f sigma z)) 5 ≡ true →
    coeffs_pair f sigma z v ≡ series_arms f sigma z (coeffs_arm f (coeffs_delta f sigma z))
unfolding series_arm series_arms
pair_by_series f sigma z v t = pair-series f sigma z v _ t refl

-- ---- with the arms: the armed pair's answer is the pair's, with the arm at σ and its ends for both signs
abbrev pub view_both : ℕ → Bool → ScaledPair → ArmedPair
view_both arm ends p = record { pos = view_at arm ends p.pos; neg = view_at arm ends p.neg }

pub armed-pair-is :
    (f : Format) (sigma z : Float) (v : Values) →
    let arm = coeffs_arm f (coeffs_delta f sigma z) in
    coeffs_armed_pair f sigma z v ≡ view_both arm (arm_ends f sigma arm) (coeffs_pair f sigma z v)
unfolding coeffs_armed_pair coeffs_armed coeffs_pair
armed-pair-is f sigma z v =
    let e = ends_even f sigma (coeffs_arm f (coeffs_delta f sigma z)) in
    let n = ap (arm_ends f (neg sigma)) (arm_even f sigma z) ∙ e in
    λ i. record {
      pos = coeffs_armed f sigma z v;
      neg = view_at (arm_even f sigma z i) (n i)
          (coeffs_scaled f (neg sigma) z (mirrored sigma v));
    }

pub armed-pair-view :
    (f : Format) (sigma z : Float) (v : Values) →
    let arm = coeffs_arm f (coeffs_delta f sigma z) in
    armed_pair_answer f sigma z v ≡ and_then (pair_answer f sigma z v)
    (λ p. answers (view_both arm (arm_ends f sigma arm) p))
unfolding armed_pair_answer beside_armed armed_answer coeffs_armed_pair
armed-pair-view f sigma z v =
    let arm = coeffs_arm f (coeffs_delta f sigma z) in
    let view = view_both arm (arm_ends f sigma arm) in
    both_as (lt z f0) 1 (coeffs_armed f sigma z v) (coeffs_armed f (neg sigma) z (mirrored sigma v))
    (λ p n. record { pos = p; neg = n })
    ∙ ap (not_below_zero z) (armed-pair-is f sigma z v)
    ∙ then_as (lt z f0) (coeffs_pair f sigma z v) view
    ∙ ap (λ a. and_then a (λ p. answers (view p))) (sym (pair-answer-is f sigma z v))

pub armed-pair-answer-is : (f : Format) (sigma z : Float) (v : Values) →
    armed_pair_answer f sigma z v ≡ not_below_zero z (coeffs_armed_pair f sigma z v)
unfolding armed_pair_answer beside_armed armed_answer coeffs_armed_pair
armed-pair-answer-is f sigma z v =
    both_as (lt z f0) 1 (coeffs_armed f sigma z v) (coeffs_armed f (neg sigma) z (mirrored sigma v))
    (λ p n. record { pos = p; neg = n })
