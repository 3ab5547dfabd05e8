-- From the result of an arm to the result of a public function: g makes the function's numbers of the arm's. Assumes
-- nothing.
use mathlib.Core.Path.{◌≡◌, refl, sym, ap, ◌∙◌}
use Prim.Native.Nat.{ℕ}
use mathlib.Core.Bool.{Bool, true, false, cond}
use lib.Dec.{ltb}
use lib.Ieee.{Float, Format, mul, lt, le}
use Rattle.ieee.specs.Numbers.{f0}
use Rattle.linalg.specs.Answer.{answers, refuses, and_then}
use Rattle.linalg.proofs.Answers.{answered_as}
use Rattle.circle.specs.Kernel.{not_below_zero, circle_sinc_abd, circle_sinc_a}
use Rattle.circle.specs.Floats.{SincA}
use Rattle.series.specs.Series.{series_full, series_v, coeffs4}
use Rattle.arms.specs.Limits.{coeffs_delta, form_b_below, w0_below}
use Rattle.arms.specs.Arm.{coeffs_arm, arm_terms, arm_ends}
use Rattle.coeffs.specs.ClosedForm.{closed_from, closed_v, closed_v_from, closed_only, closed_nine, closed_joined}
use Rattle.arms.proofs.Arm.{ends-closed}
use Rattle.coeffs.specs.Private.{closed_one, series_arm}
use Rattle.coeffs.specs.Group.{closed_scaled, coeffs_scaled, coeffs_armed, coeffs_v_scaled, coeffs_unscale}
use Rattle.coeffs.specs.Group.{coeffs_unscale_v, coeffs_unscaled, coeffs_v}
use Rattle.coeffs.specs.Entries.{scaled_answer, armed_answer}
use Rattle.arms.specs.Floats.{Values}
use Rattle.coeffs.specs.Floats.{Scaled}
use Rattle.coeffs.specs.Floats.{VScaled}
use Rattle.coeffs.specs.Floats.{Armed}

-- ---- any arm
pub arm-answers : {A B : Type 0} (z : Float) (x c : A) (y : B) (g : A → B) → y ≡ g x → not_below_zero z x ≡ answers c →
    not_below_zero z y ≡ answers (g c)
arm-answers z x c y g e r = ap (not_below_zero z) e ∙ answered_as (lt z f0) 1 x c g r

-- ---- one sign: which arm
pub scaled-series :
    (f : Format) (sigma z : Float) (v : Values) (k : ℕ) → ltb (coeffs_arm f (coeffs_delta f sigma z)) 5 ≡ true →
    k ≡ arm_terms f (coeffs_arm f (coeffs_delta f sigma z)) →
    coeffs_scaled f sigma z v ≡ record { c = series_full f sigma z k; scaled = false }
unfolding coeffs_scaled
scaled-series f sigma z v k t e = rw (t, e) refl

abbrev small : Format → Float → Bool
small f sigma = lt (mul f sigma sigma) (w0_below f)

pub scaled-closed :
    (f : Format) (sigma z : Float) (v : Values) → ltb (coeffs_arm f (coeffs_delta f sigma z)) 5 ≡ false →
    coeffs_scaled f sigma z v ≡ closed_scaled f sigma z (circle_sinc_abd f z v.root v.sin_half v.cos_half v.sin) v.e v.m
    (small f sigma)
unfolding coeffs_scaled
scaled-closed f sigma z v t = rw (t, ends-closed f sigma (coeffs_arm f (coeffs_delta f sigma z)) t) refl

-- ---- what is formed at one sign is what its arm forms
pub by_series :
    (f : Format) (sigma z : Float) (v : Values) → ltb (coeffs_arm f (coeffs_delta f sigma z)) 5 ≡ true →
    coeffs_scaled f sigma z v ≡ series_arm f sigma z (coeffs_arm f (coeffs_delta f sigma z))
unfolding series_arm
by_series f sigma z v t = scaled-series f sigma z v _ t refl

pub by_closed :
    (f : Format) (sigma z : Float) (v : Values) → ltb (coeffs_arm f (coeffs_delta f sigma z)) 5 ≡ false →
    coeffs_scaled f sigma z v ≡ closed_one f sigma z (coeffs_delta f sigma z) (small f sigma)
    (circle_sinc_abd f z v.root v.sin_half v.cos_half v.sin) v
unfolding closed_one
by_closed f sigma z v t = scaled-closed f sigma z v t

-- ---- with the arm
pub then_as : {A B : Type 0} (t : Bool) (a : A) (g : A → B) →
    cond t (refuses 1) (answers (g a)) ≡ and_then (cond t (refuses 1) (answers a)) (λ x. answers (g x))
then_as true a g = refl
then_as false a g = refl

abbrev pub view_at : ℕ → Bool → Scaled → Armed
view_at arm ends s = record { s = s; arm = arm; ends = ends }

pub armed-view :
    (f : Format) (sigma z : Float) (v : Values) →
    let arm = coeffs_arm f (coeffs_delta f sigma z) in
    armed_answer f sigma z v ≡ and_then (scaled_answer f sigma z v)
    (λ s. answers (view_at arm (arm_ends f sigma arm) s))
unfolding armed_answer scaled_answer coeffs_armed
armed-view f sigma z v =
    let arm = coeffs_arm f (coeffs_delta f sigma z) in
    then_as (lt z f0) (coeffs_scaled f sigma z v) (view_at arm (arm_ends f sigma arm))

-- ---- v and χΔ alone: which arm
pub v-series :
    (f : Format) (sigma z : Float) (v : Values) (k : ℕ) → ltb (coeffs_arm f (coeffs_delta f sigma z)) 5 ≡ true →
    k ≡ arm_terms f (coeffs_arm f (coeffs_delta f sigma z)) →
    coeffs_v_scaled f sigma z v ≡ record { c = series_v f sigma z k; scaled = false }
unfolding coeffs_v_scaled series_v
v-series f sigma z v k t e = rw (scaled-series f sigma z v k t e) refl

abbrev v-scaled : Format → Float → Float → Values → SincA → VScaled
v-scaled f sigma z v t =
    record {
      c = closed_v_from f sigma z (closed_only t) v.e v.m (le (form_b_below f) (coeffs_delta f sigma z))
          (lt (mul f sigma sigma) (w0_below f));
      scaled = lt f0 sigma;
    }

pub v-closed :
    (f : Format) (sigma z : Float) (v : Values) → ltb (coeffs_arm f (coeffs_delta f sigma z)) 5 ≡ false →
    coeffs_v_scaled f sigma z v ≡ v-scaled f sigma z v (circle_sinc_a f z v.root v.sin_half v.cos_half)
unfolding coeffs_v_scaled coeffs4 closed_from closed_nine closed_joined closed_v_from closed_v closed_only circle_sinc_a
    circle_sinc_abd
v-closed f sigma z v t = rw (scaled-closed f sigma z v t) refl

-- ---- unscaled, from the scaled answer
pub v-answers :
    (f : Format) (sigma z : Float) (v : Values) (s : VScaled) →
    not_below_zero z (coeffs_v_scaled f sigma z v) ≡ answers s →
    not_below_zero z (coeffs_v f sigma z v) ≡ answers (coeffs_unscale_v f s.c v.up s.scaled)
unfolding coeffs_v coeffs_unscaled coeffs_v_scaled coeffs4 coeffs_unscale coeffs_unscale_v
v-answers f sigma z v s r = arm-answers z _ s _ (λ (x : VScaled). coeffs_unscale_v f x.c v.up x.scaled) refl r

-- ---- the flag depends on σ and z only: any values lead to the same
flag_of : (b : Bool) (x y : Scaled) → (cond b x y).scaled ≡ cond b x.scaled y.scaled
flag_of true x y = refl
flag_of false x y = refl

pub flag_same : (f : Format) (sigma z : Float) (v w : Values) →
    (coeffs_scaled f sigma z v).scaled ≡ (coeffs_scaled f sigma z w).scaled
unfolding coeffs_scaled
flag_same f sigma z v w =
    flag_of (ltb (coeffs_arm f (coeffs_delta f sigma z)) 5) _ _
    ∙ sym (flag_of (ltb (coeffs_arm f (coeffs_delta f sigma z)) 5) _ _)
