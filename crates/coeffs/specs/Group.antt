-- The coefficients: which arm, and whether scaled; with the arm; unscaled; and v only.
use Rattle.std.specs.Prelude.{Bool, false, cond, ltb, Float}
use Rattle.std.specs.Float.{Format}
use Rattle.std.specs.Float.Ieee.{lt, le}
use Rattle.ieee.specs.Numbers.{f0, f1}
use Rattle.ieee.specs.Infix.{operations}
use Rattle.series.specs.Series.{series_full, coeffs4}
use Rattle.series.specs.Floats.{Sim3Coeffs}
use Rattle.series.specs.Floats.{Coeffs4}
use Rattle.circle.specs.Kernel.{circle_sinc_abd}
use Rattle.circle.specs.Floats.{SincABD}
use Rattle.arms.specs.Limits.{coeffs_delta, form_b_below}
use Rattle.arms.specs.Arm.{coeffs_arm, arm_terms, arm_ends}
use Rattle.coeffs.specs.ClosedForm.{closed_from}
use Rattle.arms.specs.Floats.{Values}
use Rattle.coeffs.specs.Floats.{Scaled}
use Rattle.coeffs.specs.Floats.{VScaled}
use Rattle.coeffs.specs.Floats.{Armed}

-- the closed forms, from the circle functions t and from et and mt, with v₀ and w₀ by their series where `ends`: scaled
-- exactly where 0 < σ
abbrev pub closed_scaled : Format → Float → Float → SincABD → Float → Float → Bool → Scaled
closed_scaled f sigma z t et mt ends =
    record {
      c = closed_from f sigma z t et mt (le (form_b_below f) (coeffs_delta f sigma z)) ends;
      scaled =
          lt f0 sigma;
    }

-- the series on the arms 1 to 4, with the terms of the arm; the closed forms on arm 5
unfoldable pub coeffs_scaled : Format → Float → Float → Values → Scaled
coeffs_scaled f sigma z v =
    let arm = coeffs_arm f (coeffs_delta f sigma z) in
    cond (ltb arm 5)
    (record { c = series_full f sigma z (arm_terms f arm); scaled = false })
    (closed_scaled f sigma z (circle_sinc_abd f z v.root v.sin_half v.cos_half v.sin) v.e v.m (arm_ends f sigma arm))

-- the same with the arm, and with whether v₀ and w₀ come from their own series
unfoldable pub coeffs_armed : Format → Float → Float → Values → Armed
coeffs_armed f sigma z v =
    let arm = coeffs_arm f (coeffs_delta f sigma z) in
    record { s = coeffs_scaled f sigma z v; arm = arm; ends = arm_ends f sigma arm }

module _ (f : Format) where
  infixl 70 ◌⊗◌
  open operations f use {◌⊗◌}

  -- times up where scaled, times 1 elsewhere
  unfoldable pub coeffs_unscale : Sim3Coeffs → Float → Bool → Sim3Coeffs
  coeffs_unscale c up scaled =
      let s = cond scaled up f1 in
      record {
        v0 = s ⊗ c.v0;
        v1 = s ⊗ c.v1;
        v2 = s ⊗ c.v2;
        w0 = s ⊗ c.w0;
        w1 = s ⊗ c.w1;
        w2 = s ⊗ c.w2;
        dv1 = s ⊗ c.dv1;
        dv2 = s ⊗ c.dv2;
        chi_delta = s ⊗ c.chi_delta;
      }

  -- the same for v and χΔ only
  unfoldable pub coeffs_unscale_v : Coeffs4 → Float → Bool → Coeffs4
  coeffs_unscale_v c up scaled =
      let s = cond scaled up f1 in
      record { v0 = s ⊗ c.v0; v1 = s ⊗ c.v1; v2 = s ⊗ c.v2; chi_delta = s ⊗ c.chi_delta }

unfoldable pub coeffs_unscaled : Format → Float → Float → Values → Sim3Coeffs
coeffs_unscaled f sigma z v = coeffs_unscale f (coeffs_scaled f sigma z v).c v.up (coeffs_scaled f sigma z v).scaled

-- v and χΔ alone are the full answer's, bit for bit
unfoldable pub coeffs_v_scaled : Format → Float → Float → Values → VScaled
coeffs_v_scaled f sigma z v =
    let s = coeffs_scaled f sigma z v in
    record { c = coeffs4 s.c; scaled = s.scaled }

unfoldable pub coeffs_v : Format → Float → Float → Values → Coeffs4
coeffs_v f sigma z v = coeffs4 (coeffs_unscaled f sigma z v)
