-- The closed arm for one sign, as `closed_from` rounds it: scaled by e^-σ where 0 < σ. et and mt are e^t and e^t - 1 at
-- t = -|σ|.
use Rattle.std.specs.Prelude.{Bool, cond, ◌+◌, Float}
use Rattle.std.specs.Float.{Format}
use Rattle.std.specs.Float.Ieee.{neg, lt}
use Rattle.ieee.specs.Numbers.{f0, f1, f2, half}
use Rattle.ieee.specs.Infix.{operations}
use Rattle.series.specs.Series.{g_series, w0_terms}
use Rattle.series.specs.Floats.{Sim3Coeffs}
use Rattle.series.specs.Floats.{Coeffs4}
use Rattle.circle.specs.Floats.{SincABD}
use Rattle.circle.specs.Floats.{SincA}
use Rattle.arms.specs.Values.{at_zero}
use Rattle.arms.specs.Limits.{coeffs_delta}
use Rattle.coeffs.specs.Floats.{Ws}
use Rattle.coeffs.specs.Floats.{Dvs}
use Rattle.coeffs.specs.Floats.{Exps}

-- the exponential's numbers where 0 < σ, and elsewhere: e, m₁ and g, which is e^-σ where scaled
abbrev pub closed_e : Float → Float → Float
closed_e sigma et = cond (lt f0 sigma) f1 et

abbrev pub closed_m : Float → Float → Float
closed_m sigma mt = cond (lt f0 sigma) (neg mt) mt

abbrev pub closed_g : Float → Float → Float
closed_g sigma et = cond (lt f0 sigma) et f1

-- e, m₁ and g of one sign
unfoldable pub closed_exps : Float → Float → Float → Exps
closed_exps sigma et mt = record { e = closed_e sigma et; m1 = closed_m sigma mt; g = closed_g sigma et }

-- the circle functions, with only those that v reads
unfoldable pub closed_only : SincA → SincABD
closed_only t = record { a = t.a; b = f0; sinc = t.sinc; d = f0 }

-- all nine
unfoldable pub closed_joined : Coeffs4 → Float → Ws → Dvs → Sim3Coeffs
closed_joined v w0 w d =
    record {
      v0 = v.v0;
      v1 = v.v1;
      v2 = v.v2;
      w0 = w0;
      w1 = w.w1;
      w2 = w.w2;
      dv1 = d.dv1;
      dv2 = d.dv2;
      chi_delta =
          v.chi_delta;
    }

module _ (f : Format) where
  infixl 60 ◌⊕◌ ◌⊖◌
  infixl 70 ◌⊗◌ ◌⊘◌
  open operations f use {◌⊕◌, ◌⊖◌, ◌⊗◌, ◌⊘◌}

  -- v₀: its series below the limit, else (e^σ - 1)/σ
  unfoldable pub closed_v0 : Float → Float → Float → Bool → Float
  closed_v0 sigma g m1 small =
      cond small (g ⊗ g_series f sigma 1 (w0_terms f + 1)) (cond (at_zero sigma) f1
      (m1 ⊘ cond (at_zero sigma) f1 sigma))

  -- w₀: its series below the limit, else (e^σ - 1 - σ)/σ²
  unfoldable pub closed_w0 : Float → Float → Float → Bool → Float
  closed_w0 sigma g m1 small =
      let ss = cond (at_zero sigma) f1 sigma in
      cond small (g ⊗ g_series f sigma 2 (w0_terms f)) ((m1 ⊖ sigma ⊗ g) ⊘ (ss ⊗ ss))

  -- v₁, v₂ and χΔ from v₀, e (e^σ, or 1 where scaled) and m₁ (e^σ - 1, scaled)
  unfoldable pub closed_v : Float → Float → SincABD → Float → Float → Float → Bool → Coeffs4
  closed_v sigma z c e m1 v0 formB =
      let delta = coeffs_delta f sigma z in
      let v2 = (v0 ⊕ sigma ⊗ e ⊗ c.a ⊖ e ⊗ c.sinc) ⊘ delta in
      let v1a = e ⊗ c.a ⊖ sigma ⊗ v2 in
      let v1b = (sigma ⊗ e ⊗ c.sinc ⊖ m1 ⊕ e ⊗ z ⊗ c.a) ⊘ delta in
      record {
        v0 = v0;
        v1 = cond formB v1b v1a;
        v2 = v2;
        chi_delta = sigma ⊗ (sigma ⊗ v0) ⊕ e ⊗ (z ⊗ c.sinc) ⊖ sigma ⊗ (e ⊗ (z ⊗ c.a));
      }

  -- w₁ and w₂ from w₀, v₁ and v₂
  unfoldable pub closed_ws : Float → Float → Coeffs4 → Float → Ws
  closed_ws sigma z v w0 =
      let w2 = (w0 ⊕ sigma ⊗ v.v2 ⊖ v.v1) ⊘ coeffs_delta f sigma z in
      record { w1 = v.v2 ⊖ sigma ⊗ w2; w2 = w2 }

  -- ∂v₁ and ∂v₂ from v₂ and the derivatives of the circle functions
  unfoldable pub closed_dvs : Float → Float → SincABD → Float → Float → Dvs
  closed_dvs sigma z c e v2 =
      let da = neg (half ⊗ (c.b ⊖ f2 ⊗ c.d)) in
      let dsinc = neg (half ⊗ (c.a ⊖ c.b)) in
      let dv2 = (sigma ⊗ e ⊗ da ⊖ e ⊗ dsinc ⊖ v2) ⊘ coeffs_delta f sigma z in
      record { dv1 = e ⊗ da ⊖ sigma ⊗ dv2; dv2 = dv2 }

  unfoldable pub closed_nine : Float → Float → SincABD → Float → Coeffs4 → Float → Sim3Coeffs
  closed_nine sigma z c e v w0 = closed_joined v w0 (closed_ws sigma z v w0) (closed_dvs sigma z c e v.v2)

  unfoldable pub closed_v_from : Float → Float → SincABD → Float → Float → Bool → Bool → Coeffs4
  closed_v_from sigma z c et mt formB small =
      let m1 = closed_m sigma mt in
      closed_v sigma z c (closed_e sigma et) m1 (closed_v0 sigma (closed_g sigma et) m1 small) formB

  unfoldable pub closed_from : Float → Float → SincABD → Float → Float → Bool → Bool → Sim3Coeffs
  closed_from sigma z c et mt formB small =
      closed_nine sigma z c (closed_e sigma et) (closed_v_from sigma z c et mt formB small)
      (closed_w0 sigma (closed_g sigma et) (closed_m sigma mt) small)
