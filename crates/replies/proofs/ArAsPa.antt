-- AR's flags are PA's: they depend on σ and z alone; and |φ|² is not below zero, so AR is not refused. Assumes nothing.
use mathlib.Core.Path.{◌≡◌, refl, ap}
use lib.Ieee.{Float, Format}
use Rattle.linalg.specs.Answer.{Answer, answers, and_then}
use Rattle.linalg.specs.Vector.{vec_norm_sq}
use Rattle.circle.proofs.Angle.{norm_not_below}
use Rattle.arms.specs.Floats.{Values}
use Rattle.coeffs.specs.Group.{coeffs_armed}
use Rattle.coeffs.specs.Entries.{armed_answer}
use Rattle.pairs.specs.Group.{coeffs_armed_pair}
use Rattle.pairs.specs.Entries.{beside_armed, armed_pair_answer}
use Rattle.pairs.specs.Floats.{ArmedPair}
use Rattle.sim3.specs.Floats.{Sim3Tangent}
use Rattle.side_jacobians.proofs.Flags.{pair_by_flags}
use Rattle.layout.specs.Layout.{tangent_in, values_in, mat_in, block_pair_numbers, coeffs_numbers, scaled_numbers}
use Rattle.layout.specs.Layout.{scaled_pair_numbers}
use Rattle.wire.specs.Wire.{number_at, numbers}
use Rattle.replies.specs.Table.{gives, arm_items, armed_items, ar_of, pa_of}
use Rattle.replies.specs.ArAsPa.{ArAsPaTheorem}

answered-at : (f : Format) (sigma : Float) (tau : Sim3Tangent) (z : Float) (v : Values) → sigma ≡ tau.sigma →
    z ≡ vec_norm_sq f tau.phi →
    armed_pair_answer f sigma z v ≡ answers (coeffs_armed_pair f tau.sigma (vec_norm_sq f tau.phi) v)
unfolding armed_pair_answer beside_armed armed_answer coeffs_armed_pair
answered-at f sigma tau z v e q = rw (e, q, norm_not_below f tau.phi) refl

pub ar_as_pa : ArAsPaTheorem
unfolding ar_of pa_of armed_items arm_items scaled_pair_numbers scaled_numbers coeffs_numbers coeffs_armed_pair
    coeffs_armed numbers
ar_as_pa f a b e q =
    let tau = tangent_in (number_at f b) 0 in
    let v = values_in (number_at f a) 2 in
    let w = values_in (number_at f b) 7 in
    record {
      armed = coeffs_armed_pair f tau.sigma (vec_norm_sq f tau.phi) v;
      answered =
          ap (λ (x : Answer ArmedPair). and_then x (λ p. answers (armed_items p)))
          (answered-at f (number_at f a 0) tau (number_at f a 1) v e q);
      flag = refl;
      flag_minus = refl;
      scales =
          ap (λ p. gives (block_pair_numbers p)) (pair_by_flags f tau v w (mat_in (number_at f b) 17)
          (mat_in (number_at f b) 26));
    }
