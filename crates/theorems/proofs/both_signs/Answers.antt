-- `theorems::both_signs` meets its contract, demand 3: by what the eight calls ensure, and what negation, mirroring and
-- transposing ensure of their arguments.
use mathlib.Core.Path.{◌≡◌, ◌∙◌}
use Rattle.linalg.specs.Matrix.{mat_transpose}
use Rattle.linalg.specs.Floats.{as_mat3}
use Rattle.arms.specs.Values.{mirrored}
use Rattle.arms.specs.Floats.{as_values}
use Rattle.sim3.specs.Floats.{as_sim3_tangent}
use Rattle.coeffs.specs.Entries.{scaled_answer}
use Rattle.sim3.specs.Tangent.{tangent_neg}
use Rattle.sim3.specs.Exp.{pose_exp}
use Rattle.side_jacobians.specs.Blocks.{jl_and_inverse}
use Rattle.theorems.proofs.Holds.{demand_3}
use Rattle.theorems.proofs.both_signs.Goals as goal

pub returns : goal.returns
unfolding tangent_neg
returns g c =
    let f = g.T.Real.format in
    let r = g.T.Real.float in
    let tau = as_sim3_tangent r c.args.tau in
    let v = as_values r c.args.v in
    let jl = as_mat3 r c.args.jl in
    let jl_inv = as_mat3 r c.args.jl_inv in
    let back : as_sim3_tangent r c.neg-back.result ≡ tangent_neg tau = c.neg-back.ensures in
    let m : as_values r c.mirrored-m.result ≡ mirrored tau.sigma v = c.mirrored-m.ensures in
    let jt : as_mat3 r c.transpose-jt.result ≡ mat_transpose jl = c.transpose-jt.ensures in
    let it : as_mat3 r c.transpose-it.result ≡ mat_transpose jl_inv = c.transpose-it.ensures in
    demand_3 f tau (r c.args.z) v jl jl_inv _
    c.sim3_coeffs_scaled_pair-pair.ensures
    c.one_sign-plus.ensures.coeffs
    (c.one_sign-minus.ensures.coeffs ∙ (λ i. scaled_answer f (back i).sigma (r c.args.z) (m i)))
    c.block_pair-block.ensures
    c.one_sign-plus.ensures.left
    (c.one_sign-minus.ensures.left ∙ (λ i. jl_and_inverse f (back i) (m i) (jt i) (it i)))
    c.one_sign-plus.ensures.exp
    (c.one_sign-minus.ensures.exp ∙ (λ i. pose_exp f (back i) (m i)))
