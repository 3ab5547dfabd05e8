-- `theorems::same_flags` meets its contract: by what its two calls ensure, and the square of phi. Assumes nothing.
use mathlib.Core.Path.{ap, ◌∙◌}
use Rattle.arms.specs.Floats.{as_values}
use Rattle.sim3.specs.Floats.{as_sim3_tangent}
use Rattle.pairs.specs.Entries.{armed_pair_answer}
use Rattle.theorems.proofs.Flags.{flags_scale}
use Rattle.theorems.proofs.same_flags.Goals as goal

pub returns : goal.returns
returns g c =
    let f = g.T.Real.format in
    let r = g.T.Real.float in
    let tau = as_sim3_tangent r c.args.tau in
    let v = as_values r c.args.v in
    let t = c.sim3_coeffs_armed_pair-armed.ensures ∙ ap (λ z. armed_pair_answer f tau.sigma z v) c.norm_sq.ensures in
    flags_scale f tau v _ _ _ _ _ t c.block_pair-block.ensures
