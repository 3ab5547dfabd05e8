-- `sim3::sim3::v_apply` meets its contract: by the contracts of its calls and by its tests. Assumes nothing.
use borrow.Author.Tests.{not-true, not-false}
use mathlib.Core.Path.{◌≡◌, sym, ◌∙◌}
use mathlib.Core.Bool.{true, false}
use lib.Ieee.{lt}
use Rattle.linalg.specs.Floats.{as_vec3}
use Rattle.linalg.specs.Vector.{vec_cross, vec_norm_sq}
use Rattle.tables.specs.Tables.{b_row}
use Rattle.circle.specs.Limits.{row_limit}
use Rattle.sim3.specs.Exp.{combined, v_apply, poly_apply}
use Rattle.arms.specs.Limits.{coeffs_delta}
use Rattle.sim3.proofs.sim3.v_apply.Goals as goal

pub returns-then-not-b_takes_exact_arm_of : goal.returns-then-not-b_takes_exact_arm_of
unfolding v_apply poly_apply
returns-then-not-b_takes_exact_arm_of g c =
    let f = g.T.Real.format in
    let near : lt (vec_norm_sq f (as_vec3 g.T.Real.float c.args.phi)) (row_limit f b_row) ≡ true = not-false _
    (sym c.b_takes_exact_arm_of.ensures ∙ c.if-not-b_takes_exact_arm_of.true) in
    let phi = as_vec3 g.T.Real.float c.args.phi in
    let rho = as_vec3 g.T.Real.float c.args.rho in
    let mu = c.cross-mu.ensures in
    let nu = c.cross.ensures ∙ (λ i. vec_cross f phi (mu i)) in
    let x = c.from.ensures in
    rw near (c.combine.ensures ∙ (λ i. combined f rho (mu i) (nu i) (x i).x0 (x i).x1 (x i).x2))

pub returns : goal.returns
unfolding v_apply coeffs_delta
returns g c =
    let f = g.T.Real.format in
    let real = g.met.T.Real in
    let far : lt (vec_norm_sq f (as_vec3 g.T.Real.float c.args.phi)) (row_limit f b_row) ≡ false = not-true _
    (sym c.b_takes_exact_arm_of.ensures ∙ c.if-not-b_takes_exact_arm_of.false) in
    simp (
      c.add-2.ensures,
      c.add-3.ensures,
      c.scale-2.ensures,
      c.cross-2.ensures,
      c.scale.ensures,
      c.scale-far.ensures,
      c.dot.ensures,
      far,
      c.norm_sq-z.ensures,
      real.div_law _ _ _ c.div-chi.ensures,
      real.add_law _ _ _ c.add.ensures,
      real.mul_law _ _ _ c.mul.ensures,
      real.mul_law _ _ _ c.mul-2.ensures,
    )
