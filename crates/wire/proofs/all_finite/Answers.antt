-- `wire::all_finite` meets its contract: after i turns the flag says whether the first i numbers are finite. Assumes
-- nothing.
use mathlib.Core.Path.{◌∙◌}
use Rattle.wire.proofs.Lists.{finite-none, finite_next}
use Rattle.wire.proofs.all_finite.Goals as goal

pub loop-y-init : goal.loop-y-init
loop-y-init g c = finite-none (g.T.Real.floats c.args.x.now)

pub loop-y-preserved : goal.loop-y-preserved
loop-y-preserved g c =
    let r = g.met.T.Real in
    rw r.floats_law
    (finite_next g.T.Real.format g.T.Real.float c.args.x.now c.y-item.result _ c.loop-y.y-index _ _ c.loop-y-test.true
    c.y-item.is
    (r.sub_law _ _ _ c.sub-z.ensures) (c.eq-finite.ensures ∙ r.eq_law _ _) (rw r.floats_law at c.loop-y.invariant))
