-- `circle::kernel::exp_group` meets its contract: by the contracts of its calls and by its tests; below the limit of
-- cos_half both members are on their series. Assumes nothing.
use Rattle.tables.specs.Tables.{k_row}
use Rattle.circle.specs.Kernel.{row_short, row_own, row_member, circle_exp}
use Rattle.circle.proofs.Rows.{below_all}
use Rattle.circle.proofs.kernel.exp_group.Goals as goal

pub returns-then-is_below : goal.returns-then-is_below
unfolding circle_exp row_member row_short
returns-then-is_below g c =
    let real = g.met.T.Real in
    let s = simp (c.is_below.ensures, c.exp_short_below.ensures) at c.if-is_below.true in
    simp (c.series-then-is_below.ensures, c.series.ensures, c.short_terms-n.ensures, s)

pub returns-then-is_below-2 : goal.returns-then-is_below-2
unfolding circle_exp row_member row_own
returns-then-is_below-2 g c =
    let real = g.met.T.Real in
    let s = simp (c.is_below.ensures, c.exp_short_below.ensures) at c.if-is_below.false in
    let t = simp (c.is_below-2.ensures, c.below.ensures) at c.if-is_below-2.true in
    simp (c.whole-then-is_below-2.ensures, c.whole.ensures, t, below_all g.T.Real.format k_row _ t, s)

pub returns : goal.returns
unfolding circle_exp row_member row_own
returns g c =
    let real = g.met.T.Real in
    let s = simp (c.is_below.ensures, c.exp_short_below.ensures) at c.if-is_below.false in
    let t = simp (c.is_below-2.ensures, c.below.ensures) at c.if-is_below-2.false in
    simp (c.own_arm.ensures, real.div_law _ _ _ c.div.ensures, t, s)
