-- `circle::kernel::group` meets its contract: by the contracts of its calls and by its tests; below the limit of
-- cos_half all five members are on their series. Assumes nothing.
use Rattle.tables.specs.Tables.{k_row, a_row, b_row, d_row}
use Rattle.circle.specs.Kernel.{row_short, row_own, row_member, circle_sinc_abd}
use Rattle.circle.proofs.Rows.{below_all}
use Rattle.circle.proofs.kernel.group.Goals as goal

pub returns-then-is_below : goal.returns-then-is_below
unfolding circle_sinc_abd row_member row_short
returns-then-is_below g c =
    let real = g.met.T.Real in
    let s = simp (c.is_below.ensures, c.five_short_below.ensures) at c.if-is_below.true in
    simp (
      c.asked-then-is_below.ensures,
      c.asked.ensures,
      c.series-then-is_below-4.ensures,
      c.series-then-is_below-3.ensures,
      c.series-then-is_below-2.ensures,
      c.sinc_from.ensures,
      c.series-then-is_below.ensures,
      c.series.ensures,
      c.short_terms-n.ensures,
      s,
    )

pub returns-then-is_below-2 : goal.returns-then-is_below-2
unfolding circle_sinc_abd row_member row_own
returns-then-is_below-2 g c =
    let real = g.met.T.Real in
    let s = simp (c.is_below.ensures, c.five_short_below.ensures) at c.if-is_below.false in
    let t = simp (c.is_below-2.ensures, c.below.ensures) at c.if-is_below-2.true in
    simp (
      c.asked-then-is_below-2-2.ensures,
      c.asked-then-is_below-2.ensures,
      c.whole-then-is_below-2-4.ensures,
      c.whole-then-is_below-2-3.ensures,
      c.whole-then-is_below-2-2.ensures,
      c.sinc_from-then-is_below-2.ensures,
      c.whole-then-is_below-2.ensures,
      c.whole.ensures,
      t,
      below_all g.T.Real.format k_row _ t,
      below_all g.T.Real.format a_row _ t,
      below_all g.T.Real.format b_row _ t,
      below_all g.T.Real.format d_row _ t,
      s,
    )

pub returns : goal.returns
unfolding circle_sinc_abd row_member row_own
returns g c =
    let real = g.met.T.Real in
    let s = simp (c.is_below.ensures, c.five_short_below.ensures) at c.if-is_below.false in
    let t = simp (c.is_below-2.ensures, c.below.ensures) at c.if-is_below-2.false in
    simp (
      c.asked-3.ensures,
      c.asked-2.ensures,
      c.own_arm-4.ensures,
      c.d_from.ensures,
      c.own_arm-3.ensures,
      c.b_from.ensures,
      c.own_arm-2.ensures,
      c.sinc_from-2.ensures,
      c.own_arm.ensures,
      real.div_law _ _ _ c.div.ensures,
      c.a_from-a.ensures,
      t,
      s,
    )
