-- `arms::limits::Arm::at` meets its contract: each test selects the definition's arm, and what is not below the last
-- limit is below none. Assumes nothing.
use mathlib.Core.Path.{sym}
use Rattle.arms.specs.Arm.{coeffs_arm}
use Rattle.arms.proofs.Rising.{closed-arm}
use Rattle.arms.proofs.limits.Arm.at.Goals as goal

pub returns-then-is_below-2 : goal.returns-then-is_below-2
unfolding coeffs_arm
returns-then-is_below-2 g c =
    simp (simp (c.is_below-then-is_below.ensures, c.short_below.ensures) at c.if-is_below-2.true)

pub returns-then-is_below-3 : goal.returns-then-is_below-3
unfolding coeffs_arm
returns-then-is_below-3 g c =
    let s = simp (c.is_below-then-is_below.ensures, c.short_below.ensures) at c.if-is_below-2.false in
    let m = simp (c.is_below-then-is_below-2.ensures, c.mid_below.ensures) at c.if-is_below-3.true in
    simp (s, m)

pub returns-then-is_below-4 : goal.returns-then-is_below-4
unfolding coeffs_arm
returns-then-is_below-4 g c =
    let s = simp (c.is_below-then-is_below.ensures, c.short_below.ensures) at c.if-is_below-2.false in
    let m = simp (c.is_below-then-is_below-2.ensures, c.mid_below.ensures) at c.if-is_below-3.false in
    let u = simp (c.is_below-then-is_below-3.ensures, c.upper_below.ensures) at c.if-is_below-4.true in
    simp (s, m, u)

pub returns-then-is_below : goal.returns-then-is_below
unfolding coeffs_arm
returns-then-is_below g c =
    let s = simp (c.is_below-then-is_below.ensures, c.short_below.ensures) at c.if-is_below-2.false in
    let m = simp (c.is_below-then-is_below-2.ensures, c.mid_below.ensures) at c.if-is_below-3.false in
    let u = simp (c.is_below-then-is_below-3.ensures, c.upper_below.ensures) at c.if-is_below-4.false in
    let l = simp (c.is_below.ensures, c.series_below.ensures) at c.if-is_below.true in
    simp (s, m, u, l)

pub returns : goal.returns
returns g c =
    let l = simp (c.is_below.ensures, c.series_below.ensures) at c.if-is_below.false in
    sym (closed-arm g.T.Real.format (g.T.Real.float c.args.delta) l)
