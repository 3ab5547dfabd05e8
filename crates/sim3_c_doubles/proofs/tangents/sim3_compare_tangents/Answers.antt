-- `sim3_c_doubles::tangents::sim3_compare_tangents` meets its contract: for lists of the right lengths it writes the
-- order's number, and for any others it leaves `out` as it was. Assumes nothing.
use borrow.Author.Rules.{rules}
use borrow.Author.Tests.{eq-eqb}
use mathlib.Core.Path.{◌≡◌, ap, ◌∙◌}
use mathlib.Core.List.{[], ◌∷◌}
use lib.IntN.{ℤ}
use lib.ListN.{set}
use lib.Ieee.{binary64}
use mir.Syntax.{w64}
use mir.Val.{to_z, of_z}
use Rattle.order.specs.Order.{tangent_order}
use Rattle.to_lists.specs.Written.{written}
use Rattle.sim3_c_doubles.specs.Order.{order_number, patterns_from, compare_call}
use Rattle.from_lists.proofs.Lists.{sized-right}
use Rattle.to_lists.proofs.Fits.{sets-all}
use Rattle.sim3_c_doubles.proofs.Patterns.{number_back}
use Rattle.sim3_c_doubles.proofs.tangents.sim3_compare_tangents.Goals as goal

pub returns-clause-out_after : goal.returns-clause-out_after
unfolding written compare_call patterns_from
returns-clause-out_after c =
    let a = c.args in
    let t = tangent_order binary64 a.a.now a.b.now in
    let x : c.in_ok-x.x.now ≡ a.a.now = search rules in
    let y : c.in_ok-y.y.now ≡ a.b.now = search rules in
    let o : c.order_number.result ≡ order_number t =
    c.order_number.ensures ∙ ap order_number (c.compare.ensures ∙ (λ i. tangent_order binary64 (x i) (y i))) in
    let kept = ap (λ (z : ℤ). set a.out.now 0 (to_z w64 (of_z w64 z))) o
    ∙ ap (λ (z : ℤ). set a.out.now 0 z) (number_back t) in
    rw (
      sized-right a.a.now 7 a.a.now (search rules),
      sized-right a.b.now 7 a.b.now
          (search rules),
      eq-eqb _ _ c.if-out-ne-ORDER.false,
    )
    (kept ∙ sets-all a.out.now (order_number t ∷ []) c.if-out-ne-ORDER.false)
