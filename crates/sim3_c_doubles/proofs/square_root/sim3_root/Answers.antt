-- `sim3_c_doubles::square_root::sim3_root` meets its contract: it returns a refusal as it is; it writes the parts of
-- the root to lists of the right lengths, and leaves any other three as they were. Assumes nothing.
use borrow.Author.Rules.{rules}
use borrow.Author.Tests.{eq-eqb}
use mathlib.Core.Path.{◌≡◌, ap, ◌∙◌}
use mathlib.Core.List.{[], ◌∷◌}
use lib.IntN.{ℤ}
use lib.ListN.{set}
use mir.Syntax.{w64}
use mir.Val.{to_z, of_z}
use mir.ValLaws.{to_z-of_z}
use Rattle.linalg.specs.Answer.{answers}
use Rattle.root.specs.Root.{root_of}
use Rattle.to_lists.specs.Written.{written}
use Rattle.sim3_c_doubles.specs.Root.{root_lists, root_fits, root_call}
use Rattle.to_lists.proofs.Fits.{sets-all}
use Rattle.sim3_c_doubles.proofs.square_root.sim3_root.Goals as goal

pub returns-clause-nearest_after : goal.returns-clause-nearest_after
unfolding written root_call root_fits
returns-clause-nearest_after c =
    let a = c.args in
    let p = c.in_ok-p.p in
    let is : root_of a.z ≡ answers p = search rules in
    let whole = sets-all a.whole.now (p.root ∷ p.remainder ∷ []) c.if-whole-ne-WHOLE.false in
    let back : to_z w64 (of_z w64 p.exponent) ≡ p.exponent =
    to_z-of_z w64 p.exponent (record { sfits = c.struct_told-1.given.1.1.0.1 }) in
    let exponent = ap (λ (s : ℤ). set a.exponent.now 0 s) back
    ∙ sets-all a.exponent.now (p.exponent ∷ []) c.if-exponent-ne-EXPONENT.false in
    let nearest = sets-all a.nearest.now (p.nearest ∷ []) c.if-nearest-ne-NEAREST.false in
    rw (
      is,
      eq-eqb _ _ c.if-whole-ne-WHOLE.false,
      eq-eqb _ _ c.if-exponent-ne-EXPONENT.false,
      eq-eqb _ _
          c.if-nearest-ne-NEAREST.false,
    )
    (λ i. root_lists (whole i) (exponent i) (nearest i))
