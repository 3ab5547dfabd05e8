-- `nearest::nearest_arm` meets its contract: its tests are those of the definition, in their order. Assumes nothing.
use mathlib.Core.Path.{sym, ap, ◌∙◌}
use lib.Ieee.{of_bits}
use Rattle.std.proofs.lemmas.Bool.{and_parts}
use Rattle.linalg.specs.Answer.{answers}
use Rattle.ieee.specs.Finite.{is_finite}
use Rattle.nearest.specs.Nearest.{preferred}
use Rattle.nearest.proofs.Answers.{below-zero, not_finite, accepted}
use Rattle.nearest.proofs.nearest_arm.Goals as goal

pub returns-then-is_below : goal.returns-then-is_below
unfolding of_bits
returns-then-is_below g c =
    let r = g.T.Real in
    let b = simp (c.is_below.ensures, c.of.ensures) at c.if-is_below.true in
    below-zero r.format preferred (r.float c.args.sigma) (r.float c.args.z) b

pub returns-then-not-both_finite : goal.returns-then-not-both_finite
unfolding of_bits
returns-then-not-both_finite g c =
    let r = g.T.Real in
    let b = simp (c.is_below.ensures, c.of.ensures) at c.if-is_below.false in
    not_finite r.format preferred (r.float c.args.sigma) (r.float c.args.z) b
    (sym c.both_finite.ensures ∙ c.if-not-both_finite.true)

pub start-requires : goal.start-requires
unfolding of_bits
start-requires g c =
    let r = g.T.Real in
    let b = simp (c.is_below.ensures, c.of.ensures) at c.if-is_below.false in (
      b,
      (and_parts (is_finite (r.float c.args.sigma)) (is_finite (r.float c.args.z))
          (sym c.both_finite.ensures ∙ c.if-not-both_finite.false)).1,
    )

pub returns : goal.returns
unfolding of_bits
returns g c =
    let r = g.T.Real in
    let b = simp (c.is_below.ensures, c.of.ensures) at c.if-is_below.false in
    ap answers c.nearest_from.ensures
    ∙ accepted r.format preferred (r.float c.args.sigma) (r.float c.args.z) c.start.result b
    (sym c.both_finite.ensures ∙ c.if-not-both_finite.false) c.start.ensures.0
