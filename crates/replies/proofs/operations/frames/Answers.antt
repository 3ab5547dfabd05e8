use native.Mathlib.Omega.{arith}
use mathlib.Core.Path.{refl, ◌∙◌}
use Rattle.wire.specs.Wire.{firsts}
use Rattle.wire.proofs.Places.{short_read}
use Rattle.replies.proofs.operations.frames.Goals as goal

pub returns : goal.returns
unfolding firsts
returns c =
    let b = c.args.b.now in
    rw (
      c.short_from_le_bytes.ensures ∙ short_read b 0 (omega (arith, c.requires)),
      c.short_from_le_bytes-2.ensures
          ∙ short_read b 2 (omega (arith, c.requires)),
    ) refl
