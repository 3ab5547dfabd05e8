-- `sheets::bytes::framed_of` meets its contract: the numbers follow one another, and then the frames. Assumes nothing.
use native.Mathlib.Omega.{arith}
use mathlib.Core.Path.{refl, ◌∙◌}
use lib.Ieee.{binary64, of_bits}
use lib.ListN.{replicate}
use Rattle.layout.specs.Layout.{vec_in, quat_in, pose_in}
use Rattle.wire.specs.Wire.{firsts}
use Rattle.wire.proofs.Lists.{decoded}
use Rattle.record_result.specs.Framed.{framed_in}
use Rattle.sheets.proofs.bytes.framed_of.Goals as goal

pub returns : goal.returns
unfolding framed_in pose_in quat_in vec_in firsts
returns c =
    let zeros = replicate 8 (of_bits binary64 0) in
    let x = c.decode.ensures ∙ decoded binary64 c.args.b.now zeros 8 (omega (arith, c.told-b)) refl in
    rw (x, c.short_at.ensures, c.short_at-2.ensures) refl
