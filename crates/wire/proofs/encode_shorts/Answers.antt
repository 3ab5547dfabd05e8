-- `wire::encode_shorts` meets its contract: after i turns the first bytes are those of the first i numbers. Assumes
-- nothing.
use native.Mathlib.Omega.{arith}
use mathlib.Core.Path.{◌∙◌}
use Prim.Native.Nat.{◌+◌, ◌*◌, ◌≤◌}
use lib.ListN.{length, take}
use lib.Seq.{length-take-le}
use Rattle.wire.proofs.Places.{short_stored}
use Rattle.wire.proofs.Lists.{words_more}
use Rattle.wire.proofs.encode_shorts.Goals as goal

pub loop-i-preserved : goal.loop-i-preserved
loop-i-preserved c =
    let n = c.min-n.result in
    let long = length-take-le n c.args.x.now (omega (arith, c.min-n.ensures)) in
    let inside : c.loop-i.i * 2 + 2 ≤ length c.loop-i.out =
    omega (arith, c.loop-i-test.true, long, c.min-n.ensures, c.loop-i.auto.out) in
    let stored = short_stored c.loop-i.out _ (c.loop-i.i * 2) _
    (c.copy_from_slice.ensures.after ∙ c.short_to_le_bytes.ensures) inside in
    stored ∙ rw c.loop-i.invariant (words_more 2 (take n c.args.x.now) _ c.args.out.now c.loop-i.i c.loop-i-test.true)
