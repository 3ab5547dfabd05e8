-- `wire::decode_by` meets its contract: after i turns the first i numbers are those of the bytes. Assumes nothing.
use native.Mathlib.Omega.{arith}
use Prim.Native.Nat.{◌<◌}
use mathlib.Core.Path.{◌≡◌, ◌∙◌}
use lib.ListN.{length}
use Rattle.wire.specs.Wire.{width, number_at}
use Rattle.wire.proofs.Lists.{read_more}
use Rattle.wire.proofs.decode_by.Goals as goal

pub loop-i-preserved : goal.loop-i-preserved
loop-i-preserved g c =
    let f = g.T.Real.format in
    let w : c.BYTES.result ≡ width f = c.BYTES.ensures ∙ g.met.T.Number.bytes_law in
    let h : c.loop-i.i < length c.loop-i.out = omega (arith, c.loop-i-test.true, c.loop-i.auto.out) in
    let x = c.requires.reads.gives c.word_at.result c.read.result c.loop-i.i (omega (arith, h, c.loop-i.auto.out))
    (rw w at c.word_at.ensures) c.read.ensures in
    rw g.met.T.Real.floats_law (read_more g.T.Real.float (number_at f c.args.b.now) c.loop-i.out _ c.loop-i.i h
    (rw g.met.T.Real.floats_law at c.loop-i.invariant) x)
