-- `wire::encode_by` meets its contract: after i turns the first bytes are those of the first i numbers. Assumes
-- nothing.
use mathlib.Core.Path.{◌∙◌}
use Rattle.wire.proofs.Lists.{written_more}
use Rattle.wire.proofs.encode_by.Goals as goal

pub loop-i-preserved : goal.loop-i-preserved
loop-i-preserved g c =
    let r = g.met.T.Real in
    rw r.floats_law
    (written_more g.T.Real.format g.T.Real.float c.args.x.now c.index-x-i.result c.args.out.now c.loop-i.out _
    c.loop-i.i _ _ c.loop-i-test.true c.index-x-i.is
    (rw r.floats_law at c.loop-i.invariant)
    (c.requires.writes.gives c.index-x-i.result c.write.result c.loop-i.i c.loop-i-test.true c.index-x-i.is
    c.write.ensures)
    (c.BYTES.ensures ∙ g.met.T.Number.bytes_law) c.put_word_at.ensures)
