use borrow.Author.Rules.{rules}
use Prim.Native.Nat.{◌*◌}
use mathlib.Core.Path.{◌≡◌, refl, ◌∙◌}
use lib.ListN.{length}
use Rattle.std.specs.Prelude.{Ok}
use Rattle.wire.specs.Wire.{width}
use Rattle.record_result.specs.RecordResult.{wrote_as}
use Rattle.replies.proofs.Views.{view_done, floats-length, ending}
use Rattle.replies.proofs.operations.encode_answer.Goals as goal

pub returns : goal.returns
returns g c =
    let f = g.T.Real.format in
    let y = g.T.Real.floats c.args.y.now in
    let n : length y ≡ length c.args.y.now =
    floats-length g.T.Real.floats g.T.Real.float g.met.T.Real.floats_law c.args.y.now in
    let done : c.args.called ≡ Ok tt = search rules in
    let w : c.BYTES.result ≡ width f = c.BYTES.ensures ∙ g.met.T.Number.bytes_law in
    let e : length c.args.y.now * c.BYTES.result ≡ length y * width f = rw (n, w) refl in
    let p = ending f c.args.out.now _ y _ (wrote_as c.encode.result (length y * width f)) (rw (← n) at c.requires)
    (rw (e, ← n) at c.encode.ensures.value) (rw (e, ← n) at c.encode.ensures.out_after) refl in
    rw (view_done c.args.called _ done)
    (record {
      value = rw (c.of_answer-disposition.ensures, e) p.0;
      out_after = rw e p.1;
    })
