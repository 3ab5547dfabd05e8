-- `replies::operations::ac` meets its contract: the call on lists computes the job's answer (`Calls`). Assumes nothing.
use mathlib.Core.Path.{ap, ◌∙◌}
use mathlib.Core.List.{List}
use lib.ListN.{get_or, drop, replicate}
use lib.Seq.{sets}
use Rattle.linalg.specs.Answer.{Answer}
use Rattle.wire.specs.Wire.{Item, firsts, numbers_at}
use Rattle.record_result.specs.RecordResult.{written_answer, answer_bytes}
use Rattle.record_result.specs.Framed.{framed_width}
use Rattle.replies.proofs.Views.{floats-length, floats-part, floats-one}
use Rattle.std.proofs.lemmas.List.{take_rest}
use Rattle.replies.proofs.Calls.{ac_view}
use Rattle.replies.proofs.operations.ac.Goals as goal

pub returns : goal.returns
unfolding firsts
returns g c =
    let f = g.T.Real.format in
    let fl = g.T.Real.floats in
    let law = g.met.T.Real.floats_law in
    let b = c.args.b.now in
    let s = c.act_point-called.ensures in
    let w = framed_width f in
    let p = rw (c.framed.ensures, take_rest b w) at c.read-p.ensures in
    let part = floats-part fl g.T.Real.float law c.read-p.result (numbers_at f (drop w b) 4) 1 3 p in
    let o = fl (replicate 3 c.of-y.result) in
    let t = ac_view f b _ _ o _ _ _ c.read-x.ensures (floats-one fl g.T.Real.float law c.read-p.result
    (numbers_at f (drop w b) 4) 0 _ p (ap (get_or c.read-p.result 0) c.index-p-0.is)) part
    (floats-length fl g.T.Real.float law (replicate 3 c.of-y.result)) s.value s.out_after in
    record {
      value = c.encode_answer.ensures.value ∙ ap (written_answer f) t;
      out_after =
          c.encode_answer.ensures.out_after ∙ ap (λ (a : Answer (List Item)). sets c.args.out.now 0 (answer_bytes f a))
          t;
    }
