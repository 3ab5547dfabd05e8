-- `replies::operations::ji` meets its contract: the call on lists computes the job's answer (`Calls`). Assumes nothing.
use mathlib.Core.Path.{ap, ◌∙◌}
use mathlib.Core.List.{List}
use lib.ListN.{replicate}
use lib.Seq.{sets}
use Rattle.linalg.specs.Answer.{Answer}
use Rattle.wire.specs.Wire.{Item, firsts}
use Rattle.record_result.specs.RecordResult.{written_answer, answer_bytes}
use Rattle.replies.proofs.Views.{floats-length}
use Rattle.replies.proofs.Calls.{ji_view}
use Rattle.replies.proofs.operations.ji.Goals as goal

pub returns : goal.returns
unfolding firsts
returns g c =
    let f = g.T.Real.format in
    let fl = g.T.Real.floats in
    let law = g.met.T.Real.floats_law in
    let b = c.args.b.now in
    let s = c.sim3_block_inverse-called.ensures in
    let o = fl (replicate 31 c.of-y.result) in
    let t = ji_view f b _ o _ _ c.read-x.ensures (floats-length fl g.T.Real.float law (replicate 31 c.of-y.result))
    s.value s.out_after in
    record {
      value = c.encode_answer.ensures.value ∙ ap (written_answer f) t;
      out_after =
          c.encode_answer.ensures.out_after ∙ ap (λ (a : Answer (List Item)). sets c.args.out.now 0 (answer_bytes f a))
          t;
    }
