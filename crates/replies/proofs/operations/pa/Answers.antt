-- `replies::operations::pa` meets its contract: the call on lists computes the job's answer (`Calls`). Assumes nothing.
use Prim.Native.Nat.{ℕ}
use mathlib.Core.Path.{◌≡◌, ap, ◌∙◌}
use mathlib.Core.List.{List}
use lib.ListN.{take, drop, replicate}
use lib.Seq.{sets}
use Rattle.linalg.specs.Answer.{Answer}
use Rattle.wire.specs.Wire.{Item, firsts, numbers_at}
use Rattle.record_result.specs.RecordResult.{written_answer, answer_bytes}
use Rattle.replies.proofs.Views.{floats-length, floats-part}
use Rattle.replies.proofs.Calls.{pa-view}
use Rattle.replies.proofs.operations.pa.Goals as goal

pub returns : goal.returns
unfolding firsts
returns g c =
    let f = g.T.Real.format in
    let fl = g.T.Real.floats in
    let law = g.met.T.Real.floats_law in
    let b = c.args.b.now in
    let s = c.sim3_block_pair-called.ensures in
    let x = c.read-x.ensures in
    let part : (a n : ℕ) → fl (take n (drop a c.read-x.result)) ≡ take n (drop a (numbers_at f b 35)) =
    λ a n. floats-part fl g.T.Real.float law c.read-x.result (numbers_at f b 35) a n x in
    let o = fl (replicate 124 c.of-y.result) in
    let t = pa-view f b _ _ _ _ o _ _ (part 0 7) (part 7 10) (part 17 9) (part 26 9)
    (floats-length fl g.T.Real.float law (replicate 124 c.of-y.result)) s.value s.out_after in
    record {
      value = c.encode_answer.ensures.value ∙ ap (written_answer f) t;
      out_after =
          c.encode_answer.ensures.out_after ∙ ap (λ (a : Answer (List Item)). sets c.args.out.now 0 (answer_bytes f a))
          t;
    }
