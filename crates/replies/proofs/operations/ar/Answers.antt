-- `replies::operations::ar` meets its contract: the call on lists computes the job's answer (`Calls`). Assumes nothing.
use Prim.Native.Nat.{ℕ}
use mathlib.Core.Path.{◌≡◌, refl, ap, ◌∙◌}
use mathlib.Core.List.{List}
use lib.ListN.{get_or, take, drop, replicate}
use lib.Seq.{sets}
use Rattle.linalg.specs.Answer.{Answer}
use Rattle.wire.specs.Wire.{Item, firsts, numbers_at}
use Rattle.record_result.specs.RecordResult.{written_answer, answer_bytes}
use Rattle.sim3_c_entries.specs.Calls.{arm_lists}
use Rattle.replies.proofs.Views.{floats-length, floats-part, floats-one}
use Rattle.replies.proofs.Calls.{ar_view}
use Rattle.replies.proofs.operations.ar.Goals as goal

pub returns : goal.returns
unfolding firsts
returns g c =
    let f = g.T.Real.format in
    let fl = g.T.Real.floats in
    let law = g.met.T.Real.floats_law in
    let b = c.args.b.now in
    let s = c.armed_pair-called.ensures in
    let x = c.read-x.ensures in
    let part : (a n : ℕ) → fl (take n (drop a c.read-x.result)) ≡ take n (drop a (numbers_at f b 12)) =
    λ a n. floats-part fl g.T.Real.float law c.read-x.result (numbers_at f b 12) a n x in
    let o = arm_lists (replicate 4 0) (fl (replicate 20 c.of-y.result)) in
    let t = ar_view f b _ o _ _ _ _ (floats-one fl g.T.Real.float law c.read-x.result (numbers_at f b 12) 0 _ x
    (ap (get_or c.read-x.result 0) c.index-x-0.is)) (floats-one fl g.T.Real.float law c.read-x.result
    (numbers_at f b 12) 1 _ x (ap (get_or c.read-x.result 1) c.index-x-1.is)) (part 2 10) refl
    (floats-length fl g.T.Real.float law (replicate 20 c.of-y.result)) s.value s.out_after in
    record {
      value = c.encode_armed.ensures.value ∙ ap (written_answer f) t;
      out_after =
          c.encode_armed.ensures.out_after ∙ ap (λ (a : Answer (List Item)). sets c.args.out.now 0 (answer_bytes f a))
          t;
    }
