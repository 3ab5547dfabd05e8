-- `replies::operations::ex` meets its contract: the call on lists computes the job's answer (`Calls`). Assumes nothing.
use native.Mathlib.Omega.{arith}
use Prim.Native.Nat.{ℕ, ◌*◌}
use mathlib.Core.Path.{◌≡◌, refl, ap, ◌∙◌}
use mathlib.Core.List.{List}
use lib.ListN.{take, drop, replicate}
use lib.Seq.{sets}
use Rattle.linalg.specs.Answer.{Answer}
use Rattle.wire.specs.Wire.{Item, width, firsts, numbers_at}
use Rattle.record_result.specs.RecordResult.{written_answer, answer_bytes}
use Rattle.layout.specs.Lists.{pose_lists}
use Rattle.replies.proofs.Views.{floats-length, floats-part}
use Rattle.std.proofs.lemmas.List.{take_rest}
use Rattle.replies.proofs.Calls.{ex-view}
use Rattle.replies.proofs.operations.ex.Goals as goal

pub returns : goal.returns
unfolding firsts
returns g c =
    let f = g.T.Real.format in
    let fl = g.T.Real.floats in
    let law = g.met.T.Real.floats_law in
    let b = c.args.b.now in
    let s = c.sim3_exp-called.ensures in
    let x = c.read-x.ensures in
    let v : c.BYTES.result * 17 ≡ 17 * width f = omega (arith, c.BYTES.ensures, g.met.T.Number.bytes_law) in
    let part : (a n : ℕ) → fl (take n (drop a c.read-x.result)) ≡ take n (drop a (numbers_at f b 17)) =
    λ a n. floats-part fl g.T.Real.float law c.read-x.result (numbers_at f b 17) a n x in
    let k = rw (v, take_rest b (17 * width f)) at c.frames-k.ensures in
    let o = pose_lists (fl (replicate 8 c.of-y.result)) (replicate 2 0) in
    let t = ex-view f b _ _ _ o _ _ (part 0 7) (part 7 10) k
    (floats-length fl g.T.Real.float law (replicate 8 c.of-y.result)) refl s.value s.out_frames_after in
    record {
      value = c.encode_framed.ensures.value ∙ ap (written_answer f) t;
      out_after =
          c.encode_framed.ensures.out_after ∙ ap (λ (a : Answer (List Item)). sets c.args.out.now 0 (answer_bytes f a))
          t;
    }
