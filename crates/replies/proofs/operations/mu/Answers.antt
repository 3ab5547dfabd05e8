-- `replies::operations::mu` meets its contract: the call on lists computes the job's answer (`Calls`). Assumes nothing.
use native.Mathlib.Omega.{arith}
use Prim.Native.Nat.{◌+◌, ◌*◌}
use mathlib.Core.Path.{◌≡◌, refl, ap, ◌∙◌}
use mathlib.Core.List.{List}
use lib.ListN.{get_or, drop, replicate}
use lib.Seq.{sets}
use Rattle.linalg.specs.Answer.{Answer}
use Rattle.wire.specs.Wire.{Item, width, firsts, numbers_at}
use Rattle.record_result.specs.RecordResult.{written_answer, answer_bytes}
use Rattle.layout.specs.Lists.{pose_lists}
use Rattle.record_result.specs.Framed.{framed_width}
use Rattle.replies.proofs.Views.{floats-length, floats-one}
use Rattle.std.proofs.lemmas.List.{take_rest}
use Rattle.replies.proofs.Calls.{mu_view}
use Rattle.replies.proofs.operations.mu.Goals as goal

pub returns : goal.returns
unfolding firsts
returns g c =
    let f = g.T.Real.format in
    let fl = g.T.Real.floats in
    let law = g.met.T.Real.floats_law in
    let b = c.args.b.now in
    let s = c.sim3_mul-called.ensures in
    let w = framed_width f in
    let v : c.BYTES-at.result * 8 ≡ 8 * width f = omega (arith, c.BYTES-at.ensures, g.met.T.Number.bytes_law) in
    let k = rw (v, take_rest b (8 * width f)) at c.frames-k.ensures in
    let y = rw (c.framed-end.ensures, take_rest b w) at c.read-y.ensures in
    let l = rw (v, c.framed-end.ensures, take_rest b (w + 8 * width f)) at c.frames-l.ensures in
    let r = rw (c.framed-end.ensures, take_rest b (2 * w)) at c.read.ensures in
    let u = floats-one fl g.T.Real.float law c.read.result (numbers_at f (drop (2 * w) b) 1) 0 _ r
    (ap (get_or c.read.result 0) c.index-read-0.is) in
    let o = pose_lists (fl (replicate 8 c.of-z.result)) (replicate 2 0) in
    let t = mu_view f b _ _ o _ _ _ (rw (c.read-x.ensures, k) refl) (rw (y, l) refl) u
    (floats-length fl g.T.Real.float law (replicate 8 c.of-z.result)) refl s.value s.out_frames_after in
    record {
      value = c.encode_framed.ensures.value ∙ ap (written_answer f) t;
      out_after =
          c.encode_framed.ensures.out_after ∙ ap (λ (a : Answer (List Item)). sets c.args.out.now 0 (answer_bytes f a))
          t;
    }
