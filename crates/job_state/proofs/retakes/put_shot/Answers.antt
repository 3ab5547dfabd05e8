-- `job_state::retakes::put_shot` meets its contract: the stores are one run; or the refusal is. Assumes nothing.
use native.Mathlib.Omega.{arith}
use Prim.Native.Nat.{ℕ, ◌+◌, ◌≤◌}
use mathlib.Core.Path.{◌≡◌, ap, ◌∙◌}
use mathlib.Core.List.{List, ◌++◌}
use lib.ListN.{length, take, drop}
use lib.Seq.{sets, length-sets}
use lib.Ieee.{binary64}
use Rattle.wire.specs.Wire.{items_bytes}
use Rattle.wire.proofs.Bytes.{word-length}
use Rattle.wire.proofs.Places.{part_stored}
use Rattle.record_result.specs.RecordResult.{disposition_of}
use Rattle.record_result.specs.Framed.{framed_items}
use Rattle.record_result.proofs.Frames.{framed-length}
use Rattle.sheets.proofs.Framed.{frame}
use Rattle.job_state.proofs.Shelf.{shot_replied, sq-refused}
use Rattle.job_state.proofs.retakes.put_shot.Goals as goal

pub returns-in-Ok : goal.returns-in-Ok
returns-in-Ok c =
    let x = c.in-Ok.x in
    let l = c.put_mark.new.out in
    let m = take 2 l ++ (c.copy_from_slice.new.self ++ drop 2 (drop 2 l)) in
    let first : m ≡ sets l 2 (frame x.take) =
    part_stored l _ _ 2 2 (c.copy_from_slice.ensures.after ∙ c.short_to_le_bytes.ensures) (word-length 2 x.take)
    (omega (arith, c.put_mark.auto.out, c.requires)) in
    let room : 4 + 68 ≤ length m =
    omega (arith, ap length first, length-sets l 2 (frame x.take), c.put_mark.auto.out, c.requires) in
    let second =
    part_stored m _ _ 4 68 (c.copy_from_slice-in-Ok.ensures.after ∙ c.framed_bytes-finite.ensures.bytes)
    (framed-length binary64 x.pose) room in
    rw c.in-Ok.is
    (shot_replied _ x c.args.out.now _ (c.of_answer.ensures ∙ ap disposition_of c.framed_bytes-finite.ensures.finite)
    (second ∙ ap (λ (o : List ℕ). sets o 4 (items_bytes binary64 (framed_items x.pose)))
    (first ∙ ap (λ (o : List ℕ). sets o 2 (frame x.take)) c.put_mark.ensures)))

pub returns-in-Err : goal.returns-in-Err
returns-in-Err c =
    let t = sq-refused _ in
    rw c.in-Err.is
    (record {
      result_value = c.refuse.ensures.result_value ∙ t.0;
      out_after = c.refuse.ensures.out_after ∙ ap (sets c.args.out.now 0) t.1;
    })
