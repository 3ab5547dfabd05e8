-- `job_state::chain::put_running` meets its contract: the stores are one run. Assumes nothing.
use native.Mathlib.Omega.{arith}
use Prim.Native.Nat.{ℕ, ◌+◌, ◌≤◌}
use mathlib.Core.Path.{ap, ◌∙◌}
use mathlib.Core.List.{List}
use lib.ListN.{length}
use lib.Seq.{sets}
use lib.Ieee.{binary64}
use Rattle.wire.specs.Wire.{items_bytes}
use Rattle.wire.proofs.Places.{part_stored}
use Rattle.record_result.specs.RecordResult.{disposition_of}
use Rattle.record_result.specs.Framed.{framed_items}
use Rattle.record_result.proofs.Frames.{framed-length}
use Rattle.job_state.proofs.Lent.{pose_replied}
use Rattle.job_state.proofs.chain.put_running.Goals as goal

pub returns : goal.returns
returns c =
    let x = c.args.x in
    let l = c.put_mark.new.out in
    let room : 2 + 68 ≤ length l = omega (arith, c.put_mark.auto.out, c.requires) in
    let stored =
    part_stored l _ _ 2 68 (c.copy_from_slice.ensures.after ∙ c.framed_bytes-finite.ensures.bytes)
    (framed-length binary64 x) room in
    pose_replied _ x c.args.out.now _ (c.of_answer.ensures ∙ ap disposition_of c.framed_bytes-finite.ensures.finite)
    (stored ∙ ap (λ (o : List ℕ). sets o 2 (items_bytes binary64 (framed_items x))) c.put_mark.ensures)
