-- `job_state::retakes::put_shelved` meets its contract: three stores and a number of two bytes are one run; or the
-- refusal is. Assumes nothing.
use native.Mathlib.Omega.{arith}
use borrow.Author.Rules.{rules}
use Prim.Native.Nat.{ℕ, ◌+◌, ◌≤◌}
use mathlib.Core.Path.{ap, ◌∙◌}
use mathlib.Core.List.{List}
use lib.ListN.{length, set, length-set}
use lib.Seq.{sets}
use Rattle.wire.proofs.Bytes.{word-length}
use Rattle.wire.proofs.Places.{part_stored}
use Rattle.sheets.proofs.Framed.{frame}
use Rattle.job_state.specs.Retakes.{sh_reply}
use Rattle.job_state.proofs.Shelf.{shelf_replied, sh-refused}
use Rattle.job_state.proofs.retakes.put_shelved.Goals as goal

pub returns-in-Ok : goal.returns-in-Ok
unfolding sh_reply
returns-in-Ok c =
    let how = c.number.result in
    let before = c.before-in-Ok.result in
    let l = set c.put_mark.new.out 2 how in
    let room : 3 + 2 ≤ length l =
    omega (arith, length-set c.put_mark.new.out 2 how, c.put_mark.auto.out, c.requires) in
    let stored =
    part_stored l _ _ 3 2 (c.copy_from_slice.ensures.after ∙ c.short_to_le_bytes.ensures) (word-length 2 before) room in
    rw (c.in-Ok.is, ← c.number.ensures, ← c.before-in-Ok.ensures)
    (shelf_replied how before c.args.out.now _ (search rules)
    (stored ∙ ap (λ (o : List ℕ). sets (set o 2 how) 3 (frame before)) c.put_mark.ensures))

pub returns-in-Err : goal.returns-in-Err
returns-in-Err c =
    let t = sh-refused _ in
    rw c.in-Err.is
    (record {
      result_value = c.refuse.ensures.result_value ∙ t.0;
      out_after = c.refuse.ensures.out_after ∙ ap (sets c.args.out.now 0) t.1;
    })
