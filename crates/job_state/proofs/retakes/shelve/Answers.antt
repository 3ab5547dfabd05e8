-- `job_state::retakes::shelve` meets its contract: it reads the shot, puts it into the store and writes the result.
-- Assumes nothing.
use native.Mathlib.Omega.{arith}
use borrow.Author.Rules.{rules}
use Prim.Native.Nat.{◌-◌}
use mathlib.Core.Path.{◌≡◌, ap, ◌∙◌}
use lib.ListN.{length, take, drop}
use lib.Ieee.{binary64}
use Rattle.std.proofs.lemmas.List.{take_rest}
use Rattle.wire.specs.Wire.{word_at}
use Rattle.wire.proofs.Places.{short_read}
use Rattle.record_result.specs.Framed.{framed_in}
use Rattle.sheets.proofs.Framed.{framed_front}
use Rattle.job_state.specs.Retakes.{sh_of}
use Rattle.job_state.proofs.Shelf.{shelf_shot}
use Rattle.job_state.proofs.retakes.shelve.Goals as goal

pub returns : goal.returns
unfolding sh_of
returns c =
    let b = c.args.b.now in
    let sheet : c.short_from_le_bytes-sheet.result ≡ word_at 2 b 0 =
    c.short_from_le_bytes-sheet.ensures ∙ short_read b 0 (omega (arith, c.requires.b_value)) in
    let take_is : c.short_from_le_bytes-take.result ≡ word_at 2 b 2 =
    c.short_from_le_bytes-take.ensures ∙ short_read b 2 (omega (arith, c.requires.b_value)) in
    let part : c.unwrap.result.now ≡ take 68 (take (length b - 4) (drop 4 b)) = search rules in
    let pose : c.framed_of-pose.result ≡ framed_in binary64 (drop 4 b) =
    c.framed_of-pose.ensures ∙ ap (framed_in binary64) (part ∙ ap (take 68) (take_rest b 4)) ∙ framed_front b 4 in
    let e = shelf_shot b _ _ take_is pose in
    let p = rw (sheet, e) at c.put.ensures.result_value in
    let w = rw p at c.put_shelved.ensures in
    record {
      result_value = w.result_value;
      out_after = w.out_after;
      store_after = rw (sheet, e) at c.put.ensures.store_after;
      sheets_after = rw (sheet, e) at c.put.ensures.sheets_after;
    }
