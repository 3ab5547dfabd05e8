-- After an SH that is kept, SQ for its sheet returns its take and its pose as they were sent. Assumes nothing.
use Prim.Native.Nat.{ℕ}
use mathlib.Core.Path.{◌≡◌, refl, ap, ◌∙◌}
use mathlib.Core.List.{List, ◌++◌}
use native.Mathlib.Omega.{arith}
use lib.ListN.{length, take, drop, length-drop}
use lib.Seq.{length-take-le}
use lib.Ieee.{binary64}
use Rattle.linalg.specs.Answer.{Answer, answers}
use Rattle.wire.specs.Wire.{word_at, word_bytes, item_bytes, items_bytes}
use Rattle.record_result.specs.RecordResult.{mark_bytes, reply_of}
use Rattle.record_result.specs.Framed.{framed_in, framed_items}
use Rattle.sheets.specs.Store.{slot_width, shot_in}
use Rattle.sheets.specs.Back.{Bytes}
use Rattle.sheets.specs.declared.Shot.{Shot}
use Rattle.sheets.proofs.Back.{asked, bytes_take, bytes_drop, word_of_lem, sent_back}
use Rattle.job_state.specs.Retakes.{sh_of, sq_reply, AskedBackTheorem}

-- ---- the reply to SQ
view : (b : List ℕ) → (sq_reply (answers (shot_in b))).bytes
    ≡ mark_bytes 0x53 0x51 ++ (word_bytes 2 (word_at 2 b 2) ++ items_bytes binary64
    (framed_items (framed_in binary64 (drop 4 b))))
unfolding sq_reply reply_of shot_in items_bytes item_bytes
view b = refl

take_back : (b : List ℕ) → Bytes b → length b ≡ slot_width → word_bytes 2 (word_at 2 b 2) ≡ take 2 (drop 2 b)
unfolding word_at
take_back b h e =
    word_of_lem 2 (take 2 (drop 2 b)) (bytes_take 2 (drop 2 b) (bytes_drop 2 b h))
    (length-take-le 2 (drop 2 b) (simp length-drop (omega arith)))

pub asked_back : AskedBackTheorem
unfolding sh_of
asked_back s b h e k =
    let t : word_bytes 2 (word_at 2 b 2) ≡ take 2 (drop 2 b) = take_back b h e in
    let p = sent_back (drop 4 b) (bytes_drop 4 b h) (simp length-drop (omega arith)) in
    ap (λ (a : Answer Shot). (sq_reply a).bytes) (asked s (word_at 2 b 0) (shot_in b) k) ∙ view b ∙ rw (t, p) refl
