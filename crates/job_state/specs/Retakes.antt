-- SH and SQ, the records of retaken sheets: the state after them and the reply to them, where b are the bytes after the
-- mark.
use Rattle.std.specs.Prelude.{ℕ, ◌+◌, ◌≡◌, true, List, [], ◌∷◌, ◌++◌, length, take, drop}
use Rattle.std.specs.Float.{binary64}
use Rattle.linalg.specs.Answer.{Answer, answers, and_then}
use Rattle.wire.specs.Wire.{word, word_at}
use Rattle.layout.specs.Layout.{pose_count}
use Rattle.record_result.specs.RecordResult.{mark_bytes, Reply, reply_of}
use Rattle.record_result.specs.Framed.{framed_items}
use Rattle.sheets.specs.Sheets.{Sheets, Shelved, Shelf, shelve, ask}
use Rattle.sheets.specs.Store.{slot_width, shot_in, put_bytes}
use Rattle.sheets.specs.declared.Shot.{Shot}
use Rattle.sheets.specs.Back.{keeps, Bytes, nans_one}
use Rattle.job_state.specs.State.{State}
use Rattle.job_state.specs.declared.JobState.{JobState}
use Rattle.job_state.specs.Records.{Stepped, RecordRule}

-- their letters as one number: the first times 256 plus the second
abbrev pub sh_letters : ℕ
sh_letters = 0x5348

abbrev pub sq_letters : ℕ
sq_letters = 0x5351

-- how many bytes they have, the mark included
abbrev pub sh_size : ℕ
sh_size = 2 + slot_width

abbrev pub sq_size : ℕ
sq_size = 2 + 2

-- SH holds a sheet, a take, and a pose with its frames
unfoldable pub sh_of : Sheets → List ℕ → Shelf
sh_of s b = shelve s (word_at 2 b 0) (shot_in b)

-- the reply to SH is a byte and the take of that sheet kept before, or the refusal
unfoldable pub sh_reply : Answer Shelved → Reply
sh_reply a = reply_of binary64 0x53 0x48 (and_then a (λ x. answers (word 1 x.how ∷ word 2 x.before ∷ [])))

-- the reply to SQ is the take and the pose with its frames, or the refusal
unfoldable pub sq_reply : Answer Shot → Reply
sq_reply a = reply_of binary64 0x53 0x51 (and_then a (λ x. answers (word 2 x.take ∷ framed_items x.pose)))

-- ---- what a whole record r does; SQ leaves the state as it is
unfoldable pub sh_step : State → List ℕ → Stepped
sh_step st r =
    let j = sh_of st.sheets (drop 2 r) in record {
      state = record { running = st.running; sheets = j.sheets };
      reply =
          sh_reply j.answer;
    }

unfoldable pub sq_step : State → List ℕ → Stepped
sq_step st r = record { state = st; reply = sq_reply (ask st.sheets (word_at 2 (drop 2 r) 0)) }

-- ---- the state that the code keeps after a whole SH r: the store with what `put_bytes` writes
unfoldable pub sh_after : JobState → List ℕ → JobState
sh_after m r =
    let b = drop 2 r in
    record { running = m.running; store = put_bytes m.store (word_at 2 b 0) (shot_in b) }

abbrev pub sh_rule : RecordRule
sh_rule = record { bytes = sh_size; step = sh_step; after = sh_after }

abbrev pub sq_rule : RecordRule
sq_rule = record { bytes = sq_size; step = sq_step; after = λ m r. m }

-- ---- SH with the bytes b after its mark, if it is kept, and then SQ for its sheet: take and pose come back as they
-- were sent, except that every NaN comes back as the one NaN. Proved as `asked_back` in proofs/Back.antt.
abbrev pub AskedBackTheorem : Type 0
AskedBackTheorem =
    (s : Sheets) (b : List ℕ) → Bytes b → length b ≡ slot_width → keeps (sh_of s b).answer ≡ true →
    (sq_reply (ask (sh_of s b).sheets (word_at 2 b 0))).bytes
    ≡ mark_bytes 0x53 0x51 ++ (take 2 (drop 2 b) ++ nans_one pose_count (drop 4 b))
