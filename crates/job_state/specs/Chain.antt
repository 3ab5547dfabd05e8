-- CH and RN, the records of the running join: the state after them and the reply to them, where b are the bytes after
-- the mark.
use Rattle.std.specs.Prelude.{ℕ, ◌+◌, List, [], ◌∷◌, drop}
use Rattle.std.specs.Float.{binary64}
use Rattle.linalg.specs.Answer.{Answer, answers, and_then}
use Rattle.frames.specs.Floats.{Pose}
use Rattle.running.specs.Running.{Joint, join_of, every_of}
use Rattle.running.specs.declared.Running.{Running}
use Rattle.wire.specs.Wire.{word, width, word_at, number_at}
use Rattle.record_result.specs.RecordResult.{Reply, reply_of}
use Rattle.record_result.specs.Framed.{framed_width, framed_in, framed_items}
use Rattle.job_state.specs.State.{State}
use Rattle.job_state.specs.declared.JobState.{JobState}
use Rattle.job_state.specs.Records.{Stepped, RecordRule}

-- their letters as one number: the first times 256 plus the second
abbrev pub ch_letters : ℕ
ch_letters = 0x4348

abbrev pub rn_letters : ℕ
rn_letters = 0x524e

-- how many bytes they have, the mark included
abbrev pub ch_size : ℕ
ch_size = 2 + (framed_width binary64 + width binary64)

abbrev pub rn_size : ℕ
rn_size = 2 + 2

-- CH holds a pose with its frames, and `up` of the running pose
unfoldable pub ch_of : Running → List ℕ → Joint
ch_of r b = join_of binary64 r (framed_in binary64 b) (number_at binary64 (drop (framed_width binary64) b) 0)

-- the reply to CH is the running pose with its frames, or the refusal
unfoldable pub ch_reply : Answer Pose → Reply
ch_reply a = reply_of binary64 0x43 0x48 (and_then a (λ x. answers (framed_items x)))

-- the reply to RN is its n
unfoldable pub rn_reply : ℕ → Reply
rn_reply n = reply_of binary64 0x52 0x4e (answers (word 2 n ∷ []))

-- ---- what a whole record r does
unfoldable pub ch_step : State → List ℕ → Stepped
ch_step st r =
    let j = ch_of st.running (drop 2 r) in record {
      state = record { running = j.running; sheets = st.sheets };
      reply =
          ch_reply j.answer;
    }

unfoldable pub rn_step : State → List ℕ → Stepped
rn_step st r =
    let n = word_at 2 (drop 2 r) 0 in
    record { state = record { running = every_of st.running n; sheets = st.sheets }; reply = rn_reply n }

-- ---- the state that the code keeps after a whole record r
unfoldable pub ch_after : JobState → List ℕ → JobState
ch_after m r = record { running = (ch_of m.running (drop 2 r)).running; store = m.store }

unfoldable pub rn_after : JobState → List ℕ → JobState
rn_after m r = record { running = every_of m.running (word_at 2 (drop 2 r) 0); store = m.store }

abbrev pub ch_rule : RecordRule
ch_rule = record { bytes = ch_size; step = ch_step; after = ch_after }

abbrev pub rn_rule : RecordRule
rn_rule = record { bytes = rn_size; step = rn_step; after = rn_after }
