-- The replies to CH, RN, SH and SQ, by the plain history of the records before them. Proved as `answered` in
-- proofs/Answered.antt, for any whole records of bytes.
use Rattle.std.specs.Prelude.{None, Some, ℕ, ◌<◌, ◌≡◌, List, [], ◌∷◌, ◌++◌}
use Rattle.std.specs.Float.{binary64}
use Rattle.frames.specs.Floats.{Pose}
use Rattle.running.specs.Running.{Start}
use Rattle.wire.specs.Wire.{word_at, word_bytes, items_bytes}
use Rattle.record_result.specs.RecordResult.{mark_bytes, no_bytes, InputHead, took, ended, unknown, cut}
use Rattle.record_result.specs.Framed.{framed_in, framed_items}
use Rattle.sheets.specs.Sheets.{Kept, none, kept, most, same_take, no_room, never_kept}
use Rattle.sheets.specs.declared.Shot.{Shot}
use Rattle.job_state.specs.State.{State, state_none}
use Rattle.marks.specs.Marks.{head_of}
use Rattle.marks.specs.History.{kept_after, pose_after, sheet_after, sheet_count}

-- ---- the bytes of the reply to a whole record r, where st is the state; and after the records rs
unfoldable pub reply_on : InputHead → List ℕ
reply_on (took d k bytes) = bytes
reply_on ended = []
reply_on unknown = []
reply_on cut = []

unfoldable pub reply_to : State → List ℕ → List ℕ
reply_to st r = reply_on (head_of st r)

abbrev pub reply_after : List (List ℕ) → List ℕ → List ℕ
reply_after rs r = reply_to (kept_after state_none rs) r

-- ---- answers: to CH a pose with its frames; to SH one of 1, 2, 3 and a take; to SQ a take and a pose with its frames
abbrev pub ch_bytes : Pose → List ℕ
ch_bytes y = mark_bytes 0x43 0x48 ++ items_bytes binary64 (framed_items y)

abbrev pub sh_bytes : ℕ → ℕ → List ℕ
sh_bytes how take = mark_bytes 0x53 0x48 ++ (how ∷ word_bytes 2 take)

abbrev pub sq_bytes : Shot → List ℕ
sq_bytes o = mark_bytes 0x53 0x51 ++ (word_bytes 2 o.take ++ items_bytes binary64 (framed_items o.pose))

-- ---- CH with the pose x: whether it is accepted where s is the running pose
abbrev pub Accepts : Start → Pose → Type 0
Accepts None x = Unit {0}
Accepts (Some p) x = p.from ≡ x.to

-- s is the running pose before it, and t the one after it
pub record ChAnswered (s : Start) (x : Pose) (t : Start) (reply : List ℕ) : Type 0 where
  -- for the first pose, and for one whose `to` is the running pose's `from`, the reply is the running pose after it,
  -- with its frames
  pub joins : Accepts s x → (y : Pose) × ((t ≡ Some y) × (reply ≡ ch_bytes y))
  -- any other is refused, by 9
  pub apart : (Accepts s x → ⊥) → reply ≡ no_bytes 9

-- ---- SH with the take t, where k is kept for its sheet and `count` sheets have a shot. There are no other cases.
pub record ShAnswered (k : Kept) (count t : ℕ) (reply : List ℕ) : Type 0 where
  -- 1 and 0 if its sheet is new
  pub new : k ≡ none → count < most → reply ≡ sh_bytes 1 0
  -- 11 if its sheet would be one too many
  pub full : k ≡ none → count ≡ most → reply ≡ no_bytes no_room
  -- 10 if the take is the one kept
  pub same : (o : Shot) → k ≡ kept o → t ≡ o.take → reply ≡ no_bytes same_take
  -- 2 and the take kept before, if t is higher
  pub replaces : (o : Shot) → k ≡ kept o → o.take < t → reply ≡ sh_bytes 2 o.take
  -- 3 and the take that is kept, if t is lower
  pub older : (o : Shot) → k ≡ kept o → t < o.take → reply ≡ sh_bytes 3 o.take

-- ---- SQ, where k is kept for its sheet
pub record SqAnswered (k : Kept) (reply : List ℕ) : Type 0 where
  -- the take and the pose that are kept
  pub found : (o : Shot) → k ≡ kept o → reply ≡ sq_bytes o
  -- 12 if nothing is kept
  pub never : k ≡ none → reply ≡ no_bytes never_kept

-- ---- the record r after the records rs, where b are its bytes after the mark
pub record RecordAnswered (rs : List (List ℕ)) (r : List ℕ) : Type 0 where
  -- CH, by the running pose before and after it
  pub ch :
      (b : List ℕ) → r ≡ mark_bytes 0x43 0x48 ++ b →
      ChAnswered (pose_after rs) (framed_in binary64 b) (pose_after (rs ++ (r ∷ []))) (reply_after rs r)
  -- the reply to RN is its mark and n, which are all its bytes
  pub rn : (b : List ℕ) → r ≡ mark_bytes 0x52 0x4e ++ b → reply_after rs r ≡ r
  -- SH, by the highest accepted take of its sheet, and by how many sheets are kept
  pub sh :
      (b : List ℕ) → r ≡ mark_bytes 0x53 0x48 ++ b →
      ShAnswered (sheet_after rs (word_at 2 b 0)) (sheet_count rs) (word_at 2 b 2) (reply_after rs r)
  -- SQ, by the highest accepted take of its sheet
  pub sq :
      (b : List ℕ) → r ≡ mark_bytes 0x53 0x51 ++ b → SqAnswered (sheet_after rs (word_at 2 b 0)) (reply_after rs r)
