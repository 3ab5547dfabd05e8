-- The reply to a record, and the head of the input.
use Rattle.std.specs.Prelude.{ℕ, ◌+◌, ◌*◌, Bool, true, false, cond, List, [], ◌∷◌, ◌++◌, length, take, ltb}
use Rattle.std.specs.Float.{Format}
use Rattle.linalg.specs.Answer.{Answer, answers, refuses}
use Rattle.layout.specs.Layout.{block_pair_count}
use Rattle.wire.specs.Wire.{Item, items_bytes, all_finite}
use Rattle.record_result.specs.declared.Disposition.{Disposition}
use Rattle.record_result.specs.declared.Disposition.TheVariants as disposition
use Rattle.record_result.specs.declared.Wrote.{Wrote}
use Rattle.record_result.specs.declared.Step.{Step}
use Rattle.record_result.specs.declared.Step.TheVariants as step

-- ---- the refusals that end a job: a mark that is not in the table; an input that ends inside a mark or record
abbrev pub unknown_mark : ℕ
unknown_mark = 6

abbrev pub cut_record : ℕ
cut_record = 7

-- the length of the longest answer: PA's mark and its doubles
abbrev pub longest : ℕ
longest = 2 + 8 * block_pair_count

-- ---- the reply to a record: its disposition, and what is written
pub record Reply : Type 0 where
  pub disposition : Disposition
  pub bytes : List ℕ

-- two letters, as in a mark
unfoldable pub mark_bytes : ℕ → ℕ → List ℕ
mark_bytes a b = a ∷ b ∷ []

-- NO and the number of a refusal
unfoldable pub no_bytes : ℕ → List ℕ
no_bytes k = 0x4e ∷ 0x4f ∷ k ∷ []

-- an answer counts as answered only if every number in it is finite
abbrev pub disposition_of : Bool → Disposition
disposition_of true = disposition.Answered
disposition_of false = disposition.Unusable

-- an answer repeats the mark, whose letters are a and b
unfoldable pub reply_of : Format → ℕ → ℕ → Answer (List Item) → Reply
reply_of f a b (answers l) =
    record { disposition = disposition_of (all_finite l); bytes = mark_bytes a b ++ items_bytes f l }
reply_of f a b (refuses k) = record { disposition = disposition.Refused; bytes = no_bytes k }

-- ---- the head of the input
pub data InputHead : Type 0 where
  -- a whole record: its disposition, its length, and what is written
  took : Disposition → ℕ → List ℕ → InputHead
  -- nothing is left
  ended : InputHead
  -- two bytes that are not a mark
  unknown : InputHead
  -- the input ends inside a mark or record
  cut : InputHead

-- a record of k bytes at the head of s, its mark included: the reply depends on its bytes only
unfoldable pub record_head : ℕ → (List ℕ → Reply) → List ℕ → InputHead
record_head k reply s = let r = reply (take k s) in cond (ltb (length s) k) cut (took r.disposition k r.bytes)

-- ---- the result for an output with some room: a whole record is taken, with its disposition, its length and how many
-- bytes are written; its answer has no room, which is no refusal, and the caller can pass it in again; nothing is left;
-- or the job ends with a refusal
pub data RecordResult : Type 0 where
  wrote : Disposition → ℕ → ℕ → RecordResult
  roomless : RecordResult
  over : RecordResult
  refused : ℕ → RecordResult

unfoldable pub record_result : InputHead → ℕ → RecordResult
record_result (took d k bytes) room = cond (ltb room longest) roomless (wrote d k (length bytes))
record_result ended room = over
record_result unknown room = refused unknown_mark
record_result cut room = refused cut_record

-- the bytes written for it
unfoldable pub written_of : InputHead → ℕ → List ℕ
written_of (took d k bytes) room = cond (ltb room longest) [] bytes
written_of ended room = []
written_of unknown room = []
written_of cut room = []

-- the result that each case of `Step` means
abbrev pub step_view : Step → RecordResult
step_view (step.Took d k n) = wrote d k n
step_view step.Room = roomless
step_view step.End = over
step_view step.Unknown = refused unknown_mark
step_view step.Cut = refused cut_record

-- ---- the result of an operation, and what it writes after the mark
abbrev pub wrote_as : Bool → ℕ → Wrote
wrote_as finite n = record { disposition = disposition_of finite; length = n }

unfoldable pub written_answer : Format → Answer (List Item) → Answer Wrote
written_answer f (answers l) = answers (wrote_as (all_finite l) (length (items_bytes f l)))
written_answer f (refuses k) = refuses k

unfoldable pub answer_bytes : Format → Answer (List Item) → List ℕ
answer_bytes f (answers l) = items_bytes f l
answer_bytes f (refuses k) = []
