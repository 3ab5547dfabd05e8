-- The job in pieces: what one call does with the bytes at hand.
use Rattle.std.specs.Prelude.{ℕ, zero, suc, ◌+◌, ◌-◌, ◌≡◌, ◌≤◌, Bool, true, false, cond, List, [], ◌++◌, length}
use Rattle.std.specs.Prelude.{drop}
use Rattle.std.specs.Prelude.{ltb}
use Rattle.record_result.specs.declared.Disposition.{Disposition}
use Rattle.record_result.specs.RecordResult.{longest, unknown_mark, cut_record, no_bytes, InputHead, took, ended}
use Rattle.record_result.specs.RecordResult.{unknown, cut}
use Rattle.job_state.specs.State.{state_of}
use Rattle.job_state.specs.declared.JobState.{JobState}
use Rattle.marks.specs.Marks.{longest_record, head_of, behind_of}
use Rattle.job.specs.declared.Counts.{Counts}
use Rattle.job.specs.declared.Fed.{Fed}
use Rattle.job.specs.declared.Reason.{Reason}
use Rattle.job.specs.declared.Reason.TheVariants.{More, Room, Bad, Full, End, Unknown, Cut}
use Rattle.job.specs.Counts.{Adds, ByMarkAdd, counts_sound}
use Rattle.job.specs.Job.{Standing, standing, moved, lost, trailer, job_limit}

-- why the call stopped, the standing then, how many bytes it used, and what it wrote
pub record Part : Type 0 where
  pub reason : Reason
  pub standing : Standing
  pub used : ℕ
  pub bytes : List ℕ

abbrev pub halt : Reason → Standing → Part
halt r s = record { reason = r; standing = s; used = 0; bytes = [] }

-- a record of k bytes, whose reply is `bytes`, and then p
abbrev pub after : ℕ → List ℕ → Part → Part
after k bytes p = record { reason = p.reason; standing = p.standing; used = k + p.used; bytes = bytes ++ p.bytes }

-- by the head of xs; if the bytes at hand are not the last, the call waits for more at an end and at a cut record
unfoldable pub part_on : Bool → InputHead → Standing → List ℕ → (Disposition → ℕ → List ℕ → Part) → Part
part_on last (took d k bytes) s xs go = after k bytes (go d k bytes)
part_on last ended s xs go = cond last (halt End s) (halt More s)
part_on last unknown s xs go = halt Unknown (lost xs s)
part_on last cut s xs go = cond last (halt Cut (lost xs s)) (halt More s)

-- the record loop, where at most n more records may begin: each turn first tests for the room of the longest answer
unfoldable pub records_of : ℕ → Standing → List ℕ → Bool → ℕ → Part
records_of zero s xs last room = cond (ltb room longest) (halt Room s) (halt Full s)
records_of (suc n) s xs last room =
    cond (ltb room longest) (halt Room s)
    (part_on last (head_of s.state xs) s xs (λ d k bytes. records_of n (moved d xs s) (drop k xs) last
    (room - length bytes)))

-- the state that the code keeps after the records that the loop takes: by the same turns, and m itself if it takes none
unfoldable pub kept_on : InputHead → JobState → (ℕ → List ℕ → JobState) → JobState
kept_on (took d k bytes) m go = go k bytes
kept_on ended m go = m
kept_on unknown m go = m
kept_on cut m go = m

unfoldable pub kept_records : ℕ → JobState → List ℕ → ℕ → JobState
kept_records zero m xs room = m
kept_records (suc n) m xs room =
    cond (ltb room longest) m
    (kept_on (head_of (state_of m) xs) m (λ k bytes. kept_records n (behind_of m xs) (drop k xs) (room - length bytes)))

-- what a reason means: call again with more bytes, or with more room; the counts passed in are unsound; the job has
-- ended, at the limit, with the input, or with a refusal. The first three are no refusals: nothing is written for them.
pub data ReasonView : Type 0 where
  wants_bytes : ReasonView
  wants_room : ReasonView
  unsound : ReasonView
  at_limit : ReasonView
  at_end : ReasonView
  refused : ℕ → ReasonView

abbrev pub reason_view : Reason → ReasonView
reason_view More = wants_bytes
reason_view Room = wants_room
reason_view Bad = unsound
reason_view Full = at_limit
reason_view End = at_end
reason_view Unknown = refused unknown_mark
reason_view Cut = refused cut_record

-- what is written after the loop: the refusal, if any, and the counts
unfoldable pub closing_of : ReasonView → Counts → List ℕ
closing_of wants_bytes c = []
closing_of wants_room c = []
closing_of unsound c = []
closing_of at_limit c = trailer c
closing_of at_end c = trailer c
closing_of (refused k) c = no_bytes k ++ trailer c

abbrev pub closing : Reason → Counts → List ℕ
closing r c = closing_of (reason_view r) c

abbrev pub closed : Part → Part
closed p =
    record {
      reason = p.reason;
      standing = p.standing;
      used = p.used;
      bytes =
          p.bytes ++ closing p.reason p.standing.counts;
    }

-- one call, with an output of some room; if the counts are unsound, nothing is used and the standing stays
unfoldable pub feed_of : ℕ → Standing → List ℕ → Bool → ℕ → Part
feed_of limit s xs last room =
    cond (counts_sound limit s.counts) (closed (records_of (limit - s.counts.totals.begun) s xs last room)) (halt Bad s)

-- the call with the counts c and the state m
abbrev pub fed_of : Counts → JobState → List ℕ → Bool → ℕ → Part
fed_of c m xs last room = feed_of job_limit (standing c (state_of m)) xs last room

-- the state that the code keeps after that call
unfoldable pub fed_kept : Counts → JobState → List ℕ → ℕ → JobState
fed_kept c m xs room = cond (counts_sound job_limit c) (kept_records (job_limit - c.totals.begun) m xs room) m

-- if the counts are sound, each call, whatever its input and its room, leaves sound counts: the last three of the four
-- add up to the first, and so do those by mark
abbrev pub FeedTheorem : Type 0
FeedTheorem =
    (limit : ℕ) (s : Standing) (xs : List ℕ) (last : Bool) (room : ℕ) →
    counts_sound limit s.counts ≡ true →
    (counts_sound limit (feed_of limit s xs last room).standing.counts ≡ true)
    × (Adds (feed_of limit s xs last room).standing.counts
    × ByMarkAdd (feed_of limit s xs last room).standing.counts)

-- what the function returns: the meaning of its reason, the counts, how many bytes it used, and how many it wrote
pub record FedView : Type 0 where
  pub reason : ReasonView
  pub counts : Counts
  pub used : ℕ
  pub written : ℕ

abbrev pub fed_view : Fed → FedView
fed_view r = record { reason = reason_view r.reason; counts = r.counts; used = r.used; written = r.written }

abbrev pub part_view : Part → FedView
part_view p = record {
  reason = reason_view p.reason;
  counts = p.standing.counts;
  used = p.used;
  written = length p.bytes;
}

-- ---- a call with the counts c, the state m, the input xs and the output out: its result r, and the output and the
-- state after it
pub record Feeds (c : Counts) (m : JobState) (xs : List ℕ) (last : Bool) (out : List ℕ) (r : Fed) (out' : List ℕ)
    (m' : JobState) : Type 0 where
  pub result_value : fed_view r ≡ part_view (fed_of c m xs last (length out))
  pub out_after : out' ≡ (fed_of c m xs last (length out)).bytes ++ drop r.written out
  pub kept_after : m' ≡ fed_kept c m xs (length out)
  pub state_after : state_of m' ≡ (fed_of c m xs last (length out)).standing.state
  pub in_bounds : (r.used ≤ length xs) × (r.written ≤ length out)

-- whether the job has ended, and whether to call again
abbrev pub view_is_over : ReasonView → Bool
view_is_over wants_bytes = false
view_is_over wants_room = false
view_is_over unsound = false
view_is_over at_limit = true
view_is_over at_end = true
view_is_over (refused k) = true

abbrev pub is_over : Reason → Bool
is_over r = view_is_over (reason_view r)

abbrev pub view_goes_on : ReasonView → Bool
view_goes_on wants_bytes = true
view_goes_on wants_room = true
view_goes_on unsound = false
view_goes_on at_limit = false
view_goes_on at_end = false
view_goes_on (refused k) = false

abbrev pub goes_on : Reason → Bool
goes_on r = view_goes_on (reason_view r)

-- whether to read more before the next call
abbrev pub asks_for : Reason → Bool
asks_for More = true
asks_for Room = false
asks_for Bad = false
asks_for Full = false
asks_for End = false
asks_for Unknown = false
asks_for Cut = false

-- ---- sizes for the caller: an output with less room than the first receives no answer, and a call that waits for more
-- input leaves fewer bytes than the second
abbrev pub answer_room : ℕ
answer_room = longest

abbrev pub record_room : ℕ
record_room = longest_record
