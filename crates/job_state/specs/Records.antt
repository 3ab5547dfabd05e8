-- A record by the rule of its mark: the head of the input, the state after it, and the result of the call.
use Rattle.std.specs.Prelude.{ℕ, ◌≡◌, ◌<◌, ◌≤◌, ◌⊎◌, cond, List, length, take, drop, ltb}
use Rattle.std.proofs.lemmas.List.Edits.{sets}
use Rattle.record_result.specs.RecordResult.{longest, step_view, Reply, InputHead, record_head, RecordResult, wrote}
use Rattle.record_result.specs.RecordResult.{record_result, written_of}
use Rattle.record_result.specs.declared.Step.{Step}
use Rattle.record_result.specs.declared.Step.TheVariants.{Room, Cut}
use Rattle.job_state.specs.State.{State, state_of}
use Rattle.job_state.specs.declared.JobState.{JobState}

-- the state after a whole record, and the reply to it
pub record Stepped : Type 0 where
  pub state : State
  pub reply : Reply

-- the rule of a mark: how many bytes a record has, its mark included; what a whole one does, by the state before it and
-- its bytes; and the state that the code keeps after it
pub record RecordRule : Type 0 where
  pub bytes : ℕ
  pub step : State → List ℕ → Stepped
  pub after : JobState → List ℕ → JobState

-- ---- the head of the input s, where st is the state; and the state after it, which is st if no whole record is there
unfoldable pub head_by_rule : RecordRule → State → List ℕ → InputHead
head_by_rule a st s = record_head a.bytes (λ r. (a.step st r).reply) s

unfoldable pub next_by : RecordRule → State → List ℕ → State
next_by a st s = cond (ltb (length s) a.bytes) st (a.step st (take a.bytes s)).state

-- the state that the code keeps after it: m itself if no whole record is there
unfoldable pub behind_by : RecordRule → JobState → List ℕ → JobState
behind_by a m s = cond (ltb (length s) a.bytes) m (a.after m (take a.bytes s))

-- ---- a reader: the head of the input s, the state after it, and the state that the code keeps. Both states stay as
-- they are if no whole record is there.
pub record Reader : Type 0 where
  pub head : State → List ℕ → InputHead
  pub next : State → List ℕ → State
  pub behind : JobState → List ℕ → JobState

-- the reader of one rule
abbrev pub by_rule : RecordRule → Reader
by_rule a = record { head = head_by_rule a; next = next_by a; behind = behind_by a }

-- ---- a call that borrows the state m and the output out: step is its result for the head of s, and out' and m' are
-- the output and the state after it. Without room for the longest answer nothing changes.
pub record Handled (r : Reader) (m : JobState) (s out : List ℕ) (step : Step) (out' : List ℕ)
    (m' : JobState) : Type 0 where
  pub result_value : step_view step ≡ record_result (r.head (state_of m) s) (length out)
  pub out_after : out' ≡ sets out 0 (written_of (r.head (state_of m) s) (length out))
  pub kept_after : m' ≡ cond (ltb (length out) longest) m (r.behind m s)
  pub state_after : state_of m' ≡ cond (ltb (length out) longest) (state_of m) (r.next (state_of m) s)

-- the result of a record of k bytes with the reply r
abbrev pub took_of : ℕ → Reply → RecordResult
took_of k r = wrote r.disposition k (length r.bytes)

-- ---- the test of a record of k bytes in the code: it is taken, and b are the bytes after its mark; or it is not, and
-- step says why
pub record IsTaken (k : ℕ) (s out b : List ℕ) : Type 0 where
  pub whole : k ≤ length s
  pub room : longest ≤ length out
  pub bytes : b ≡ drop 2 (take k s)

abbrev pub IsLeft : ℕ → List ℕ → List ℕ → Step → Type 0
IsLeft k s out step =
    ((length s < k) × (step ≡ Cut))
    ⊎ ((k ≤ length s) × ((length out < longest) × (step ≡ Room)))
