-- The job: the whole output for the whole input. Bytes are numbers below 256.
use Rattle.std.specs.Prelude.{ℕ, zero, suc, ◌≤◌, ◌≡◌, List, ◌++◌, drop}
use Rattle.wire.specs.Wire.{count_bytes}
use Rattle.record_result.specs.declared.Disposition.{Disposition}
use Rattle.record_result.specs.declared.Disposition.TheVariants.{Refused}
use Rattle.record_result.specs.RecordResult.{unknown_mark, cut_record, mark_bytes, no_bytes, InputHead, took, ended}
use Rattle.record_result.specs.RecordResult.{unknown, cut}
use Rattle.job_state.specs.State.{State, state_none}
use Rattle.marks.specs.Marks.{head_of, next_of}
use Rattle.marks.specs.Rows.{row_at}
use Rattle.job.specs.declared.Counts.{Counts}
use Rattle.job.specs.Counts.{counts_none, counts_more, by_mark_bytes, Adds, ByMarkAdd}

-- the standing of a job between records: its counts and its state
pub record Standing : Type 0 where
  pub counts : Counts
  pub state : State

abbrev pub standing : Counts → State → Standing
standing c st = record { counts = c; state = st }

abbrev pub standing_none : Standing
standing_none = standing counts_none state_none

-- the standing after the record at the head of xs, whose disposition is d; and after a mark or record that ends the job
abbrev pub moved : Disposition → List ℕ → Standing → Standing
moved d xs s = standing (counts_more d (row_at xs) s.counts) (next_of s.state xs)

abbrev pub lost : List ℕ → Standing → Standing
lost xs s = standing (counts_more Refused (row_at xs) s.counts) s.state

-- ZZ, the four counts, and those by mark
unfoldable pub trailer : Counts → List ℕ
trailer c =
    mark_bytes 0x5a 0x5a
    ++ (count_bytes c.totals.begun ++ (count_bytes c.totals.answered
    ++ (count_bytes c.totals.refused ++ (count_bytes c.totals.unusable ++ by_mark_bytes c.by_mark))))

-- the output by the head of xs; after a record, `go` is the rest of it
unfoldable pub job_on : InputHead → Standing → List ℕ → (Disposition → ℕ → List ℕ) → List ℕ
job_on (took d k bytes) s xs go = bytes ++ go d k
job_on ended s xs go = trailer s.counts
job_on unknown s xs go = no_bytes unknown_mark ++ trailer (lost xs s).counts
job_on cut s xs go = no_bytes cut_record ++ trailer (lost xs s).counts

-- the output from the standing s on, where at most n more records may begin
unfoldable pub job_from : ℕ → Standing → List ℕ → List ℕ
job_from zero s xs = trailer s.counts
job_from (suc n) s xs = job_on (head_of s.state xs) s xs (λ d k. job_from n (moved d xs s) (drop k xs))

-- the most records that a job may begin
abbrev pub job_limit : ℕ
job_limit = 1000000

-- the job on the whole input xs, of at most `limit` records
abbrev pub job_of : ℕ → List ℕ → List ℕ
job_of limit xs = job_from limit standing_none xs

-- ---- the counts with which the job ends
unfoldable pub counts_on : InputHead → Standing → List ℕ → (Disposition → ℕ → Counts) → Counts
counts_on (took d k bytes) s xs go = go d k
counts_on ended s xs go = s.counts
counts_on unknown s xs go = (lost xs s).counts
counts_on cut s xs go = (lost xs s).counts

unfoldable pub counts_from : ℕ → Standing → List ℕ → Counts
counts_from zero s xs = s.counts
counts_from (suc n) s xs = counts_on (head_of s.state xs) s xs (λ d k. counts_from n (moved d xs s) (drop k xs))

abbrev pub counts_of : ℕ → List ℕ → Counts
counts_of limit xs = counts_from limit standing_none xs

-- the job writes them last; they count no more records than the limit; and on every input the last three of the four
-- add up to the first, as do those by mark
pub record CountsTheorem : Type 0 where
  pub written : (limit : ℕ) (xs : List ℕ) → (body : List ℕ) × (job_of limit xs ≡ body ++ trailer (counts_of limit xs))
  pub few : (limit : ℕ) (xs : List ℕ) → (counts_of limit xs).totals.begun ≤ limit
  pub adds : (limit : ℕ) (xs : List ℕ) → Adds (counts_of limit xs)
  pub by_mark : (limit : ℕ) (xs : List ℕ) → ByMarkAdd (counts_of limit xs)
