-- Definitions for the contracts of private functions; no public contract cites it.
use Rattle.std.specs.Prelude.{ℕ, ◌+◌, ◌-◌, ◌*◌, ◌≤◌, ◌<◌, Bool, cond, List, length, ltb, Option, None, Some}
use Rattle.record_result.specs.RecordResult.{longest}
use Rattle.record_result.specs.declared.Disposition.TheVariants.{Refused}
use Rattle.job.specs.declared.Counts.{Counts}
use Rattle.job.specs.declared.Fed.{Fed}
use Rattle.job.specs.declared.Reason.{Reason}
use Rattle.job.specs.declared.Reason.TheVariants as reason
use Rattle.record_result.specs.declared.Step.{Step}
use Rattle.record_result.specs.declared.Step.TheVariants.{Took, Room, End, Unknown, Cut}
use Rattle.job_state.specs.State.{state_of}
use Rattle.job_state.specs.declared.JobState.{JobState}
use Rattle.marks.specs.Rows.{row_count}
use Rattle.job.specs.Counts.{Adds, ByMarkAdd, counts_more}
use Rattle.job.specs.Job.{standing, job_limit}
use Rattle.job.specs.Feed.{Part, records_of, kept_records}

-- sound counts of a job of at most `limit` records
pub record Sound (limit : ℕ) (c : Counts) : Type 0 where
  pub few : c.totals.begun ≤ limit
  pub sum : Adds c
  pub each : ByMarkAdd c

-- the counts with one more record, refused and not read, if there is one
abbrev pub counts_lost : Option ℕ → Counts → Counts
counts_lost None c = c
counts_lost (Some row) c = counts_more Refused row c

-- the place of such a record is among the counts by mark
abbrev pub InRows : Option ℕ → Type 0
InRows None = Unit {0}
InRows (Some row) = row < row_count

-- why the loop ends at a step that takes no reply, and the place of a record that is refused and not read
abbrev pub end_of : Step → Bool → ℕ → Reason × Option ℕ
end_of (Took disposition used written) last row = (reason.More, None)
end_of Room last row = (reason.Room, None)
end_of End last row = cond last (reason.End, None) (reason.More, None)
end_of Unknown last row = (reason.Unknown, Some row)
end_of Cut last row = cond last (reason.Cut, Some row) (reason.More, None)

-- the record loop with the counts c and the state m
abbrev pub looped_of : Counts → JobState → List ℕ → Bool → ℕ → Part
looped_of c m xs last room = records_of (job_limit - c.totals.begun) (standing c (state_of m)) xs last room

-- what the loop's function returns: as `Part`, with the counts for the standing and the number of bytes for the bytes
abbrev pub part_fed : Part → Fed
part_fed p = record { reason = p.reason; counts = p.standing.counts; used = p.used; written = length p.bytes }

-- the state that the code keeps after the loop
abbrev pub looped_kept : Counts → JobState → List ℕ → ℕ → JobState
looped_kept c m xs room = kept_records (job_limit - c.totals.begun) m xs room

-- the bytes of ZZ, of the four counts and of those by mark
abbrev pub trailer_length : ℕ
trailer_length = 2 + 4 * 4 + 4 * row_count

-- the end of the loop with the counts e, or, if the output has too little room for the end, for lack of room with the
-- counts c
unfoldable pub stop_of : Reason → Counts → Counts → ℕ → ℕ → ℕ → Fed
stop_of r c e used written room =
    cond (ltb room longest) (record { reason = reason.Room; counts = c; used = used; written = written })
    (record { reason = r; counts = e; used = used; written = written })
