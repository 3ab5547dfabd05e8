-- The result of a run from a tape to a sink.
use Rattle.std.specs.Prelude.{ℕ, ◌<◌, ◌≡◌, List, Result, Ok, Err, length, take}
use Rattle.sim3_job.specs.declared.RunError.{RunError}
use Rattle.sim3_job.specs.declared.RunError.TheVariants.{Unread, Unwritten}

-- by the result, where the job writes `whole` and the sink has room for `most` bytes: all of it was written; or it is
-- longer than the sink, which holds its beginning. No read from the tape fails.
abbrev pub Performed : Result (Unit {0}) RunError → List ℕ → ℕ → List ℕ → Type 0
Performed (Ok u) wrote most whole = wrote ≡ whole
Performed (Err Unread) wrote most whole = ⊥
Performed (Err Unwritten) wrote most whole = (most < length whole) × (wrote ≡ take (length wrote) whole)
