-- `job::records` meets its contract: each turn preserves the definition's value, and each exit is the definition's.
-- Assumes nothing.
use Prim.Native.Nat.{◌-◌}
use mathlib.Core.Path.{◌≡◌}
use lib.ListN.{length, drop}
use Rattle.job_state.specs.State.{state_of}
use Rattle.job.specs.Job.{standing, job_limit}
use Rattle.job.specs.Feed.{kept_records}
use Rattle.job.proofs.Loop.{Going}
use Rattle.job.proofs.records.Given as goal

abbrev pub invariant-loop : goal.invariant-loop
invariant-loop l =
    Going job_limit l.input l.last (standing l.fn.c0 (state_of l.initial.state)) l.initial.out
    (standing l.c (state_of l.state)) l.out l.at l.to
    × ((kept_records (job_limit - l.fn.c0.totals.begun) l.initial.state l.input (length l.initial.out)
    ≡ kept_records (job_limit - l.c.totals.begun) l.state (drop l.at l.input) (length l.initial.out - l.to))
    × (l.counter ≡ l.c.totals.begun))
