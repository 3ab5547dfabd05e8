-- `sim3_job::run`: from a tape, the bytes in the sink followed by what the job still writes are its output for the
-- whole tape; and each turn brings the end nearer, wherever it reads from.
use Prim.Native.Nat.{◌≤◌, ◌<◌}
use mathlib.Core.Bool.{true, false}
use mathlib.Core.Path.{◌≡◌}
use lib.ListN.{length, take}
use Rattle.job_state.specs.State.{state_of}
use Rattle.job.specs.Counts.{counts_sound}
use Rattle.job.specs.Job.{standing, job_limit}
use Rattle.job.specs.Feed.{record_room}
use Rattle.sim3_job.specs.Filled.{reads, over}
use Rattle.sim3_job.proofs.Underway.{Underway}
use Rattle.sim3_job.proofs.Nearer.{to_go}
use Rattle.sim3_job.proofs.run.Given as goal

abbrev pub invariant-loop-read : goal.invariant-loop-read
invariant-loop-read l = record {
  have_in_bounds : l.have ≤ 65536;
  buf_length : length l.buf ≡ 65536;
  out_length : length l.out ≡ 65536;
  room_to_read : reads l.next ≡ true → l.have < record_room;
  sound : counts_sound job_limit l.c ≡ true;
  at_in_bounds : l.at ≤ length l.tape;
  sent_in_bounds : l.sent ≤ length l.sink;
  sink_length : length l.sink ≡ length l.initial.sink;
  underway : l.live ≡ false → Underway job_limit l.tape l.sink (standing l.c (state_of l.state)) (take l.have l.buf)
      (over l.next) l.at l.sent;
}

abbrev pub decreases-loop-read : goal.decreases-loop-read
decreases-loop-read l = to_go l.c l.have (reads l.next)
