-- `sim3_job::put` meets its contract: where it writes to standard output, the place in the sink stays. Assumes nothing.
use Rattle.std.proofs.Common.{rules, length}
use Rattle.sim3_job.proofs.Sent.{sent_within}
use Rattle.sim3_job.proofs.put.Goals as goal

pub returns-then-live-clause-within_sink : goal.returns-then-live-clause-within_sink
returns-then-live-clause-within_sink c =
    sent_within _ _ c.args.sent (length c.args.sink.now) c.from_write.ensures c.requires
