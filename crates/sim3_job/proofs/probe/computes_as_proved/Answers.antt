-- `sim3_job::probe::computes_as_proved` meets its contract: adding zero changes none of the three bit patterns, which
-- are those of the documented numbers. Assumes nothing.
use Rattle.environment.proofs.Documented.{documented_is-due}
use Rattle.sim3_job.proofs.probe.computes_as_proved.Goals as goal

pub returns : goal.returns
returns c =
    simp (
      c.product_is_due.ensures,
      c.from_pattern-third.ensures,
      c.from_pattern-second.ensures,
      c.from_pattern-first.ensures,
      c.zero-hidden.ensures,
    ) documented_is-due
