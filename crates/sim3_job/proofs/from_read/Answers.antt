-- `sim3_job::from_read` meets its contract: both sides compute, for an error and for a number. Assumes nothing.
use mathlib.Core.Path.{refl}
use Rattle.sim3_job.specs.Filled.{filled_of}
use Rattle.sim3_job.proofs.from_read.Goals as goal

pub returns-in_default : goal.returns-in_default
unfolding filled_of
returns-in_default c = rw c.in_default.is refl

pub returns : goal.returns
unfolding filled_of
returns c = rw (c.in-Ok.is, c.given-count.ensures, c.min.ensures) refl
