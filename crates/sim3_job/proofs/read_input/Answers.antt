-- `sim3_job::read_input` stays within the buffer and leaves the bytes at hand as they are. Assumes nothing.
use borrow.Author.Rules.{rules}
use lib.ListN.{length}
use Rattle.sim3_job.proofs.Underway.{filled_within}
use Rattle.sim3_job.proofs.read_input.Goals as goal

pub returns-clause-within : goal.returns-clause-within
returns-clause-within c =
    let a = c.args in
    filled_within c.from_read.result _ _ a.at c.from_read.ensures a.have (length a.buf.now) (length a.tape.now)
    (search rules) c.requires.at_in_bounds
