-- `sim3_job::fill` meets its contract: it reads only if `next` says so. Assumes nothing.
use mathlib.Core.Bool.{false}
use Rattle.std.specs.Prelude.{Ok}
use Rattle.sim3_job.proofs.Underway.{tape_kept}
use Rattle.sim3_job.proofs.fill.Goals as goal

pub returns-else-live : goal.returns-else-live
returns-else-live c =
    let a = c.args in
    let p = c.read_tape.ensures.from_tape in
    rw c.in-Read.is
    (record {
      within = c.read_tape.ensures.within;
      buf_unchanged =
          tape_kept (Ok c.read_tape.result) a.tape.now a.at a.have a.buf.now c.read_tape.new.buf false
          c.requires.have_in_bounds p;
      from_tape = λ e. p;
    })
