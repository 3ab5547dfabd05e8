-- `job::put_zz` meets its contract: the copied bytes are the run of two bytes. Assumes nothing.
use Rattle.record_result.specs.RecordResult.{mark_bytes}
use Rattle.record_result.proofs.Record.{mark_length}
use Rattle.wire.proofs.Places.{lent_stored}
use Rattle.job.proofs.put_zz.Goals as goal

pub returns : goal.returns
unfolding mark_bytes
returns c =
    lent_stored _ _ (mark_bytes 0x5a 0x5a) c.args.at 2 c.copy_from_slice.ensures.after
    (mark_length 0x5a 0x5a) c.requires
