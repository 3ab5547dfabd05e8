-- `job::put_count` meets its contract: the copied bytes are the run of the count's bytes. Assumes nothing.
use mathlib.Core.Path.{◌∙◌}
use Rattle.wire.proofs.Bytes.{count-length}
use Rattle.wire.proofs.Places.{lent_stored}
use Rattle.job.proofs.put_count.Goals as goal

pub returns : goal.returns
returns c =
    lent_stored _ _ _ c.args.at 4 (c.copy_from_slice.ensures.after ∙ c.count_to_le_bytes.ensures)
    (count-length c.args.n) c.requires
