-- `job::put_no` meets its contract: the copied bytes are the run of three bytes. Assumes nothing.
use mathlib.Core.Path.{ap, ◌∙◌}
use Rattle.linalg.specs.Answer.{number}
use Rattle.record_result.specs.RecordResult.{no_bytes}
use Rattle.record_result.proofs.Record.{no_length}
use Rattle.wire.proofs.Places.{lent_stored}
use Rattle.job.proofs.put_no.Goals as goal

pub returns : goal.returns
unfolding no_bytes
returns c =
    lent_stored _ _ (no_bytes (number c.args.refusal)) c.args.at 3
    (c.copy_from_slice.ensures.after ∙ ap no_bytes c.number.ensures) (no_length (number c.args.refusal)) c.requires
