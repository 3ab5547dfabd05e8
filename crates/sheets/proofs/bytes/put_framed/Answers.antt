use mathlib.Core.Path.{◌∙◌}
use lib.Ieee.{binary64}
use Rattle.wire.proofs.Places.{lent_stored}
use Rattle.record_result.proofs.Frames.{framed-length}
use Rattle.sheets.proofs.bytes.put_framed.Goals as goal

pub returns : goal.returns
returns c =
    lent_stored _ _ _ c.args.at 68 (c.copy_from_slice.ensures.after ∙ c.framed_bytes.ensures.bytes)
    (framed-length binary64 c.args.x) c.requires
