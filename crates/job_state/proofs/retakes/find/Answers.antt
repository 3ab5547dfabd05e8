-- `job_state::retakes::find` meets its contract: it reads the sheet, looks it up and writes what is kept. Assumes
-- nothing.
use native.Mathlib.Omega.{arith}
use mathlib.Core.Path.{◌≡◌, ◌∙◌}
use Rattle.wire.specs.Wire.{word_at}
use Rattle.wire.proofs.Places.{short_read}
use Rattle.job_state.proofs.retakes.find.Goals as goal

pub returns : goal.returns
returns c =
    let b = c.args.b.now in
    let sheet : c.short_from_le_bytes-sheet.result ≡ word_at 2 b 0 =
    c.short_from_le_bytes-sheet.ensures ∙ short_read b 0 (omega (arith, c.requires.b_value)) in
    let w = rw (rw sheet at c.get.ensures) at c.put_shot.ensures in
    record {
      result_value = w.result_value;
      out_after = w.out_after;
    }
