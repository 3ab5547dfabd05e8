use native.Mathlib.Omega.{arith}
use mathlib.Core.Path.{◌≡◌, sym, ap, ◌∙◌}
use lib.ListN.{length}
use Rattle.std.specs.Int.{w16, from_le_bytes}
use Rattle.wire.specs.Wire.{word_of}
use Rattle.wire.proofs.Bytes.{bytes-all, read_two}
use Rattle.wire.proofs.short_from_le_bytes.Goals as goal

pub returns : goal.returns
returns c =
    let n : length c.args.b ≡ 2 = omega (arith, c.well_formed) in
    c.from_le_bytes.ensures ∙ (ap (from_le_bytes w16) (bytes-all c.args.b 2 n)
    ∙ (read_two _ _ ∙ sym (ap word_of (bytes-all c.args.b 2 n))))
