use native.Mathlib.Omega.{arith}
use mathlib.Core.Path.{◌≡◌, refl, ap, ◌∙◌}
use lib.ListN.{length}
use Rattle.std.specs.Int.{w64, from_le_bytes}
use Rattle.wire.specs.Wire.{word_of, number_of}
use Rattle.wire.proofs.Bytes.{bytes-all, read_eight}
use Rattle.wire.proofs.from_le_bytes.Goals as goal

pub returns : goal.returns
unfolding number_of
returns c =
    let n : length c.args.b ≡ 8 = omega (arith, c.well_formed) in
    let read : from_le_bytes w64 c.args.b ≡ word_of c.args.b =
    ap (from_le_bytes w64) (bytes-all c.args.b 8 n) ∙ read_eight c.args.b n in
    c.from_pattern.ensures ∙ rw (c.from_le_bytes.ensures, read) refl
