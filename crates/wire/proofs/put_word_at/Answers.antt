-- `wire::put_word_at` meets its contract: the borrowed part becomes the run of the word's bytes. Assumes nothing.
use native.Mathlib.Omega.{arith}
use Prim.Native.Nat.{◌+◌, ◌-◌}
use mathlib.Core.Path.{◌≡◌}
use Rattle.wire.specs.Wire.{width}
use Rattle.wire.proofs.Bytes.{word-length}
use Rattle.wire.proofs.Places.{part_stored}
use Rattle.wire.proofs.put_word_at.Goals as goal

pub returns : goal.returns
returns g c =
    let f = g.T.Real.format in
    let k : c.args.at + c.BYTES.result - c.args.at ≡ width f =
    omega (arith, c.BYTES.ensures, g.met.T.Number.bytes_law) in
    rw k (part_stored c.args.out.now _ _ c.args.at (width f) (c.put_word.ensures)
    (word-length (width f) (g.T.Real.bits c.args.word)) c.requires)
