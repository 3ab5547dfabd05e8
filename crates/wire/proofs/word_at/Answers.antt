-- `wire::word_at` meets its contract: the part is as long as a number. Assumes nothing.
use native.Mathlib.Omega.{arith}
use Prim.Native.Nat.{◌+◌, ◌-◌}
use mathlib.Core.Path.{◌≡◌}
use Rattle.wire.specs.Wire.{width, word_at}
use Rattle.wire.proofs.word_at.Goals as goal

pub returns : goal.returns
unfolding word_at
returns g c =
    let k : c.args.at + c.BYTES.result - c.args.at ≡ width g.T.Real.format =
    omega (arith, c.BYTES.ensures, g.met.T.Number.bytes_law) in
    rw k at c.word.ensures
