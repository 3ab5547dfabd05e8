-- `replies::operations::read` meets its contract: the bytes hold exactly the numbers. Assumes nothing.
use mathlib.Core.Path.{◌≡◌, refl, ◌∙◌}
use Prim.Native.Nat.{◌*◌}
use lib.ListN.{length-replicate, replicate}
use Rattle.wire.specs.Wire.{width}
use Rattle.wire.proofs.Lists.{decoded}
use Rattle.replies.proofs.Views.{floats-length}
use Rattle.replies.proofs.operations.read.Goals as goal

pub returns : goal.returns
returns g c =
    let f = g.T.Real.format in
    let z = replicate g.row.N c.of-x.result in
    let n = length-replicate g.row.N c.of-x.result in
    let e = floats-length g.T.Real.floats g.T.Real.float g.met.T.Real.floats_law z ∙ n in
    let v : g.row.N * c.BYTES.result ≡ g.row.N * width f = rw (c.BYTES.ensures, g.met.T.Number.bytes_law) refl in
    rw (v, n) at c.decode.ensures ∙ rw e at (decoded f c.args.b.now (g.T.Real.floats z) g.row.N c.requires.bytes e)
