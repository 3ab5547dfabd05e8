-- `wire::no_nan` meets its contract: after i turns the sign bit says whether a NaN is among the first i numbers.
-- Assumes nothing.
use native.Mathlib.Omega.{arith}
use Prim.Native.Nat.{◌/◌}
use mathlib.Core.Path.{◌≡◌, ◌∙◌}
use lib.ListN.{length}
use Rattle.wire.specs.Wire.{width, no_nan}
use Rattle.wire.proofs.Nans.{one_more}
use Rattle.wire.proofs.no_nan.Goals as goal

pub loop-i-preserved : goal.loop-i-preserved
loop-i-preserved g c =
    let f = g.T.Real.format in
    let w : c.BYTES-in-loop-i.result ≡ width f = c.BYTES-in-loop-i.ensures ∙ g.met.T.Number.bytes_law in
    one_more f c.args.b.now c.loop-i.i _ _ _ (rw w at c.word_at.ensures) c.loop-i.invariant c.seen-seen.ensures

pub returns : goal.returns
unfolding no_nan
returns g c =
    let f = g.T.Real.format in
    let w : c.BYTES.result ≡ width f = c.BYTES.ensures ∙ g.met.T.Number.bytes_law in
    let e : c.loop-i.i ≡ length c.args.b.now / c.BYTES.result = omega arith in
    c.no_nan_seen.ensures ∙ rw (e, w) at c.loop-i.invariant
