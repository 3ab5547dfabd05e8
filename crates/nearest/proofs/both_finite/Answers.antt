-- `nearest::both_finite` meets its contract: a product that begins with 0 is a zero if all its factors are finite, and
-- a NaN if not. Assumes nothing.
use mathlib.Core.Bool.{true, ◌&&◌}
use mathlib.Core.Path.{refl}
use lib.Ieee.{mul, of_bits}
use Rattle.std.proofs.Common.{rules}
use Rattle.ieee.specs.Finite.{is_finite, ZeroIf}
use Rattle.ieee.specs.Numbers.{f0}
use Rattle.ieee.specs.Signs.{unsigned_zero}
use Rattle.ieee.proofs.Finite.{zero-times, zero-view}
use Rattle.nearest.proofs.both_finite.Goals as goal

starts : ZeroIf true f0
unfolding unsigned_zero
starts = refl

pub returns : goal.returns
unfolding of_bits
returns g c =
    let r = g.T.Real in
    let real = g.met.T.Real in
    let f = r.format in
    let x = r.float c.args.x in
    let y = r.float c.args.y in
    let one = zero-times f true f0 x starts in
    let both = zero-view (is_finite x && is_finite y) _ (zero-times f (is_finite x) (mul f f0 x) y one) in
    search (rules, real.mul_law, real.eq_law, both)
