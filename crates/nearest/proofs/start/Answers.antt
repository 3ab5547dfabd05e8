-- `nearest::start` meets its contract: z + 0 is z without the sign of a zero, and its pattern is below the infinity's.
-- Assumes nothing.
use mathlib.Core.Path.{◌≡◌, sym, ap, ◌∙◌, subst}
use Prim.Native.Nat.{ℕ, ◌<◌}
use lib.Ieee.{to_bits, of_bits, add}
use Rattle.ieee.specs.Numbers.{f0}
use Rattle.ieee.specs.Patterns.{patterns}
use Rattle.ieee.specs.Signs.{unsigned_zero}
use Rattle.nearest.proofs.Starts.{start_is, start_below}
use Rattle.nearest.proofs.start.Goals as goal

pub returns : goal.returns
unfolding of_bits
returns g c =
    let r = g.T.Real in
    let real = g.met.T.Real in
    let z = r.float c.args.z in
    let fit = real.fits_law c.args.z (_, c.well_formed.0) in
    let sum : r.float c.add.result ≡ add r.format z f0 = real.add_law _ _ _ c.add.ensures
    ∙ ap (λ x. add r.format z x) c.of.ensures in
    let e : c.place.result ≡ to_bits r.format (unsigned_zero z) =
    c.place.ensures ∙ ap (λ x. to_bits r.format x) sum ∙ start_is r.format z fit in
    (e, subst (λ (n : ℕ). n < patterns r.format) (sym e) (start_below r.format z fit c.requires.0 c.requires.1))
