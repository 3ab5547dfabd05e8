use Rattle.std.proofs.Common.{rules}
use Rattle.circle.specs.Kernel.{sinc_from}
use lib.Ieee.{of_bits}
use Rattle.circle.proofs.kernel.sinc_from.Goals as goal

pub returns : goal.returns
unfolding sinc_from of_bits
returns g c = let real = g.met.T.Real in search (rules, real.mul_law)
