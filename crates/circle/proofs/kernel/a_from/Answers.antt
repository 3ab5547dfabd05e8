use Rattle.std.proofs.Common.{rules}
use Rattle.circle.specs.Kernel.{exact_a}
use lib.Ieee.{of_bits}
use Rattle.circle.proofs.kernel.a_from.Goals as goal

pub returns : goal.returns
unfolding exact_a of_bits
returns g c = let real = g.met.T.Real in search (rules, real.mul_law, real.div_law)
