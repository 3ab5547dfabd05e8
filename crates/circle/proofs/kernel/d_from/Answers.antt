use Rattle.std.proofs.Common.{rules}
use Rattle.circle.specs.Kernel.{exact_d}
use lib.Ieee.{of_bits}
use Rattle.circle.proofs.kernel.d_from.Goals as goal

pub returns : goal.returns
unfolding exact_d of_bits
returns g c = let real = g.met.T.Real in search (rules, real.sub_law, real.div_law)
