-- `arms::values::at_zero` meets its contract: what equals zero is at most zero and at least zero. Assumes nothing.
use Rattle.std.proofs.Common.{rules}
use lib.Ieee.{of_bits}
use Rattle.arms.specs.Values.{at_zero}
use Rattle.arms.proofs.Compare.{zero_is}
use Rattle.arms.proofs.values.at_zero.Goals as goal

pub returns : goal.returns
unfolding at_zero of_bits
returns g c = let real = g.met.T.Real in search (rules, real.eq_law, zero_is)
