-- `pairs::recurrence::mirrored` meets its contract: adding the negative of a term is subtracting it. Assumes nothing.
use Rattle.std.proofs.Common.{rules}
use lib.Ieee.{sub}
use Rattle.series.specs.Recurrence.{sums_gain}
use Rattle.pairs.specs.Private.{sums_gain_mirrored}
use Rattle.pairs.proofs.recurrence.mirrored.Goals as goal

pub returns-then-this-ne0 : goal.returns-then-this-ne0
unfolding sums_gain sums_gain_mirrored sub
returns-then-this-ne0 g c s = let real = g.met.T.Real in search (rules, real.neg_law)

pub returns-else-this-ne0 : goal.returns-else-this-ne0
unfolding sums_gain sums_gain_mirrored sub
returns-else-this-ne0 g c s = let real = g.met.T.Real in search (rules, real.neg_law)
