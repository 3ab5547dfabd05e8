-- `series::horner::horner_stopped` meets its contract: after i turns the sums are the partial sums that each sign alone
-- has after i entries. Assumes nothing.
use Rattle.std.proofs.Common.{rules}
use lib.Ieee.{of_bits}
use Rattle.series.specs.Pass.{g_stopped}
use Rattle.series.proofs.PartialSums.{both_more}
use Rattle.series.proofs.horner.horner_stopped.Goals as goal

pub loop-i-init : goal.loop-i-init
unfolding g_stopped of_bits
loop-i-init g c = search rules

pub loop-i-preserved : goal.loop-i-preserved
loop-i-preserved g c = let real = g.met.T.Real in search (rules, real.neg_law, both_more)
