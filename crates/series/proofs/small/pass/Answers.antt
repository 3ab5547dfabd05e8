-- `series::small::pass` meets its contract: after i turns the loops hold what each sign alone has after i entries.
-- Assumes nothing.
use Rattle.std.proofs.Common.{rules}
use lib.Ieee.{of_bits}
use Rattle.series.specs.Pass.{g_stopped}
use Rattle.series.proofs.PartialSums.{both_more, minus_or_zero}
use Rattle.series.proofs.small.pass.Goals as goal

pub loop-i-init : goal.loop-i-init
unfolding g_stopped of_bits
loop-i-init g c = search rules

pub loop-i-preserved : goal.loop-i-preserved
unfolding of_bits
loop-i-preserved g c =
    let real = g.met.T.Real in
    search (rules, real.add_law, real.neg_law, real.fits_law _ c.neg.type_inv, minus_or_zero, both_more)

pub loop-i-2-preserved : goal.loop-i-2-preserved
unfolding of_bits
loop-i-2-preserved g c =
    let real = g.met.T.Real in
    search (rules, real.add_law, real.neg_law, real.fits_law _ c.neg.type_inv, minus_or_zero, both_more)
