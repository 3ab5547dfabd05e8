-- `series::small::horner_small` meets its contract: before its last entry the pass holds all of w0, and after it all of
-- v0. Assumes nothing.
use Rattle.std.proofs.Common.{rules}
use lib.Ieee.{of_bits}
use Rattle.series.proofs.PartialSums.{both_more, minus_or_zero, both_last, both_shared}
use Rattle.series.proofs.small.horner_small.Goals as goal

pub returns : goal.returns
unfolding of_bits
returns g c =
    let real = g.met.T.Real in
    search (
      rules,
      real.add_law,
      real.neg_law,
      real.fits_law _ c.neg.type_inv,
      minus_or_zero,
      both_more,
      both_last,
      both_shared,
    )
