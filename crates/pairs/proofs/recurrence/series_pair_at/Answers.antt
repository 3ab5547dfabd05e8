-- `pairs::recurrence::series_pair_at` meets its contract: what it computes is `pair_full`, and by the pair theorem that
-- is the series at each sign. Assumes nothing.
use Rattle.std.proofs.Common.{rules}
use Rattle.series.specs.Series.{g_series_pair}
use Rattle.pairs.specs.Private.{pair_full}
use Rattle.pairs.proofs.Pairs.{pair_is}
use Rattle.pairs.proofs.recurrence.series_pair_at.Goals as goal

pub returns : goal.returns
unfolding pair_full g_series_pair
returns g c =
    rw (← pair_is g.T.Real.format (g.T.Real.float c.args.sigma) (g.T.Real.float c.args.z) c.args.k.terms) (search rules)
