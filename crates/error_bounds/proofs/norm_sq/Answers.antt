-- `error_bounds::norm_sq` meets its contract: by what its call ensures. Assumes nothing.
use Rattle.error_bounds.proofs.Holds.{norm-holds, relative-holds}
use Rattle.error_bounds.proofs.norm_sq.Goals as goal

pub returns : goal.returns
returns g c =
    record {
      absolute = norm-holds g.T.Real.format _ _ c.norm_sq.ensures;
      relative = relative-holds g.T.Real.format _ _ c.norm_sq.ensures;
    }
