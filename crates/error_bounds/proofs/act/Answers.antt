-- `error_bounds::act` meets its contract: by what its call ensures. Assumes nothing.
use Rattle.error_bounds.proofs.Holds.{act_holds, similarity-holds}
use Rattle.error_bounds.proofs.act.Goals as goal

pub returns : goal.returns
returns g c =
    record {
      formula = act_holds g.T.Real.format _ _ _ _ c.act.ensures;
      similarity = similarity-holds g.T.Real.format _ _ _ _ c.act.ensures;
    }
