-- `error_bounds::act_many` meets its contract: by what its call ensures. Assumes nothing.
use Rattle.error_bounds.proofs.ManyPoints.{points_hold}
use Rattle.error_bounds.proofs.act_many.Goals as goal

pub returns : goal.returns
returns g c = points_hold g.T.Real.format _ _ _ _ _ _ c.act_many.ensures.result_value c.act_many.ensures.out_after
