-- For each function named here, the definitions that its proof unfolds.
use Rattle.std.specs.Prelude.{⊤}
use Rattle.sim3_c.specs.Calls.{act_many_call, act_call, act_each_call, mul_inv_call, inv_mul_call}
use Rattle.point_lists.specs.Points.{points_answer, points_out}
use Rattle.to_lists.proofs.OnLists.{on_lists}
use Rattle.to_lists.specs.Written.{joined_fitting}

unfoldable pub sim3_act_many_unfolds : ⊤
unfolding act_many_call act_call points_answer points_out on_lists
sim3_act_many_unfolds = tt

unfoldable pub sim3_act_each_unfolds : ⊤
unfolding act_each_call act_call points_answer points_out on_lists
sim3_act_each_unfolds = tt

unfoldable pub sim3_mul_inv_unfolds : ⊤
unfolding mul_inv_call joined_fitting on_lists
sim3_mul_inv_unfolds = tt

unfoldable pub sim3_inv_mul_unfolds : ⊤
unfolding inv_mul_call joined_fitting on_lists
sim3_inv_mul_unfolds = tt
