-- For each function named here, the definitions that its proof unfolds.
use Rattle.std.specs.Prelude.{⊤}
use Rattle.sim3_c_entries.specs.Calls.{mul_call, arms_fitting}
use Rattle.to_lists.specs.Written.{joined_fitting, fitting}
use Rattle.to_lists.proofs.OnLists.{on_lists}

unfoldable pub sim3_mul_unfolds : ⊤
unfolding mul_call joined_fitting on_lists
sim3_mul_unfolds = tt

unfoldable pub put_arms_unfolds : ⊤
unfolding arms_fitting fitting on_lists
put_arms_unfolds = tt
