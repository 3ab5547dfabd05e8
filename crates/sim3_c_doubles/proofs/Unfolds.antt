-- For each function named here, the definitions that its proof unfolds.
use Rattle.std.specs.Prelude.{⊤}
use Rattle.sim3_c_doubles.specs.Join.{running_from, start_in, run_fitting, start_call, every_call, renormalize_all_call}
use Rattle.sim3_c_doubles.specs.Join.{poses_renormalized}
use Rattle.from_lists.specs.Lists.{sized}
use Rattle.to_lists.specs.Written.{fitting, framed_fitting}
use Rattle.to_lists.proofs.OnLists.{on_lists}
use Rattle.sim3_c_doubles.specs.Shelf.{fresh_call, holds, shelved_fitting, two_fitting, put_call, store_after}
use Rattle.sim3_c_doubles.specs.Shelf.{kept_after, shot_fitting}
use Rattle.sim3_c_doubles.specs.Root.{root_call, root_fits}
use Rattle.sim3_c_doubles.specs.Order.{compare_call, patterns_from, sort_call}
use Rattle.order.specs.Order.{sort_answer, sort_out}

unfoldable pub running_from_unfolds : ⊤
unfolding running_from start_in sized
running_from_unfolds = tt

unfoldable pub put_posed_unfolds : ⊤
unfolding run_fitting fitting on_lists
put_posed_unfolds = tt

unfoldable pub sim3_running_start_unfolds : ⊤
unfolding start_call run_fitting on_lists
sim3_running_start_unfolds = tt

unfoldable pub sim3_running_every_unfolds : ⊤
unfolding every_call sized on_lists
sim3_running_every_unfolds = tt

unfoldable pub all_unfolds : ⊤
unfolding renormalize_all_call poses_renormalized on_lists
all_unfolds = tt

unfoldable pub sim3_sheets_start_unfolds : ⊤
unfolding fresh_call holds on_lists
sim3_sheets_start_unfolds = tt

unfoldable pub put_shelved_unfolds : ⊤
unfolding shelved_fitting two_fitting on_lists
put_shelved_unfolds = tt

unfoldable pub sim3_sheets_put_unfolds : ⊤
unfolding put_call store_after kept_after on_lists
sim3_sheets_put_unfolds = tt

unfoldable pub put_shot_unfolds : ⊤
unfolding shot_fitting framed_fitting on_lists
put_shot_unfolds = tt

unfoldable pub sim3_root_unfolds : ⊤
unfolding root_call root_fits on_lists
sim3_root_unfolds = tt

unfoldable pub sim3_compare_tangents_unfolds : ⊤
unfolding compare_call patterns_from sized on_lists
sim3_compare_tangents_unfolds = tt

unfoldable pub sim3_sort_tangents_unfolds : ⊤
unfolding sort_call sort_answer sort_out on_lists
sim3_sort_tangents_unfolds = tt
