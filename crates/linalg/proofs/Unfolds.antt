-- For each function named here, the definitions that its proof unfolds.
use Rattle.std.specs.Prelude.{⊤}
use Rattle.linalg.specs.Matrix.{mat_get, mat_col, vec_component, mat_set, vec_put}

unfoldable pub get_unfolds : ⊤
unfolding mat_get mat_col vec_component
get_unfolds = tt

unfoldable pub set_unfolds : ⊤
unfolding mat_set mat_get mat_col vec_component vec_put
set_unfolds = tt
