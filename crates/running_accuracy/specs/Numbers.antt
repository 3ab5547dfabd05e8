-- The bounds after ten joins as the checker computes them, in units of 2^-100. Proved as `numbers`; tests/accuracy
-- holds the Python binding's sim3.accuracy to them.
use Rattle.std.specs.Prelude.{◌≡◌, ℕ, zero, suc}
use Rattle.std.specs.Float.{Format, binary32, binary64}
use Rattle.rounding.specs.Leaves.{errorless}
use Rattle.running_accuracy.specs.Joins.{PoseBound}
use Rattle.running_accuracy.specs.Running.{JoinBox, step_bound, bound_at, box_doubles, box_singles, page_box}

unfoldable pub bound_after : Format → JoinBox → ℕ → PoseBound → PoseBound
unfolding step_bound
bound_after f L zero p = p
bound_after f L (suc n) p = bound_after f L n (step_bound f L p)

abbrev pub after_ten : Format → JoinBox → PoseBound
after_ten f L = bound_after f L 10 (bound_at L 0 (errorless L.translation))

pub record RunningNumbers : Type 0 where
  pub rotation_doubles : (after_ten binary64 box_doubles).rotation.error ≡ 84442536310933572
  pub translation_doubles : (after_ten binary64 box_doubles).translation.error ≡ 5165090892284596326064
  pub rotation_singles : (after_ten binary32 box_singles).rotation.error ≡ 45342592276422067232284961
  pub translation_singles : (after_ten binary32 box_singles).translation.error ≡ 2773436518575528567253943018051
  pub rotation_page : (after_ten binary64 page_box).rotation.error ≡ 84442493024527794
  pub translation_page : (after_ten binary64 page_box).translation.error ≡ 665835227423940528530820
