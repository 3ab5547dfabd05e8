-- The results of comparing tangents, as numbers. Assumes nothing.
use mathlib.Core.Path.{◌≡◌, refl}
use mir.Syntax.{w64}
use mir.Val.{to_z, of_z}
use Rattle.std.specs.declared.cmp.Ordering.{Ordering}
use Rattle.std.specs.declared.cmp.Ordering.TheVariants.{Less, Equal, Greater}
use Rattle.sim3_c_doubles.specs.Order.{order_number}

-- an order's number fits a word
pub number_back : (o : Ordering) → to_z w64 (of_z w64 (order_number o)) ≡ order_number o
unfolding order_number
number_back Less = refl
number_back Equal = refl
number_back Greater = refl
