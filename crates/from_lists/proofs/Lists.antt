-- Lists of the right length. Assumes nothing.
use Prim.Native.Nat.{ℕ}
use mathlib.Core.Path.{◌≡◌}
use mathlib.Core.List.{List}
use borrow.Author.Tests.{eq-eqb}
use lib.ListN.{length}
use Rattle.linalg.specs.Answer.{answers}
use Rattle.from_lists.specs.Lists.{sized}

pub sized-right : {A B : Type 0} (l : List B) (n : ℕ) (a : A) → length l ≡ n → sized l n a ≡ answers a
unfolding sized
sized-right l n a h = simp (eq-eqb _ _ h)
