-- What holds of both branches of a choice holds of it. Assumes nothing.
use mathlib.Core.Bool.{Bool, true, false, not, cond}
use lib.Dec.{T}

pub either : {A : Type 0} (P : A → Type 0) (t : Bool) (a b : A) → (T t → P a) → (T (not t) → P b) → P (cond t a b)
either P true a b h k = h tt
either P false a b h k = k tt

-- of two choices by the same test
pub both : {A B : Type 0} (P : A → B → Type 0) (t : Bool) (a b : A) (c d : B) → (T t → P a c) → (T (not t) → P b d) →
    P (cond t a b) (cond t c d)
both P true a b c d h k = h tt
both P false a b c d h k = k tt
