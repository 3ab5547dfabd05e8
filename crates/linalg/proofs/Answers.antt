-- The two cases of an answer are distinct, and an answer determines its numbers. A test that refuses passes its refusal
-- on. Assumes nothing.
use mathlib.Core.Path.{◌≡◌, refl}
use Prim.Native.Nat.{ℕ}
use mathlib.Core.Bool.{Bool, true, false, cond}
use Rattle.linalg.specs.Answer.{Answer, answers, refuses, and_then}

pub never : {A B : Type 0} (a : A) (n : ℕ) → ◌≡◌ {A = Answer A} (answers a) (refuses n) → B
never a n e = absurd (cc)

pub answers-is : {A : Type 0} (a b : A) → answers a ≡ answers b → a ≡ b
answers-is a b e = cc

-- ---- t: the test that refuses, by n
pub answered_as : {A B : Type 0} (t : Bool) (n : ℕ) (a c : A) (g : A → B) → cond t (refuses n) (answers a) ≡ answers c →
    cond t (refuses n) (answers (g a)) ≡ answers (g c)
answered_as true n a c g h = cc
answered_as false n a c g h = cc

-- two answers after one test are one answer after it
pub both_as :
    {A B C : Type 0} (t : Bool) (n : ℕ) (a : A) (b : B) (g : A → B → C) →
    and_then (cond t (refuses n) (answers a)) (λ x. and_then (cond t (refuses n) (answers b)) (λ y. answers (g x y)))
    ≡ cond t (refuses n) (answers (g a b))
both_as true n a b g = refl
both_as false n a b g = refl
