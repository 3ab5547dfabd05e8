-- A structure is what its numbers read as, so a result on the numbers is a result on the structure. Assumes nothing.
use Rattle.std.proofs.Common.{◌≡◌, ℕ, List, length, refl, Float, cond, eqb}
use Rattle.std.specs.Prelude.{Result, Ok, Err, Bool, true, false}
use Rattle.linalg.specs.Answer.{answers, refuses, view}
use Rattle.linalg.specs.declared.refusal.Refusal.{Refusal}
use Rattle.linalg.specs.Floats.{Vec3}
use Rattle.linalg.specs.Floats.{Mat3}
use Rattle.linalg.specs.Vector.{vec_numbers}
use Rattle.arms.specs.Floats.{Values}
use Rattle.sim3.specs.Floats.{Sim3}
use Rattle.sim3.specs.Floats.{Sim3Tangent}
use Rattle.jacobian.specs.Floats.{Sim3Jac}
use Rattle.layout.specs.Layout.{vec_in, mat_in, quat_in, pose_in, tangent_in, values_in, block_in, mat_numbers}
use Rattle.layout.specs.Layout.{quat_numbers, pose_numbers, block_numbers}
use Rattle.layout.specs.Lists.{wrong_length}
use Rattle.from_lists.specs.Lists.{sized, number_in}
use Rattle.from_lists.specs.Numbers.{tangent_numbers, values_numbers}

told_if :
    {A P : Type 0} (h : A → P) (numbers : P → List Float) (back : List Float → P) (b : Bool) (l : List Float)
    (r : Result A Refusal) →
    ((p : P) → back (numbers p) ≡ p) → view (λ a. numbers (h a)) r ≡ cond b (answers l) (refuses wrong_length) →
    view h r ≡ cond b (answers (back l)) (refuses wrong_length)
told_if h numbers back true l (Ok a) inv e = let i = inv (h a) in cc
told_if h numbers back true l (Err r) inv e = cc
told_if h numbers back false l (Ok a) inv e = cc
told_if h numbers back false l (Err r) inv e = cc

pub view_back :
    {A B P : Type 0} (h : A → P) (numbers : P → List Float) (back : List Float → P) → ((p : P) → back (numbers p) ≡ p) →
    (n : ℕ) (l : List B) (floats : List Float) (r : Result A Refusal) → length floats ≡ length l →
    view (λ a. numbers (h a)) r ≡ sized l n floats → view h r ≡ sized floats n (back floats)
unfolding sized
view_back h numbers back inv n l floats r k e = rw k (told_if h numbers back (eqb (length l) n) floats r inv e)

-- ---- each structure is read from its numbers
pub vec_back : (v : Vec3) → vec_in (number_in (vec_numbers v)) 0 ≡ v
unfolding vec_in vec_numbers
vec_back v = refl

pub mat_back : (m : Mat3) → mat_in (number_in (mat_numbers m)) 0 ≡ m
unfolding mat_in vec_in mat_numbers vec_numbers
mat_back m = refl

pub pose_back : (x : Sim3) → pose_in (number_in (pose_numbers x)) 0 ≡ x
unfolding pose_in quat_in vec_in pose_numbers quat_numbers vec_numbers
pose_back x = refl

pub tangent_back : (t : Sim3Tangent) → tangent_in (number_in (tangent_numbers t)) 0 ≡ t
unfolding tangent_in vec_in tangent_numbers vec_numbers
tangent_back t = refl

pub values_back : (v : Values) → values_in (number_in (values_numbers v)) 0 ≡ v
unfolding values_in values_numbers
values_back v = refl

pub block_back : (j : Sim3Jac) → block_in (number_in (block_numbers j)) 0 ≡ j
unfolding block_in mat_in vec_in block_numbers mat_numbers vec_numbers
block_back j = refl
