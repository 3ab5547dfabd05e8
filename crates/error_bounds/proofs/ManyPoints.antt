-- Each point of a list that is moved by the matrix s R, at any format. Assumes nothing.
use mathlib.Core.Path.{◌≡◌, refl, sym, ap, ◌∙◌, subst}
use mathlib.Core.Bool.{Bool, true, false, not}
use mathlib.Core.List.{List, ◌++◌}
use Prim.Native.Nat.{ℕ, zero, suc, ◌+◌, ◌*◌, ◌/◌, ◌≤◌, ◌<◌}
use native.Mathlib.Nat.{add-zero}
use native.Mathlib.Omega.{arith}
use lib.Dec.{T, ltb, ltb→lt, nltb→le}
use lib.ListN.{get_or, length}
use lib.Ieee.{Float, Format, nan}
use Rattle.std.proofs.lemmas.List.{get_or_append_left, get_or-append-add}
use Rattle.linalg.specs.Answer.{Answer}
use Rattle.linalg.specs.Vector.{vec, vec_numbers}
use Rattle.linalg.specs.Floats.{Vec3}
use Rattle.sim3.specs.Floats.{Sim3}
use Rattle.point_lists.specs.Points.{point_at, points_moved, points_accepted, points_answer, points_out, pose_act_many}
use Rattle.point_lists.specs.Points.{mat_act}
use Rattle.point_lists.proofs.Lists.{moved_length}
use Rattle.accuracy.proofs.ManyPoints.{matrix_action_accurate}
use Rattle.error_bounds.specs.ManyPoints.{PointsAccurate}

-- ---- triple i of the moved list is triple i moved
earlier : (a b : List Float) (i : ℕ) → i * 3 + 3 ≤ length a → point_at (a ++ b) i ≡ point_at a i
unfolding point_at
earlier a b i h =
    let read = get_or_append_left a b nan in
    let x = read (i * 3) (omega (arith, h)) in
    let y = read (i * 3 + 1) (omega (arith, h)) in
    let z = read (i * 3 + 2) (omega (arith, h)) in
    λ j. vec (x j) (y j) (z j)

last : (a : List Float) (v : Vec3) (n : ℕ) → length a ≡ n * 3 → point_at (a ++ vec_numbers v) n ≡ v
unfolding point_at vec_numbers
last a v n h =
    let read = get_or-append-add a (vec_numbers v) in
    let first = ap (λ (i : ℕ). get_or (a ++ vec_numbers v) i nan) (sym (add-zero (length a))) ∙ read 0 nan in
    rw (← h) (λ j. vec (first j) (read 1 nan j) (read 2 nan j))

abbrev longer : (Vec3 → Vec3) → List Float → ℕ → List Float
longer g l n = points_moved g l n ++ vec_numbers (g (point_at l n))

moved_at : (g : Vec3 → Vec3) (l : List Float) (n i : ℕ) → i < n → point_at (points_moved g l n) i ≡ g (point_at l i)
unfolding points_moved
moved_at g l zero i h = absurd (omega (arith, h))
moved_at g l (suc n) i h = go (ltb i n) (ltb→lt i n) (nltb→le i n) (moved_at g l n i)
  where
    go : (b : Bool) → (T b → i < n) → (T (not b) → n ≤ i)
        → (i < n → point_at (points_moved g l n) i ≡ g (point_at l i)) → point_at (longer g l n) i ≡ g (point_at l i)
    go true a b k =
        let c : i < n = a tt in
        earlier (points_moved g l n) (vec_numbers (g (point_at l n))) i (rw (moved_length g l n) (omega arith)) ∙ k c
    go false a b k =
        let c : n ≤ i = b tt in
        let e : n ≡ i = omega arith in
        let k = last (points_moved g l n) (g (point_at l n)) n (moved_length g l n) in
        subst (λ (j : ℕ). point_at (longer g l n) j ≡ g (point_at l j)) e k

-- ---- what the call ensures
pub points_hold : (f : Format) (x : Sim3) (up : Float) (l old new : List Float) (a : Answer (Unit {0}))
    → a ≡ points_answer l old → new ≡ points_out (pose_act_many f x up) l old
    → PointsAccurate f x up l a new
unfolding points_answer points_out mat_act
points_hold f x up l old new a e h = go (points_accepted (length l) (length old)) refl
  where
    go : (b : Bool) → points_accepted (length l) (length old) ≡ b → PointsAccurate f x up l a new
    go true q =
        let one = moved_at (pose_act_many f x up) l (length l / 3) in
        rw (e, h, q) (λ i k. rw (one i k) (matrix_action_accurate f x up (point_at l i)))
    go false q = rw (e, h, q) q
