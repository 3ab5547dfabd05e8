-- Renormalising the poses of a list one after another: after i turns the first i are renormalised and the rest is as
-- before. Assumes nothing.
use Prim.Native.Nat.{ℕ, zero, suc, ◌+◌, ◌*◌, ◌-◌, ◌≤◌, ◌<◌}
use mathlib.Core.Path.{◌≡◌, refl, sym, ap, ◌∙◌}
use mathlib.Core.List.{List, [], ◌∷◌, ◌++◌, append-nil, append_assoc}
use native.Mathlib.Numerals.{add-one}
use native.Mathlib.Omega.{arith}
use lib.ListN.{get_or, set, length, take, drop, length-append, length-drop}
use lib.Seq.{sets, sets-eq, take_at, drop_at, drop-length, drop-drop, get_or-take, get_or-drop, get_or-append-add}
use lib.Seq.{length-take-le}
use lib.Ieee.{Float, Format, nan}
use Rattle.sim3.specs.Pose.{pose_renormalized}
use Rattle.sim3.specs.Floats.{Sim3}
use Rattle.layout.specs.Layout.{vec_in, quat_in, pose_in, pose_numbers}
use Rattle.layout.proofs.Numbers.{pose-count}
use Rattle.from_lists.specs.Lists.{number_in, pose_from}
use Rattle.from_lists.proofs.Lists.{sized-right}
use Rattle.to_lists.specs.Written.{written}
use Rattle.to_lists.proofs.Fits.{fitted}
use Rattle.sim3_c.specs.Calls.{renormalize_call}
use Rattle.sim3_c_doubles.specs.Join.{poses_renormalized}

-- five stores fill a list of five
pub five : {A : Type 0} (l : List A) (a b c d e : A) → length l ≡ 5 →
    set (set (set (set (set l 0 a) 1 b) 2 c) 3 d) 4 e ≡ a ∷ b ∷ c ∷ d ∷ e ∷ []
five [] a b c d e h = absurd (omega arith)
five (p ∷ []) a b c d e h = absurd (omega arith)
five (p ∷ q ∷ []) a b c d e h = absurd (omega arith)
five (p ∷ q ∷ r ∷ []) a b c d e h = absurd (omega arith)
five (p ∷ q ∷ r ∷ s ∷ []) a b c d e h = absurd (omega arith)
five (p ∷ q ∷ r ∷ s ∷ t ∷ []) a b c d e h = refl
five (p ∷ q ∷ r ∷ s ∷ t ∷ u ∷ l) a b c d e h = absurd (omega arith)

-- a pose has eight numbers
pub ruleset sizes = (pose-count)

pub ruleset state_sizes = (pose-count, five)

run_length : (f : Format) (l : List Float) (n : ℕ) → length (poses_renormalized f l n) ≡ n * 8
unfolding poses_renormalized
run_length f l zero = refl
run_length f l (suc n) =
    let h : length (poses_renormalized f l n) ≡ n * 8 = run_length f l n in
    simp (length-append, pose-count) (omega arith)

-- eight stores at the seam
seam : (p l b : List Float) (k : ℕ) → length p ≡ k → length b ≡ 8 → k + 8 ≤ length l →
    sets (p ++ drop k l) k b ≡ (p ++ b) ++ drop (k + 8) l
seam p l b k e n h =
    let d : length (drop k l) ≡ length l - k = length-drop k l in
    let whole : k + length b ≤ length (p ++ drop k l) = simp length-append (omega arith) in
    let front : take k (p ++ drop k l) ≡ p = take_at p (drop k l) k e in
    let back : drop (k + length b) (p ++ drop k l) ≡ drop (k + 8) l =
    sym (drop-drop (length b) k (p ++ drop k l)) ∙ ap (drop (length b)) (drop_at p (drop k l) k e)
    ∙ drop-drop (length b) k l ∙ ap (λ (m : ℕ). drop (k + m) l) n in
    sets-eq b (p ++ drop k l) k whole ∙ (λ i. (front i ++ b) ++ back i)

-- what is not yet written reads as before
left : (p l : List Float) (k i : ℕ) → length p ≡ k → k ≤ i → get_or (p ++ drop k l) i nan ≡ get_or l i nan
left p l k i e h =
    let n : length p + (i - k) ≡ i = omega arith in
    let m : k + (i - k) ≡ i = omega arith in
    ap (λ (j : ℕ). get_or (p ++ drop k l) j nan) (sym n) ∙ get_or-append-add p (drop k l) (i - k) nan
    ∙ get_or-drop k l (i - k) nan ∙ ap (λ (j : ℕ). get_or l j nan) m

left-pose : (f : Format) (l : List Float) (i : ℕ) → pose_in (number_in (poses_renormalized f l i ++ drop (i * 8) l))
    (i * 8) ≡ pose_in (number_in l) (i * 8)
unfolding pose_in quat_in vec_in
left-pose f l i =
    let p = poses_renormalized f l i in
    let k = i * 8 in
    let e = run_length f l i in
    rw (
      left p l k k e (omega arith),
      left p l k (k + 1) e (omega arith),
      left p l k (k + 2) e (omega arith),
      left p l k (k + 3) e (omega arith),
      left p l k (k + 4) e (omega arith),
      left p l k (k + 4 + 1) e (omega arith),
      left p l k (k + 4 + 2) e (omega arith),
      left p l k (k + 7) e (omega arith),
    ) refl

-- one more pose
run_more :
    (f : Format) (l : List Float) (i : ℕ) → i * 8 + 8 ≤ length l →
    sets (poses_renormalized f l i ++ drop (i * 8) l) (i * 8)
    (pose_numbers (pose_renormalized f (pose_in (number_in l) (i * 8))))
    ≡ poses_renormalized f l (i + 1) ++ drop ((i + 1) * 8) l
unfolding poses_renormalized
run_more f l i h =
    let x = pose_renormalized f (pose_in (number_in l) (i * 8)) in
    let n : (i + 1) * 8 ≡ i * 8 + 8 = omega arith in
    rw (n, add-one i) (seam (poses_renormalized f l i) l (pose_numbers x) (i * 8) (run_length f l i) (pose-count x) h)

-- ---- the part of a list that holds a pose
part-number : (l : List Float) (k i j : ℕ) → i < 8 → k + i ≡ j → get_or (take 8 (drop k l)) i nan ≡ get_or l j nan
part-number l k i j h e = get_or-take 8 (drop k l) i nan h ∙ get_or-drop k l i nan ∙ ap (λ (m : ℕ). get_or l m nan) e

part-pose : (l : List Float) (k : ℕ) → pose_in (number_in (take 8 (drop k l))) 0 ≡ pose_in (number_in l) k
unfolding pose_in quat_in vec_in
part-pose l k =
    rw (
      part-number l k 0 k (omega arith) (omega arith),
      part-number l k 1 (k + 1) (omega arith) (omega arith),
      part-number l k 2 (k + 2) (omega arith) (omega arith),
      part-number l k 3 (k + 3) (omega arith) (omega arith),
      part-number l k 4 (k + 4) (omega arith) (omega arith),
      part-number l k 5 (k + 4 + 1) (omega arith) (omega arith),
      part-number l k 6 (k + 4 + 2) (omega arith) (omega arith),
      part-number l k 7 (k + 7) (omega arith) (omega arith),
    ) refl

-- renormalised, it has the numbers of the renormalised pose
part_step :
    (f : Format) (l : List Float) (k : ℕ) → k + 8 ≤ length l →
    written (renormalize_call f (take 8 (drop k l))) (take 8 (drop k l))
    ≡ pose_numbers (pose_renormalized f (pose_in (number_in l) k))
unfolding renormalize_call pose_from
part_step f l k h =
    let p = take 8 (drop k l) in
    let d : length (drop k l) ≡ length l - k = length-drop k l in
    let n : length p ≡ 8 = length-take-le 8 (drop k l) (omega arith) in
    let x = pose_renormalized f (pose_in (number_in l) k) in
    rw (sized-right p 8 (pose_in (number_in p) 0) n, part-pose l k) (fitted p (pose_numbers x) 8 n (pose-count x)).1

-- stored back, it is a run of stores
part_back : (l b : List Float) (k : ℕ) → length b ≡ 8 → k + 8 ≤ length l →
    take k l ++ (b ++ drop 8 (drop k l)) ≡ sets l k b
part_back l b k n h =
    let e : k + 8 ≡ k + length b = omega arith in
    let rest : drop 8 (drop k l) ≡ drop (k + length b) l = drop-drop 8 k l ∙ ap (λ (m : ℕ). drop m l) e in
    sym (sets-eq b l k (omega arith) ∙ append_assoc (take k l) b _
    ∙ ap (λ (r : List Float). take k l ++ (b ++ r)) (sym rest))

-- so the pose at the seam, renormalised in its part, is one more pose
pub part_more :
    (f : Format) (l m b : List Float) (i : ℕ) → i * 8 + 8 ≤ length l → length m ≡ length l →
    m ≡ poses_renormalized f l i ++ drop (i * 8) l →
    b ≡ written (renormalize_call f (take 8 (drop (i * 8) m))) (take 8 (drop (i * 8) m)) →
    take (i * 8) m ++ (b ++ drop 8 (drop (i * 8) m)) ≡ poses_renormalized f l (i + 1) ++ drop ((i + 1) * 8) l
part_more f l m b i h w e s =
    let k = i * 8 in
    let y : pose_in (number_in m) k ≡ pose_in (number_in l) k =
    ap (λ (r : List Float). pose_in (number_in r) k) e ∙ left-pose f l i in
    let g : b ≡ pose_numbers (pose_renormalized f (pose_in (number_in l) k)) =
    s ∙ part_step f m k (omega arith) ∙ ap (λ (x : Sim3). pose_numbers (pose_renormalized f x)) y in
    let n : length b ≡ 8 = ap (λ (r : List Float). length r) g ∙ pose-count _ in
    part_back m b k n (omega arith) ∙ (λ j. sets (e j) k (g j)) ∙ run_more f l i h

-- after the last pose nothing is left
pub run_all : (f : Format) (l : List Float) (i : ℕ) → i * 8 ≡ length l →
    poses_renormalized f l i ++ drop (i * 8) l ≡ poses_renormalized f l i
run_all f l i e = rw (e, drop-length) (append-nil (poses_renormalized f l i))
