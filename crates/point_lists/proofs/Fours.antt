-- Moving the points of a list by fours, for any motion g, the last four first if their number is no multiple of four;
-- and a matrix whose columns are negated twice. Assumes nothing.
use Prim.Native.Nat.{ℕ, zero, suc, ◌+◌, ◌*◌, ◌-◌, ◌≤◌}
use mathlib.Core.Path.{◌≡◌, refl, sym, ap, ◌∙◌}
use mathlib.Core.List.{List, [], ◌++◌, append_assoc, append-nil}
use native.Mathlib.Omega.{arith}
use lib.ListN.{length, take, drop}
use lib.Seq.{drop_at, length-take-le, drop-length, get_or-drop, drop-drop}
use lib.Ieee.{Float, Format, neg, add, sub, mul}
use borrow.Author.Rules.{part_to_end}
use Rattle.ieee.proofs.Sign.{neg-neg, mul-neg_l}
use Rattle.linalg.specs.Vector.{vec, vec_add, vec_neg, vec_numbers}
use Rattle.linalg.specs.Matrix.{mat, mat_mul_vec}
use Rattle.linalg.specs.Floats.{Vec3}
use Rattle.linalg.specs.Floats.{Mat3}
use Rattle.point_lists.specs.Points.{point_at, points_moved, mat_act}
use Rattle.point_lists.proofs.Lists.{moved_length, moved_more}
use Rattle.point_lists.specs.Private.{put_point, mat_columns_negated, put_two, put_four}

-- ---- the signs
neg-twice : (v : Vec3) → vec_neg (vec_neg v) ≡ v
unfolding vec_neg
neg-twice v = λ i. vec (neg-neg v.x i) (neg-neg v.y i) (neg-neg v.z i)

pub columns_negated-twice : (m : Mat3) → mat_columns_negated (mat_columns_negated m) ≡ m
unfolding mat_columns_negated
columns_negated-twice m = λ i. mat m.c0 (neg-twice m.c1 i) (neg-twice m.c2 i)

-- subtracting a product is adding the product with one factor negated
pub less : (f : Format) (x a b : Float) → sub f x (mul f a b) ≡ add f x (mul f (neg a) b)
unfolding sub
less f x a b = ap (add f x) (sym (mul-neg_l f a b))

-- the action by a matrix with negated columns, as the code has it
abbrev pub mat_less : Format → Mat3 → Vec3 → Vec3 → Vec3
mat_less f m t p =
    vec
    (add f (sub f (sub f (mul f m.c0.x p.x) (mul f m.c1.x p.y)) (mul f m.c2.x p.z)) t.x)
    (add f (sub f (sub f (mul f m.c0.y p.x) (mul f m.c1.y p.y)) (mul f m.c2.y p.z)) t.y)
    (add f (sub f (sub f (mul f m.c0.z p.x) (mul f m.c1.z p.y)) (mul f m.c2.z p.z)) t.z)

pub less_is : (f : Format) (m : Mat3) (t p : Vec3) → mat_less f m t p ≡ mat_act f (mat_columns_negated m) t p
unfolding mat_act mat_mul_vec vec_add mat_columns_negated vec_neg
less_is f m t p = simp less

-- ---- four more triples
pub four_more_lem :
    (g : Vec3 → Vec3) (l p out : List Float) (i : ℕ) → i * 3 + 12 ≤ length out →
    point_at p 0 ≡ point_at l i → point_at p 1 ≡ point_at l (i + 1) → point_at p 2 ≡ point_at l (i + 2) →
    point_at p 3 ≡ point_at l (i + 3) →
    put_four g p (points_moved g l i ++ drop (i * 3) out) (i * 3) ≡ points_moved g l (i + 4) ++ drop ((i + 4) * 3) out
unfolding put_four put_two
four_more_lem g l p out i h p0 p1 p2 p3 =
    let n1 : (i + 1) * 3 ≡ i * 3 + 3 = omega arith in
    let n2 : (i + 2) * 3 ≡ i * 3 + 6 = omega arith in
    let n3 : (i + 3) * 3 ≡ i * 3 + 6 + 3 = omega arith in
    let s2 : i + 1 + 1 ≡ i + 2 = omega arith in
    let s3 : i + 2 + 1 ≡ i + 3 = omega arith in
    let s4 : i + 3 + 1 ≡ i + 4 = omega arith in
    let m0 = rw n1 at (moved_more g l out i (omega arith)) in
    let m1 = rw (s2, n2) at (rw n1 at (moved_more g l out (i + 1) (omega arith))) in
    let m2 = rw (s3, n3) at (rw n2 at (moved_more g l out (i + 2) (omega arith))) in
    let m3 = rw s4 at (rw n3 at (moved_more g l out (i + 3) (omega arith))) in
    rw (p0, p1, p2, p3)
    (ap (λ (o : List Float). put_point (put_point (put_point o (i * 3 + 3) (g (point_at l (i + 1)))) (i * 3 + 6)
    (g (point_at l (i + 2)))) (i * 3 + 6 + 3) (g (point_at l (i + 3)))) m0
    ∙ ap (λ (o : List Float). put_point (put_point o (i * 3 + 6) (g (point_at l (i + 2)))) (i * 3 + 6 + 3)
    (g (point_at l (i + 3)))) m1
    ∙ ap (λ (o : List Float). put_point o (i * 3 + 6 + 3) (g (point_at l (i + 3)))) m2
    ∙ m3)

-- ---- a list in two parts
point_behind : (l : List Float) (k j : ℕ) → point_at (drop (k * 3) l) j ≡ point_at l (k + j)
unfolding point_at
point_behind l k j =
    let a : k * 3 + j * 3 ≡ (k + j) * 3 = omega arith in
    let b : k * 3 + (j * 3 + 1) ≡ (k + j) * 3 + 1 = omega arith in
    let c : k * 3 + (j * 3 + 2) ≡ (k + j) * 3 + 2 = omega arith in
    simp (get_or-drop, a, b, c)

moved_split : (g : Vec3 → Vec3) (l : List Float) (k j : ℕ) →
    points_moved g l (k + j) ≡ points_moved g l k ++ points_moved g (drop (k * 3) l) j
unfolding points_moved
moved_split g l k zero =
    let z : k + 0 ≡ k = omega arith in
    rw z (sym (append-nil (points_moved g l k)))
moved_split g l k (suc j) =
    let r = points_moved g (drop (k * 3) l) j in
    let n : k + suc j ≡ suc (k + j) = omega arith in
    rw n
    (ap (λ (m : List Float). m ++ vec_numbers (g (point_at l (k + j)))) (moved_split g l k j)
    ∙ append_assoc (points_moved g l k) r (vec_numbers (g (point_at l (k + j))))
    ∙ ap (λ (p : Vec3). points_moved g l k ++ (r ++ vec_numbers (g p))) (sym (point_behind l k j)))

-- what comes before a place does not matter after it
drop_behind : (p s : List Float) (j : ℕ) → length p ≤ j → drop j (p ++ s) ≡ drop (j - length p) s
drop_behind p s j h =
    let n : length p + (j - length p) ≡ j = omega arith in
    ap (λ (k : ℕ). drop k (p ++ s)) (sym n) ∙ sym (drop-drop (j - length p) (length p) (p ++ s))
    ∙ ap (drop (j - length p)) (drop_at p s (length p) refl)

first_part : (g : Vec3 → Vec3) (l : List Float) (e n : ℕ) → e ≤ n →
    points_moved g l e ++ drop (e * 3) (points_moved g l n) ≡ points_moved g l n
first_part g l e n h =
    let k : e + (n - e) ≡ n = omega arith in
    let s = rw k at (moved_split g l e (n - e)) in
    ap (λ (m : List Float). points_moved g l e ++ drop (e * 3) m) s
    ∙ ap (λ (m : List Float). points_moved g l e ++ m) (drop_at (points_moved g l e)
    (points_moved g (drop (e * 3) l) (n - e)) (e * 3) (moved_length g l e))
    ∙ sym s

-- ---- the last four, moved in the borrowed part of the list
pub last_four :
    (g : Vec3 → Vec3) (l out : List Float) (n e k : ℕ) → 4 ≤ n → e ≤ n → n ≤ e + 4 → n * 3 ≡ length l →
    n * 3 ≡ length out → k ≡ n * 3 - 12 →
    points_moved g l e
    ++ drop (e * 3) (take k out
    ++ ((points_moved g (take (length l - k) (drop k l)) 4 ++ drop (4 * 3) (take (length out - k) (drop k out)))
    ++ drop (length out - k) (drop k out)))
    ≡ points_moved g l n
last_four g l out n e k h4 he hn hl ho hk =
    let s = points_moved g (drop k l) 4 in
    let q : (n - 4) * 3 ≡ k = omega arith in
    let w : (n - 4) + 4 ≡ n = omega arith in
    let o12 : k + 4 * 3 ≡ length out = omega arith in
    let ok : k + (length out - k) ≡ length out = omega arith in
    let a : drop (4 * 3) (take (length out - k) (drop k out)) ≡ [] =
    rw (part_to_end out k, drop-drop (4 * 3) k out, o12) (drop-length out) in
    let b : drop (length out - k) (drop k out) ≡ [] = rw (drop-drop (length out - k) k out, ok) (drop-length out) in
    let t : length (take k out) ≡ k = length-take-le k out (omega arith) in
    let m : points_moved g l n ≡ points_moved g l (n - 4) ++ s = rw (w, q) at (moved_split g l (n - 4) 4) in
    let p : length (points_moved g l (n - 4)) ≡ k = moved_length g l (n - 4) ∙ q in
    let u = drop_behind (take k out) s (e * 3) (omega (arith, t)) in
    let v = drop_behind (points_moved g l (n - 4)) s (e * 3) (omega (arith, p)) in
    let x : drop (e * 3) (take k out ++ s) ≡ drop (e * 3) (points_moved g l n) =
    u ∙ ap (λ (d : ℕ). drop (e * 3 - d) s) (t ∙ sym p) ∙ sym v ∙ ap (drop (e * 3)) (sym m) in
    rw (part_to_end l k, a, b, append-nil s, append-nil s) (ap (λ (r : List Float). points_moved g l e ++ r) x
    ∙ first_part g l e n he)
