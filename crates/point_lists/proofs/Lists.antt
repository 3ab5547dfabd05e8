-- Moving the points of a list one after another, for any motion g: after i turns the first i triples are moved and the
-- rest is as before. Assumes nothing.
use Prim.Native.Nat.{ℕ, zero, suc, ◌+◌, ◌*◌, ◌<◌, ◌≤◌}
use mathlib.Core.Path.{◌≡◌, refl, sym, ap, ◌∙◌}
use mathlib.Core.List.{List, [], ◌∷◌, ◌++◌, append_assoc, append-nil}
use native.Mathlib.Nat.{add_comm}
use native.Mathlib.Numerals.{add-one, unary_clauses}
use native.Mathlib.Omega.{arith}
use lib.ListN.{get_or, set, length, take, drop, length-append, take-append-drop}
use lib.Seq.{drop_at, length-take-le, drop-cons, drop-length, get_or-drop, drop-drop}
use lib.Ieee.{Float, nan}
use Rattle.std.specs.Simd.{first_chunks}
use Rattle.std.specs.Prelude.{map}
use Rattle.std.proofs.lemmas.List.{get_or-take, length-map, map-set, map-append, take-map, drop-map}
use Rattle.linalg.specs.Vector.{vec, vec_numbers}
use Rattle.linalg.specs.Floats.{Vec3}
use Rattle.point_lists.specs.Points.{point_at, points_moved}
use Rattle.point_lists.specs.Private.{put_point}

pub moved_length : (g : Vec3 → Vec3) (l : List Float) (n : ℕ) → length (points_moved g l n) ≡ n * 3
unfolding points_moved vec_numbers
moved_length g l zero = refl
moved_length g l (suc n) =
    let h : length (points_moved g l n) ≡ n * 3 = moved_length g l n in
    simp length-append (omega arith)

-- three stores at the seam
seam : (p : List Float) (x y z : Float) (r : List Float) (a b c : Float) →
    set (set (set (p ++ x ∷ y ∷ z ∷ r) (length p) a) (suc (length p)) b) (suc (suc (length p))) c ≡ p ++ a ∷ b ∷ c ∷ r
seam [] x y z r a b c = refl
seam (q ∷ p) x y z r a b c = ap (λ (l : List Float). q ∷ l) (seam p x y z r a b c)

put_seam : (p out : List Float) (k : ℕ) (v : Vec3) → length p ≡ k → k + 3 ≤ length out →
    put_point (p ++ drop k out) k v ≡ (p ++ vec_numbers v) ++ drop (k + 3) out
unfolding put_point vec_numbers
put_seam p out k v e h =
    let c0 : drop k out ≡ get_or out k nan ∷ drop (suc k) out = drop-cons out k nan (omega arith) in
    let c1 : drop (suc k) out ≡ get_or out (suc k) nan ∷ drop (suc (suc k)) out =
    drop-cons out (suc k) nan (omega arith) in
    let c2 : drop (suc (suc k)) out ≡ get_or out (suc (suc k)) nan ∷ drop (suc (suc (suc k))) out =
    drop-cons out (suc (suc k)) nan (omega arith) in
    let n1 : k + 1 ≡ suc k = omega arith in
    let n2 : k + 2 ≡ suc (suc k) = omega arith in
    let n3 : k + 3 ≡ suc (suc (suc k)) = omega arith in
    simp (append_assoc, n1, n2, n3, c0, c1, c2) (rw (← e) (seam p _ _ _ _ _ _ _))

-- one more triple
pub moved_more :
    (g : Vec3 → Vec3) (l out : List Float) (i : ℕ) → i * 3 + 3 ≤ length out →
    put_point (points_moved g l i ++ drop (i * 3) out) (i * 3) (g (point_at l i))
    ≡ points_moved g l (i + 1) ++ drop ((i + 1) * 3) out
unfolding points_moved
moved_more g l out i h =
    let n : (i + 1) * 3 ≡ i * 3 + 3 = omega arith in
    rw (n, add-one i) (put_seam (points_moved g l i) out (i * 3) (g (point_at l i)) (moved_length g l i) h)

-- the last triple, stored before the others are moved
put_last : (out : List Float) (k : ℕ) (v : Vec3) → k + 3 ≡ length out → drop k (put_point out k v) ≡ vec_numbers v
put_last out k v h =
    let t : length (take k out) ≡ k = length-take-le k out (omega arith) in
    let s : put_point (take k out ++ drop k out) k v ≡ (take k out ++ vec_numbers v) ++ drop (k + 3) out =
    put_seam (take k out) out k v t (omega arith) in
    let n : (take k out ++ vec_numbers v) ++ drop (k + 3) out ≡ take k out ++ vec_numbers v =
    rw (h, drop-length) (append-nil (take k out ++ vec_numbers v)) in
    let e : put_point out k v ≡ take k out ++ vec_numbers v =
    ap (λ (o : List Float). put_point o k v) (sym (take-append-drop k out)) ∙ s ∙ n in
    ap (drop k) e ∙ drop_at (take k out) (vec_numbers v) k t

pub moved_last :
    (g : Vec3 → Vec3) (l out : List Float) (i : ℕ) → i * 3 + 3 ≡ length out →
    points_moved g l i ++ drop (i * 3) (put_point out (i * 3) (g (point_at l i))) ≡ points_moved g l (i + 1)
unfolding points_moved
moved_last g l out i h =
    rw (add-one i) (ap (λ (r : List Float). points_moved g l i ++ r) (put_last out (i * 3) (g (point_at l i)) h))

-- after the last triple nothing is left
pub moved_all : (g : Vec3 → Vec3) (l out : List Float) (i : ℕ) → i * 3 ≡ length out →
    points_moved g l i ++ drop (i * 3) out ≡ points_moved g l i
moved_all g l out i e = rw (e, drop-length) (append-nil (points_moved g l i))

-- ---- the lists of the code, whose numbers h maps to floats

pub put_map :
    {A : Type 0} (h : A → Float) (l : List A) (at : ℕ) (x y z : A) →
    map h (set (set (set l at x) (at + 1) y) (at + 2) z) ≡ put_point (map h l) at (vec (h x) (h y) (h z))
unfolding put_point
put_map h l at x y z = simp map-set

-- the i-th of the chunks of a list, and a triple in it
pub chunk_at : {A : Type 0} (k n i : ℕ) (l d : List A) → i < n →
    get_or (first_chunks k n l) i d ≡ take k (drop (k * i) l)
chunk_at k zero i l d h = absurd (omega (arith, h))
chunk_at k (suc n) zero l d h = let z : k * 0 ≡ 0 = omega arith in rw z refl
chunk_at k (suc n) (suc i) l d h =
    let m : k + k * i ≡ k * suc i = simp unary_clauses (add_comm k (k * i)) in
    chunk_at k n i (drop k l) d (omega (arith, h)) ∙ ap (take k) (drop-drop (k * i) k l ∙ ap (λ (o : ℕ). drop o l) m)

pub in_chunk :
    {A : Type 0} (h : A → Float) (l : List A) (k a i : ℕ) → i * 3 + 3 ≤ k →
    point_at (map h (take k (drop (a * 3) l))) i ≡ point_at (map h l) (a + i)
unfolding point_at
in_chunk h l k a i b =
    let x : a * 3 + i * 3 ≡ (a + i) * 3 = omega arith in
    let y : a * 3 + (i * 3 + 1) ≡ (a + i) * 3 + 1 = omega arith in
    let z : a * 3 + (i * 3 + 2) ≡ (a + i) * 3 + 2 = omega arith in
    let x' = get_or-take k (drop (a * 3) (map h l)) (i * 3) nan (omega arith) in
    let y' = get_or-take k (drop (a * 3) (map h l)) (i * 3 + 1) nan (omega arith) in
    let z' = get_or-take k (drop (a * 3) (map h l)) (i * 3 + 2) nan (omega arith) in
    simp (sym (take-map h k (drop (a * 3) l)), sym (drop-map h (a * 3) l), x', y', z', get_or-drop, x, y, z)

pub piece :
    {A : Type 0} (h : A → Float) (fl : List A → List Float) → ((l : List A) → fl l ≡ map h l) →
    (l r : List A) (cs : List (List A)) (k n q a i : ℕ) →
    cs ≡ first_chunks k n l → q < n → r ≡ get_or cs q r → k * q ≡ a * 3 → i * 3 + 3 ≤ k →
    point_at (fl r) i ≡ point_at (fl l) (a + i)
piece {A} h fl law l r cs k n q a i ec hq er ea hi =
    let e : r ≡ take k (drop (a * 3) l) = er ∙ ap (λ (c : List (List A)). get_or c q r) ec ∙ chunk_at k n q l r hq
    ∙ ap (λ (o : ℕ). take k (drop o l)) ea in
    ap (λ (m : List Float). point_at m i) (law r ∙ ap (map h) e) ∙ in_chunk h l k a i hi
    ∙ ap (λ (m : List Float). point_at m (a + i)) (sym (law l))

pub floats_length : {A : Type 0} (h : A → Float) (fl : List A → List Float) → ((l : List A) → fl l ≡ map h l) →
    (l : List A) → length (fl l) ≡ length l
floats_length h fl law l = ap length (law l) ∙ length-map l h

-- ---- a part of a list, and a list after its part was lent and became r
module _ {A : Type 0} (h : A → Float) (fl : List A → List Float) (law : (l : List A) → fl l ≡ map h l) where
  pub floats_take : (j : ℕ) (l : List A) → fl (take j l) ≡ take j (fl l)
  floats_take j l = law (take j l) ∙ sym (take-map h j l) ∙ ap (take j) (sym (law l))

  pub floats_part : (j k : ℕ) (l : List A) → fl (take j (drop k l)) ≡ take j (drop k (fl l))
  floats_part j k l =
      law (take j (drop k l)) ∙ sym (take-map h j (drop k l))
      ∙ ap (take j) (sym (drop-map h k l) ∙ ap (drop k) (sym (law l)))

  pub floats_lent : (j k : ℕ) (l r : List A) → fl (take k l ++ (r ++ drop j (drop k l)))
      ≡ take k (fl l) ++ (fl r ++ drop j (drop k (fl l)))
  floats_lent j k l r =
      law (take k l ++ (r ++ drop j (drop k l))) ∙ map-append h (take k l) (r ++ drop j (drop k l))
      ∙ ap (λ (m : List Float). map h (take k l) ++ m) (map-append h r (drop j (drop k l)))
      ∙ (λ i. (sym (take-map h k l) ∙ ap (take k) (sym (law l))) i
      ++ (sym (law r) i ++ (sym (drop-map h j (drop k l)) ∙ ap (drop j)
      (sym (drop-map h k l) ∙ ap (drop k) (sym (law l)))) i))

-- the triples of a first part of a list are the list's
within_part : (l : List Float) (k n : ℕ) → n * 3 + 3 ≤ k → point_at (take k l) n ≡ point_at l n
unfolding point_at
within_part l k n b =
    λ i. vec (get_or-take k l (n * 3) nan (omega (arith, b)) i) (get_or-take k l (n * 3 + 1) nan (omega (arith, b)) i)
    (get_or-take k l (n * 3 + 2) nan (omega (arith, b)) i)

pub moved_part : (g : Vec3 → Vec3) (l : List Float) (k n : ℕ) → n * 3 ≤ k →
    points_moved g (take k l) n ≡ points_moved g l n
unfolding points_moved
moved_part g l k zero h = refl
moved_part g l k (suc n) h =
    λ i. moved_part g l k n (omega (arith, h)) i ++ vec_numbers (g (within_part l k n (omega (arith, h)) i))

-- nothing follows the end
pub nothing_after : (x out : List Float) (n : ℕ) → n ≡ length out → x ++ drop n out ≡ x
nothing_after x out n e = rw (e, drop-length) (append-nil x)

-- ---- the test of the lists: whole triples, and an output of the same length
