-- The columns of a flat matrix: parts of seven numbers, read and stored. Assumes nothing.
use Prim.Native.Nat.{ℕ, zero, suc, ◌+◌, ◌*◌, ◌≤◌, ◌<◌}
use mathlib.Core.Path.{◌≡◌, refl, sym, ap, ◌∙◌}
use mathlib.Core.List.{List, ◌++◌, map, append_assoc}
use native.Mathlib.Omega.{arith}
use lib.Ieee.{Float, nan}
use lib.ListN.{length, take, drop, get_or}
use lib.Seq.{sets, sets-eq, drop-drop}
use Rattle.std.proofs.lemmas.List.{length-map, map-append, get_or-take, get_or-drop}
use Rattle.std.specs.List.{take-map, drop-map}
use Rattle.std.specs.Simd.{first_chunks}
use Rattle.sim3.specs.Tangent.{tangent_from_dense}
use Rattle.dense_jacobian.specs.Dense.{column_at}

-- ---- read: the i-th of the parts
chunk_at : {A : Type 0} (n i : ℕ) (l d : List A) → i < n → get_or (first_chunks 7 n l) i d ≡ take 7 (drop (i * 7) l)
chunk_at zero i l d h = absurd (omega (arith, h))
chunk_at (suc n) zero l d h = refl
chunk_at (suc n) (suc i) l d h =
    let m : 7 + i * 7 ≡ suc i * 7 = omega arith in
    chunk_at n i (drop 7 l) d (omega (arith, h)) ∙ ap (take 7) (drop-drop (i * 7) 7 l ∙ ap (λ (o : ℕ). drop o l) m)

number : (l : List Float) (a i : ℕ) → i < 7 → get_or (take 7 (drop a l)) i nan ≡ get_or l (a + i) nan
number l a i h = get_or-take 7 (drop a l) i nan h ∙ get_or-drop a l i nan

part_at : (l : List Float) (a : ℕ) → tangent_from_dense (take 7 (drop a l)) ≡ column_at l a
unfolding tangent_from_dense
part_at l a =
    let z : a + 0 ≡ a = omega arith in
    let n = number l a in
    λ i.
    record {
      phi =
          record {
            x = (n 0 (omega arith) ∙ ap (λ (k : ℕ). get_or l k nan) z) i;
            y = n 1 (omega arith) i;
            z =
                n 2 (omega arith) i;
          };
      rho = record { x = n 3 (omega arith) i; y = n 4 (omega arith) i; z = n 5 (omega arith) i };
      sigma = n 6 (omega arith) i;
    }

pub column :
    {A : Type 0} (h : A → Float) (l r : List A) (cs : List (List A)) (n i : ℕ) → cs ≡ first_chunks 7 n l → i < n →
    r ≡ get_or cs i r →
    tangent_from_dense (map h r) ≡ column_at (map h l) (i * 7)
column {A} h l r cs n i e k q =
    let p : r ≡ take 7 (drop (i * 7) l) = q ∙ ap (λ (c : List (List A)). get_or c i r) e ∙ chunk_at n i l r k in
    let m : map h r ≡ take 7 (drop (i * 7) (map h l)) = ap (map h) p ∙ sym (take-map h 7 (drop (i * 7) l))
    ∙ ap (take 7) (sym (drop-map h (i * 7) l)) in
    ap tangent_from_dense m ∙ part_at (map h l) (i * 7)

-- ---- stored: a borrowed part that becomes d
pub stored :
    {A : Type 0} (h : A → Float) (l d : List A) (v : List Float) (a : ℕ) → map h d ≡ v → length v ≡ 7 →
    a + 7 ≤ length l →
    map h (take a l ++ (d ++ drop 7 (drop a l))) ≡ sets (map h l) a v
stored h l d v a e n q =
    let m : a + length v ≡ a + 7 = omega (arith, n) in
    map-append h (take a l) (d ++ drop 7 (drop a l))
    ∙ rw (map-append h d (drop 7 (drop a l)), drop-drop 7 a l, e, ← (take-map h a l), ← (drop-map h (a + 7) l))
    (sym (rw m at (sets-eq v (map h l) a (simp length-map (omega (arith, n))))
    ∙ append_assoc (take a (map h l)) v (drop (a + 7) (map h l))))
