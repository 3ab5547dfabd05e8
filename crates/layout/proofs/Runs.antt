-- Runs of stores, `sets l at bytes`: a run of two parts is two runs. Assumes nothing.
use Prim.Native.Nat.{ℕ, suc, ◌+◌, ◌≤◌}
use mathlib.Core.Path.{◌≡◌, sym, ap, ◌∙◌}
use mathlib.Core.List.{List, [], ◌∷◌, ◌++◌, append_assoc}
use native.Mathlib.Nat.{add-zero, zero-add, add-suc, suc-add}
use native.Mathlib.Omega.{arith}
use lib.ListN.{length, take, drop, set, length-drop, take-append-drop}
use lib.Seq.{sets, sets-eq, length-take-le, drop-append-le, drop-drop}

-- this needs no bound
pub sets_split : {A : Type 0} (a b l : List A) (i : ℕ) → sets l i (a ++ b) ≡ sets (sets l i a) (i + length a) b
sets_split [] b l i = rw add-zero
sets_split (x ∷ a) b l i = rw (add-suc, ← suc-add i (length a)) (sets_split a b (set l i x) (suc i))

-- the whole list after a run from its start
pub sets_front : {A : Type 0} (b l : List A) → length b ≤ length l → sets l 0 b ≡ b ++ drop (length b) l
sets_front b l h = rw (sets-eq b l 0 (omega arith), zero-add)

-- a run within a borrowed part of a list, as a run of the whole list
pub sets-part : (l b : List ℕ) (a k : ℕ) → a + k ≤ length l → length b ≤ k →
    take a l ++ (sets (take k (drop a l)) 0 b ++ drop k (drop a l)) ≡ sets l a b
sets-part l b a k h s =
    let d = drop a l in
    let n : length (take k d) ≡ k = length-take-le k d (simp length-drop (omega arith)) in
    let back : drop (length b) (take k d) ++ drop k d ≡ drop (a + length b) l =
    sym (drop-append-le (length b) (take k d) (drop k d) (omega arith)) ∙ ap (drop (length b)) (take-append-drop k d)
    ∙ drop-drop (length b) a l in
    rw (sets_front b (take k d) (omega arith), sets-eq b l a (omega arith), append_assoc b, back)
    (sym (append_assoc (take a l) b _))

-- b stored where a ends, after a
pub run_behind : (a b l : List ℕ) (i j : ℕ) → i + length a ≡ j → sets (sets l i a) j b ≡ sets l i (a ++ b)
run_behind a b l i j e = rw (sets_split a b l i, e)
