-- The bytes at a place in a list, as the code reads and stores them one by one. Assumes nothing.
use Prim.Native.Nat.{ℕ, ◌+◌, ◌-◌, ◌*◌, ◌≤◌, ◌<◌}
use mathlib.Core.Path.{◌≡◌, sym, ap, ◌∙◌}
use mathlib.Core.List.{List, [], ◌∷◌, ◌++◌, append_assoc}
use native.Mathlib.Numerals.{towards_suc}
use native.Mathlib.Omega.{arith}
use lib.ListN.{length, take, drop, get_or}
use lib.Seq.{sets, sets-eq, take-take, drop-drop}
use Rattle.std.proofs.lemmas.List.{drop-take}
use lib.Ieee.{Format, binary32, binary64}
use Rattle.wire.specs.Wire.{width, word_of, word_at, word_bytes, number_of, number_at}
use Rattle.wire.proofs.Bytes.{bytes-at, word-length}

pub short_read : (b : List ℕ) (at : ℕ) → at + 2 ≤ length b →
    word_of (get_or b at 0 ∷ get_or b (at + 1) 0 ∷ []) ≡ word_at 2 b at
unfolding word_at
short_read b at h = rw (bytes-at b at 2 h) (simp towards_suc)

-- ---- n numbers of a list, from the i-th on, as a list
pub within : (b : List ℕ) (a m s t q : ℕ) → q ≡ m + t → s ≤ t →
    take s (drop m (take q (drop a b))) ≡ take s (drop (a + m) b)
within b a m s t q e g =
    rw (e, drop-take m t (drop a b)) (take-take s t (drop m (drop a b)) g ∙ ap (take s) (drop-drop m a b))

pub part_read :
    (f : Format) (b : List ℕ) (i n k : ℕ) → (i + n) * width f ≤ length b → k < n →
    number_at f (take (n * width f) (drop (i * width f) b)) k ≡ number_at f b (i + k)
unfolding number_at
part_read binary32 b i n k h g =
    let at : i * 4 + k * 4 ≡ (i + k) * 4 = omega arith in
    ap (number_of binary32) (within b (i * 4) (k * 4) 4 ((n - k) * 4) (n * 4) (omega arith) (omega arith) ∙ rw at)
part_read binary64 b i n k h g =
    let at : i * 8 + k * 8 ≡ (i + k) * 8 = omega arith in
    ap (number_of binary64) (within b (i * 8) (k * 8) 8 ((n - k) * 8) (n * 8) (omega arith) (omega arith) ∙ rw at)

-- ---- written: a borrowed part of k bytes that ends up as d
pub part_stored : (l d v : List ℕ) (a k : ℕ) → d ≡ v → length v ≡ k → a + k ≤ length l →
    take a l ++ (d ++ drop k (drop a l)) ≡ sets l a v
part_stored l d v a k h e g =
    let n : a + length v ≡ a + k = omega (arith, e) in
    rw (h, drop-drop k a l) (sym (sets-eq v l a (omega (arith, e))
    ∙ (append_assoc (take a l) v (drop (a + length v) l) ∙ ap (λ (j : ℕ). take a l ++ (v ++ drop j l)) n)))

-- that part by its ends
pub lent_stored : (l d v : List ℕ) (a n : ℕ) → d ≡ v → length v ≡ n → a + n ≤ length l →
    take a l ++ (d ++ drop (a + n - a) (drop a l)) ≡ sets l a v
lent_stored l d v a n h e g = let k : a + n - a ≡ n = omega arith in rw k (part_stored l d v a n h e g)

pub short_stored : (l d : List ℕ) (a n : ℕ) → d ≡ word_bytes 2 n → a + 2 ≤ length l →
    take a l ++ (d ++ drop (a + 2 - a) (drop a l)) ≡ sets l a (word_bytes 2 n)
short_stored l d a n h g = lent_stored l d (word_bytes 2 n) a 2 h (word-length 2 n) g
