-- Parts of a list after a run of stores: those before and after the run, and the run itself. Assumes nothing.
use Prim.Native.Nat.{ℕ, suc, ◌+◌, ◌-◌, ◌*◌, ◌≤◌, ◌<◌}
use mathlib.Core.Path.{◌≡◌, refl, sym, ap, ◌∙◌}
use mathlib.Core.List.{List, [], ◌∷◌, ◌++◌, append_assoc}
use native.Mathlib.Omega.{arith}
use lib.ListN.{length, take, drop, set}
use lib.Seq.{sets, sets-eq, length-take-le, take-set-le, drop-set-lt, drop_at, take-append-le, take-take, drop-drop}
use lib.Seq.{take_all}
use Rattle.std.proofs.lemmas.List.{drop-take}
use Rattle.wire.specs.Wire.{word_of, word_at, word_bytes}
use Rattle.wire.proofs.Bytes.{word_back}
use Rattle.sheets.specs.Store.{slot_width, slots, slot_at}

take-sets : {A : Type 0} (vs l : List A) (i n : ℕ) → n ≤ i → take n (sets l i vs) ≡ take n l
take-sets [] l i n h = refl
take-sets (v ∷ vs) l i n h = take-sets vs (set l i v) (suc i) n (omega arith) ∙ take-set-le n l i v h

drop-sets : {A : Type 0} (vs l : List A) (i n : ℕ) → i + length vs ≤ n → drop n (sets l i vs) ≡ drop n l
drop-sets [] l i n h = refl
drop-sets (v ∷ vs) l i n h = drop-sets vs (set l i v) (suc i) n (omega arith) ∙ drop-set-lt n l i v (omega arith)

part-before : {A : Type 0} (vs l : List A) (i a k : ℕ) → a + k ≤ i → take k (drop a (sets l i vs)) ≡ take k (drop a l)
part-before vs l i a k h =
    sym (drop-take a k (sets l i vs)) ∙ ap (drop a) (take-sets vs l i (a + k) h) ∙ drop-take a k l

part-after : {A : Type 0} (vs l : List A) (i a k : ℕ) → i + length vs ≤ a →
    take k (drop a (sets l i vs)) ≡ take k (drop a l)
part-after vs l i a k h = ap (take k) (drop-sets vs l i a h)

part_on_lem : {A : Type 0} (vs l : List A) (i k : ℕ) → i + length vs ≤ length l → k ≤ length vs →
    take k (drop i (sets l i vs)) ≡ take k vs
part_on_lem vs l i k h m =
    ap (λ x. take k (drop i x)) (sets-eq vs l i h)
    ∙ ap (take k) (ap (drop i) (append_assoc (take i l) vs _)
    ∙ drop_at (take i l) (vs ++ drop (i + length vs) l) i (length-take-le i l (omega arith)))
    ∙ take-append-le k vs _ m

-- ---- numbers of two bytes
pub short-before : (vs l : List ℕ) (i a : ℕ) → a + 2 ≤ i → word_at 2 (sets l i vs) a ≡ word_at 2 l a
unfolding word_at
short-before vs l i a h = ap word_of (part-before vs l i a 2 h)

pub short-after : (vs l : List ℕ) (i a : ℕ) → i + length vs ≤ a → word_at 2 (sets l i vs) a ≡ word_at 2 l a
unfolding word_at
short-after vs l i a h = ap word_of (part-after vs l i a 2 h)

pub short_on : (vs l : List ℕ) (i : ℕ) → i + length vs ≤ length l → 2 ≤ length vs →
    word_at 2 (sets l i vs) i ≡ word_at 2 vs 0
unfolding word_at
short_on vs l i h m = ap word_of (part_on_lem vs l i 2 h m)

pub short-word : (n : ℕ) → n < 65536 → word_at 2 (word_bytes 2 n) 0 ≡ n
unfolding word_at word_bytes
short-word n h = word_back 2 n h

-- ---- slots
pub slot_before : (vs l : List ℕ) (i s : ℕ) → slots + slot_width * s + slot_width ≤ i →
    slot_at (sets l i vs) s ≡ slot_at l s
unfolding slot_at
slot_before vs l i s h = part-before vs l i (slots + slot_width * s) slot_width h

pub slot_after : (vs l : List ℕ) (i s : ℕ) → i + length vs ≤ slots + slot_width * s →
    slot_at (sets l i vs) s ≡ slot_at l s
unfolding slot_at
slot_after vs l i s h = part-after vs l i (slots + slot_width * s) slot_width h

pub slot_on : (b l : List ℕ) (s : ℕ) → slots + slot_width * s + slot_width ≤ length l → length b ≡ slot_width →
    slot_at (sets l (slots + slot_width * s) b) s ≡ b
unfolding slot_at
slot_on b l s h e =
    part_on_lem b l (slots + slot_width * s) slot_width (omega arith) (omega arith)
    ∙ take_all slot_width b (omega arith)

-- a number inside a slot
pub short_in : (l : List ℕ) (s : ℕ) → word_at 2 (slot_at l s) 2 ≡ word_at 2 l (slots + slot_width * s + 2)
unfolding word_at slot_at
short_in l s =
    ap word_of
    (ap (take 2) (drop-take 2 (slot_width - 2) (drop (slots + slot_width * s) l))
    ∙ take-take 2 (slot_width - 2) (drop 2 (drop (slots + slot_width * s) l)) (omega arith)
    ∙ ap (take 2) (drop-drop 2 (slots + slot_width * s) l))
