-- In any bytes each kept sheet owns a slot, and each owned slot holds a kept sheet, so they are equally many; and a
-- search through the slots finds one that no sheet owns unless 512 are kept. Assumes nothing.
use Prim.Native.Nat.{ℕ, zero, suc, ◌+◌, ◌-◌, ◌≤◌, ◌<◌}
use mathlib.Core.Path.{◌≡◌, refl, sym, ap, ◌∙◌, fun_ext}
use mathlib.Core.Bool.{Bool, true, false, cond, ◌&&◌, and-false}
use mathlib.Core.List.{List}
use native.Mathlib.Nat.{add-zero}
use native.Mathlib.Omega.{arith}
use borrow.Author.Tests.{lt-ltb, le-ltb, eq-eqb, ne_eqb, ltb-true, ltb-false, eqb-true, eqb-false}
use lib.Dec.{ltb, eqb}
use Rattle.std.proofs.lemmas.Bool.{false≢true, and_parts}
use Rattle.sheets.specs.Sheets.{Kept, none, kept, kept_below, sheet_numbers, most, keeping}
use Rattle.sheets.specs.Store.{used_of, slot_of, slot_at, shot_in, held_at, kept_of, sheets_of, sheet_in, own_at}
use Rattle.sheets.specs.Store.{free_from, free_slot, own_below, OwnTheorem}
use Rattle.sheets.proofs.Counted.{above, empty}

pub slot_few : (m : List ℕ) (n : ℕ) → slot_of m n < most
unfolding slot_of
slot_few m n = omega arith

module _ (m : List ℕ) where
  -- ---- a slot that a sheet owns
  pub record Owned (i : ℕ) : Type 0 where
    pub small : sheet_in m i < sheet_numbers
    pub used : i < used_of m
    pub named : slot_of m (sheet_in m i) ≡ i

  pub owned : (i : ℕ) → own_at m i ≡ true → Owned i
  unfolding own_at
  owned i e =
      let n = sheet_in m i in
      let p = and_parts (ltb n sheet_numbers) _ e in
      let r = and_parts (ltb i (used_of m)) _ p.1 in
      record { small = ltb-true _ _ p.0; used = ltb-true _ _ r.0; named = eqb-true _ _ r.1 }

  pub owning : (i : ℕ) → Owned i → own_at m i ≡ true
  unfolding own_at
  owning i o = rw (lt-ltb _ _ o.small, lt-ltb _ _ o.used, eq-eqb _ _ o.named)

  -- ---- the sheets that are kept in the slots below k
  kept_up_to : ℕ → ℕ → Kept
  kept_up_to k n = cond (ltb (slot_of m n) k) (kept_of m n) none

  -- the slot i holds the sheet n
  record Holds (n i : ℕ) : Type 0 where
    pub inside : n < sheet_numbers
    pub used : i < used_of m
    pub sheet : sheet_in m i ≡ n

  holding : (n : ℕ) → ltb n sheet_numbers && held_at m n (slot_of m n) ≡ true → Holds n (slot_of m n)
  unfolding held_at sheet_in
  holding n e =
      let p = and_parts (ltb n sheet_numbers) _ e in
      let r = and_parts (ltb (slot_of m n) (used_of m)) _ p.1 in
      record { inside = ltb-true _ _ p.0; used = ltb-true _ _ r.0; sheet = eqb-true _ _ r.1 }

  -- a sheet whose slot is not owned is not kept
  unkept_by :
      (n i : ℕ) → slot_of m n ≡ i → own_at m i ≡ false →
      (t : Bool) → ltb n sheet_numbers && held_at m n (slot_of m n) ≡ t → kept_of m n ≡ none
  unfolding kept_of
  unkept_by n i e f true t =
      let h = holding n t in
      let s : sheet_in m i ≡ n = ap (sheet_in m) (sym e) ∙ h.sheet in
      let o : own_at m i ≡ true = owning i (record {
        small = rw s h.inside;
        used = rw (← e) h.used;
        named = ap (slot_of m) s ∙ e;
      }) in
      absurd (false≢true (sym f ∙ o))
  unkept_by n i e f false t = rw t

  pub unkept : (n i : ℕ) → slot_of m n ≡ i → own_at m i ≡ false → kept_of m n ≡ none
  unkept n i e f = unkept_by n i e f (ltb n sheet_numbers && held_at m n (slot_of m n)) refl

  -- nor is a sheet other than the one that its slot holds
  other_by :
      (n i : ℕ) → slot_of m n ≡ i → (n ≡ sheet_in m i → ⊥) →
      (t : Bool) → ltb n sheet_numbers && held_at m n (slot_of m n) ≡ t → kept_of m n ≡ none
  unfolding kept_of
  other_by n i e d true t = absurd (d (sym (ap (sheet_in m) (sym e) ∙ (holding n t).sheet)))
  other_by n i e d false t = rw t

  pub unkept_other : (n i : ℕ) → slot_of m n ≡ i → (n ≡ sheet_in m i → ⊥) → kept_of m n ≡ none
  unkept_other n i e d = other_by n i e d (ltb n sheet_numbers && held_at m n (slot_of m n)) refl

  own_kept : (i : ℕ) → Owned i → kept_of m (sheet_in m i) ≡ kept (shot_in (slot_at m i))
  unfolding kept_of held_at sheet_in
  own_kept i o = rw (o.named, lt-ltb _ _ o.small, lt-ltb _ _ o.used, eq-eqb _ _ refl)

  -- one more slot: the sheet that owns it, or none
  none_below : (n : ℕ) → kept_up_to 0 n ≡ none
  unfolding kept_up_to
  none_below n = rw (le-ltb (slot_of m n) 0 (omega arith))

  all-below : (n : ℕ) → kept_up_to most n ≡ kept_of m n
  unfolding kept_up_to
  all-below n = rw (lt-ltb _ _ (slot_few m n))

  apart : (i n : ℕ) → (slot_of m n ≡ i → ⊥) → (t : Bool) → ltb (slot_of m n) i ≡ t →
      kept_up_to (suc i) n ≡ kept_up_to i n
  unfolding kept_up_to
  apart i n d true t = rw (t, lt-ltb (slot_of m n) (suc i) (let h : slot_of m n < i = ltb-true _ _ t in omega arith))
  apart i n d false t = rw (t, le-ltb (slot_of m n) (suc i) (let h : i ≤ slot_of m n = ltb-false _ _ t in omega arith))

  there : (i n : ℕ) → slot_of m n ≡ i → (kept_up_to (suc i) n ≡ kept_of m n) × (kept_up_to i n ≡ none)
  unfolding kept_up_to
  there i n e = (rw (lt-ltb (slot_of m n) (suc i) (omega arith)) refl, rw (le-ltb (slot_of m n) i (omega arith)) refl)

  free_same :
      (i : ℕ) → own_at m i ≡ false → (n : ℕ) (t : Bool) → eqb (slot_of m n) i ≡ t →
      kept_up_to (suc i) n ≡ kept_up_to i n
  free_same i f n true t =
      let e : slot_of m n ≡ i = eqb-true _ _ t in
      let h = there i n e in
      h.0 ∙ unkept n i e f ∙ sym h.1
  free_same i f n false t = apart i n (eqb-false _ _ t) (ltb (slot_of m n) i) refl

  own_more :
      (i : ℕ) → Owned i → (n : ℕ) (d t : Bool) → eqb n (sheet_in m i) ≡ d → eqb (slot_of m n) i ≡ t →
      kept_up_to (suc i) n ≡ keeping (sheet_in m i) (shot_in (slot_at m i)) (kept_up_to i) n
  unfolding keeping
  own_more i o n true t d u =
      let e : n ≡ sheet_in m i = eqb-true _ _ d in
      let s : slot_of m n ≡ i = ap (slot_of m) e ∙ o.named in
      rw d ((there i n s).0 ∙ ap (kept_of m) e ∙ own_kept i o)
  own_more i o n false true d u =
      let s : slot_of m n ≡ i = eqb-true _ _ u in
      let h = there i n s in
      rw d (h.0 ∙ unkept_other n i s (eqb-false _ _ d) ∙ sym h.1)
  own_more i o n false false d u = rw d (apart i n (eqb-false _ _ u) (ltb (slot_of m n) i) refl)

  count_by :
      (i : ℕ) (t : Bool) → own_at m i ≡ t → kept_below (kept_up_to i) sheet_numbers ≡ own_below m i →
      kept_below (kept_up_to (suc i)) sheet_numbers ≡ own_below m i + cond (own_at m i) 1 0
  count_by i true t ih =
      let o = owned i t in
      let s = sheet_in m i in
      let x = shot_in (slot_at m i) in
      let more : kept_up_to (suc i) ≡ keeping s x (kept_up_to i) =
      fun_ext (λ n. own_more i o n (eqb n s) (eqb (slot_of m n) i) refl refl) in
      let none_yet : kept_up_to i s ≡ none = (there i s o.named).1 in
      let a = rw none_yet at (above (kept_up_to i) s x sheet_numbers o.small) in
      rw (more, t) (omega (arith, a, ih))
  count_by i false t ih =
      let same : kept_up_to (suc i) ≡ kept_up_to i = fun_ext (λ n. free_same i t n (eqb (slot_of m n) i) refl) in
      rw (same, t, add-zero) ih

  counts : (i : ℕ) → kept_below (kept_up_to i) sheet_numbers ≡ own_below m i
  unfolding own_below
  counts zero = ap (λ (f : ℕ → Kept). kept_below f sheet_numbers) (fun_ext none_below) ∙ empty sheet_numbers
  counts (suc i) = count_by i (own_at m i) refl (counts i)

  count-is : (sheets_of m).count ≡ own_below m most
  unfolding sheets_of
  count-is = ap (λ (f : ℕ → Kept). kept_below f sheet_numbers) (sym (fun_ext all-below)) ∙ counts most

  -- ---- how many they are: no more than slots; no more than are in use; fewer than slots if one is not owned; as many
  -- if each is
  abbrev Few : ℕ → ℕ → Type 0
  Few n i = (n ≤ i) × (n ≤ used_of m)

  few_by : (i : ℕ) (t : Bool) → own_at m i ≡ t → Few (own_below m i) i →
      Few (own_below m i + cond (own_at m i) 1 0) (suc i)
  few_by i true t h = let u : i < used_of m = (owned i t).used in rw t (omega (arith, h.0), omega (arith, h.0))
  few_by i false t h = rw t (omega (arith, h.0), omega (arith, h.1))

  few : (i : ℕ) → Few (own_below m i) i
  unfolding own_below
  few zero = (omega arith, omega arith)
  few (suc i) = few_by i (own_at m i) refl (few i)

  short_by :
      (f i : ℕ) → own_at m f ≡ false → f < suc i → (t : Bool) → eqb f i ≡ t → (f < i → own_below m i < i) →
      own_below m i + cond (own_at m i) 1 0 < suc i
  short_by f i e h true t ih =
      let s : own_at m i ≡ false = ap (own_at m) (sym (eqb-true _ _ t)) ∙ e in
      rw s (omega (arith, (few i).0))
  short_by f i e h false t ih =
      let d : f ≡ i → ⊥ = eqb-false _ _ t in
      let l : f < i = omega arith in
      let p : cond (own_at m i) 1 0 ≤ 1 = at_most (own_at m i) in
      omega (arith, ih l, p)
    where
      at_most : (b : Bool) → cond b 1 0 ≤ 1
      at_most true = omega arith
      at_most false = omega arith

  short : (f : ℕ) → own_at m f ≡ false → (i : ℕ) → f < i → own_below m i < i
  unfolding own_below
  short f e zero h = absurd (omega arith)
  short f e (suc i) h = short_by f i e h (eqb f i) refl (short f e i)

  whole : (i : ℕ) → ((k : ℕ) → k < i → own_at m k ≡ true) → own_below m i ≡ i
  unfolding own_below
  whole zero h = refl
  whole (suc i) h = rw (h i (omega arith)) (omega (arith, whole i (λ k l. h k (omega arith))))

  pub count-used : (sheets_of m).count ≤ used_of m
  count-used = rw count-is (few most).1

  pub count-short : (f : ℕ) → f < most → own_at m f ≡ false → (sheets_of m).count < most
  count-short f h e = rw count-is (short f e most h)

  pub count-whole : ((k : ℕ) → k < most → own_at m k ≡ true) → (sheets_of m).count ≡ most
  count-whole h = count-is ∙ whole most h

  -- a slot that is not in use is not owned; one in use is owned if its sheet's index names it
  pub unused : (i : ℕ) → used_of m ≤ i → own_at m i ≡ false
  unfolding own_at
  unused i h = rw (le-ltb i (used_of m) h) (and-false (ltb (sheet_in m i) sheet_numbers))

  pub unnamed : (i : ℕ) → (slot_of m (sheet_in m i) ≡ i → ⊥) → own_at m i ≡ false
  unfolding own_at
  unnamed i d =
      let z = ne_eqb (slot_of m (sheet_in m i)) i d in
      rw (z, and-false (ltb i (used_of m))) (and-false (ltb (sheet_in m i) sheet_numbers))

  -- ---- the search from i on among n slots: where it stops, and all before
  pub free_here : (n i : ℕ) → own_at m i ≡ false → free_from m (suc n) i ≡ i
  unfolding free_from
  free_here n i e = rw e

  pub free_next : (n i : ℕ) → own_at m i ≡ true → free_from m (suc n) i ≡ free_from m n (i + 1)
  unfolding free_from
  free_next n i e = rw e

  abbrev Search : ℕ → ℕ → ℕ → Type 0
  Search n i r = (r ≤ i + n) × ((r < i + n → own_at m r ≡ false) × ((k : ℕ) → i ≤ k → k < r → own_at m k ≡ true))

  own_from :
      (i r : ℕ) → own_at m i ≡ true → ((k : ℕ) → i + 1 ≤ k → k < r → own_at m k ≡ true) →
      (k : ℕ) → i ≤ k → k < r → (t : Bool) → eqb k i ≡ t → own_at m k ≡ true
  own_from i r o h k l u true t = ap (own_at m) (eqb-true _ _ t) ∙ o
  own_from i r o h k l u false t = let d : k ≡ i → ⊥ = eqb-false _ _ t in h k (omega arith) u

  search_by :
      (n i : ℕ) (t : Bool) → own_at m i ≡ t → Search n (i + 1) (free_from m n (i + 1)) →
      Search (suc n) i (free_from m (suc n) i)
  search_by n i true t s =
      let r = free_from m n (i + 1) in
      rw (free_next n i t) (
        omega (arith, s.0),
        (λ h. s.1.0 (omega arith), λ k l u. own_from i r t s.1.1 k l u (eqb k i) refl),
      )
  search_by n i false t s = rw (free_here n i t) (omega arith, (λ h. t, λ k l u. absurd (omega arith)))

  searched : (n i : ℕ) → Search n i (free_from m n i)
  unfolding free_from
  searched zero i = (omega arith, (λ h. absurd (omega arith), λ k l u. absurd (omega arith)))
  searched (suc n) i = search_by n i (own_at m i) refl (searched n (i + 1))

  -- as the code runs it: from the slot i on, with all slots in use
  pub search_start : free_slot m ≡ free_from m most 0
  unfolding free_slot
  search_start = refl

  pub search_none : (i : ℕ) → most ≤ i → i ≤ most → free_slot m ≡ free_from m (most - i) i → i ≡ free_slot m
  unfolding free_from
  search_none i h k e = let z : most - i ≡ 0 = omega arith in sym (e ∙ ap (λ (n : ℕ). free_from m n i) z)

  module _ (i : ℕ) (h : i < most) (e : free_slot m ≡ free_from m (most - i) i) where
    left : most - i ≡ suc (most - (i + 1))
    left = omega arith

    turn : free_slot m ≡ free_from m (suc (most - (i + 1))) i
    turn = e ∙ ap (λ (n : ℕ). free_from m n i) left

    pub search_free : (n : ℕ) → n ≡ sheet_in m i → (slot_of m n ≡ i → ⊥) → i ≡ free_slot m
    search_free n s d = sym (turn ∙ free_here _ i (unnamed i (λ z. d (ap (slot_of m) s ∙ z))))

    pub search_next :
        (n : ℕ) → n ≡ sheet_in m i → n < sheet_numbers → most ≤ used_of m → slot_of m n ≡ i →
        free_slot m ≡ free_from m (most - (i + 1)) (i + 1)
    search_next n s k u z =
        let o : Owned i = record { small = rw (← s) k; used = omega arith; named = ap (slot_of m) (sym s) ∙ z } in
        turn ∙ free_next _ i (owning i o)

  -- if it finds one, fewer than 512 sheets are kept; if it finds none, 512
  pub free_own : free_slot m < most → own_at m (free_slot m) ≡ false
  unfolding free_slot
  free_own h = (searched most 0).1.0 (omega arith)

  pub free_found : free_slot m < most → (sheets_of m).count < most
  free_found h = count-short (free_slot m) h (free_own h)

  pub free_none : most ≤ free_slot m → (sheets_of m).count ≡ most
  unfolding free_slot
  free_none h = count-whole (λ k l. (searched most 0).1.1 k (omega arith) (omega arith))

pub own_count : OwnTheorem
own_count m = (count-is m, rw (count-is m) (few m most).0)
