-- What is kept after the code's stores. Assumes nothing.
use Prim.Native.Nat.{ℕ, ◌+◌, ◌*◌, ◌%◌, ◌≤◌, ◌<◌}
use mathlib.Core.Path.{◌≡◌, refl, sym, ap, ◌∙◌, fun_ext}
use mathlib.Core.Bool.{Bool, true, false, cond, ◌&&◌, and-false}
use mathlib.Core.List.{List}
use native.Mathlib.Omega.{arith}
use native.Mathlib.Nat.{mod-eq_of_lt, add_assoc}
use borrow.Author.Tests.{lt-ltb, le-ltb, eq-eqb, ne_eqb, ltb-true, ltb-false, eqb-true, eqb-false}
use lib.ListN.{length, length-append}
use lib.Seq.{sets, length-sets}
use lib.Dec.{ltb, eqb}
use lib.Ieee.{binary64}
use Rattle.std.proofs.lemmas.Bool.{and_parts}
use Rattle.std.proofs.lemmas.Bool.Decides.{nat_tests}
use Rattle.linalg.specs.Answer.{Answer, answers, refuses}
use Rattle.layout.proofs.Runs.{sets_split}
use Rattle.wire.specs.Wire.{word_at, word_bytes, item_bytes, items_bytes}
use Rattle.wire.proofs.Bytes.{word-length}
use Rattle.record_result.specs.Framed.{framed_in, framed_items}
use Rattle.record_result.proofs.Frames.{framed-length}
use Rattle.sheets.specs.Sheets.{Kept, none, kept, one, kept_below, sheet_numbers, no_sheets, most, no_room, never_kept}
use Rattle.sheets.specs.Sheets.{keeping, Shelved, shelved, shelve_on, shelve, ask_on, ask}
use Rattle.sheets.specs.Store.{slot_width, slots, tail, size, used_of, slot_of, slot_at, shot_in, held_at, kept_of}
use Rattle.sheets.specs.Store.{sheets_of, sheet_in, own_at, free_slot, slot_bytes, assign_of, add_of}
use Rattle.sheets.specs.Store.{retake_answer, retake_bytes}
use Rattle.sheets.specs.declared.Shot.{Shot}
use Rattle.sheets.proofs.Framed.{frame, Fit, short_back, framed_back}
use Rattle.sheets.proofs.Counted.{above, empty}
use Rattle.sheets.proofs.Own.{slot_few, unkept, unkept_other, unused, count-used, free_own, free_found, free_none}
use Rattle.sheets.proofs.Parts.{short_in, short-before, short-after, short_on, short-word, slot_before, slot_after}
use Rattle.sheets.proofs.Parts.{slot_on}

-- ---- the bytes of a slot: how many they are, and that they read back
pub slot_length : (n : ℕ) (x : Shot) → length (slot_bytes n x) ≡ slot_width
unfolding slot_bytes
slot_length n x = simp (length-append, word-length, framed-length)

sheet_back : (n : ℕ) (x : Shot) → n < 65536 → word_at 2 (slot_bytes n x) 0 ≡ n
unfolding slot_bytes word_at word_bytes
sheet_back n x h = short_back n h

take-is : (n : ℕ) (x : Shot) → (shot_in (slot_bytes n x)).take ≡ word_at 2 (word_bytes 2 x.take) 0
unfolding slot_bytes shot_in word_at word_bytes
take-is n x = refl

pose-is : (n : ℕ) (x : Shot) → (shot_in (slot_bytes n x)).pose
    ≡ framed_in binary64 (items_bytes binary64 (framed_items x.pose))
unfolding slot_bytes shot_in word_bytes
pose-is n x = refl

pub shot_back : (n : ℕ) (x : Shot) → x.take < 65536 → Fit x.pose → shot_in (slot_bytes n x) ≡ x
shot_back n x h f =
    λ i. record { take = (take-is n x ∙ short-word x.take h) i; pose = (pose-is n x ∙ framed_back x.pose f) i }

-- m' has the bytes b, of the sheet n, in the slot i, and is otherwise as m
pub record Stored (m m' : List ℕ) (n i : ℕ) (b : List ℕ) : Type 0 where
  pub sheet : word_at 2 b 0 ≡ n
  pub inside : n < 65536
  pub own : slot_of m' n ≡ i
  pub others : (y : ℕ) → y < 65536 → (y ≡ n → ⊥) → slot_of m' y ≡ slot_of m y
  pub used : held_at m' n i ≡ true
  pub slot : slot_at m' i ≡ b
  pub apart : (y s : ℕ) → s < most → (s ≡ i → ⊥) → (held_at m' y s ≡ held_at m y s) × (slot_at m' s ≡ slot_at m s)
  pub free : (y : ℕ) → (y ≡ n → ⊥) → slot_of m y ≡ i → (held_at m' y i ≡ false) × (kept_of m y ≡ none)

module _ {m m' : List ℕ} {n i : ℕ} {b : List ℕ} (k : Stored m m' n i b) where
  of_own : kept_of m' n ≡ kept (shot_in b)
  unfolding kept_of
  of_own = rw (lt-ltb n 65536 k.inside, k.own, k.used, k.slot)

  of_other : (y : ℕ) → y < 65536 → (y ≡ n → ⊥) → (e : Bool) → eqb (slot_of m y) i ≡ e → kept_of m' y ≡ kept_of m y
  unfolding kept_of
  of_other y h d true e =
      let s : slot_of m y ≡ i = eqb-true _ _ e in
      let f = k.free y d s in
      rw (lt-ltb y 65536 h, k.others y h d, s, f.0) refl ∙ sym f.1
  of_other y h d false e =
      let a = k.apart y (slot_of m y) (slot_few m y) (eqb-false _ _ e) in
      rw (lt-ltb y 65536 h, k.others y h d, a.0, a.1)

  of_none : (l : List ℕ) (y : ℕ) → ltb y 65536 ≡ false → kept_of l y ≡ none
  unfolding kept_of
  of_none l y e = rw e

  stored_by : (y : ℕ) (d t : Bool) → eqb y n ≡ d → ltb y 65536 ≡ t → kept_of m' y ≡ keeping n (shot_in b) (kept_of m) y
  unfolding keeping
  stored_by y true t d h = let e : y ≡ n = eqb-true _ _ d in rw d (ap (kept_of m') e ∙ of_own)
  stored_by y false true d h = rw d (of_other y (ltb-true _ _ h) (eqb-false _ _ d) (eqb (slot_of m y) i) refl)
  stored_by y false false d h = rw d (of_none m' y h ∙ sym (of_none m y h))

  pub stored : kept_of m' ≡ keeping n (shot_in b) (kept_of m)
  stored = fun_ext (λ y. stored_by y (eqb y n) (ltb y 65536) refl refl)

  -- the count: one more sheet, or as many
  count_now : kept_below (kept_of m') sheet_numbers + one (kept_of m n) ≡ kept_below (kept_of m) sheet_numbers + 1
  count_now =
      ap (λ (f : ℕ → Kept). kept_below f sheet_numbers + one (kept_of m n)) stored
      ∙ above (kept_of m) n (shot_in b) sheet_numbers k.inside

  pub stored_new :
      kept_of m n ≡ none →
      sheets_of m' ≡ record { count = (sheets_of m).count + 1; at = keeping n (shot_in b) (sheets_of m).at }
  unfolding sheets_of
  stored_new e =
      let z : one (kept_of m n) ≡ 0 = ap one e in
      let c : kept_below (kept_of m') sheet_numbers ≡ kept_below (kept_of m) sheet_numbers + 1 =
      omega (arith, count_now, z) in
      λ i. record { count = c i; at = stored i }

  pub stored_old :
      (o : Shot) → kept_of m n ≡ kept o →
      sheets_of m' ≡ record { count = (sheets_of m).count; at = keeping n (shot_in b) (sheets_of m).at }
  unfolding sheets_of
  stored_old o e =
      let z : one (kept_of m n) ≡ 1 = ap one e in
      let c : kept_below (kept_of m') sheet_numbers ≡ kept_below (kept_of m) sheet_numbers =
      omega (arith, count_now, z) in
      λ i. record { count = c i; at = stored i }

-- ---- tests
less_next : (s u : ℕ) → (s ≡ u → ⊥) → ltb s (u + 1) ≡ ltb s u
less_next s u n = grind (arith, nat_tests)

-- ---- bytes in a slot
module _ (m b : List ℕ) (i : ℕ) (h : i < most) (l : length m ≡ size) (e : length b ≡ slot_width) where
  abbrev at : ℕ
  at = slots + slot_width * i

  used-same : used_of (sets m at b) ≡ used_of m
  unfolding used_of
  used-same = short-after b m at tail (omega arith)

  slot_same : (y : ℕ) → y < 65536 → slot_of (sets m at b) y ≡ slot_of m y
  unfolding slot_of
  slot_same y k = ap (λ (n : ℕ). n % most) (short-before b m at (2 * y) (omega arith))

  head_own : word_at 2 (sets m at b) at ≡ word_at 2 b 0
  head_own = short_on b m at (omega arith) (omega arith)

  slot_own : slot_at (sets m at b) i ≡ b
  slot_own = slot_on b m i (omega arith) e

  other_by :
      (s : ℕ) → s < most → (s ≡ i → ⊥) → (t : Bool) → ltb s i ≡ t →
      (word_at 2 (sets m at b) (slots + slot_width * s) ≡ word_at 2 m (slots + slot_width * s))
      × (slot_at (sets m at b) s ≡ slot_at m s)
  other_by s k n true t =
      let q : s < i = ltb-true s i t in
      (short-before b m at (slots + slot_width * s) (omega arith), slot_before b m at s (omega arith))
  other_by s k n false t =
      let q : i ≤ s = ltb-false s i t in
      let d : i < s = omega arith in
      (short-after b m at (slots + slot_width * s) (omega arith), slot_after b m at s (omega arith))

  other :
      (s : ℕ) → s < most → (s ≡ i → ⊥) →
      (word_at 2 (sets m at b) (slots + slot_width * s) ≡ word_at 2 m (slots + slot_width * s))
      × (slot_at (sets m at b) s ≡ slot_at m s)
  other s k n = other_by s k n (ltb s i) refl

  replaced_stored : (n : ℕ) → word_at 2 b 0 ≡ n → n < 65536 → slot_of m n ≡ i → held_at m n i ≡ true →
      Stored m (sets m at b) n i b
  unfolding held_at sheet_in
  replaced_stored n p q o u =
      let was : sheet_in m i ≡ n = eqb-true _ _ (and_parts (ltb i (used_of m)) _ u).1 in
      record {
        sheet = p;
        inside = q;
        own = slot_same n q ∙ o;
        others = λ y k d. slot_same y k;
        used = rw (used-same, head_own, p, (and_parts (ltb i (used_of m)) _ u).0, eq-eqb n n refl);
        slot = slot_own;
        apart = λ y s k d. let a = other s k d in (rw (used-same, a.0), a.1);
        free = λ y d s. (
          rw (head_own, p, ne_eqb n y (λ e. d (sym e))) (and-false (ltb i (used_of (sets m at b)))),
          unkept_other m y i s (λ e. d (e ∙ was)),
        );
      }

-- ---- bytes in the slot i, which no sheet owns, and the slot named in the index of the sheet n
module _
    (m b : List ℕ) (n i : ℕ) (l : length m ≡ size) (e : length b ≡ slot_width) (q : n < 65536) (h : i < most)
    (p : word_at 2 b 0 ≡ n) (w : own_at m i ≡ false) where
  abbrev m1 : List ℕ
  m1 = sets m (2 * n) (word_bytes 2 i)

  abbrev m2 : List ℕ
  m2 = sets m1 (slots + slot_width * i) b

  l1 : length m1 ≡ size
  l1 = length-sets m (2 * n) (word_bytes 2 i) ∙ l

  l2 : length m2 ≡ size
  l2 = length-sets m1 (slots + slot_width * i) b ∙ l1

  -- after the index the first store changes nothing
  first_short : (a : ℕ) → slots ≤ a → word_at 2 m1 a ≡ word_at 2 m a
  first_short a k =
      let z : length (word_bytes 2 i) ≡ 2 = word-length 2 i in
      short-after (word_bytes 2 i) m (2 * n) a (omega arith)

  used-one : used_of m1 ≡ used_of m
  unfolding used_of
  used-one = first_short tail (omega arith)

  used_two : used_of m2 ≡ used_of m
  used_two = used-same m1 b i h l1 e ∙ used-one

  index_two : (y : ℕ) → y < 65536 → word_at 2 m2 (2 * y) ≡ word_at 2 m1 (2 * y)
  index_two y k = short-before b m1 (slots + slot_width * i) (2 * y) (omega arith)

  slot_own_two : slot_of m2 n ≡ i
  unfolding slot_of
  slot_own_two =
      let z : length (word_bytes 2 i) ≡ 2 = word-length 2 i in
      let y = short_on (word_bytes 2 i) m (2 * n) (omega (arith, l)) (omega arith) in
      ap (λ (k : ℕ). k % most) (index_two n q ∙ y ∙ short-word i (omega arith))
      ∙ mod-eq_of_lt h

  index_by : (y : ℕ) → y < 65536 → (y ≡ n → ⊥) → (t : Bool) → ltb y n ≡ t → word_at 2 m1 (2 * y) ≡ word_at 2 m (2 * y)
  index_by y k d true t =
      let z : y < n = ltb-true y n t in short-before (word_bytes 2 i) m (2 * n) (2 * y) (omega arith)
  index_by y k d false t =
      let v : length (word_bytes 2 i) ≡ 2 = word-length 2 i in
      let z : n ≤ y = ltb-false y n t in
      let z' : n < y = omega arith in
      short-after (word_bytes 2 i) m (2 * n) (2 * y) (omega arith)

  slot_other_two : (y : ℕ) → y < 65536 → (y ≡ n → ⊥) → slot_of m2 y ≡ slot_of m y
  unfolding slot_of
  slot_other_two y k d = ap (λ (x : ℕ). x % most) (index_two y k ∙ index_by y k d (ltb y n) refl)

  head_two : word_at 2 m2 (slots + slot_width * i) ≡ n
  head_two = head_own m1 b i h l1 e ∙ p

  slot_two : slot_at m2 i ≡ b
  slot_two = slot_own m1 b i h l1 e

  head_other :
      (s : ℕ) → s < most → (s ≡ i → ⊥) → word_at 2 m2 (slots + slot_width * s) ≡ word_at 2 m (slots + slot_width * s)
  head_other s k d = (other m1 b i h l1 e s k d).0 ∙ first_short (slots + slot_width * s) (omega arith)

  bytes-other : (s : ℕ) → s < most → (s ≡ i → ⊥) → slot_at m2 s ≡ slot_at m s
  bytes-other s k d =
      let z : length (word_bytes 2 i) ≡ 2 = word-length 2 i in
      (other m1 b i h l1 e s k d).1 ∙ slot_after (word_bytes 2 i) m (2 * n) s (omega arith)

  -- in use already
  assigned_stored : i < used_of m → Stored m m2 n i b
  unfolding held_at
  assigned_stored v = record {
    sheet = p;
    inside = q;
    own = slot_own_two;
    others = slot_other_two;
    used = rw (used_two, head_two, lt-ltb i (used_of m) v, eq-eqb n n refl);
    slot = slot_two;
    apart = λ y s k d. (rw (used_two, head_other s k d), bytes-other s k d);
    free = λ y d s. (rw (head_two, ne_eqb n y (λ e. d (sym e))) (and-false (ltb i (used_of m2))), unkept m y i s w);
  }

  -- the next slot, which is in use afterwards
  abbrev m3 : List ℕ
  m3 = sets m2 tail (word_bytes 2 (i + 1))

  used-three : used_of m3 ≡ i + 1
  unfolding used_of
  used-three =
      let z : length (word_bytes 2 (i + 1)) ≡ 2 = word-length 2 (i + 1) in
      short_on (word_bytes 2 (i + 1)) m2 tail (omega (arith, l2)) (omega arith) ∙ short-word (i + 1) (omega arith)

  -- before the tail the last store changes nothing
  last_short : (a : ℕ) → a + 2 ≤ tail → word_at 2 m3 a ≡ word_at 2 m2 a
  last_short a k = short-before (word_bytes 2 (i + 1)) m2 tail a k

  slot_three : (y : ℕ) → y < 65536 → slot_of m3 y ≡ slot_of m2 y
  unfolding slot_of
  slot_three y k = ap (λ (x : ℕ). x % most) (last_short (2 * y) (omega arith))

  head_three : (s : ℕ) → s < most → word_at 2 m3 (slots + slot_width * s) ≡ word_at 2 m2 (slots + slot_width * s)
  head_three s k = last_short (slots + slot_width * s) (omega arith)

  bytes-three : (s : ℕ) → s < most → slot_at m3 s ≡ slot_at m2 s
  bytes-three s k = slot_before (word_bytes 2 (i + 1)) m2 tail s (omega arith)

  added_stored : i ≡ used_of m → Stored m m3 n i b
  unfolding held_at
  added_stored v = record {
    sheet = p;
    inside = q;
    own = slot_three n q ∙ slot_own_two;
    others = λ y k d. slot_three y k ∙ slot_other_two y k d;
    used = rw (used-three, head_three i h, head_two, lt-ltb i (i + 1) (omega arith), eq-eqb n n refl);
    slot = bytes-three i h ∙ slot_two;
    apart = λ y s k d. (
      rw (used-three, head_three s k, head_other s k d, less_next s i d, ← v),
      bytes-three s k ∙ bytes-other s k d,
    );
    free = λ y d s.
        (rw (head_three i h, head_two, ne_eqb n y (λ e. d (sym e))) (and-false (ltb i (used_of m3))), unkept m y i s w);
  }

-- ---- the sheet n, whose slot is i: the result of a query
module _ (m : List ℕ) (n i : ℕ) (q : n < 65536) (o : i ≡ slot_of m n) (l : length m ≡ size) where
  kept-none : held_at m n i ≡ false → kept_of m n ≡ none
  unfolding kept_of
  kept-none h = rw (← o, lt-ltb n 65536 q, h)

  kept-shot : held_at m n i ≡ true → kept_of m n ≡ kept (shot_in (slot_at m i))
  unfolding kept_of
  kept-shot h = rw (← o, lt-ltb n 65536 q, h)

  at_none : held_at m n i ≡ false → (sheets_of m).at n ≡ none
  unfolding sheets_of
  at_none h = kept-none h

  at-shot : held_at m n i ≡ true → (sheets_of m).at n ≡ kept (shot_in (slot_at m i))
  unfolding sheets_of
  at-shot h = kept-shot h

  pub found : held_at m n i ≡ true → ask (sheets_of m) n ≡ answers (shot_in (slot_at m i))
  unfolding ask ask_on
  found h = rw (at-shot h)

  pub missed : held_at m n i ≡ false → ask (sheets_of m) n ≡ refuses never_kept
  unfolding ask ask_on
  missed h = rw (at_none h)

  -- ---- and the result of its shot x
  module _ (x : Shot) where
    abbrev Took : Answer Shelved → List ℕ → Type 0
    Took t m' = (t ≡ (shelve (sheets_of m) n x).answer) × (sheets_of m' ≡ (shelve (sheets_of m) n x).sheets)

    pub took-full : held_at m n i ≡ false → most ≤ free_slot m → Took (refuses no_room) m
    unfolding shelve shelve_on
    took-full h k =
        let c : most ≤ (sheets_of m).count = omega (arith, free_none m k) in
        rw (at_none h, le-ltb (sheets_of m).count most c) (refl, refl)

    module _ (t : x.take < 65536) (f : Fit x.pose) where
      -- the bytes m' store x as the shot of a sheet that had none, where fewer than 512 sheets are kept
      took_stored :
          held_at m n i ≡ false → (sheets_of m).count < most → (u : ℕ) (m' : List ℕ) →
          Stored m m' n u (slot_bytes n x) → Took (shelved 1 0) m'
      unfolding shelve shelve_on
      took_stored h c u m' k =
          let s = stored_new k (kept-none h) in
          rw (at_none h, lt-ltb (sheets_of m).count most c) (refl, rw (shot_back n x t f) at s)

      pub took-new : held_at m n i ≡ false → (u : ℕ) → u ≡ used_of m → u < most → Took (shelved 1 0) (add_of m n u x)
      unfolding add_of assign_of
      took-new h u v k =
          let free = unused m u (omega (arith, v)) in
          let s = added_stored m (slot_bytes n x) n u l (slot_length n x) q k (sheet_back n x q) free v in
          took_stored h (omega (arith, count-used m, v)) u _ s

      pub took_free :
          held_at m n i ≡ false → most ≤ used_of m → free_slot m < most →
          Took (shelved 1 0) (assign_of m n (free_slot m) x)
      unfolding assign_of
      took_free h v k =
          let s =
          assigned_stored m (slot_bytes n x) n (free_slot m) l (slot_length n x) q k (sheet_back n x q) (free_own m k)
          (omega arith) in
          took_stored h (free_found m k) (free_slot m) _ s

      -- the take that is kept
      abbrev old : ℕ
      old = word_at 2 m (slots + slot_width * i + 2)

      old_is : (shot_in (slot_at m i)).take ≡ old
      unfolding shot_in
      old_is = short_in m i

      replaced_is : held_at m n i ≡ true → sheets_of (sets m (slots + slot_width * i) (slot_bytes n x))
          ≡ record { count = (sheets_of m).count; at = keeping n x (sheets_of m).at }
      replaced_is h =
          let few : i < most = rw o (slot_few m n) in
          let k = replaced_stored m (slot_bytes n x) i few l (slot_length n x) n (sheet_back n x q) q (sym o) h in
          rw (shot_back n x t f) at (stored_old k _ (kept-shot h))

      abbrev Again : Type 0
      Again =
          (retake_answer m i x ≡ (shelve (sheets_of m) n x).answer)
          × (sheets_of (retake_bytes m i n x) ≡ (shelve (sheets_of m) n x).sheets)

      again_by : held_at m n i ≡ true → (a c : Bool) → eqb x.take old ≡ a → ltb old x.take ≡ c → Again
      unfolding shelve shelve_on retake_answer retake_bytes
      again_by h true c a d = rw (at-shot h, old_is, a) (refl, refl)
      again_by h false true a d = rw (at-shot h, old_is, a, d) (refl, replaced_is h)
      again_by h false false a d = rw (at-shot h, old_is, a, d) (refl, refl)

      pub took_again : held_at m n i ≡ true → Again
      took_again h = again_by h (eqb x.take old) (ltb old x.take) refl refl

-- ---- nothing is kept if no slot is in use, whatever else the bytes hold
none-at : (m : List ℕ) → used_of m ≡ 0 → (n : ℕ) → kept_of m n ≡ none
unfolding kept_of held_at
none-at m e n = rw (e, le-ltb (slot_of m n) 0 (omega arith)) (by (ltb n 65536) _)
  where
    by : (t : Bool) (k : Kept) → cond (t && false) k none ≡ none
    by true k = refl
    by false k = refl

none-used : (m : List ℕ) → used_of m ≡ 0 → sheets_of m ≡ no_sheets
unfolding sheets_of
none-used m e =
    let a : kept_of m ≡ no_sheets.at = fun_ext (none-at m e) in
    let c : kept_below (kept_of m) sheet_numbers ≡ 0 =
    ap (λ (f : ℕ → Kept). kept_below f sheet_numbers) a ∙ empty sheet_numbers in
    λ i. record { count = c i; at = a i }

pub emptied : (m : List ℕ) → length m ≡ size → sheets_of (sets m tail (word_bytes 2 0)) ≡ no_sheets
unfolding used_of
emptied m l =
    let w : length (word_bytes 2 0) ≡ 2 = word-length 2 0 in
    none-used _ (short_on (word_bytes 2 0) m tail (omega (arith, l)) (omega arith) ∙ short-word 0 (omega arith))

-- ---- three stores are a slot's bytes
pub slot_stored :
    (n : ℕ) (x : Shot) (m : List ℕ) (at : ℕ) →
    sets (sets (sets m at (frame n)) (at + 2) (frame x.take)) (at + 4) (items_bytes binary64 (framed_items x.pose))
    ≡ sets m at (slot_bytes n x)
unfolding slot_bytes item_bytes
slot_stored n x m at = simp (sets_split, add_assoc, word-length)
