-- The results of the public functions and the bytes afterwards, by the slot. Assumes nothing.
use Prim.Native.Nat.{ℕ, ◌+◌, ◌≤◌, ◌<◌}
use mathlib.Core.Path.{◌≡◌, refl, sym, ap, ◌∙◌}
use mathlib.Core.Bool.{Bool, true, false}
use mathlib.Core.List.{List}
use native.Mathlib.Omega.{arith}
use borrow.Author.Tests.{lt-ltb, le-ltb, ltb-true, ltb-false}
use lib.ListN.{length}
use lib.Seq.{sets}
use lib.Dec.{ltb}
use Rattle.std.specs.Prelude.{Result, Ok, Err}
use Rattle.linalg.specs.Answer.{answer, view}
use Rattle.linalg.specs.declared.refusal.Refusal.{Refusal}
use Rattle.linalg.specs.declared.refusal.Refusal.TheVariants as refusal
use Rattle.wire.specs.Wire.{word_bytes}
use Rattle.sheets.specs.Sheets.{most, shelved, shelve, ask}
use Rattle.sheets.specs.Store.{tail, size, used_of, slot_of, slot_at, shot_in, held_at, sheets_of, free_slot}
use Rattle.sheets.specs.Store.{next_slot, assign_of, add_of, shelved_of, retake_answer, retake_bytes, add_answer}
use Rattle.sheets.specs.Store.{add_bytes, put_bytes}
use Rattle.sheets.specs.declared.Shot.{Shot}
use Rattle.sheets.specs.declared.Shelved as code
use Rattle.sheets.specs.declared.Shelved.TheVariants as variant
use Rattle.sheets.proofs.Framed.{Fit}
use Rattle.sheets.proofs.Stored.{took-new, took_free, took-full, took_again, found, missed}

module _ (m : List ℕ) where
  -- ---- the slot for a sheet that has none
  module _ (u : ℕ) (v : u ≡ used_of m) where
    pub next-used : u < most → u ≡ next_slot m
    unfolding next_slot
    next-used k = rw (← v, lt-ltb u most k) refl

    pub next_free : most ≤ u → free_slot m ≡ next_slot m
    unfolding next_slot
    next_free k = rw (← v, le-ltb u most k) refl

    module _ (i : ℕ) (e : i ≡ next_slot m) (n : ℕ) (x : Shot) where
      abbrev Add : Result code.Shelved Refusal → List ℕ → Type 0
      Add r m' = record { result_value : view shelved_of r ≡ add_answer m; store_after : m' ≡ add_bytes m n x }

      view-new : i < most → shelved 1 0 ≡ add_answer m
      unfolding add_answer
      view-new h = rw (← e, lt-ltb i most h) refl

      pub add-next :
          i < most → u < most → (m' : List ℕ) → m' ≡ sets (assign_of m n i x) tail (word_bytes 2 (u + 1)) →
          Add (Ok variant.New) m'
      unfolding add_bytes add_of
      add-next h k m' w =
          let same : i ≡ u = e ∙ sym (next-used k) in
          record { result_value = view-new h; store_after = rw (← v, lt-ltb u most k) (rw same at w) }

      pub add_free : i < most → most ≤ u → (m' : List ℕ) → m' ≡ assign_of m n i x → Add (Ok variant.New) m'
      unfolding add_bytes
      add_free h k m' w =
          let same : i ≡ free_slot m = e ∙ sym (next_free k) in
          record { result_value = view-new h; store_after = rw (← v, le-ltb u most k, ← same, lt-ltb i most h) w }

      full-bytes : most ≤ i → (b : Bool) → ltb u most ≡ b → m ≡ add_bytes m n x
      unfolding add_bytes
      full-bytes h true b = absurd (omega (arith, ltb-true u most b, h, e ∙ sym (next-used (ltb-true u most b))))
      full-bytes h false b =
          let same : i ≡ free_slot m = e ∙ sym (next_free (ltb-false u most b)) in
          rw (← v, b, ← same, le-ltb i most h) refl

      pub add-full : most ≤ i → Add (Err refusal.NoRoom) m
      unfolding add_answer
      add-full h =
          record { result_value = rw (← e, le-ltb i most h) refl; store_after = full-bytes h (ltb u most) refl }

  module _ (n : ℕ) where
    -- ---- a query
    module _ (i : ℕ) (q : n < 65536) (o : i ≡ slot_of m n) (l : length m ≡ size) where
      pub get_kept :
          held_at m n i ≡ true → (x : Shot) → x ≡ shot_in (slot_at m i) → answer (Ok x) ≡ ask (sheets_of m) n
      get_kept h x e = rw (found m n i q o l h, e) refl

      pub get_none : held_at m n i ≡ false → answer {A = Shot} (Err refusal.NeverKept) ≡ ask (sheets_of m) n
      get_none h = sym (missed m n i q o l h)

    -- ---- a shot
    module _ (x : Shot) where
      abbrev Put : Result code.Shelved Refusal → List ℕ → Type 0
      Put r m' = record {
        result_value : view shelved_of r ≡ (shelve (sheets_of m) n x).answer;
        store_after : m' ≡ put_bytes m n x;
        sheets_after : sheets_of m' ≡ (shelve (sheets_of m) n x).sheets;
      }

      module _ (i : ℕ) (q : n < 65536) (o : i ≡ slot_of m n) (l : length m ≡ size) where
        module _ (t : x.take < 65536) (f : Fit x.pose) where
          abbrev Added : Type 0
          Added =
              (add_answer m ≡ (shelve (sheets_of m) n x).answer)
              × (sheets_of (add_bytes m n x) ≡ (shelve (sheets_of m) n x).sheets)

          added_full : held_at m n i ≡ false → ltb (used_of m) most ≡ false → (b : Bool) → ltb (free_slot m) most ≡ b →
              Added
          unfolding add_answer add_bytes next_slot
          added_full h u true b =
              let s = took_free m n i q o l x t f h (ltb-false _ _ u) (ltb-true _ _ b) in rw (u, b) (s.0, s.1)
          added_full h u false b = let s = took-full m n i q o l x h (ltb-false _ _ b) in rw (u, b) (s.0, s.1)

          added : held_at m n i ≡ false → (b : Bool) → ltb (used_of m) most ≡ b → Added
          unfolding add_answer add_bytes next_slot
          added h true b =
              let s = took-new m n i q o l x t f h (used_of m) refl (ltb-true _ _ b) in rw (b, b) (s.0, s.1)
          added h false b = added_full h b (ltb (free_slot m) most) refl

          pub put_added :
              held_at m n i ≡ false → (r : Result code.Shelved Refusal) (m' : List ℕ) →
              view shelved_of r ≡ add_answer m → m' ≡ add_bytes m n x → Put r m'
          unfolding put_bytes
          put_added h r m' z w =
              let s = added h (ltb (used_of m) most) refl in
              record {
                result_value = z ∙ s.0;
                store_after = rw (← o, h) w;
                sheets_after = ap sheets_of w ∙ s.1;
              }

          pub put_again :
              held_at m n i ≡ true → (r : Result code.Shelved Refusal) (m' : List ℕ) →
              view shelved_of r ≡ retake_answer m i x → m' ≡ retake_bytes m i n x → Put r m'
          unfolding put_bytes
          put_again h r m' z w =
              let s = took_again m n i q o l x t f h in
              record {
                result_value = z ∙ s.0;
                store_after = rw (← o, h) w;
                sheets_after = ap sheets_of w ∙ s.1;
              }
