-- The bytes of the caller in which the code keeps the sheets: an index with two bytes for each sheet number, which name
-- a slot; 512 slots, each with a sheet number, a take and a pose with its frames; and how many slots are in use. Any
-- bytes of that length are a store: a sheet owns a slot if the slot is in use and holds its number and the index names
-- the slot for it.
use Rattle.std.specs.Prelude.{ℕ, zero, suc, ◌+◌, ◌*◌, ◌%◌, ◌≤◌, ◌≡◌, Bool, cond, ◌&&◌, List, ◌++◌, take, drop}
use Rattle.std.specs.Prelude.{ltb, eqb, Option, Some, None}
use Rattle.std.proofs.lemmas.List.Edits.{sets}
use Rattle.std.specs.Float.{binary64}
use Rattle.linalg.specs.Answer.{Answer, refuses}
use Rattle.wire.specs.Wire.{word_at, word_bytes, items_bytes}
use Rattle.record_result.specs.Framed.{framed_width, framed_in, framed_items}
use Rattle.sheets.specs.Sheets.{Kept, none, kept, Sheets, kept_below, sheet_numbers, most, same_take, no_room, Shelved}
use Rattle.sheets.specs.Sheets.{shelved}
use Rattle.sheets.specs.declared.Shot.{Shot}
use Rattle.sheets.specs.declared.Shelved as code
use Rattle.sheets.specs.declared.Shelved.TheVariants as variant
use Rattle.sheets.specs.declared.slot.Slot.{Slot}

-- ---- the parts: how many bytes a slot has, where the slots begin, where the number of slots in use is stored, and how
-- many bytes there are
abbrev pub slot_width : ℕ
slot_width = 2 + 2 + framed_width binary64

abbrev pub slots : ℕ
slots = sheet_numbers * 2

abbrev pub tail : ℕ
tail = slots + most * slot_width

abbrev pub size : ℕ
size = tail + 2

-- ---- read
unfoldable pub used_of : List ℕ → ℕ
used_of m = word_at 2 m tail

-- the slot that the index names for the sheet n
unfoldable pub slot_of : List ℕ → ℕ → ℕ
slot_of m n = word_at 2 m (2 * n) % most

-- the bytes of the slot i
unfoldable pub slot_at : List ℕ → ℕ → List ℕ
slot_at m i = take slot_width (drop (slots + slot_width * i) m)

-- the shot in a slot's bytes
unfoldable pub shot_in : List ℕ → Shot
shot_in b = record { take = word_at 2 b 2; pose = framed_in binary64 (drop 4 b) }

-- whether the slot i is in use and holds the sheet n
unfoldable pub held_at : List ℕ → ℕ → ℕ → Bool
held_at m n i = ltb i (used_of m) && eqb (word_at 2 m (slots + slot_width * i)) n

unfoldable pub kept_of : List ℕ → ℕ → Kept
kept_of m n = cond (ltb n sheet_numbers && held_at m n (slot_of m n)) (kept (shot_in (slot_at m (slot_of m n)))) none

-- the count is that of the kept sheets, whatever the bytes are
unfoldable pub sheets_of : List ℕ → Sheets
sheets_of m = record { count = kept_below (kept_of m) sheet_numbers; at = kept_of m }

-- ---- the slots by their sheets: the sheet number in the slot i; whether that sheet owns the slot; and the first slot
-- from i on that no sheet owns, of the n slots left
unfoldable pub sheet_in : List ℕ → ℕ → ℕ
sheet_in m i = word_at 2 m (slots + slot_width * i)

unfoldable pub own_at : List ℕ → ℕ → Bool
own_at m i = let n = sheet_in m i in ltb n sheet_numbers && (ltb i (used_of m) && eqb (slot_of m n) i)

unfoldable pub free_from : List ℕ → ℕ → ℕ → ℕ
free_from m zero i = i
free_from m (suc n) i = cond (own_at m i) (free_from m n (i + 1)) i

-- the first of all slots that no sheet owns; `most` if each is owned
unfoldable pub free_slot : List ℕ → ℕ
free_slot m = free_from m most 0

-- the slot for a sheet that has none: the next, or if all are in use the first that no sheet owns
unfoldable pub next_slot : List ℕ → ℕ
next_slot m = cond (ltb (used_of m) most) (used_of m) (free_slot m)

unfoldable pub own_below : List ℕ → ℕ → ℕ
own_below m zero = 0
own_below m (suc i) = own_below m i + cond (own_at m i) 1 0

-- in any bytes as many sheets are kept as slots are owned, so never more than 512. Proved as `own_count` in
-- proofs/Own.antt.
abbrev pub OwnTheorem : Type 0
OwnTheorem = (m : List ℕ) → ((sheets_of m).count ≡ own_below m most) × ((sheets_of m).count ≤ most)

-- ---- written: a slot's bytes; the slot i, named for the sheet n, with the shot x in it; and so for the next slot u,
-- which is then in use
unfoldable pub slot_bytes : ℕ → Shot → List ℕ
slot_bytes n x = word_bytes 2 n ++ (word_bytes 2 x.take ++ items_bytes binary64 (framed_items x.pose))

unfoldable pub assign_of : List ℕ → ℕ → ℕ → Shot → List ℕ
assign_of m n i x = sets (sets m (2 * n) (word_bytes 2 i)) (slots + slot_width * i) (slot_bytes n x)

unfoldable pub add_of : List ℕ → ℕ → ℕ → Shot → List ℕ
add_of m n u x = sets (assign_of m n u x) tail (word_bytes 2 (u + 1))

-- ---- the reply that a result of the code means
abbrev pub shelved_of : code.Shelved → Shelved
shelved_of variant.New = record { how = 1; before = 0 }
shelved_of (variant.Replaced t) = record { how = 2; before = t }
shelved_of (variant.Older t) = record { how = 3; before = t }

-- the number of the slot found; `most` if there is none
abbrev pub slot_view : Option Slot → ℕ
slot_view (Some s) = s.number
slot_view None = most

-- where the slot i holds a shot of the sheet: the reply to another, and the bytes after it
unfoldable pub retake_answer : List ℕ → ℕ → Shot → Answer Shelved
retake_answer m i x =
    let t = word_at 2 m (slots + slot_width * i + 2) in
    cond (eqb x.take t) (refuses same_take) (cond (ltb t x.take) (shelved 2 t) (shelved 3 t))

unfoldable pub retake_bytes : List ℕ → ℕ → ℕ → Shot → List ℕ
retake_bytes m i n x =
    let t = word_at 2 m (slots + slot_width * i + 2) in
    cond (eqb x.take t) m (cond (ltb t x.take) (sets m (slots + slot_width * i) (slot_bytes n x)) m)

-- where the sheet has no slot: the reply to a shot, and the bytes after it
unfoldable pub add_answer : List ℕ → Answer Shelved
add_answer m = cond (ltb (next_slot m) most) (shelved 1 0) (refuses no_room)

unfoldable pub add_bytes : List ℕ → ℕ → Shot → List ℕ
add_bytes m n x =
    cond (ltb (used_of m) most) (add_of m n (used_of m) x)
    (cond (ltb (free_slot m) most) (assign_of m n (free_slot m) x) m)

-- ---- all bytes of the store after a call
-- a shot x of the sheet n: it goes into its sheet's slot if that holds a lower take; if its sheet has none, into the
-- next slot, or if all are in use into one that no sheet owns; else nothing is written
unfoldable pub put_bytes : List ℕ → ℕ → Shot → List ℕ
put_bytes m n x =
    cond (held_at m n (slot_of m n)) (retake_bytes m (slot_of m n) n x) (add_bytes m n x)

-- a fresh store: no slot is in use
unfoldable pub fresh_bytes : List ℕ → List ℕ
fresh_bytes m = sets m tail (word_bytes 2 0)
