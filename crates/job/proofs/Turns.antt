-- The record loop's definition, turn by turn: out of room, at the limit, after a record, and at each stop. Assumes
-- nothing.
use Prim.Native.Nat.{ℕ, zero, suc, ◌+◌, ◌-◌, ◌≤◌, ◌<◌}
use mathlib.Core.Path.{◌≡◌, refl}
use mathlib.Core.Bool.{Bool, true, false, cond}
use mathlib.Core.List.{List, ◌++◌, append_assoc}
use native.Mathlib.Nat.{add_assoc}
use borrow.Author.Tests.{lt-ltb, le-ltb, ltb-true, ltb-false}
use lib.ListN.{length, drop}
use lib.Dec.{ltb}
use Rattle.record_result.specs.declared.Disposition.{Disposition}
use Rattle.record_result.specs.declared.Disposition.TheVariants.{Answered, Refused, Unusable}
use Rattle.job.specs.declared.Counts.{Counts}
use Rattle.job.specs.declared.Reason.{Reason}
use Rattle.job.specs.declared.Reason.TheVariants.{More, Room, Full, End, Unknown, Cut}
use Rattle.job.specs.Counts.{counts_more, totals_more}
use Rattle.record_result.specs.RecordResult.{longest, InputHead, took, ended, unknown, cut}
use Rattle.marks.specs.Marks.{head_of}
use Rattle.job.specs.Job.{Standing, moved, lost}
use Rattle.job.specs.Feed.{Part, halt, after, part_on, records_of}

pub records_room : (n : ℕ) (j : Standing) (xs : List ℕ) (last : Bool) (room : ℕ) → room < longest →
    records_of n j xs last room ≡ halt Room j
unfolding records_of
records_room zero j xs last room h = rw (lt-ltb room longest h)
records_room (suc n) j xs last room h = rw (lt-ltb room longest h)

pub records_full : (j : Standing) (xs : List ℕ) (last : Bool) (room : ℕ) → longest ≤ room →
    records_of 0 j xs last room ≡ halt Full j
unfolding records_of
records_full j xs last room h = rw (le-ltb room longest h)

-- a turn with room for the longest answer, and another record to begin
module _ (n : ℕ) (j : Standing) (xs : List ℕ) (last : Bool) (room : ℕ) (h : longest ≤ room) where
  pub records_took :
      (how : Disposition) (k : ℕ) (b : List ℕ) → head_of j.state xs ≡ took how k b →
      records_of (suc n) j xs last room ≡ after k b (records_of n (moved how xs j) (drop k xs) last (room - length b))
  unfolding records_of part_on
  records_took how k b e = rw (le-ltb room longest h, e)

  pub records_ended : head_of j.state xs ≡ ended → records_of (suc n) j xs last room
      ≡ cond last (halt End j) (halt More j)
  unfolding records_of part_on
  records_ended e = rw (le-ltb room longest h, e)

  pub records_unknown : head_of j.state xs ≡ unknown → records_of (suc n) j xs last room ≡ halt Unknown (lost xs j)
  unfolding records_of part_on
  records_unknown e = rw (le-ltb room longest h, e)

  pub records_cut : head_of j.state xs ≡ cut → records_of (suc n) j xs last room
      ≡ cond last (halt Cut (lost xs j)) (halt More j)
  unfolding records_of part_on
  records_cut e = rw (le-ltb room longest h, e)

pub after-after : (a k : ℕ) (x y : List ℕ) (p : Part) → after a x (after k y p) ≡ after (a + k) (x ++ y) p
after-after a k x y p = rw (← (add_assoc a k p.used), ← (append_assoc x y p.bytes))

pub counted_begun : (how : Disposition) (r : ℕ) (c : Counts) → (counts_more how r c).totals.begun ≡ c.totals.begun + 1
unfolding counts_more totals_more
counted_begun Answered r c = refl
counted_begun Refused r c = refl
counted_begun Unusable r c = refl

-- ---- induction over the loop's turns

-- what the loop returns at each stop
pub data Stops (last : Bool) (j : Standing) (xs : List ℕ) : InputHead → Reason → Standing → Type 0 where
  at_end_lem : last ≡ true → Stops last j xs ended End j
  at_pause : last ≡ false → Stops last j xs ended More j
  at-unknown : Stops last j xs unknown Unknown (lost xs j)
  at_cut : last ≡ true → Stops last j xs cut Cut (lost xs j)
  at_part : last ≡ false → Stops last j xs cut More j

-- P n j xs room p, of the loop's result p where n more records may begin, always holds if it holds without room, at the
-- limit and at each stop, and a record preserves it
module _
    (last : Bool) (P : ℕ → Standing → List ℕ → ℕ → Part → Type 0)
    (roomless : (n : ℕ) (j : Standing) (xs : List ℕ) (room : ℕ) → room < longest → P n j xs room (halt Room j))
    (full : (j : Standing) (xs : List ℕ) (room : ℕ) → longest ≤ room → P 0 j xs room (halt Full j))
    (stop :
    (n : ℕ) (j : Standing) (xs : List ℕ) (room : ℕ) → longest ≤ room →
    (f : InputHead) (r : Reason) (e : Standing) → head_of j.state xs ≡ f → Stops last j xs f r e →
    P (suc n) j xs room (halt r e))
    (more :
    (n : ℕ) (j : Standing) (xs : List ℕ) (room : ℕ) → longest ≤ room → (how : Disposition) (k : ℕ) (b : List ℕ) →
    head_of j.state xs ≡ took how k b →
    (p : Part) → P n (moved how xs j) (drop k xs) (room - length b) p → P (suc n) j xs room (after k b p)) where
  zero_by : (j : Standing) (xs : List ℕ) (room : ℕ) (t : Bool) → ltb room longest ≡ t →
      P 0 j xs room (records_of 0 j xs last room)
  zero_by j xs room true t =
      let h = ltb-true room longest t in rw (records_room 0 j xs last room h) (roomless 0 j xs room h)
  zero_by j xs room false t = let h = ltb-false room longest t in rw (records_full j xs last room h) (full j xs room h)

  ended_by :
      (n : ℕ) (j : Standing) (xs : List ℕ) (room : ℕ) → longest ≤ room → head_of j.state xs ≡ ended → (l : Bool) →
      last ≡ l →
      P (suc n) j xs room (cond last (halt End j) (halt More j))
  ended_by n j xs room h q true l = rw l (stop n j xs room h ended End j q (at_end_lem l))
  ended_by n j xs room h q false l = rw l (stop n j xs room h ended More j q (at_pause l))

  cut_by :
      (n : ℕ) (j : Standing) (xs : List ℕ) (room : ℕ) → longest ≤ room → head_of j.state xs ≡ cut → (l : Bool) →
      last ≡ l →
      P (suc n) j xs room (cond last (halt Cut (lost xs j)) (halt More j))
  cut_by n j xs room h q true l = rw l (stop n j xs room h cut Cut (lost xs j) q (at_cut l))
  cut_by n j xs room h q false l = rw l (stop n j xs room h cut More j q (at_part l))

  suc_by :
      (n : ℕ) (j : Standing) (xs : List ℕ) (room : ℕ) (t : Bool) → ltb room longest ≡ t → (f : InputHead) →
      head_of j.state xs ≡ f →
      ((j : Standing) (xs : List ℕ) (room : ℕ) → P n j xs room (records_of n j xs last room)) →
      P (suc n) j xs room (records_of (suc n) j xs last room)
  suc_by n j xs room true t f q ih =
      let h = ltb-true room longest t in rw (records_room (suc n) j xs last room h) (roomless (suc n) j xs room h)
  suc_by n j xs room false t (took how k b) q ih =
      let h = ltb-false room longest t in
      rw (records_took n j xs last room h how k b q) (more n j xs room h how k b q _
      (ih (moved how xs j) (drop k xs) (room - length b)))
  suc_by n j xs room false t ended q ih =
      let h = ltb-false room longest t in rw (records_ended n j xs last room h q) (ended_by n j xs room h q last refl)
  suc_by n j xs room false t unknown q ih =
      let h = ltb-false room longest t in
      rw (records_unknown n j xs last room h q) (stop n j xs room h unknown Unknown (lost xs j) q at-unknown)
  suc_by n j xs room false t cut q ih =
      let h = ltb-false room longest t in rw (records_cut n j xs last room h q) (cut_by n j xs room h q last refl)

  pub records_by : (n : ℕ) (j : Standing) (xs : List ℕ) (room : ℕ) → P n j xs room (records_of n j xs last room)
  records_by zero j xs room = zero_by j xs room (ltb room longest) refl
  records_by (suc n) j xs room = suc_by n j xs room (ltb room longest) refl (head_of j.state xs) refl
      (λ j xs room. records_by n j xs room)
