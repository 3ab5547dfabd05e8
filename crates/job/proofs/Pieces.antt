-- One call: the loop's result fits the input and the output, and with the end written after it the call is `feed_of`.
-- Assumes nothing.
use Prim.Native.Nat.{ℕ, suc, ◌+◌, ◌-◌, ◌≤◌}
use mathlib.Core.Path.{◌≡◌, refl, sym, ap, ◌∙◌}
use mathlib.Core.Bool.{Bool, true, false, cond}
use mathlib.Core.List.{List, ◌++◌}
use native.Mathlib.Nat.{zero-add}
use native.Mathlib.Omega.{arith}
use borrow.Author.Tests.{leb-true, eqb-true, le-leb, eq-eqb}
use lib.ListN.{length, drop, length-append, length-drop}
use lib.Seq.{sets, length-sets}
use lib.Dec.{leb, eqb}
use Rattle.std.proofs.lemmas.Bool.{false≢true, and_parts}
use Rattle.layout.proofs.Runs.{sets_front, sets_split}
use Rattle.record_result.specs.declared.Disposition.TheVariants.{Refused}
use Rattle.record_result.specs.RecordResult.{longest, unknown_mark, InputHead}
use Rattle.job.specs.declared.Counts.{Counts}
use Rattle.job.specs.declared.Fed.{Fed}
use Rattle.job.specs.declared.Reason.{Reason}
use Rattle.job.specs.declared.Reason.TheVariants.{More, Room, Bad, Full, End, Unknown, Cut}
use Rattle.job.specs.Counts.{total, counts_sound}
use Rattle.job_state.specs.State.{State}
use Rattle.job_state.specs.declared.JobState.{JobState}
use Rattle.marks.specs.Rows.{row_count, row_at}
use Rattle.job.specs.Job.{Standing, job_limit}
use Rattle.job.specs.Feed.{Part, halt, closed, closing, is_over, records_of, kept_records, feed_of, fed_kept}
use Rattle.job.specs.Feed.{ReasonView}
use Rattle.job.specs.Feed.{wants_bytes, wants_room, unsound, at_limit, at_end, refused}
use Rattle.job.specs.Feed.{reason_view, FedView, fed_view, part_view}
use Rattle.job.specs.Private.{Sound, part_fed}
use Rattle.marks.proofs.Heads.{taken}
use Rattle.job.proofs.Turns.{Stops, at_end_lem, at_pause, at-unknown, at_cut, at_part, records_by, counted_begun}
use Rattle.job.proofs.Loop.{counted_sound}
use Rattle.job.proofs.Ending.{closing_fits}

-- ---- the loop's result fits, and where it ends the job it leaves room for the end
record Fits (xs : List ℕ) (room : ℕ) (p : Part) : Type 0 where
  uses : p.used ≤ length xs
  within : length p.bytes ≤ room
  spare : is_over p.reason ≡ true → length p.bytes + longest ≤ room

records_fit : (n : ℕ) (j : Standing) (xs : List ℕ) (last : Bool) (room : ℕ) → Fits xs room (records_of n j xs last room)
records_fit n j xs last room =
    records_by last (λ n j xs room p. Fits xs room p)
    (λ n j xs room h. record { uses = omega arith; within = omega arith; spare = λ u. absurd (false≢true u) })
    (λ j xs room h. record { uses = omega arith; within = omega arith; spare = λ u. omega arith })
    (λ n j xs room h f r e q s. record { uses = omega arith; within = omega arith; spare = λ u. omega arith })
    (λ n j xs room h how k b q p i.
    let t = taken j.state xs how k b q in
    let whole : k ≤ length xs = t.whole in
    let short : length b ≤ longest = t.short in
    let u : p.used ≤ length xs - k = simp length-drop at i.uses in
    record {
      uses = omega arith;
      within = simp length-append (omega (arith, i.within));
      spare =
          λ u. simp length-append (omega (arith, i.spare u));
    })
    n j xs room

-- ---- the counts stay sound
module _ (limit : ℕ) (last : Bool) where
  abbrev Keeps : ℕ → Standing → List ℕ → ℕ → Part → Type 0
  Keeps n j xs room p = Sound limit j.counts → limit - j.counts.totals.begun ≡ n → Sound limit p.standing.counts

  stop_sound :
      (n : ℕ) (j : Standing) (xs : List ℕ) (f : InputHead) (r : Reason) (e : Standing) → Stops last j xs f r e →
      Sound limit j.counts → limit - j.counts.totals.begun ≡ suc n →
      Sound limit e.counts
  stop_sound n j xs f r e (at_end_lem l) s i = s
  stop_sound n j xs f r e (at_pause l) s i = s
  stop_sound n j xs f r e at-unknown s i = counted_sound Refused limit xs j.counts s (λ x. omega arith)
  stop_sound n j xs f r e (at_cut l) s i = counted_sound Refused limit xs j.counts s (λ x. omega arith)
  stop_sound n j xs f r e (at_part l) s i = s

  pub records_sound : (j : Standing) (xs : List ℕ) (room : ℕ) → Sound limit j.counts →
      Sound limit (records_of (limit - j.counts.totals.begun) j xs last room).standing.counts
  records_sound j xs room s =
      records_by last Keeps
      (λ n j xs room h s i. s)
      (λ j xs room h s i. s)
      (λ n j xs room h f r e q t s i. stop_sound n j xs f r e t s i)
      (λ n j xs room h how k b q p ih s i. ih (counted_sound how limit xs j.counts s (λ x. omega arith))
      (rw (counted_begun how (row_at xs) j.counts) (omega arith)))
      (limit - j.counts.totals.begun) j xs room s refl

-- ---- the counts that the caller passes
pub sound_is : (limit : ℕ) (c : Counts) → counts_sound limit c ≡ true → Sound limit c
unfolding counts_sound
sound_is limit c e =
    let x = and_parts (leb c.totals.begun limit) _ e in
    let y = and_parts (leb c.totals.answered c.totals.begun) _ x.1 in
    let z = and_parts (leb c.totals.refused (c.totals.begun - c.totals.answered)) _ y.1 in
    let w = and_parts (eqb c.totals.unusable (c.totals.begun - c.totals.answered - c.totals.refused)) _ z.1 in
    let v = and_parts (eqb (length c.by_mark) row_count) _ w.1 in
    let a : c.totals.answered ≤ c.totals.begun = leb-true _ _ y.0 in
    let b : c.totals.refused ≤ c.totals.begun - c.totals.answered = leb-true _ _ z.0 in
    let u : c.totals.unusable ≡ c.totals.begun - c.totals.answered - c.totals.refused = eqb-true _ _ w.0 in
    record {
      few = leb-true _ _ x.0;
      sum = omega arith;
      each = (eqb-true _ _ v.0, eqb-true _ _ v.1);
    }

pub is_sound : (limit : ℕ) (c : Counts) → Sound limit c → counts_sound limit c ≡ true
unfolding counts_sound
is_sound limit c s =
    let f : c.totals.begun ≤ limit = s.few in
    let e : c.totals.answered + c.totals.refused + c.totals.unusable ≡ c.totals.begun = s.sum in
    rw (
      le-leb c.totals.begun limit f,
      le-leb c.totals.answered c.totals.begun (omega arith),
      le-leb c.totals.refused (c.totals.begun - c.totals.answered) (omega arith),
      eq-eqb c.totals.unusable (c.totals.begun - c.totals.answered - c.totals.refused) (omega arith),
      eq-eqb (length c.by_mark) row_count s.each.0,
      eq-eqb (total c.by_mark) c.totals.begun s.each.1,
    )

pub feed_bad : (limit : ℕ) (j : Standing) (xs : List ℕ) (last : Bool) (room : ℕ) →
    counts_sound limit j.counts ≡ false → feed_of limit j xs last room ≡ halt Bad j
unfolding feed_of
feed_bad limit j xs last room e = rw e

pub feed_good :
    (limit : ℕ) (j : Standing) (xs : List ℕ) (last : Bool) (room : ℕ) →
    counts_sound limit j.counts ≡ true →
    feed_of limit j xs last room ≡ closed (records_of (limit - j.counts.totals.begun) j xs last room)
unfolding feed_of
feed_good limit j xs last room e = rw e

-- ---- the view of a result determines it: the reason can be read back
reason_of : ReasonView → Reason
reason_of wants_bytes = More
reason_of wants_room = Room
reason_of unsound = Bad
reason_of at_limit = Full
reason_of at_end = End
reason_of (refused k) = cond (eqb k unknown_mark) Unknown Cut

reason_back : (r : Reason) → reason_of (reason_view r) ≡ r
unfolding reason_of
reason_back More = refl
reason_back Room = refl
reason_back Bad = refl
reason_back Full = refl
reason_back End = refl
reason_back Unknown = refl
reason_back Cut = refl

pub view_back : (f : Fed) (p : Part) → fed_view f ≡ part_view p → f ≡ part_fed p
view_back f p e = λ i. record {
  reason = (sym (reason_back f.reason) ∙ ap (λ (t : FedView). reason_of t.reason) e ∙ reason_back p.reason) i;
  counts = (e i).counts;
  used = (e i).used;
  written = (e i).written;
}

-- the state that the code keeps: unsound and sound counts
module _ (c : Counts) (m : JobState) (xs : List ℕ) (room : ℕ) where
  pub kept_bad : counts_sound job_limit c ≡ false → fed_kept c m xs room ≡ m
  unfolding fed_kept
  kept_bad e = rw e

  pub kept_good : counts_sound job_limit c ≡ true →
      fed_kept c m xs room ≡ kept_records (job_limit - c.totals.begun) m xs room
  unfolding fed_kept
  kept_good e = rw e

-- ---- the counts are sound, and the loop has returned l and left the output out₁ and the state w
pub record Looped (limit : ℕ) (j : Standing) (xs : List ℕ) (last : Bool) (out : List ℕ) (l : Fed)
    (out₁ : List ℕ) (w : State) : Type 0 where
  pub good : counts_sound limit j.counts ≡ true
  pub view : l ≡ part_fed (records_of (limit - j.counts.totals.begun) j xs last (length out))
  pub wrote : out₁ ≡ sets out 0 (records_of (limit - j.counts.totals.begun) j xs last (length out)).bytes
  pub left : w ≡ (records_of (limit - j.counts.totals.begun) j xs last (length out)).standing.state

module _ {limit : ℕ} {j : Standing} {xs : List ℕ} {last : Bool} {out : List ℕ} {l : Fed} {out₁ : List ℕ}
    {w : State} (k : Looped limit j xs last out l out₁ w) where
  pub feed_room : is_over l.reason ≡ true → l.written + longest ≤ length out₁
  feed_room u =
      rw (k.view, k.wrote, length-sets) ((records_fit (limit - j.counts.totals.begun) j xs last (length out)).spare
      (rw k.view at u))

  pub feed_uses : l.used ≤ length xs
  feed_uses = rw k.view (records_fit (limit - j.counts.totals.begun) j xs last (length out)).uses

  pub feed_within : l.written + length (closing l.reason l.counts) ≤ length out
  feed_within =
      let f = records_fit (limit - j.counts.totals.begun) j xs last (length out) in
      let P = records_of (limit - j.counts.totals.begun) j xs last (length out) in
      let s = records_sound limit last j xs (length out) (sound_is limit j.counts k.good) in
      rw k.view (closing_fits P.reason P.standing.counts _ _ s.each.0 f.within f.spare)

  pub feed_view :
      (n : ℕ) → n ≡ length (closing l.reason l.counts) →
      record { reason = l.reason; counts = l.counts; used = l.used; written = l.written + n } ≡
      part_fed (feed_of limit j xs last (length out))
  feed_view n e = rw (e, k.view, feed_good limit j xs last (length out) k.good, length-append)

  -- as the caller reads it
  pub feed_viewed :
      (n : ℕ) → n ≡ length (closing l.reason l.counts) →
      fed_view (record { reason = l.reason; counts = l.counts; used = l.used; written = l.written + n }) ≡
      part_view (feed_of limit j xs last (length out))
  feed_viewed n e = ap fed_view (feed_view n e)

  pub feed_wrote :
      (n : ℕ) (out₂ : List ℕ) → n ≡ length (closing l.reason l.counts) →
      out₂ ≡ sets out₁ l.written (closing l.reason l.counts) →
      out₂ ≡ (feed_of limit j xs last (length out)).bytes ++ drop (l.written + n) out
  feed_wrote n out₂ e v =
      let P = records_of (limit - j.counts.totals.begun) j xs last (length out) in
      let B = closing P.reason P.standing.counts in
      let h : length (P.bytes ++ B) ≤ length out = simp length-append (rw k.view at feed_within) in
      v
      ∙ rw (e, k.view, k.wrote, feed_good limit j xs last (length out) k.good)
      (ap (λ (i : ℕ). sets (sets out 0 P.bytes) i B) (sym (zero-add (length P.bytes)))
      ∙ sym (sets_split P.bytes B out 0)
      ∙ sets_front (P.bytes ++ B) out h
      ∙ ap (λ (i : ℕ). P.bytes ++ B ++ drop i out) (length-append P.bytes B))

  pub feed_left : w ≡ (feed_of limit j xs last (length out)).standing.state
  feed_left = rw (feed_good limit j xs last (length out) k.good) k.left
