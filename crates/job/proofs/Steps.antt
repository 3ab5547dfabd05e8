-- The record loop as the code runs it: the test of the limit, the result of `reply` for the next record, and the test
-- of the room for the end. Assumes nothing.
use Prim.Native.Nat.{ℕ, suc, ◌+◌, ◌-◌, ◌≤◌, ◌<◌}
use mathlib.Core.Path.{◌≡◌, refl, sym, ap, ◌∙◌}
use mathlib.Core.Bool.{Bool, true, false, cond}
use mathlib.Core.List.{List, [], ◌++◌}
use native.Mathlib.Omega.{arith}
use borrow.Author.Tests.{lt-ltb, le-ltb, ltb-true, ltb-false}
use lib.Dec.{ltb}
use lib.ListN.{length, take, drop, length-drop}
use lib.Seq.{sets, take_all, length-take-le}
use Rattle.record_result.specs.declared.Disposition.{Disposition}
use Rattle.record_result.specs.declared.Disposition.TheVariants.{Refused}
use Rattle.job.specs.declared.Counts.{Counts}
use Rattle.job.specs.declared.Fed.{Fed}
use Rattle.job.specs.declared.Reason.{Reason}
use Rattle.job.specs.declared.Reason.TheVariants.{More, Room, Full, End, Unknown, Cut}
use Rattle.job.specs.Counts.{counts_more}
use Rattle.record_result.specs.RecordResult.{longest, InputHead, ended, unknown, cut, record_result, written_of}
use Rattle.record_result.specs.RecordResult.{step_view}
use Rattle.job_state.specs.State.{State}
use Rattle.marks.specs.Marks.{head_of, next_of}
use Rattle.marks.specs.Rows.{row_count, row_at}
use Rattle.job.specs.Job.{Standing, standing, lost}
use Rattle.job.specs.Feed.{halt, records_of}
use Rattle.job.specs.Private.{stop_of, end_of, counts_lost, InRows}
use Rattle.wire.proofs.Lists.{one_of_two}
use Rattle.layout.proofs.Runs.{sets-part}
use Rattle.record_result.specs.declared.Step.{Step}
use Rattle.record_result.specs.declared.Step.TheVariants as step
use Rattle.record_result.proofs.Views.{view-took, told_room, view-ended, view-unknown, view-cut, stop_bytes}
use Rattle.marks.proofs.Heads.{taken, taking, still}
use Rattle.marks.proofs.Rows.{row-few}
use Rattle.job.proofs.Turns.{records_room, records_full, records_ended, records_unknown, records_cut}
use Rattle.job.proofs.Loop.{Going, Left, going_halt, going_took}

-- without room, the end for lack of room is the same with and without it
stop_room : (c : Counts) (used written room : ℕ) →
    stop_of Room c c used written room ≡ record { reason = Room; counts = c; used = used; written = written }
unfolding stop_of
stop_room c used written room = one_of_two (ltb room longest) _

-- a record that is lost has its place among the counts by mark
pub lost-few : (q : Step) (last : Bool) (p : ℕ) → p < row_count → InRows (end_of q last p).1
lost-few (step.Took how k n) last p few = tt
lost-few step.Room last p few = tt
lost-few step.End true p few = tt
lost-few step.End false p few = tt
lost-few step.Unknown last p few = few
lost-few step.Cut true p few = few
lost-few step.Cut false p few = tt

module _ {limit : ℕ} {input : List ℕ} {last : Bool} {j₀ : Standing} {out₀ : List ℕ} {j : Standing} {out : List ℕ}
    {at to : ℕ} (g : Going limit input last j₀ out₀ j out at to) where
  left_room : (f : Fed) → f ≡ record { reason = Room; counts = j.counts; used = at; written = to } →
      length out - to < longest → Left limit input last j₀ out₀ f out j.state
  left_room f view h =
      let len : length out ≡ length out₀ = g.kept in
      going_halt g Room j f view (records_room _ j _ last _ (omega arith))

  -- the loop ends by the test for room: if there is room, the reason r and the counts e are the definition's
  stopped :
      (r : Reason) (e : Standing) (f : Fed) → e.state ≡ j.state →
      f ≡ stop_of r j.counts e.counts at to (length out - to) →
      (longest ≤ length out₀ - to → records_of (limit - j.counts.totals.begun) j (drop at input) last (length out₀ - to)
      ≡ halt r e) → Left limit input last j₀ out₀ f out j.state
  unfolding stop_of
  stopped r e f stays view turn = by (ltb (length out - to) longest) refl
    where
      by : (t : Bool) → ltb (length out - to) longest ≡ t → Left limit input last j₀ out₀ f out j.state
      by true t = left_room f (view ∙ rw t) (ltb-true (length out - to) longest t)
      by false t =
          let len : length out ≡ length out₀ = g.kept in
          let room : longest ≤ length out - to = ltb-false (length out - to) longest t in
          rw (← stays) (going_halt g r e f (view ∙ rw t) (turn (omega arith)))

  pub left-full : (f : Fed) → f ≡ stop_of Full j.counts j.counts at to (length out - to) →
      j.counts.totals.begun ≡ limit → Left limit input last j₀ out₀ f out j.state
  left-full f view full =
      let z : limit - j.counts.totals.begun ≡ 0 = omega arith in
      stopped Full j f refl view (λ h. rw z (records_full j _ last _ h))

-- the limit is not reached, and the code has lent `reply` the input from `at` on and the output from `to` on: q is the
-- result, p the place among the marks, R that part of the output afterwards, and w the state
pub record Turn
    (limit : ℕ) (input : List ℕ) (last : Bool) (j₀ : Standing) (out₀ : List ℕ) (j : Standing) (out : List ℕ) (at to : ℕ)
    (q : Step) (p : ℕ) (R : List ℕ) (w : State) : Type 0 where
  pub going : Going limit input last j₀ out₀ j out at to
  pub few : j.counts.totals.begun ≡ limit → ⊥
  pub view : step_view q ≡ record_result (head_of j.state (take (length input - at) (drop at input)))
      (length (take (length out - to) (drop to out)))
  pub wrote :
      R ≡
      sets (take (length out - to) (drop to out)) 0 (written_of
      (head_of j.state (take (length input - at) (drop at input))) (length (take (length out - to) (drop to out))))
  pub place : p ≡ row_at (take (length input - at) (drop at input))
  pub left : w ≡ cond (ltb (length (take (length out - to) (drop to out))) longest) j.state
      (next_of j.state (take (length input - at) (drop at input)))

module _
    {limit : ℕ} {input : List ℕ} {last : Bool} {j₀ : Standing} {out₀ : List ℕ} {j : Standing} {out : List ℕ} {at to : ℕ}
    {q : Step} {p : ℕ} {R : List ℕ} {w : State}
    (t : Turn limit input last j₀ out₀ j out at to q p R w) where
  pub here : take (length input - at) (drop at input) ≡ drop at input
  here = take_all (length input - at) (drop at input) (simp length-drop (omega arith))

  -- the room from `to` on, and the output as a whole
  pub spare : length (take (length out - to) (drop to out)) ≡ length out - to
  spare = length-take-le (length out - to) (drop to out) (simp length-drop (omega arith))

  abbrev after_it : List ℕ
  after_it = take to out ++ (R ++ drop (length out - to) (drop to out))

  pub told_here : step_view q ≡ record_result (head_of j.state (drop at input)) (length out - to)
  told_here = rw (here, spare) at t.view

  stored : length (written_of (head_of j.state (drop at input)) (length out - to)) ≤ length out - to →
      after_it ≡ sets out to (written_of (head_of j.state (drop at input)) (length out - to))
  stored h =
      let room : to ≤ length out = t.going.room in
      let b = written_of (head_of j.state (drop at input)) (length out - to) in
      rw (rw (here, spare) at t.wrote) (sets-part out b to (length out - to) (omega arith) h)

  quiet : written_of (head_of j.state (drop at input)) (length out - to) ≡ [] → after_it ≡ out
  quiet e =
      let h : length (written_of (head_of j.state (drop at input)) (length out - to)) ≤ length out - to =
      rw e (omega arith) in stored h ∙ ap (sets out to) e

  -- the place among the marks
  place_here : p ≡ row_at (drop at input)
  place_here = rw here at t.place

  pub place-few : p < row_count
  place-few = rw place_here (row-few (drop at input))

  lost_here : counts_more Refused p j.counts ≡ (lost (drop at input) j).counts
  lost_here = ap (λ (x : ℕ). counts_more Refused x j.counts) place_here

  -- the state after a record, and where none is taken
  left_here : w ≡ cond (ltb (length out - to) longest) j.state (next_of j.state (drop at input))
  left_here = rw (here, spare) at t.left

  went : longest ≤ length out - to → next_of j.state (drop at input) ≡ w
  went h = sym (left_here ∙ rw (le-ltb (length out - to) longest h))

  stayed : (f : InputHead) → head_of j.state (drop at input) ≡ f → taking f ≡ false → w ≡ j.state
  stayed f e n = left_here ∙ rw (still j.state (drop at input) f e n) (by (ltb (length out - to) longest))
    where
      by : (u : Bool) → cond u j.state j.state ≡ j.state
      by true = refl
      by false = refl

  -- another turn
  pub round : (how : Disposition) (k n : ℕ) → q ≡ step.Took how k n →
      Going limit input last j₀ out₀ (standing (counts_more how (row_at (drop at input)) j.counts) w) after_it (at + k)
      (to + n)
  round how k n e =
      let b = written_of (head_of j.state (drop at input)) (length out - to) in
      let f = view-took (head_of j.state (drop at input)) (length out - to) how k n (sym told_here ∙ ap step_view e) in
      let short : length b ≤ longest = (taken j.state (drop at input) how k b f.found).short in
      let roomy : longest ≤ length out - to = f.roomy in
      rw (stored (omega arith), ← f.long, ← (went roomy)) (going_took t.going how k b f.roomy t.few f.found)

  pub round-to : (how : Disposition) (k n : ℕ) → q ≡ step.Took how k n → (d : Counts) → d ≡ counts_more how p j.counts →
      Going limit input last j₀ out₀ (standing d w) after_it (at + k) (to + n)
  round-to how k n e d is = rw (is ∙ ap (λ (x : ℕ). counts_more how x j.counts) place_here) (round how k n e)

  -- ---- the loop ends: nothing was written
  quiet_room : q ≡ step.Room → after_it ≡ out
  quiet_room e =
      quiet (told_room (head_of j.state (drop at input)) (length out - to) (sym told_here ∙ ap step_view e)).1

  stays_room : q ≡ step.Room → w ≡ j.state
  stays_room e =
      left_here ∙ rw (lt-ltb (length out - to) longest (told_room (head_of j.state (drop at input)) (length out - to)
      (sym told_here ∙ ap step_view e)).0)

  pub found-ended : q ≡ step.End → head_of j.state (drop at input) ≡ ended
  found-ended e = view-ended (head_of j.state (drop at input)) (length out - to) (sym told_here ∙ ap step_view e)

  pub found-unknown : q ≡ step.Unknown → head_of j.state (drop at input) ≡ unknown
  found-unknown e = view-unknown (head_of j.state (drop at input)) (length out - to) (sym told_here ∙ ap step_view e)

  pub found-cut : q ≡ step.Cut → head_of j.state (drop at input) ≡ cut
  found-cut e = view-cut (head_of j.state (drop at input)) (length out - to) (sym told_here ∙ ap step_view e)

  quiet_end : q ≡ step.End → after_it ≡ out
  quiet_end e = quiet ((stop_bytes (head_of j.state (drop at input)) (length out - to)).0 (found-ended e))

  quiet-unknown : q ≡ step.Unknown → after_it ≡ out
  quiet-unknown e = quiet ((stop_bytes (head_of j.state (drop at input)) (length out - to)).1 (found-unknown e))

  quiet-cut : q ≡ step.Cut → after_it ≡ out
  quiet-cut e = quiet ((stop_bytes (head_of j.state (drop at input)) (length out - to)).2 (found-cut e))

  -- there was no room for the answer
  left-roomless : q ≡ step.Room → (f : Fed) → f ≡ record {
    reason = Room;
    counts = j.counts;
    used = at;
    written =
        to;
  } → Left limit input last j₀ out₀ f after_it w
  left-roomless e f is =
      rw (quiet_room e, stays_room e) (left_room t.going f is
      (told_room (head_of j.state (drop at input)) (length out - to) (sym told_here ∙ ap step_view e)).0)

  -- by the test for room
  stop :
      after_it ≡ out → w ≡ j.state → (r : Reason) (e : Standing) (f : Fed) → e.state ≡ j.state →
      f ≡ stop_of r j.counts e.counts at to (length after_it - to) →
      ((n : ℕ) → longest ≤ length out₀ - to → records_of (suc n) j (drop at input) last (length out₀ - to) ≡ halt r e) →
      Left limit input last j₀ out₀ f after_it w
  stop same stay r e f stays is turn =
      let begun : j.counts.totals.begun ≤ limit = t.going.sound.few in
      let few : j.counts.totals.begun ≡ limit → ⊥ = t.few in
      let one_less : limit - j.counts.totals.begun ≡ suc (limit - (j.counts.totals.begun + 1)) = omega arith in
      rw (same, stay) (stopped t.going r e f stays (rw same at is)
      (λ h. rw one_less (turn (limit - (j.counts.totals.begun + 1)) h)))

  left_end : q ≡ step.End → last ≡ true → (f : Fed) → f ≡ stop_of End j.counts j.counts at to
      (length after_it - to) → Left limit input last j₀ out₀ f after_it w
  left_end e l f is =
      stop (quiet_end e) (stayed ended (found-ended e) refl) End j f refl is
      (λ n r. records_ended n j _ last _ r (found-ended e) ∙ rw l)

  left_pause : q ≡ step.End → last ≡ false → (f : Fed) →
      f ≡ stop_of More j.counts j.counts at to (length after_it - to) → Left limit input last j₀ out₀ f after_it w
  left_pause e l f is =
      stop (quiet_end e) (stayed ended (found-ended e) refl) More j f refl is
      (λ n r. records_ended n j _ last _ r (found-ended e) ∙ rw l)

  left-unknown : q ≡ step.Unknown → (f : Fed) → f ≡ stop_of Unknown j.counts (counts_more Refused p j.counts) at to
      (length after_it - to) → Left limit input last j₀ out₀ f after_it w
  left-unknown e f is =
      stop (quiet-unknown e) (stayed unknown (found-unknown e) refl) Unknown (lost (drop at input) j) f refl
      (rw lost_here at is) (λ n r. records_unknown n j _ last _ r (found-unknown e))

  left_cut : q ≡ step.Cut → last ≡ true → (f : Fed) → f ≡ stop_of Cut j.counts
      (counts_more Refused p j.counts) at to (length after_it - to) → Left limit input last j₀ out₀ f after_it w
  left_cut e l f is =
      stop (quiet-cut e) (stayed cut (found-cut e) refl) Cut (lost (drop at input) j) f refl (rw lost_here at is)
      (λ n r. records_cut n j _ last _ r (found-cut e) ∙ rw l)

  left-part : q ≡ step.Cut → last ≡ false → (f : Fed) → f
      ≡ stop_of More j.counts j.counts at to (length after_it - to) → Left limit input last j₀ out₀ f after_it w
  left-part e l f is =
      stop (quiet-cut e) (stayed cut (found-cut e) refl) More j f refl is
      (λ n r. records_cut n j _ last _ r (found-cut e) ∙ rw l)

  -- by the step that takes nothing
  pub left_at :
      (v : Step) → q ≡ v → ((how : Disposition) (k n : ℕ) → q ≡ step.Took how k n → ⊥) → (f : Fed) →
      f ≡ stop_of (end_of v last p).0 j.counts (counts_lost (end_of v last p).1 j.counts) at to (length after_it - to) →
      Left limit input last j₀ out₀ f after_it w
  left_at (step.Took how k n) e none f is = absurd (none how k n e)
  left_at step.Room e none f is = left-roomless e f (is ∙ stop_room j.counts at to (length after_it - to))
  left_at step.Unknown e none f is = left-unknown e f is
  left_at step.End e none f is = by last refl
    where
      by : (l : Bool) → last ≡ l → Left limit input last j₀ out₀ f after_it w
      by true l = left_end e l f (rw l at is)
      by false l = left_pause e l f (rw l at is)
  left_at step.Cut e none f is = by last refl
    where
      by : (l : Bool) → last ≡ l → Left limit input last j₀ out₀ f after_it w
      by true l = left_cut e l f (rw l at is)
      by false l = left-part e l f (rw l at is)
