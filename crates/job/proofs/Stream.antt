-- The stream theorem: a call writes the beginning of what the job writes for the bytes at hand and all that follow, and
-- leaves a standing and input from which the job continues. Assumes nothing.
use Prim.Native.Nat.{ℕ, suc, ◌-◌, ◌≤◌, ◌<◌}
use mathlib.Core.Path.{◌≡◌, refl, sym, ap, ◌∙◌}
use mathlib.Core.Bool.{Bool, true, cond}
use mathlib.Core.List.{List, [], ◌++◌, append-nil, append_assoc}
use native.Mathlib.Omega.{arith}
use lib.ListN.{length, drop}
use lib.Seq.{drop-append-le, drop-drop}
use Rattle.record_result.specs.declared.Disposition.{Disposition}
use Rattle.record_result.specs.declared.Disposition.TheVariants.{Refused}
use Rattle.job.specs.declared.Reason.{Reason}
use Rattle.job.specs.declared.Reason.TheVariants.{Room, Full, End, Unknown, Cut, More}
use Rattle.job.specs.Counts.{counts_more, counts_sound}
use Rattle.record_result.specs.RecordResult.{longest, InputHead, took, ended, unknown, cut}
use Rattle.marks.specs.Marks.{head_of, next_of}
use Rattle.job_state.specs.State.{State}
use Rattle.marks.specs.Rows.{row_at}
use Rattle.job.specs.Job.{Standing, standing, moved, lost, job_on, job_from}
use Rattle.job.specs.Feed.{goes_on, Part, halt, after, closing, closing_of, records_of, feed_of}
use Rattle.job.specs.Run.{job_with}
use Rattle.marks.proofs.Heads.{taken, found_more, next_more}
use Rattle.marks.proofs.Rows.{row_more}
use Rattle.job.proofs.Turns.{Stops, at_end_lem, at_pause, at-unknown, at_cut, at_part, records_by, counted_begun}
use Rattle.job.proofs.Pieces.{feed_good}

-- ---- the job at a record and at each stop
job_took : (n : ℕ) (j : Standing) (xs : List ℕ) (how : Disposition) (k : ℕ) (b : List ℕ) →
    head_of j.state xs ≡ took how k b → job_from (suc n) j xs ≡ b ++ job_from n (moved how xs j) (drop k xs)
unfolding job_from job_on
job_took n j xs how k b e = rw e

job_ended : (n : ℕ) (j : Standing) (xs : List ℕ) → head_of j.state xs ≡ ended →
    job_from (suc n) j xs ≡ closing End j.counts
unfolding job_from job_on closing_of
job_ended n j xs e = rw e

job_unknown : (n : ℕ) (j : Standing) (xs : List ℕ) → head_of j.state xs ≡ unknown →
    job_from (suc n) j xs ≡ closing Unknown (lost xs j).counts
unfolding job_from job_on closing_of
job_unknown n j xs e = rw e

job_cut : (n : ℕ) (j : Standing) (xs : List ℕ) → head_of j.state xs ≡ cut →
    job_from (suc n) j xs ≡ closing Cut (lost xs j).counts
unfolding job_from job_on closing_of
job_cut n j xs e = rw e

-- ---- one part, and the rest
module _ (limit : ℕ) (ys : List ℕ) (last : Bool) (alone : last ≡ true → ys ≡ []) where
  -- the output from a part p of xs on, when ys follows xs
  abbrev onward : Part → List ℕ → List ℕ
  onward p xs =
      p.bytes ++ (closing p.reason p.standing.counts ++ cond (goes_on p.reason)
      (job_with limit p.standing (drop p.used xs ++ ys)) [])

  abbrev Onward : ℕ → Standing → List ℕ → ℕ → Part → Type 0
  Onward n j xs room p = limit - j.counts.totals.begun ≡ n → job_from n j (xs ++ ys) ≡ onward p xs

  at_room : (n : ℕ) (j : Standing) (xs : List ℕ) (room : ℕ) → room < longest → Onward n j xs room (halt Room j)
  unfolding closing_of
  at_room n j xs room h e = rw e

  at-full : (j : Standing) (xs : List ℕ) (room : ℕ) → longest ≤ room → Onward 0 j xs room (halt Full j)
  unfolding closing_of job_from
  at-full j xs room h e = sym (append-nil _)

  waits : (n : ℕ) (j : Standing) (xs : List ℕ) → limit - j.counts.totals.begun ≡ n →
      job_from n j (xs ++ ys) ≡ onward (halt More j) xs
  unfolding closing_of
  waits n j xs i = rw i

  at_stop :
      (n : ℕ) (j : Standing) (xs : List ℕ) (room : ℕ) → longest ≤ room → (f : InputHead) (r : Reason) (e : Standing) →
      head_of j.state xs ≡ f →
      Stops last j xs f r e → Onward (suc n) j xs room (halt r e)
  at_stop n j xs room h f r e q (at_end_lem l) i = rw (alone l, append-nil xs) (job_ended n j xs q ∙ sym (append-nil _))
  at_stop n j xs room h f r e q (at_pause l) i = waits (suc n) j xs i
  at_stop n j xs room h f r e q at-unknown i =
      job_unknown n j (xs ++ ys) (found_more j.state xs ys unknown q refl)
      ∙ ap (λ (p : ℕ). closing Unknown (counts_more Refused p j.counts)) (row_more j.state xs ys unknown q refl)
      ∙ sym (append-nil _)
  at_stop n j xs room h f r e q (at_cut l) i = rw (alone l, append-nil xs) (job_cut n j xs q ∙ sym (append-nil _))
  at_stop n j xs room h f r e q (at_part l) i = waits (suc n) j xs i

  at-took :
      (n : ℕ) (j : Standing) (xs : List ℕ) (room : ℕ) → longest ≤ room → (how : Disposition) (k : ℕ) (b : List ℕ) →
      head_of j.state xs ≡ took how k b →
      (p : Part) → Onward n (moved how xs j) (drop k xs) (room - length b) p → Onward (suc n) j xs room (after k b p)
  at-took n j xs room h how k b q p ih i =
      let whole : k ≤ length xs = (taken j.state xs how k b q).whole in
      let one_less : limit - (moved how xs j).counts.totals.begun ≡ n =
      rw (counted_begun how (row_at xs) j.counts) (omega arith) in
      job_took n j (xs ++ ys) how k b (found_more j.state xs ys (took how k b) q refl)
      ∙ ap (λ (p : ℕ). b ++ job_from n (standing (counts_more how p j.counts) (next_of j.state (xs ++ ys)))
      (drop k (xs ++ ys)))
      (row_more j.state xs ys (took how k b) q refl)
      ∙ ap (λ (z : State). b ++ job_from n (standing (counts_more how (row_at xs) j.counts) z) (drop k (xs ++ ys)))
      (next_more j.state xs ys how k b q)
      ∙ ap (λ (l : List ℕ). b ++ job_from n (moved how xs j) l) (drop-append-le k xs ys whole)
      ∙ ap (λ (l : List ℕ). b ++ l) (ih one_less)
      ∙ rw (drop-drop p.used k xs) (sym (append_assoc b p.bytes _))

  records_stream : (j : Standing) (xs : List ℕ) (room : ℕ) →
      job_with limit j (xs ++ ys) ≡ onward (records_of (limit - j.counts.totals.begun) j xs last room) xs
  records_stream j xs room = records_by last Onward at_room at-full at_stop at-took
      (limit - j.counts.totals.begun) j xs room refl

  -- the output of one call, and then the job's output for the bytes that it did not use and all that follow. `last` is
  -- set only where nothing follows.
  pub stream :
      (j : Standing) (xs : List ℕ) (room : ℕ) → counts_sound limit j.counts ≡ true →
      (let f = feed_of limit j xs last room in job_with limit j (xs ++ ys)
      ≡ f.bytes ++ cond (goes_on f.reason) (job_with limit f.standing (drop f.used xs ++ ys)) [])
  stream j xs room s =
      rw (feed_good limit j xs last room s) (records_stream j xs room
      ∙ sym (append_assoc (records_of (limit - j.counts.totals.begun) j xs last room).bytes _ _))
