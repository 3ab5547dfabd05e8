-- For any input of bytes the job writes the replies to its records and then its end. After each record the state is
-- that of the plain history of the records so far, and the replies follow from it. Assumes nothing.
use Prim.Native.Nat.{ℕ, zero, suc, ◌<◌, ◌≤◌}
use mathlib.Core.Path.{◌≡◌, refl, sym, ap, subst, ◌∙◌}
use mathlib.Core.List.{List, [], ◌∷◌, ◌++◌, append_assoc}
use lib.ListN.{length, take, drop, get_or}
use lib.Seq.{length-take-le}
use Rattle.record_result.specs.RecordResult.{Reply, took, ended, unknown, cut}
use Rattle.sheets.specs.Back.{Bytes}
use Rattle.sheets.proofs.Back.{bytes_take, bytes_drop}
use Rattle.job_state.specs.State.{State, state_none}
use Rattle.marks.specs.Marks.{head_of, next_of}
use Rattle.marks.specs.History.{kept_after, KeptAfter}
use Rattle.marks.specs.Answers.{reply_on, reply_to}
use Rattle.marks.proofs.Past.{Each, each_map, each_first, each_last, kept-after}
use Rattle.marks.proofs.Whole.{Takes, Head, at_end_lem, at-unknown, at_cut, at_record, head, Whole}
use Rattle.marks.proofs.Answered.{answered}
use Rattle.job.specs.Job.{Standing, standing_none, moved, trailer, job_on, job_from, counts_on, counts_from}
use Rattle.job.specs.Input.{records_on, input_records, end_on, input_end, replies_to, InputTheorem}

-- ---- what is written
abbrev Written : ℕ → Standing → List ℕ → Type 0
Written n j xs =
    job_from n j xs ≡ replies_to j.state (input_records n xs) ++ (input_end n xs ++ trailer (counts_from n j xs))

none_written : (j : Standing) (xs : List ℕ) → Written 0 j xs
unfolding job_from input_records input_end counts_from replies_to
none_written j xs = refl

-- where no record is at the head
module _ (n : ℕ) (j : Standing) (xs : List ℕ) where
  end_written : ((z : State) → head_of z xs ≡ ended) → Written (suc n) j xs
  unfolding job_from job_on input_records records_on input_end end_on counts_from counts_on replies_to
  end_written e = rw (e j.state, e state_none) refl

  unknown-written : ((z : State) → head_of z xs ≡ unknown) → Written (suc n) j xs
  unfolding job_from job_on input_records records_on input_end end_on counts_from counts_on replies_to
  unknown-written e = rw (e j.state, e state_none) refl

  cut-written : ((z : State) → head_of z xs ≡ cut) → Written (suc n) j xs
  unfolding job_from job_on input_records records_on input_end end_on counts_from counts_on replies_to
  cut-written e = rw (e j.state, e state_none) refl

  -- where one is
  module _ (k : ℕ) (reply : State → Reply) (e : Takes xs k reply) where
    abbrev next : Standing
    next = moved (reply j.state).disposition xs j

    job_record : job_from (suc n) j xs ≡ (reply j.state).bytes ++ job_from n next (drop k xs)
    unfolding job_from job_on
    job_record = rw (e j.state) refl

    counts_record : counts_from (suc n) j xs ≡ counts_from n next (drop k xs)
    unfolding counts_from counts_on
    counts_record = rw (e j.state) refl

    records_record : input_records (suc n) xs ≡ take k xs ∷ input_records n (drop k xs)
    unfolding input_records records_on
    records_record = rw (e state_none) refl

    end_record : input_end (suc n) xs ≡ input_end n (drop k xs)
    unfolding input_end end_on
    end_record = rw (e state_none) refl

    abbrev rest : List (List ℕ)
    rest = input_records n (drop k xs)

    replies_record :
        Takes (take k xs) k reply → ((z : State) → next_of z (take k xs) ≡ next_of z xs) →
        replies_to j.state (take k xs ∷ rest) ≡ (reply j.state).bytes ++ replies_to (next_of j.state xs) rest
    unfolding replies_to reply_to reply_on
    replies_record f g = rw (f j.state, g j.state) refl

    record_written :
        Takes (take k xs) k reply → ((z : State) → next_of z (take k xs) ≡ next_of z xs) → Written n next (drop k xs) →
        Written (suc n) j xs
    record_written f g ih =
        let b = (reply j.state).bytes in
        job_record
        ∙ ap (λ (l : List ℕ). b ++ l) ih
        ∙ sym (append_assoc b (replies_to (next_of j.state xs) rest) _)
        ∙ rw (counts_record, records_record, end_record, replies_record f g) refl

written : (n : ℕ) (j : Standing) (xs : List ℕ) → Written n j xs
written zero j xs = none_written j xs
written (suc n) j xs = by (head xs) (written n)
  where
    by : Head xs → ((j : Standing) (xs : List ℕ) → Written n j xs) → Written (suc n) j xs
    by (at_end_lem e) go = end_written n j xs e
    by (at-unknown e) go = unknown-written n j xs e
    by (at_cut e) go = cut-written n j xs e
    by (at_record k l reply e f g) go =
        record_written n j xs k reply e f g (go (moved (reply j.state).disposition xs j) (drop k xs))

-- ---- the place of a reply
placed :
    (z : State) (before : List (List ℕ)) (r : List ℕ) (later : List (List ℕ)) →
    replies_to z (before ++ (r ∷ later))
    ≡ replies_to z before ++ (reply_to (kept_after z before) r ++ replies_to (kept_after z (before ++ (r ∷ []))) later)
unfolding replies_to kept_after
placed z [] r later = refl
placed z (a ∷ before) r later =
    ap (λ (l : List ℕ). reply_to z a ++ l) (placed (next_of z a) before r later)
    ∙ sym (append_assoc (reply_to z a) (replies_to (next_of z a) before) _)

-- ---- each record of an input of bytes is whole, and consists of bytes
abbrev Fine : List ℕ → Type 0
Fine r = Whole r × Bytes r

fine_first :
    (k : ℕ) (xs : List ℕ) (reply : State → Reply) → k ≤ length xs → Takes (take k xs) k reply → Bytes xs →
    Fine (take k xs)
fine_first k xs reply l e h =
    let n : k ≡ length (take k xs) = sym (length-take-le k xs l) in
    let z = reply state_none in
    ((z.disposition, (z.bytes, e state_none ∙ ap (λ (i : ℕ). took z.disposition i z.bytes) n)), bytes_take k xs h)

module _ (n : ℕ) (xs : List ℕ) (go : (xs : List ℕ) → Bytes xs → Each Fine (input_records n xs)) (h : Bytes xs) where
  fine_by : Head xs → Each Fine (input_records (suc n) xs)
  unfolding input_records records_on
  fine_by (at_end_lem e) = rw (e state_none) tt
  fine_by (at-unknown e) = rw (e state_none) tt
  fine_by (at_cut e) = rw (e state_none) tt
  fine_by (at_record k l reply e f g) =
      rw (e state_none) (fine_first k xs reply l f h, go (drop k xs) (bytes_drop k xs h))

fine : (n : ℕ) (xs : List ℕ) → Bytes xs → Each Fine (input_records n xs)
unfolding input_records
fine zero xs h = tt
fine (suc n) xs h = fine_by n xs (fine n) h (head xs)

bytes_of : (xs : List ℕ) → ((i : ℕ) → get_or xs i 0 < 256) → Bytes xs
unfolding Bytes
bytes_of [] h = tt
bytes_of (x ∷ xs) h = (h 0, bytes_of xs (λ i. h (suc i)))

-- ---- any input
kept-first : (before rest : List (List ℕ)) → Each Fine (before ++ rest) → KeptAfter before
kept-first before rest e = kept-after before (each_map Fine Bytes (λ r f. f.1) before (each_first Fine before rest e))

pub input : (limit : ℕ) (xs : List ℕ) → ((i : ℕ) → get_or xs i 0 < 256) → InputTheorem limit xs
input limit xs h =
    let all : Each Fine (input_records limit xs) = fine limit xs (bytes_of xs h) in
    record {
      written = written limit standing_none xs;
      placed = λ before r rest e. ap (replies_to state_none) e ∙ placed state_none before r rest;
      kept = λ before rest e. kept-first before rest (subst (Each Fine) e all);
      answered = λ before r rest e.
          let each = subst (Each Fine) e all in
          let one : Fine r = (each_last Fine before (r ∷ rest) each).0 in
          let more = subst (Each Fine) (sym (append_assoc before (r ∷ []) rest)) each in
          let behind = kept-first (before ++ (r ∷ [])) rest more in
          answered before (kept-first before (r ∷ rest) each) r one.0 one.1 behind;
    }
