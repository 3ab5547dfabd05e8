-- The job's counts: the job writes them last, they count no more records than the limit, and the last three of the four
-- add up to the first, as do the counts by mark. Assumes nothing.
use Prim.Native.Nat.{ℕ, zero, suc, ◌+◌}
use mathlib.Core.Path.{◌≡◌, refl, sym, ap, ◌∙◌}
use mathlib.Core.List.{List, [], ◌++◌, append_assoc}
use native.Mathlib.Omega.{arith}
use lib.ListN.{drop}
use Rattle.record_result.specs.declared.Disposition.TheVariants.{Refused}
use Rattle.record_result.specs.RecordResult.{unknown_mark, cut_record, no_bytes, InputHead, took, ended, unknown, cut}
use Rattle.marks.specs.Marks.{head_of}
use Rattle.marks.specs.Rows.{row_at}
use Rattle.job.specs.Counts.{counts_none}
use Rattle.job.specs.Job.{Standing, standing_none, moved, trailer, job_on, job_from, counts_on, counts_from}
use Rattle.job.specs.Job.{CountsTheorem}
use Rattle.job.specs.Private.{Sound}
use Rattle.job.proofs.Rows.{none-total}
use Rattle.job.proofs.Loop.{counted_sound}
use Rattle.job.proofs.Turns.{counted_begun}

-- the job's output ends with its counts, where j is the standing so far and n more records may begin
abbrev Ends : ℕ → Standing → List ℕ → Type 0
Ends n j xs = (body : List ℕ) × (job_from n j xs ≡ body ++ trailer (counts_from n j xs))

ends_on :
    (n : ℕ) (j : Standing) (xs : List ℕ) (f : InputHead) → ((j : Standing) (xs : List ℕ) → Ends n j xs) →
    (body : List ℕ)
    × (job_on f j xs (λ how k. job_from n (moved how xs j) (drop k xs))
    ≡ body ++ trailer (counts_on f j xs (λ how k. counts_from n (moved how xs j) (drop k xs))))
unfolding job_on counts_on
ends_on n j xs (took how k b) ih =
    let e = ih (moved how xs j) (drop k xs) in
    (b ++ e.0, ap (λ (l : List ℕ). b ++ l) e.1 ∙ sym (append_assoc b e.0 _))
ends_on n j xs ended ih = ([], refl)
ends_on n j xs unknown ih = (no_bytes unknown_mark, refl)
ends_on n j xs cut ih = (no_bytes cut_record, refl)

is_over : (n : ℕ) (j : Standing) (xs : List ℕ) → Ends n j xs
unfolding job_from counts_from
is_over zero j xs = ([], refl)
is_over (suc n) j xs = ends_on n j xs (head_of j.state xs) (is_over n)

-- the final counts are sound for a job of the records so far and n more
counts_on_lem :
    (n : ℕ) (j : Standing) (xs : List ℕ) (f : InputHead) → Sound (j.counts.totals.begun + suc n) j.counts →
    ((j : Standing) (xs : List ℕ) → Sound (j.counts.totals.begun + n) j.counts →
    Sound (j.counts.totals.begun + n) (counts_from n j xs)) →
    Sound (j.counts.totals.begun + suc n) (counts_on f j xs (λ how k. counts_from n (moved how xs j) (drop k xs)))
unfolding counts_on
counts_on_lem n j xs (took how k b) s ih =
    let l : (moved how xs j).counts.totals.begun + n ≡ j.counts.totals.begun + suc n =
    rw (counted_begun how (row_at xs) j.counts) (omega arith) in
    rw l at (ih (moved how xs j) (drop k xs)
    (rw l (counted_sound how (j.counts.totals.begun + suc n) xs j.counts s (λ x. omega arith))))
counts_on_lem n j xs ended s ih = s
counts_on_lem n j xs unknown s ih =
    counted_sound Refused (j.counts.totals.begun + suc n) xs j.counts s (λ x. omega arith)
counts_on_lem n j xs cut s ih = counted_sound Refused (j.counts.totals.begun + suc n) xs j.counts s (λ x. omega arith)

counts_sound_lem : (n : ℕ) (j : Standing) (xs : List ℕ) → Sound (j.counts.totals.begun + n) j.counts →
    Sound (j.counts.totals.begun + n) (counts_from n j xs)
unfolding counts_from
counts_sound_lem zero j xs s = s
counts_sound_lem (suc n) j xs s = counts_on_lem n j xs (head_of j.state xs) s (counts_sound_lem n)

none_sound : (limit : ℕ) → Sound (0 + limit) counts_none
none_sound limit = record { few = omega arith; sum = refl; each = (refl, none-total) }

pub job_counts : CountsTheorem
job_counts = record {
  written = λ limit xs. is_over limit standing_none xs;
  few = λ limit xs. omega (arith, (counts_sound_lem limit standing_none xs (none_sound limit)).few);
  adds = λ limit xs. (counts_sound_lem limit standing_none xs (none_sound limit)).sum;
  by_mark = λ limit xs. (counts_sound_lem limit standing_none xs (none_sound limit)).each;
}
