-- Every run of a program, however it reads and feeds, writes the job's output for the whole input. Assumes nothing.
use Prim.Native.Nat.{ℕ}
use mathlib.Core.Path.{◌≡◌, refl, sym, ap, ◌∙◌}
use mathlib.Core.Bool.{Bool, true, false}
use mathlib.Core.List.{List, [], ◌++◌, append-nil, append_assoc}
use native.Mathlib.Nat.{sub-zero}
use native.Mathlib.Omega.{arith}
use lib.ListN.{drop}
use Rattle.job.specs.declared.Reason.{Reason}
use Rattle.job.specs.declared.Reason.TheVariants.{More, Room, Bad, Full, End, Unknown, Cut}
use Rattle.job.specs.Counts.{counts_none, counts_sound}
use Rattle.job.specs.Job.{Standing, standing_none, job_of}
use Rattle.job.specs.Feed.{goes_on, is_over, feed_of, FeedTheorem}
use Rattle.job.specs.Run.{job_with, Run, reads, feeds, stops, StreamTheorem}
use Rattle.job.proofs.Rows.{none-total}
use Rattle.job.proofs.Pieces.{records_sound, sound_is, is_sound, feed_good}
use Rattle.job.proofs.Stream.{stream}

-- ---- each call
pub feed_counts : FeedTheorem
feed_counts limit j xs last room s =
    let k = records_sound limit last j xs room (sound_is limit j.counts s) in
    rw (feed_good limit j xs last room s) (is_sound limit _ k, (k.sum, k.each))

pub feed_sound :
    (limit : ℕ) (j : Standing) (xs : List ℕ) (last : Bool) (room : ℕ) →
    counts_sound limit j.counts ≡ true →
    counts_sound limit (feed_of limit j xs last room).standing.counts ≡ true
feed_sound limit j xs last room s = (feed_counts limit j xs last room s).0

none_sound : (limit : ℕ) → counts_sound limit counts_none ≡ true
none_sound limit = is_sound limit counts_none (record { few = omega arith; sum = refl; each = (refl, none-total) })

-- ---- any run
pub run_job : (limit : ℕ) (j : Standing) (kept coming out : List ℕ) → counts_sound limit j.counts ≡ true →
    Run limit j kept coming out → out ≡ job_with limit j (kept ++ coming)
run_job limit j kept coming out s (reads {coming = z} p r) =
    run_job limit j (kept ++ p) z out s r ∙ ap (job_with limit j) (append_assoc kept p z)
run_job limit j kept coming out s (feeds {out = o} last room m g r) =
    let f = feed_of limit j kept last room in
    ap (λ (l : List ℕ). f.bytes ++ l) (run_job limit f.standing (drop f.used kept) coming o
    (feed_sound limit j kept last room s) r)
    ∙ sym (stream limit coming last m j kept room s ∙ rw g)
run_job limit j kept coming out s (stops last room m g) =
    sym (stream limit coming last m j kept room s ∙ rw g (append-nil _))

pub run_whole : StreamTheorem
run_whole limit xs out r = run_job limit standing_none [] xs out (none_sound limit) r ∙ rw (sub-zero limit)

-- ---- the whole input at once
ends_off : (r : Reason) → is_over r ≡ true → goes_on r ≡ false
ends_off More e = sym e
ends_off Room e = sym e
ends_off Bad e = refl
ends_off Full e = refl
ends_off End e = refl
ends_off Unknown e = refl
ends_off Cut e = refl

pub whole :
    (limit : ℕ) (xs : List ℕ) (room : ℕ) → is_over (feed_of limit standing_none xs true room).reason ≡ true →
    (feed_of limit standing_none xs true room).bytes ≡ job_of limit xs
whole limit xs room e =
    let f = feed_of limit standing_none xs true room in
    run_job limit standing_none xs [] f.bytes (none_sound limit) (stops true room (λ u. refl) (ends_off f.reason e))
    ∙ rw (append-nil xs, sub-zero limit)
