-- Each turn brings the end nearer: a record begins, or a byte is read, or the program will read next. So the program
-- ends, without a bound on its turns. Assumes nothing.
use Prim.Native.Nat.{ℕ, zero, suc, ◌+◌, ◌-◌, ◌*◌, ◌≤◌, ◌<◌}
use mathlib.Core.Path.{◌≡◌, refl, sym, ◌∙◌}
use mathlib.Core.Bool.{Bool, true, false}
use mathlib.Core.List.{List}
use native.Mathlib.Omega.{arith}
use borrow.Author.Tests.{ltb-true, ltb-false}
use lib.Dec.{ltb}
use Rattle.std.proofs.lemmas.Bool.{false≢true}
use Rattle.job.specs.declared.Counts.{Counts}
use Rattle.job.specs.declared.Fed.{Fed}
use Rattle.job.specs.declared.Reason.{Reason}
use Rattle.job.specs.declared.Reason.TheVariants.{More, Room, Bad, Full, End, Unknown, Cut}
use Rattle.job.specs.Counts.{counts_none, counts_sound, total}
use Rattle.job.specs.Job.{Standing, job_limit}
use Rattle.job.specs.Feed.{feed_of, goes_on, asks_for, answer_room}
use Rattle.job.specs.Private.{part_fed}
use Rattle.job.proofs.Pieces.{sound_is}
use Rattle.job.proofs.Progress.{feed_progress}
use Rattle.job.proofs.Whole.{feed_sound}

-- ---- how far away the end is: the records that may still begin, each worth more than a whole buffer; then the room in
-- the buffer; then whether a read comes next
abbrev pub idle : Bool → ℕ
idle true = 0
idle false = 1

abbrev pub to_go : Counts → ℕ → Bool → ℕ
to_go c have asked = (job_limit - c.totals.begun) * 131076 + ((65536 - have) * 2 + idle asked)

begun_more : (b b₁ have have₁ i i₁ : ℕ) → b < b₁ → b₁ ≤ job_limit → i₁ ≤ 1 →
    (job_limit - b₁) * 131076 + ((65536 - have₁) * 2 + i₁) < (job_limit - b) * 131076 + ((65536 - have) * 2 + i)
begun_more b b₁ have have₁ i i₁ h k j = omega arith

same_more :
    (asked ended : Bool) (b have n used : ℕ) → used ≡ 0 → ended ≡ false → (asked ≡ true → n ≡ 0 → ended ≡ true) →
    have + n ≤ 65536 →
    (job_limit - b) * 131076 + ((65536 - (have + n - used)) * 2 + 0)
    < (job_limit - b) * 131076 + ((65536 - have) * 2 + idle asked)
same_more true ended b have zero used u e h k = absurd (false≢true (sym e ∙ h refl refl))
same_more true ended b have (suc n) used u e h k = rw u (omega arith)
same_more false ended b have n used u e h k = rw u (omega arith)

less_by :
    (t : Bool) (r : Reason) (asked ended : Bool) (b b₁ have n used : ℕ) → ltb b b₁ ≡ t → goes_on r ≡ true → b ≤ b₁ →
    b₁ ≤ job_limit → (b₁ ≡ b → used ≡ 0) →
    (r ≡ More → ended ≡ false) → (r ≡ Room → b < b₁) → (asked ≡ true → n ≡ 0 → ended ≡ true) → have + n ≤ 65536 →
    (job_limit - b₁) * 131076 + ((65536 - (have + n - used)) * 2 + idle (asks_for r))
    < (job_limit - b) * 131076 + ((65536 - have) * 2 + idle asked)
less_by true More asked ended b b₁ have n used t g w l u m o h k =
    begun_more b b₁ have _ _ _ (ltb-true b b₁ t) l (omega arith)
less_by false More asked ended b b₁ have n used t g w l u m o h k =
    let e : b₁ ≡ b = let x : b₁ ≤ b = ltb-false b b₁ t in omega arith in
    rw e (same_more asked ended b have n used (u e) (m refl) h k)
less_by t Room asked ended b b₁ have n used q g w l u m o h k = begun_more b b₁ have _ _ _ (o refl) l (omega arith)
less_by t Bad asked ended b b₁ have n used q g w l u m o h k = absurd (false≢true g)
less_by t Full asked ended b b₁ have n used q g w l u m o h k = absurd (false≢true g)
less_by t End asked ended b b₁ have n used q g w l u m o h k = absurd (false≢true g)
less_by t Unknown asked ended b b₁ have n used q g w l u m o h k = absurd (false≢true g)
less_by t Cut asked ended b b₁ have n used q g w l u m o h k = absurd (false≢true g)

pub nearer :
    (j : Standing) (kept : List ℕ) (asked ended : Bool) (have n room : ℕ) (f : Fed) →
    counts_sound job_limit j.counts ≡ true → answer_room ≤ room →
    f ≡ part_fed (feed_of job_limit j kept ended room) → goes_on f.reason ≡ true →
    (asked ≡ true → n ≡ 0 → ended ≡ true) → have + n ≤ 65536 →
    to_go f.counts (have + n - f.used) (asks_for f.reason) < to_go j.counts have asked
nearer j kept asked ended have n room f s k e g h i =
    let F = feed_of job_limit j kept ended room in
    let m = feed_progress job_limit j kept ended room s in
    let g₁ : goes_on F.reason ≡ true = rw e at g in
    rw e
    (less_by (ltb j.counts.totals.begun F.standing.counts.totals.begun) F.reason asked ended j.counts.totals.begun
    F.standing.counts.totals.begun have n F.used refl g₁ m.grows
    (sound_is job_limit F.standing.counts (feed_sound job_limit j kept ended room s)).few m.still m.more
    (m.roomy k) h i)

pub still_sound :
    (j : Standing) (kept : List ℕ) (last : Bool) (room : ℕ) (f : Fed) → counts_sound job_limit j.counts ≡ true →
    f ≡ part_fed (feed_of job_limit j kept last room) →
    counts_sound job_limit f.counts ≡ true
still_sound j kept last room f s e = rw e (feed_sound job_limit j kept last room s)

pub none_sound : counts_sound job_limit counts_none ≡ true
unfolding counts_sound total
none_sound = refl

pub asks_more : (r : Reason) → asks_for r ≡ true → r ≡ More
asks_more More e = refl
asks_more Room e = absurd (false≢true e)
asks_more Bad e = absurd (false≢true e)
asks_more Full e = absurd (false≢true e)
asks_more End e = absurd (false≢true e)
asks_more Unknown e = absurd (false≢true e)
asks_more Cut e = absurd (false≢true e)

pub not_bad :
    (j : Standing) (kept : List ℕ) (last : Bool) (room : ℕ) (f : Fed) → counts_sound job_limit j.counts ≡ true →
    f ≡ part_fed (feed_of job_limit j kept last room) → f.reason ≡ Bad → ⊥
not_bad j kept last room f s e u = (feed_progress job_limit j kept last room s).fair (rw e at u)
