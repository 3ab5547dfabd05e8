-- A run from a tape to a sink. The bytes in the sink, followed by the job's output for the bytes kept and those still
-- on the tape, are its output for the whole tape; a read and a feed preserve this. Assumes nothing.
use Prim.Native.Nat.{ℕ, ◌+◌, ◌≤◌, ◌<◌, min}
use mathlib.Core.Path.{◌≡◌, refl, sym, ap, subst, ◌∙◌}
use mathlib.Core.Bool.{Bool, true, false, not, cond}
use mathlib.Core.List.{List, [], ◌++◌, append-nil, append_assoc}
use Rattle.std.proofs.Math.Bool.{not-not}
use native.Mathlib.Nat.{sub-zero}
use native.Mathlib.Omega.{arith}
use borrow.Author.Tests.{eqb-true}
use lib.Dec.{eqb}
use Rattle.std.proofs.lemmas.Bool.{false≢true}
use Rattle.std.specs.Bool.{then_some}
use Rattle.std.specs.Option.{is_none, is_some, unwrap_or}
use Rattle.std.specs.Prelude.{Result, Ok, Err}
use lib.ListN.{length, take, drop, length-append, take-append-drop}
use lib.Seq.{length-take-le, take-append_seam, take-take, take_at, drop-drop, drop-length}
use Rattle.job.specs.declared.Fed.{Fed}
use Rattle.job.specs.Counts.{counts_sound}
use Rattle.job.specs.Job.{Standing, standing_none, job_of}
use Rattle.job.specs.Feed.{feed_of, goes_on}
use Rattle.job.specs.Private.{part_fed}
use Rattle.job.specs.Run.{job_with}
use Rattle.job.proofs.Stream.{stream}
use Rattle.sim3_job.specs.declared.Filled.{Filled}
use Rattle.sim3_job.specs.declared.RunError.{RunError}
use Rattle.sim3_job.specs.declared.RunError.TheVariants.{Unread, Unwritten}
use Rattle.sim3_job.specs.Filled.{count_of, ended, given_of, Within, FromTape, filled_of}
use Rattle.sim3_job.specs.Sent.{ToSink}

pub record Underway (limit : ℕ) (tape sink : List ℕ) (j : Standing) (kept : List ℕ) (last : Bool)
    (at sent : ℕ) : Type 0 where
  pub same : take sent sink ++ job_with limit j (kept ++ drop at tape) ≡ job_of limit tape
  pub over : last ≡ true → at ≡ length tape

pub underway_start : (limit : ℕ) (tape sink : List ℕ) → Underway limit tape sink standing_none [] false 0 0
underway_start limit tape sink = record { same = rw (sub-zero limit); over = λ e. absurd (false≢true e) }

pub underway_read :
    (limit : ℕ) (tape sink : List ℕ) (j : Standing) (kept kept₁ : List ℕ) (last ended : Bool) (at n next sent : ℕ) →
    Underway limit tape sink j kept last at sent →
    next ≡ at + n → kept₁ ≡ kept ++ take n (drop at tape) → (ended ≡ true → (last ≡ true → at ≡ length tape) →
    next ≡ length tape) →
    Underway limit tape sink j kept₁ ended next sent
underway_read limit tape sink j kept kept₁ last ended at n next sent p e k o =
    record {
      same = rw (e, k) (ap (λ (l : List ℕ). take sent sink ++ job_with limit j l) joined ∙ p.same);
      over = λ u. o u p.over;
    }
  where
    joined : (kept ++ take n (drop at tape)) ++ drop (at + n) tape ≡ kept ++ drop at tape
    joined =
        append_assoc kept (take n (drop at tape)) (drop (at + n) tape)
        ∙ ap (λ (l : List ℕ). kept ++ l) (ap (λ (l : List ℕ). take n (drop at tape) ++ l) (sym (drop-drop n at tape))
        ∙ take-append-drop n (drop at tape))

-- the input is over for the next feed only if it was over for this one
pub underway_next :
    (limit : ℕ) (tape sink : List ℕ) (j : Standing) (kept : List ℕ) (last over : Bool) (at sent : ℕ) →
    Underway limit tape sink j kept last at sent → (over ≡ true → last ≡ true) →
    Underway limit tape sink j kept over at sent
underway_next limit tape sink j kept last over at sent p h = record { same = p.same; over = λ e. p.over (h e) }

-- one call, with the result f
module _
    (limit : ℕ) (tape sink : List ℕ) (j : Standing) (kept : List ℕ) (last : Bool) (at sent : ℕ)
    (p : Underway limit tape sink j kept last at sent) (s : counts_sound limit j.counts ≡ true)
    (room : ℕ) where
  alone : last ≡ true → drop at tape ≡ []
  alone e = ap (λ (n : ℕ). drop n tape) (p.over e) ∙ drop-length tape

  pub underway_feed :
      (sink₁ kept₁ : List ℕ) (sent₁ : ℕ) (f : Fed) → f ≡ part_fed (feed_of limit j kept last room) → goes_on
      f.reason ≡ true →
      take sent₁ sink₁ ≡ take sent sink ++ (feed_of limit j kept last room).bytes → kept₁ ≡ drop f.used kept →
      Underway limit tape sink₁ (feed_of limit j kept last room).standing kept₁ last at sent₁
  underway_feed sink₁ kept₁ sent₁ f e g w k =
      let F = feed_of limit j kept last room in
      let g₁ : goes_on F.reason ≡ true = rw e at g in
      let k₁ : kept₁ ≡ drop F.used kept = rw e at k in
      record {
        same =
            rw (w, k₁)
            (append_assoc (take sent sink) F.bytes _
            ∙ ap (λ (l : List ℕ). take sent sink ++ l) (sym (stream limit (drop at tape) last alone j kept room s
            ∙ rw g₁))
            ∙ p.same);
        over = p.over;
      }

  pub underway_done :
      (sink₁ : List ℕ) (sent₁ : ℕ) (f : Fed) → f ≡ part_fed (feed_of limit j kept last room) → goes_on f.reason
      ≡ false →
      take sent₁ sink₁ ≡ take sent sink ++ (feed_of limit j kept last room).bytes →
      take sent₁ sink₁ ≡ job_of limit tape
  underway_done sink₁ sent₁ f e g w =
      let F = feed_of limit j kept last room in
      let g₁ : goes_on F.reason ≡ false = rw e at g in
      w ∙ ap (λ (l : List ℕ). take sent sink ++ l) (sym (stream limit (drop at tape) last alone j kept room s
      ∙ rw g₁ (append-nil _))) ∙ p.same

  pub underway_short :
      sent ≤ length sink → length sink < sent + length (feed_of limit j kept last room).bytes →
      (length sink < length (job_of limit tape)) × (take sent sink ≡ take (length (take sent sink)) (job_of limit tape))
  underway_short h l =
      let F = feed_of limit j kept last room in
      let Z = cond (goes_on F.reason) (job_with limit F.standing (drop F.used kept ++ drop at tape)) [] in
      let j : job_of limit tape ≡ take sent sink ++ (F.bytes ++ Z) =
      sym p.same ∙ ap (λ (l : List ℕ). take sent sink ++ l) (stream limit (drop at tape) last alone j kept room s) in (
        rw j (rw (length-append (take sent sink) (F.bytes ++ Z), length-append F.bytes Z, length-take-le sent sink h)
            (omega arith)),
        rw j (sym (take-append_seam (take sent sink) (F.bytes ++ Z))),
      )

-- ---- a read from the tape
pub tape_any :
    (r : Result Filled RunError) (tape : List ℕ) (at have : ℕ) (buf buf₁ : List ℕ) (last : Bool) →
    FromTape r tape at have buf buf₁ false → FromTape r tape at have buf buf₁ last
tape_any (Ok f) tape at have buf buf₁ last p = (p.0, p.1, λ u v. p.2 u (λ e. absurd (false≢true e)))
tape_any (Err e) tape at have buf buf₁ last p = p

pub tape_kept :
    (r : Result Filled RunError) (tape : List ℕ) (at have : ℕ) (buf buf₁ : List ℕ) (last : Bool) → have ≤ length buf →
    FromTape r tape at have buf buf₁ last →
    take have buf₁ ≡ take have buf
tape_kept (Ok f) tape at have buf buf₁ last h p =
    sym (take-take have (have + count_of f) buf₁ (omega arith)) ∙ ap (take have) p.1
    ∙ take_at (take have buf) _ have (length-take-le have buf h)
tape_kept (Err e) tape at have buf buf₁ last h p = absurd p

pub tape_read :
    (limit : ℕ) (tape sink : List ℕ) (j : Standing) (f : Filled) (n : ℕ) (none : Bool) (buf buf₁ : List ℕ) (last : Bool)
    (at have sent : ℕ) →
    n ≡ count_of f → none ≡ ended f → FromTape (Ok f) tape at have buf buf₁ last →
    Underway limit tape sink j (take have buf) last at sent →
    Underway limit tape sink j (take (have + n) buf₁) none f.at sent
tape_read limit tape sink j f n none buf buf₁ last at have sent e g z p =
    rw (e, g) (underway_read limit tape sink j (take have buf) (take (have + count_of f) buf₁) last (ended f) at
    (count_of f) f.at sent p z.0 z.1 z.2)

-- how many bytes it reads, and whether there are none
given_by : (k : ℕ) (t : Bool) → eqb k 0 ≡ t → (unwrap_or (then_some (not t) k) 0 ≡ k)
    × (is_none (then_some (not t) k) ≡ t)
given_by k true e = (sym (eqb-true k 0 e), refl)
given_by k false e = (refl, refl)

pub given-count : (k : ℕ) → unwrap_or (given_of k) 0 ≡ k
given-count k = (given_by k (eqb k 0) refl).0

pub given-ended : (k : ℕ) → is_none (given_of k) ≡ eqb k 0
given-ended k = (given_by k (eqb k 0) refl).1

-- `is_none` from `is_some`
pub none_by : (f : Filled) (t : Bool) → is_some f.count ≡ not t → t ≡ ended f
none_by f t e = rw e (sym (not-not t))

-- ---- a write
pub sink_short :
    (e : RunError) (bytes sink sink₁ : List ℕ) (sent : ℕ) → ToSink (Err e) bytes sink sink₁ sent →
    (e ≡ Unwritten) × ((sink₁ ≡ sink) × (length sink < sent + length bytes))
sink_short Unread bytes sink sink₁ sent t = absurd t
sink_short Unwritten bytes sink sink₁ sent t = (refl, t)

-- the front of a list after its part from i on was lent and now begins with b
pub filled_front : (l b rest : List ℕ) (i n : ℕ) → i ≤ length l → length b ≡ n →
    take (i + n) (take i l ++ (b ++ rest)) ≡ take i l ++ b
filled_front l b rest i n h k =
    ap (take (i + n)) (sym (append_assoc (take i l) b rest))
    ∙ take_at (take i l ++ b) rest (i + n) (length-append (take i l) b ∙ (λ j. length-take-le i l h j + k j))

-- the bytes that a call wrote, at the front of the output
pub handed : (b o o₁ : List ℕ) (w : ℕ) → w ≡ length b → o₁ ≡ b ++ drop w o → take w o₁ ≡ b
handed b o o₁ w e q = rw (q, e) (take-append_seam b (drop (length b) o))

-- ---- the results of std
filled_in :
    {E : Type 0} (z : Result ℕ E) (have room most at end : ℕ) → have + room ≤ most → at ≤ end →
    Within (filled_of z room at) have most true end
unfolding filled_of
filled_in (Ok k) have room most at end h i =
    rw (given-count (min k room), given-ended (min k room)) (omega arith, i, λ u. refl)
filled_in (Err e) have room most at end h i = tt

pub filled_within :
    {E : Type 0} (r : Result Filled RunError) (z : Result ℕ E) (room at : ℕ) → r ≡ filled_of z room at →
    (have most end : ℕ) → have + room ≤ most → at ≤ end →
    Within r have most true end
filled_within {E} r z room at e have most end h i =
    subst (λ (x : Result Filled RunError). Within x have most true end) (sym e) (filled_in z have room most at end h i)
