-- The record loop follows its definition: what holds at each turn, for another turn and at the end. Assumes nothing.
use Prim.Native.Nat.{ℕ, suc, ◌+◌, ◌-◌, ◌≤◌}
use mathlib.Core.Path.{◌≡◌, refl, sym, ap, ◌∙◌}
use mathlib.Core.Bool.{Bool}
use mathlib.Core.List.{List, ◌++◌, append-nil}
use native.Mathlib.Nat.{add-zero}
use native.Mathlib.Omega.{arith}
use lib.ListN.{length, take, drop, length-drop, length-append, take-append-drop}
use lib.Seq.{sets, sets-eq, length-sets, length-take-le, drop-drop, take_at, drop_at}
use Rattle.layout.proofs.Runs.{sets_front}
use Rattle.record_result.specs.declared.Disposition.{Disposition}
use Rattle.record_result.specs.declared.Disposition.TheVariants.{Answered, Refused, Unusable}
use Rattle.job.specs.declared.Counts.{Counts}
use Rattle.job.specs.declared.Fed.{Fed}
use Rattle.job.specs.declared.Reason.{Reason}
use Rattle.job.specs.Counts.{counts_more, totals_more}
use Rattle.record_result.specs.RecordResult.{longest, took}
use Rattle.marks.specs.Marks.{head_of}
use Rattle.job_state.specs.State.{State}
use Rattle.marks.specs.Rows.{row_at}
use Rattle.job.specs.Job.{Standing, moved}
use Rattle.job.specs.Feed.{halt, after, records_of}
use Rattle.job.specs.Private.{Sound, part_fed}
use Rattle.marks.proofs.Heads.{taken}
use Rattle.marks.proofs.Rows.{row-few}
use Rattle.job.proofs.Rows.{by_mark-add}
use Rattle.job.proofs.Turns.{records_took, after-after, counted_begun}

-- with one more record, of the mark at the head of xs, the counts are still sound
pub counted_sound : (how : Disposition) (limit : ℕ) (xs : List ℕ) (c : Counts) → Sound limit c →
    (c.totals.begun ≡ limit → ⊥) → Sound limit (counts_more how (row_at xs) c)
unfolding counts_more totals_more
counted_sound Answered limit xs c s h =
    let a : c.totals.begun ≤ limit = s.few in
    record {
      few = omega arith;
      sum = omega (arith, s.sum);
      each =
          by_mark-add (row_at xs) c.totals.begun c.by_mark (row-few xs) s.each;
    }
counted_sound Refused limit xs c s h =
    let a : c.totals.begun ≤ limit = s.few in
    record {
      few = omega arith;
      sum = omega (arith, s.sum);
      each =
          by_mark-add (row_at xs) c.totals.begun c.by_mark (row-few xs) s.each;
    }
counted_sound Unusable limit xs c s h =
    let a : c.totals.begun ≤ limit = s.few in
    record {
      few = omega arith;
      sum = omega (arith, s.sum);
      each =
          by_mark-add (row_at xs) c.totals.begun c.by_mark (row-few xs) s.each;
    }

-- The loop began with the standing j₀ and the output out₀, and has j and out now; it has used `at` bytes and written
-- `to`.
pub record Going (limit : ℕ) (input : List ℕ) (last : Bool) (j₀ : Standing) (out₀ : List ℕ) (j : Standing)
    (out : List ℕ) (at to : ℕ) : Type 0 where
  pub sound : Sound limit j.counts
  pub inside : at ≤ length input
  pub room : to ≤ length out
  pub kept : length out ≡ length out₀
  pub rest : drop to out ≡ drop to out₀
  pub same :
      records_of (limit - j₀.counts.totals.begun) j₀ input last (length out₀) ≡
      after at (take to out) (records_of (limit - j.counts.totals.begun) j (drop at input) last (length out₀ - to))

-- the parts of this record, where the checker can find them
module _ {limit : ℕ} {input : List ℕ} {last : Bool} {j₀ : Standing} {out₀ : List ℕ} {j : Standing} {out : List ℕ}
    {at to : ℕ} (g : Going limit input last j₀ out₀ j out at to) where
  pub going_sound : Sound limit j.counts
  going_sound = g.sound

  pub going_inside : at ≤ length input
  going_inside = g.inside

  pub going_room : to ≤ length out
  going_room = g.room

-- after the loop: its result, the output and the state
abbrev pub Left : ℕ → List ℕ → Bool → Standing → List ℕ → Fed → List ℕ → State → Type 0
Left limit input last j₀ out₀ f out w =
    (f ≡ part_fed (records_of (limit - j₀.counts.totals.begun) j₀ input last (length out₀)))
    × ((out ≡ sets out₀ 0 (records_of (limit - j₀.counts.totals.begun) j₀ input last (length out₀)).bytes)
    × (w ≡ (records_of (limit - j₀.counts.totals.begun) j₀ input last (length out₀)).standing.state))

module _ {limit : ℕ} {input : List ℕ} {last : Bool} {j₀ : Standing} {out₀ : List ℕ} {j : Standing} {out : List ℕ}
    {at to : ℕ} (g : Going limit input last j₀ out₀ j out at to) where
  -- the loop ends, with the output as it is
  pub going_halt :
      (r : Reason) (e : Standing) (f : Fed) → f ≡ record { reason = r; counts = e.counts; used = at; written = to } →
      records_of (limit - j.counts.totals.begun) j (drop at input) last (length out₀ - to) ≡ halt r e →
      Left limit input last j₀ out₀ f out e.state
  going_halt r e f view h =
      let whole : records_of (limit - j₀.counts.totals.begun) j₀ input last (length out₀)
      ≡ record { reason = r; standing = e; used = at; bytes = take to out } =
      g.same ∙ ap (after at (take to out)) h ∙ simp (add-zero, append-nil) in
      let n : length (take to out) ≡ to = length-take-le to out g.room in
      let l : length (take to out) ≤ length out₀ = omega (arith, g.room, g.kept) in
      rw whole (
        view ∙ simp n,
        (
          sym (sets_front (take to out) out₀ l
              ∙ rw (n, ← g.rest) (take-append-drop to out)),
          refl,
        ),
      )

  -- another turn
  pub going_took :
      (how : Disposition) (k : ℕ) (b : List ℕ) → longest ≤ length out - to → (j.counts.totals.begun ≡ limit → ⊥) →
      head_of j.state (drop at input) ≡ took how k b →
      Going limit input last j₀ out₀ (moved how (drop at input) j) (sets out to b) (at + k) (to + length b)
  going_took how k b h few e =
      let t = taken j.state (drop at input) how k b e in
      let whole : k ≤ length input - at = simp length-drop at t.whole in
      let len : length out ≡ length out₀ = g.kept in
      let ins : at ≤ length input = g.inside in
      let short : length b ≤ longest = t.short in
      let begun : j.counts.totals.begun ≤ limit = g.sound.few in
      let eq : sets out to b ≡ take to out ++ b ++ drop (to + length b) out = sets-eq b out to (omega arith) in
      let n : length (take to out ++ b) ≡ to + length b = length-append (take to out) b
      ∙ ap (λ (x : ℕ). x + length b) (length-take-le to out g.room) in
      let tk : take (to + length b) (sets out to b) ≡ take to out ++ b =
      ap (take (to + length b)) eq ∙ take_at (take to out ++ b) _ (to + length b) n in
      let one_less : limit - j.counts.totals.begun ≡ suc (limit - (j.counts.totals.begun + 1)) = omega arith in
      let one_more : j.counts.totals.begun + 1 ≡ (moved how (drop at input) j).counts.totals.begun =
      sym (counted_begun how (row_at (drop at input)) j.counts) in
      let room : length out₀ - to - length b ≡ length out₀ - (to + length b) = omega arith in
      let P = records_of (limit - (j.counts.totals.begun + 1)) (moved how (drop at input) j) (drop (at + k) input) last
      (length out₀ - (to + length b)) in
      let next : records_of (limit - j.counts.totals.begun) j (drop at input) last (length out₀ - to) ≡ after k b P =
      ap (λ (x : ℕ). records_of x j (drop at input) last (length out₀ - to)) one_less
      ∙ records_took (limit - (j.counts.totals.begun + 1)) j (drop at input) last (length out₀ - to)
      (omega arith) how k b e
      ∙ rw (room, drop-drop k at input) in
      record {
        sound = counted_sound how limit (drop at input) j.counts g.sound few;
        inside = omega arith;
        room = simp length-sets (omega arith);
        kept = length-sets out to b ∙ g.kept;
        rest =
            ap (drop (to + length b)) eq ∙ drop_at (take to out ++ b) _ (to + length b) n
            ∙ sym (drop-drop (length b) to out) ∙ ap (drop (length b)) g.rest ∙ drop-drop (length b) to out₀;
        same =
            g.same ∙ ap (after at (take to out)) next ∙ after-after at k (take to out) b P
            ∙ (λ i. after (at + k) (sym tk i) (records_of (limit - one_more i) (moved how (drop at input) j)
            (drop (at + k) input) last (length out₀ - (to + length b))));
      }

-- ---- at each turn
pub ruleset going = (going_sound, going_inside, going_room)
