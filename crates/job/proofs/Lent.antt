-- The state that the code keeps, in the record loop and after it: at each turn, what remains to be done leaves the same
-- state as the whole loop from its start. Assumes nothing.
use Prim.Native.Nat.{ℕ, zero, suc, ◌+◌, ◌-◌, ◌≤◌, ◌<◌}
use mathlib.Core.Path.{◌≡◌, refl, sym, ap, ◌∙◌}
use mathlib.Core.Bool.{Bool, false, cond}
use mathlib.Core.List.{List}
use native.Mathlib.Omega.{arith}
use borrow.Author.Tests.{lt-ltb, le-ltb}
use lib.Dec.{ltb}
use lib.ListN.{length, take, drop}
use lib.Seq.{sets, drop-drop}
use Rattle.std.proofs.lemmas.Bool.{false≢true}
use Rattle.wire.proofs.Lists.{one_of_two}
use Rattle.record_result.specs.declared.Disposition.{Disposition}
use Rattle.record_result.specs.declared.Step.{Step}
use Rattle.record_result.specs.declared.Step.TheVariants as step
use Rattle.record_result.specs.RecordResult.{longest, InputHead, took, ended, unknown, cut, written_of, step_view}
use Rattle.record_result.proofs.Views.{view-took, told_room}
use Rattle.job_state.specs.State.{State, state_of}
use Rattle.job_state.specs.declared.JobState.{JobState}
use Rattle.marks.specs.Marks.{head_of, behind_of}
use Rattle.marks.proofs.Heads.{taking, bytes_still}
use Rattle.job.specs.declared.Counts.{Counts}
use Rattle.job.specs.declared.Fed.{Fed}
use Rattle.job.specs.Counts.{counts_more}
use Rattle.job.specs.Job.{Standing, standing}
use Rattle.job.specs.Feed.{records_of, kept_on, kept_records}
use Rattle.job.specs.Private.{part_fed}
use Rattle.job.proofs.Turns.{counted_begun}
use Rattle.job.proofs.Loop.{Left}
use Rattle.job.proofs.Steps.{Turn, here, spare, told_here, found-ended, found-unknown, found-cut}

-- ---- turn by turn
pub kept_full : (m : JobState) (xs : List ℕ) (room : ℕ) → kept_records 0 m xs room ≡ m
unfolding kept_records
kept_full m xs room = refl

pub kept_room : (n : ℕ) (m : JobState) (xs : List ℕ) (room : ℕ) → room < longest → kept_records n m xs room ≡ m
unfolding kept_records
kept_room zero m xs room h = refl
kept_room (suc n) m xs room h = rw (lt-ltb room longest h)

kept_took :
    (n : ℕ) (m : JobState) (xs : List ℕ) (room : ℕ) → longest ≤ room → (how : Disposition) (k : ℕ) (b : List ℕ) →
    head_of (state_of m) xs ≡ took how k b →
    kept_records (suc n) m xs room ≡ kept_records n (behind_of m xs) (drop k xs) (room - length b)
unfolding kept_records kept_on
kept_took n m xs room h how k b e = rw (le-ltb room longest h, e)

still_on : (f : InputHead) (m : JobState) (go : ℕ → List ℕ → JobState) → taking f ≡ false → kept_on f m go ≡ m
unfolding kept_on
still_on (took how k b) m go e = absurd (false≢true (sym e))
still_on ended m go e = refl
still_on unknown m go e = refl
still_on cut m go e = refl

kept_still : (n : ℕ) (m : JobState) (xs : List ℕ) (room : ℕ) (f : InputHead) → head_of (state_of m) xs ≡ f →
    taking f ≡ false →
    kept_records n m xs room ≡ m
unfolding kept_records
kept_still zero m xs room f e k = refl
kept_still (suc n) m xs room f e k =
    let go : ℕ → List ℕ → JobState = λ i bytes. kept_records n (behind_of m xs) (drop i xs) (room - length bytes) in
    let s : kept_on (head_of (state_of m) xs) m go ≡ m = ap (λ (x : InputHead). kept_on x m go) e ∙ still_on f m go k in
    ap (λ (l : JobState). cond (ltb room longest) m l) s ∙ one_of_two (ltb room longest) m

-- The loop began with the state m₀ and has m now; `reply` left m'.
module _
    {limit : ℕ} {input : List ℕ} {last : Bool} {j₀ : Standing} {out₀ : List ℕ} {j : Standing} {out : List ℕ}
    {at to : ℕ} {q : Step} {p : ℕ} {R : List ℕ} {w : State}
    (t : Turn limit input last j₀ out₀ j out at to q p R w) (m₀ m m' : JobState) (is : j.state ≡ state_of m)
    (e :
    m' ≡ cond (ltb (length (take (length out - to) (drop to out))) longest) m
    (behind_of m (take (length input - at) (drop at input))))
    (g :
    kept_records (limit - j₀.counts.totals.begun) m₀ input (length out₀) ≡
    kept_records (limit - j.counts.totals.begun) m (drop at input) (length out₀ - to)) where
  -- the state that the whole loop leaves
  abbrev pub final : JobState
  final = kept_records (limit - j₀.counts.totals.begun) m₀ input (length out₀)

  behind : m' ≡ cond (ltb (length out - to) longest) m (behind_of m (drop at input))
  behind = rw (here t, spare t) at e

  in_bytes : head_of (state_of m) (drop at input) ≡ head_of j.state (drop at input)
  in_bytes = ap (λ (z : State). head_of z (drop at input)) (sym is)

  -- another turn, with the counts d
  pub kept_round :
      (how : Disposition) (k n : ℕ) → q ≡ step.Took how k n → (d : Counts) → d ≡ counts_more how p j.counts →
      final ≡ kept_records (limit - d.totals.begun) m' (drop (at + k) input) (length out₀ - (to + n))
  kept_round how k n o d c =
      let b = written_of (head_of j.state (drop at input)) (length out - to) in
      let u = sym (told_here t) ∙ ap step_view o in
      let f = view-took (head_of j.state (drop at input)) (length out - to) how k n u in
      let roomy : longest ≤ length out - to = f.roomy in
      let len : length out ≡ length out₀ = t.going.kept in
      let few : j.counts.totals.begun ≤ limit = t.going.sound.few in
      let not_full : j.counts.totals.begun ≡ limit → ⊥ = t.few in
      let more = counted_begun how p j.counts in
      let one_more : d.totals.begun ≡ j.counts.totals.begun + 1 = ap (λ (x : Counts). x.totals.begun) c ∙ more in
      let one_less : limit - j.counts.totals.begun ≡ suc (limit - d.totals.begun) = omega arith in
      let long : length b ≡ n = f.long in
      let room : length out₀ - to - length b ≡ length out₀ - (to + n) = omega arith in
      let left : m' ≡ behind_of m (drop at input) = behind ∙ rw (le-ltb (length out - to) longest roomy) in
      let found : head_of (state_of m) (drop at input) ≡ took how k b = in_bytes ∙ f.found in
      g ∙ ap (λ (x : ℕ). kept_records x m (drop at input) (length out₀ - to)) one_less
      ∙ kept_took (limit - d.totals.begun) m (drop at input) (length out₀ - to) (omega arith) how k b found
      ∙ rw (room, drop-drop k at input, left)

  -- the loop ends
  kept_roomless : q ≡ step.Room → m' ≡ final
  kept_roomless o =
      let u = sym (told_here t) ∙ ap step_view o in
      let h : length out - to < longest = (told_room (head_of j.state (drop at input)) (length out - to) u).0 in
      let len : length out ≡ length out₀ = t.going.kept in
      behind ∙ rw (lt-ltb (length out - to) longest h) (sym (g ∙ kept_room _ m _ _ (omega arith)))

  stopped : (f : InputHead) → head_of j.state (drop at input) ≡ f → taking f ≡ false → m' ≡ final
  stopped f o k =
      let quiet : cond (ltb (length out - to) longest) m (behind_of m (drop at input)) ≡ m =
      rw (bytes_still j.state m (drop at input) f o k) (one_of_two (ltb (length out - to) longest) m) in
      let all : kept_records (limit - j.counts.totals.begun) m (drop at input) (length out₀ - to) ≡ m =
      kept_still _ m _ _ f (in_bytes ∙ o) k in
      behind ∙ quiet ∙ sym (g ∙ all)

  kept_end : q ≡ step.End → m' ≡ final
  kept_end o = stopped ended (found-ended t o) refl

  kept_unknown : q ≡ step.Unknown → m' ≡ final
  kept_unknown o = stopped unknown (found-unknown t o) refl

  kept_cut : q ≡ step.Cut → m' ≡ final
  kept_cut o = stopped cut (found-cut t o) refl

  pub kept_at : (v : Step) → q ≡ v → ((how : Disposition) (k n : ℕ) → q ≡ step.Took how k n → ⊥) → m' ≡ final
  kept_at (step.Took how k n) e none = absurd (none how k n e)
  kept_at step.Room e none = kept_roomless e
  kept_at step.End e none = kept_end e
  kept_at step.Unknown e none = kept_unknown e
  kept_at step.Cut e none = kept_cut e

-- ---- after the loop: its result, the output and the state
abbrev pub Leaves : ℕ → List ℕ → Bool → Counts → JobState → List ℕ → Fed → List ℕ → JobState → Type 0
Leaves limit input last c m₀ out₀ f out m =
    let P = records_of (limit - c.totals.begun) (standing c (state_of m₀)) input last (length out₀) in
    record {
      value : f ≡ part_fed P;
      out_after : out ≡ sets out₀ 0 P.bytes;
      kept_after : m ≡ kept_records (limit - c.totals.begun) m₀ input (length out₀);
      state_after : state_of m ≡ P.standing.state;
    }

pub left-from :
    (limit : ℕ) (input : List ℕ) (last : Bool) (m₀ : JobState) (out₀ : List ℕ) (c : Counts) → {f : Fed} {out : List ℕ}
    {m : JobState} →
    Left limit input last (standing c (state_of m₀)) out₀ f out (state_of m) →
    m ≡ kept_records (limit - c.totals.begun) m₀ input (length out₀) →
    Leaves limit input last c m₀ out₀ f out m
left-from limit input last m₀ out₀ c l g =
    record { value = l.0; out_after = l.1.0; kept_after = g; state_after = l.1.1 }
