-- The head of the input and the state after it: as the code's branches find them, within the input, and whatever
-- follows. Assumes nothing.
use Prim.Native.Nat.{ℕ, ◌+◌, ◌*◌, ◌≤◌, ◌<◌}
use mathlib.Core.Path.{◌≡◌, refl, sym, ◌∙◌}
use mathlib.Core.Bool.{Bool, true, false}
use mathlib.Core.List.{List, [], ◌∷◌, ◌++◌}
use native.Mathlib.Omega.{arith}
use borrow.Author.Tests.{le-ltb, ltb-false}
use lib.ListN.{length, get_or, length-append}
use lib.Seq.{sets, take-append-le}
use lib.Dec.{ltb}
use lib.Ieee.{Format}
use Rattle.std.proofs.lemmas.Bool.{false≢true}
use Rattle.linalg.specs.Answer.{Answer, answers, refuses}
use Rattle.record_result.specs.declared.Disposition.{Disposition}
use Rattle.record_result.specs.declared.Operation.{Operation}
use Rattle.record_result.specs.declared.Step.{Step}
use Rattle.record_result.specs.RecordResult.{longest, unknown_mark, Reply, InputHead, took, ended, unknown, cut}
use Rattle.record_result.specs.RecordResult.{record_head, record_result, written_of, step_view}
use Rattle.record_result.proofs.Record.{settled, record_by, record_whole, record_taken, record_few, record_not_ended}
use Rattle.record_result.proofs.Record.{record_more}
use Rattle.replies.specs.Table.{operation_head}
use Rattle.job_state.specs.State.{State, state_of}
use Rattle.job_state.specs.declared.JobState.{JobState}
use Rattle.job_state.specs.Records.{RecordRule, head_by_rule, next_by, behind_by, by_rule, Handled}
use Rattle.wire.proofs.Lists.{one_of_two}
use Rattle.job_state.proofs.Records.{handled_still}
use Rattle.marks.specs.Marks.{operation_rule, Listed, mark_of, longest_record, head_at, next_at, behind_at, head_of}
use Rattle.marks.specs.Marks.{next_of, behind_of, by_table}
use Rattle.marks.proofs.Table.{Good, good}

-- ---- by the length and the mark
abbrev pub Meets : State → List ℕ → InputHead → State → Type 0
Meets z s f w = (head_of z s ≡ f) × (next_of z s ≡ w)

-- the state that the code keeps
pub behind_short : (m : JobState) (s : List ℕ) → length s < 2 → behind_of m s ≡ m
unfolding behind_of
behind_short m [] h = refl
behind_short m (a ∷ []) h = refl
behind_short m (a ∷ b ∷ s) h = absurd (omega arith)

behind_two : (m : JobState) (s : List ℕ) → 2 ≤ length s → behind_of m s
    ≡ behind_at (mark_of (get_or s 0 0) (get_or s 1 0)) m s
unfolding behind_of
behind_two m [] h = absurd (omega arith)
behind_two m (a ∷ []) h = absurd (omega arith)
behind_two m (a ∷ b ∷ s) h = refl

pub behind_unknown : (m : JobState) (s : List ℕ) → 2 ≤ length s →
    mark_of (get_or s 0 0) (get_or s 1 0) ≡ refuses unknown_mark →
    behind_of m s ≡ m
unfolding behind_at
behind_unknown m s h e = behind_two m s h ∙ rw e

behind_mark : (m : JobState) (s : List ℕ) (l : Listed) → 2 ≤ length s →
    mark_of (get_or s 0 0) (get_or s 1 0) ≡ answers l →
    behind_of m s ≡ behind_by l.rule m s
unfolding behind_at
behind_mark m s l h e = behind_two m s h ∙ rw e

pub found_none : (z : State) (s : List ℕ) → length s ≡ 0 → Meets z s ended z
unfolding head_of next_of
found_none z [] e = (refl, refl)
found_none z (a ∷ s) e = absurd (omega arith)

pub found-half : (z : State) (s : List ℕ) → length s ≡ 1 → Meets z s cut z
unfolding head_of next_of
found-half z [] e = absurd (omega arith)
found-half z (a ∷ []) e = (refl, refl)
found-half z (a ∷ b ∷ s) e = absurd (omega arith)

pub found_two : (z : State) (s : List ℕ) → 2 ≤ length s → let v = mark_of (get_or s 0 0) (get_or s 1 0) in
    Meets z s (head_at v z s) (next_at v z s)
unfolding head_of next_of
found_two z [] h = absurd (omega arith)
found_two z (a ∷ []) h = absurd (omega arith)
found_two z (a ∷ b ∷ s) h = (refl, refl)

pub found-unknown : (z : State) (s : List ℕ) → 2 ≤ length s →
    mark_of (get_or s 0 0) (get_or s 1 0) ≡ refuses unknown_mark → Meets z s unknown z
unfolding head_at next_at
found-unknown z s h e = let t = found_two z s h in (t.0 ∙ rw e, t.1 ∙ rw e)

pub found_mark :
    (z : State) (s : List ℕ) (l : Listed) → 2 ≤ length s → mark_of (get_or s 0 0) (get_or s 1 0) ≡ answers l →
    Meets z s (head_by_rule l.rule z s) (next_by l.rule z s)
unfolding head_at next_at
found_mark z s l h q = let t = found_two z s h in (t.0 ∙ rw q, t.1 ∙ rw q)

-- ---- a record lies within the input, and its answer within the room for the longest
pub record Taken (s : List ℕ) (k : ℕ) (b : List ℕ) : Type 0 where
  pub whole : k ≤ length s
  pub short : length b ≤ longest

taken_at : (c : ℕ) (v : Answer Listed) → Good c v → (z : State) (s : List ℕ) (how : Disposition) (k : ℕ) (b : List ℕ) →
    head_at v z s ≡ took how k b → Taken s k b
unfolding head_at head_by_rule
taken_at c (answers l) g z s how k b q =
    let t = record_taken l.rule.bytes (λ r. (l.rule.step z r).reply) (g.1.reply z) s how k b q in
    record { whole = t.0; short = t.1 }
taken_at c (refuses n) g z s how k b q = absurd (cc)

pub taken : (z : State) (s : List ℕ) (how : Disposition) (k : ℕ) (b : List ℕ) → head_of z s ≡ took how k b → Taken s k b
unfolding head_of mark_of
taken z [] how k b q = absurd (cc)
taken z (x ∷ []) how k b q = absurd (cc)
taken z (x ∷ y ∷ s) how k b q = taken_at (x * 256 + y) (mark_of x y) (good (x * 256 + y)) z (x ∷ y ∷ s) how k b q

-- ---- a cut record is shorter than the longest
at-few : (c : ℕ) (v : Answer Listed) → Good c v → (z : State) (s : List ℕ) → head_at v z s ≡ cut →
    length s < longest_record
unfolding head_at head_by_rule
at-few c (answers l) g z s q = omega (arith, record_few l.rule.bytes (λ r. (l.rule.step z r).reply) s q, g.1.size)
at-few c (refuses n) g z s q = absurd (cc)

pub cut-few : (z : State) (s : List ℕ) → head_of z s ≡ cut → length s < longest_record
unfolding head_of mark_of
cut-few z [] q = omega arith
cut-few z (x ∷ []) q = omega arith
cut-few z (x ∷ y ∷ s) q = at-few (x * 256 + y) (mark_of x y) (good (x * 256 + y)) z (x ∷ y ∷ s) q

-- ---- after a mark the input does not end
at_not_ended : (v : Answer Listed) (z : State) (s : List ℕ) → head_at v z s ≡ ended → ⊥
unfolding head_at head_by_rule
at_not_ended (answers l) z s q = record_not_ended l.rule.bytes (λ r. (l.rule.step z r).reply) s q
at_not_ended (refuses n) z s q = absurd (cc)

pub ended-none : (z : State) (s : List ℕ) → head_of z s ≡ ended → length s ≡ 0
unfolding head_of
ended-none z [] q = refl
ended-none z (x ∷ []) q = absurd (cc)
ended-none z (x ∷ y ∷ s) q = absurd (at_not_ended (mark_of x y) z (x ∷ y ∷ s) q)

-- ---- a record is the same whatever follows it
at_more : (v : Answer Listed) (z : State) (s ys : List ℕ) (f : InputHead) → head_at v z s ≡ f → settled f ≡ true →
    head_at v z (s ++ ys) ≡ f
unfolding head_at head_by_rule
at_more (answers l) z s ys f q k = record_more l.rule.bytes (λ r. (l.rule.step z r).reply) s ys f q k
at_more (refuses n) z s ys f q k = q

pub found_more : (z : State) (s ys : List ℕ) (f : InputHead) → head_of z s ≡ f → settled f ≡ true →
    head_of z (s ++ ys) ≡ f
unfolding head_of
found_more z [] ys f q k = absurd (false≢true (rw (← q) at k))
found_more z (x ∷ []) ys f q k = absurd (false≢true (rw (← q) at k))
found_more z (x ∷ y ∷ s) ys f q k = at_more (mark_of x y) z (x ∷ y ∷ s) ys f q k

-- so is the state after it
took-whole : (n : ℕ) (reply : List ℕ → Reply) (s : List ℕ) (how : Disposition) (k : ℕ) (b : List ℕ) →
    record_head n reply s ≡ took how k b → n ≤ length s
took-whole n reply s how k b =
    record_by n reply s (λ f. f ≡ took how k b → n ≤ length s) (λ h e. absurd (cc)) (λ h e. h)

next-at_more : (v : Answer Listed) (z : State) (s ys : List ℕ) (how : Disposition) (k : ℕ) (b : List ℕ) →
    head_at v z s ≡ took how k b → next_at v z (s ++ ys) ≡ next_at v z s
unfolding head_at next_at head_by_rule next_by
next-at_more (answers l) z s ys how k b q =
    let t = took-whole l.rule.bytes (λ r. (l.rule.step z r).reply) s how k b q in
    let w : l.rule.bytes ≤ length (s ++ ys) = simp length-append (omega arith) in
    rw (le-ltb (length s) l.rule.bytes t, le-ltb (length (s ++ ys)) l.rule.bytes w, take-append-le l.rule.bytes s ys t)
next-at_more (refuses n) z s ys how k b q = refl

pub next_more : (z : State) (s ys : List ℕ) (how : Disposition) (k : ℕ) (b : List ℕ) → head_of z s ≡ took how k b →
    next_of z (s ++ ys) ≡ next_of z s
unfolding head_of next_of
next_more z [] ys how k b q = absurd (cc)
next_more z (x ∷ []) ys how k b q = absurd (cc)
next_more z (x ∷ y ∷ s) ys how k b q = next-at_more (mark_of x y) z (x ∷ y ∷ s) ys how k b q

-- ---- a call: where the state stays, by the head of the input; and by the rule of its mark
pub met_still :
    (m : JobState) (s out : List ℕ) (f : InputHead) → Meets (state_of m) s f (state_of m) → behind_of m s ≡ m →
    (q : Step) →
    step_view q ≡ record_result f (length out) → out ≡ sets out 0 (written_of f (length out)) →
    Handled by_table m s out q out m
met_still m s out f t u q a b = handled_still by_table m s out f q out t.0 t.1 u a b

pub met_by_lem :
    (m : JobState) (s out : List ℕ) (l : Listed) → 2 ≤ length s →
    mark_of (get_or s 0 0) (get_or s 1 0) ≡ answers l → (q : Step) (out' : List ℕ) (m' : JobState) →
    Handled (by_rule l.rule) m s out q out' m' → Handled by_table m s out q out' m'
met_by_lem m s out l h e q out' m' t =
    let f = found_mark (state_of m) s l h e in
    record {
      result_value = rw f.0 t.result_value;
      out_after = rw f.0 t.out_after;
      kept_after = rw (behind_mark m s l h e) t.kept_after;
      state_after = rw f.1 t.state_after;
    }

-- an operation of the engine
pub operation-view :
    (f : Format) (e : Operation) (m : JobState) (s out : List ℕ) (q : Step) (out' : List ℕ) →
    step_view q ≡ record_result (operation_head f e s) (length out) →
    out' ≡ sets out 0 (written_of (operation_head f e s) (length out)) →
    Handled (by_rule (operation_rule f e)) m s out q out' m
unfolding head_by_rule next_by behind_by
operation-view f e m s out q out' a b =
    handled_still (by_rule (operation_rule f e)) m s out (operation_head f e s) q out' refl
    (one_of_two (ltb (length s) (operation_rule f e).bytes) (state_of m))
    (one_of_two (ltb (length s) (operation_rule f e).bytes) m) a b

-- where no record is taken, the state stays
abbrev pub taking : InputHead → Bool
taking (took q k b) = true
taking ended = false
taking unknown = false
taking cut = false

-- a record that is not taken is not whole
short_by :
    (a : RecordRule) (z : State) (s : List ℕ) (f : InputHead) → head_by_rule a z s ≡ f → taking f ≡ false →
    ltb (length s) a.bytes ≡ true
unfolding head_by_rule
short_by a z s f q k = by (ltb (length s) a.bytes) refl
  where
    by : (t : Bool) → ltb (length s) a.bytes ≡ t → ltb (length s) a.bytes ≡ true
    by true t = t
    by false t =
        let w = record_whole a.bytes (λ r. (a.step z r).reply) s (ltb-false (length s) a.bytes t) in
        absurd (false≢true (sym (rw (← (sym w ∙ q)) at k)))

still_at :
    (v : Answer Listed) (z : State) (s : List ℕ) (f : InputHead) → head_at v z s ≡ f → taking f ≡ false →
    next_at v z s ≡ z
unfolding head_at next_at next_by
still_at (answers l) z s f q k = rw (short_by l.rule z s f q k)
still_at (refuses n) z s f q k = refl

pub still : (z : State) (s : List ℕ) (f : InputHead) → head_of z s ≡ f → taking f ≡ false → next_of z s ≡ z
unfolding head_of next_of
still z [] f q k = refl
still z (x ∷ []) f q k = refl
still z (x ∷ y ∷ s) f q k = still_at (mark_of x y) z (x ∷ y ∷ s) f q k

-- so does the state that the code keeps
bytes_still_at :
    (v : Answer Listed) (z : State) (m : JobState) (s : List ℕ) (f : InputHead) → head_at v z s ≡ f →
    taking f ≡ false → behind_at v m s ≡ m
unfolding head_at behind_at behind_by
bytes_still_at (answers l) z m s f q k = rw (short_by l.rule z s f q k)
bytes_still_at (refuses n) z m s f q k = refl

pub bytes_still : (z : State) (m : JobState) (s : List ℕ) (f : InputHead) → head_of z s ≡ f → taking f ≡ false →
    behind_of m s ≡ m
unfolding head_of behind_of
bytes_still z m [] f q k = refl
bytes_still z m (x ∷ []) f q k = refl
bytes_still z m (x ∷ y ∷ s) f q k = bytes_still_at (mark_of x y) z m (x ∷ y ∷ s) f q k
