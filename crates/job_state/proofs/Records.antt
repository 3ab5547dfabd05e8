-- A record by the rule of its mark: what the call writes and keeps if the record is cut, if the output has no room for
-- its answer, and if it is answered. Assumes nothing.
use Prim.Native.Nat.{ℕ, ◌+◌, ◌≤◌, ◌<◌}
use mathlib.Core.Path.{◌≡◌, refl, sym, ap}
use mathlib.Core.List.{List}
use borrow.Author.Tests.{lt-ltb, le-ltb}
use native.Mathlib.Omega.{arith}
use Rattle.std.proofs.Common.{inl, inr}
use lib.ListN.{length, take, length-drop}
use lib.Seq.{sets, length-take-le}
use lib.Dec.{ltb}
use Rattle.wire.proofs.Lists.{one_of_two}
use Rattle.record_result.specs.declared.Step.{Step}
use Rattle.record_result.specs.declared.Step.TheVariants as step
use Rattle.record_result.specs.RecordResult.{InputHead, longest, record_result, written_of, step_view}
use Rattle.record_result.proofs.Record.{record_whole, reply-cut, reply-roomless}
use Rattle.job_state.specs.declared.JobState.{JobState}
use Rattle.job_state.specs.State.{state_of}
use Rattle.job_state.specs.Records.{RecordRule, head_by_rule, next_by, behind_by, Reader, by_rule, Handled, took_of}
use Rattle.job_state.specs.Records.{IsTaken, IsLeft}

-- a record has two bytes more than follow its mark
pub own_length : (k : ℕ) (s out b : List ℕ) → 2 ≤ k → IsTaken k s out b → 2 + length b ≡ k
own_length k s out b h t =
    omega (arith, ap (λ (l : List ℕ). length l) t.bytes, length-drop 2 (take k s), length-take-le k s t.whole)

-- ---- calls that leave the state as it is
pub handled_still :
    (r : Reader) (m : JobState) (s out : List ℕ) (f : InputHead) (q : Step) (out' : List ℕ) →
    r.head (state_of m) s ≡ f → r.next (state_of m) s ≡ state_of m → r.behind m s ≡ m →
    step_view q ≡ record_result f (length out) → out' ≡ sets out 0 (written_of f (length out)) →
    Handled r m s out q out' m
handled_still r m s out f q out' e n b u v = record {
  result_value = rw e u;
  out_after = rw e v;
  kept_after = sym (rw b (one_of_two (ltb (length out) longest) m));
  state_after = sym (rw n (one_of_two (ltb (length out) longest) (state_of m)));
}

module _ (a : RecordRule) (m : JobState) (s out : List ℕ) where
  view-cut : length s < a.bytes → Handled (by_rule a) m s out step.Cut out m
  unfolding head_by_rule next_by behind_by
  view-cut l =
      let t = reply-cut (length out) a.bytes (λ r. (a.step (state_of m) r).reply) s l in
      let c = lt-ltb (length s) a.bytes l in
      record {
        result_value = t.0;
        out_after = ap (sets out 0) t.1;
        kept_after = sym (rw c (one_of_two (ltb (length out) longest) m));
        state_after = sym (rw c (one_of_two (ltb (length out) longest) (state_of m)));
      }

  view-roomless : a.bytes ≤ length s → length out < longest → Handled (by_rule a) m s out step.Room out m
  unfolding head_by_rule
  view-roomless l r =
      let t = reply-roomless (length out) a.bytes (λ r. (a.step (state_of m) r).reply) s l r in
      let c = lt-ltb (length out) longest r in
      record {
        result_value = t.0;
        out_after = ap (sets out 0) t.1;
        kept_after = sym (rw c refl);
        state_after = sym (rw c refl);
      }

  -- a record that is not taken
  pub handled_left : (q : Step) → IsLeft a.bytes s out q → Handled (by_rule a) m s out q out m
  handled_left q (inl e) = rw e.1 (view-cut e.0)
  handled_left q (inr e) = rw e.1.1 (view-roomless e.0 e.1.0)

  -- one that is, where b are the bytes after its mark
  pub handled_whole :
      (b : List ℕ) (q : Step) (out' : List ℕ) (m' : JobState) → IsTaken a.bytes s out b →
      let k = a.step (state_of m) (take a.bytes s) in
      step_view q ≡ took_of a.bytes k.reply → out' ≡ sets out 0 k.reply.bytes → m' ≡ a.after m (take a.bytes s) →
      state_of m' ≡ k.state → Handled (by_rule a) m s out q out' m'
  unfolding head_by_rule next_by behind_by record_result written_of
  handled_whole b q out' m' t u v w z =
      let f = record_whole a.bytes (λ r. (a.step (state_of m) r).reply) s t.whole in
      let c = le-ltb (length out) longest t.room in
      let d = le-ltb (length s) a.bytes t.whole in
      record {
        result_value = rw (f, c) u;
        out_after = rw (f, c) v;
        kept_after = rw (c, d) w;
        state_after = rw (c, d) z;
      }
