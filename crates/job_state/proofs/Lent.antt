-- CH and RN: the reply, the bytes written and the state afterwards. Assumes nothing.
use Prim.Native.Nat.{ℕ, suc}
use mathlib.Core.Path.{◌≡◌, refl, ap, ◌∙◌}
use mathlib.Core.List.{List, ◌∷◌}
use lib.ListN.{length, take, drop, set}
use lib.Seq.{sets}
use lib.Ieee.{Float, binary64}
use Rattle.linalg.specs.Answer.{answers, refuses}
use Rattle.frames.specs.Floats.{Pose}
use Rattle.running.specs.Running.{Joint, join_of}
use Rattle.running.specs.Running.{every_of}
use Rattle.running.specs.declared.Running.{Running}
use Rattle.layout.specs.Layout.{pose_numbers}
use Rattle.wire.specs.Wire.{word_at, word_bytes, number_of, number_at, item_bytes, items_bytes, all_finite}
use Rattle.wire.specs.Wire.{numbers}
use Rattle.record_result.specs.declared.Disposition.{Disposition}
use Rattle.record_result.specs.declared.Disposition.TheVariants as disposition
use Rattle.record_result.specs.declared.Step.{Step}
use Rattle.record_result.specs.declared.Step.TheVariants as step
use Rattle.record_result.specs.RecordResult.{wrote, mark_bytes, no_bytes, disposition_of, reply_of, step_view}
use Rattle.record_result.specs.Framed.{framed_in, framed_items}
use Rattle.record_result.proofs.Frames.{framed-length, framed-finite}
use Rattle.sheets.proofs.Framed.{frame}
use Rattle.job_state.specs.declared.JobState.{JobState}
use Rattle.job_state.specs.Records.{took_of}
use Rattle.job_state.specs.Chain.{ch_size, rn_size, ch_of, ch_reply, rn_reply, ch_step, rn_step, ch_after}
use Rattle.job_state.specs.Chain.{rn_after, ch_rule, rn_rule}
use Rattle.job_state.specs.Records.{IsTaken, by_rule, Handled}
use Rattle.job_state.proofs.Records.{handled_whole}

-- ---- CH: the pose and `up`, read from its bytes
pub ch-joined :
    (b : List ℕ) (x : Pose) (up : Float) (r : Running) (j : Joint) → x ≡ framed_in binary64 b →
    up ≡ number_of binary64 (take 8 (drop 68 b)) → j ≡ join_of binary64 r x up → j ≡ ch_of r b
unfolding ch_of number_at
ch-joined b x up r j e g k = k ∙ rw (e, g) refl

-- ---- the result and the bytes written: CH, by whether its numbers are finite, and where it is refused; RN
pub pose_replied :
    (d : Disposition) (x : Pose) (out out' : List ℕ) → d ≡ disposition_of (all_finite (numbers (pose_numbers x.sim3))) →
    out' ≡ sets (set (set out 0 0x43) 1 0x48) 2 (items_bytes binary64 (framed_items x)) →
    record {
      result_value : step_view (step.Took d ch_size 70) ≡ took_of ch_size (ch_reply (answers x));
      out_after : out' ≡ sets out 0 (ch_reply (answers x)).bytes;
    }
unfolding ch_reply reply_of mark_bytes
pose_replied d x out out' e w =
    let n : length (0x43 ∷ 0x48 ∷ items_bytes binary64 (framed_items x)) ≡ 70 =
    ap (λ (k : ℕ). suc (suc k)) (framed-length binary64 x) in
    record { result_value = rw (framed-finite x, n, e) refl; out_after = w }

pub ch_refused : (k : ℕ) → (wrote disposition.Refused ch_size 3 ≡ took_of ch_size (ch_reply (refuses k)))
    × (no_bytes k ≡ (ch_reply (refuses k)).bytes)
unfolding ch_reply reply_of no_bytes
ch_refused k = (refl, refl)

pub every_replied :
    (n : ℕ) (out out' : List ℕ) → out' ≡ sets (set (set out 0 0x52) 1 0x4e) 2 (frame n) →
    record {
      result_value : step_view (step.Took disposition.Answered rn_size 4)
          ≡ took_of rn_size (rn_reply n);
      out_after : out' ≡ sets out 0 (rn_reply n).bytes;
    }
unfolding rn_reply reply_of mark_bytes all_finite items_bytes item_bytes word_bytes
every_replied n out out' w = record { result_value = refl; out_after = w }

-- ---- whole records, by the bytes b after their marks
module _ (m : JobState) (s out b : List ℕ) where
  pub ch-whole :
      IsTaken ch_size s out b → (q : Step) (out' : List ℕ) (r : Running) → let j = ch_of m.running b in
      step_view q ≡ took_of ch_size (ch_reply j.answer) → out' ≡ sets out 0 (ch_reply j.answer).bytes →
      r ≡ j.running → Handled (by_rule ch_rule) m s out q out' (record { running = r; store = m.store })
  unfolding ch_step ch_after
  ch-whole k q out' r view put left =
      handled_whole ch_rule m s out b q out' _ k (rw (← k.bytes) view) (rw (← k.bytes) put)
      (rw (← k.bytes, left) refl) (rw (← k.bytes, left) refl)

  pub rn-whole :
      IsTaken rn_size s out b → (q : Step) (out' : List ℕ) (r : Running) → let n = word_at 2 b 0 in
      step_view q ≡ took_of rn_size (rn_reply n) → out' ≡ sets out 0 (rn_reply n).bytes →
      r ≡ every_of m.running n → Handled (by_rule rn_rule) m s out q out' (record { running = r; store = m.store })
  unfolding rn_step rn_after
  rn-whole k q out' r view put left =
      handled_whole rn_rule m s out b q out' _ k (rw (← k.bytes) view) (rw (← k.bytes) put)
      (rw (← k.bytes, left) refl) (rw (← k.bytes, left) refl)
