-- SH and SQ: the reply, the bytes written and the state afterwards. Assumes nothing.
use Prim.Native.Nat.{ℕ, suc, ◌/◌, ◌%◌, ◌<◌}
use mathlib.Core.Path.{◌≡◌, refl, ap}
use mathlib.Core.List.{List, ◌∷◌}
use native.Mathlib.Nat.{mod-eq_of_lt}
use lib.ListN.{length, drop, set}
use lib.Seq.{sets}
use lib.Ieee.{binary64}
use Rattle.linalg.specs.Answer.{answers, refuses}
use Rattle.frames.specs.Floats.{Pose}
use Rattle.layout.specs.Layout.{pose_numbers}
use Rattle.wire.specs.Wire.{word_at, word_bytes, item_bytes, items_bytes, all_finite, numbers}
use Rattle.record_result.specs.declared.Disposition.{Disposition}
use Rattle.record_result.specs.declared.Disposition.TheVariants as disposition
use Rattle.record_result.specs.declared.Step.{Step}
use Rattle.record_result.specs.declared.Step.TheVariants as step
use Rattle.record_result.specs.RecordResult.{mark_bytes, no_bytes, disposition_of, reply_of, wrote, step_view}
use Rattle.record_result.specs.Framed.{framed_in, framed_items}
use Rattle.record_result.proofs.Frames.{framed-length, framed-finite}
use Rattle.sheets.specs.Sheets.{shelved, ask}
use Rattle.sheets.specs.Store.{sheets_of, shot_in, put_bytes}
use Rattle.sheets.specs.declared.Shot.{Shot}
use Rattle.sheets.proofs.Framed.{frame}
use Rattle.job_state.specs.declared.JobState.{JobState}
use Rattle.job_state.specs.Records.{by_rule, Handled, took_of, IsTaken}
use Rattle.job_state.specs.Retakes.{sh_size, sq_size, sh_of, sh_reply, sq_reply, sh_step, sq_step, sh_after, sh_rule}
use Rattle.job_state.specs.Retakes.{sq_rule}
use Rattle.job_state.proofs.Records.{handled_whole}

-- ---- the answers as the code writes them: SH; SQ, by whether its numbers are finite; and the refusals
pub shelf_replied :
    (how before : ℕ) (out out' : List ℕ) → how < 256 → out' ≡ sets (set (set (set out 0 0x53) 1 0x48) 2 how) 3
    (frame before) →
    record {
      result_value : step_view (step.Took disposition.Answered sh_size 5)
          ≡ took_of sh_size (sh_reply (shelved how before));
      out_after : out' ≡ sets out 0 (sh_reply (shelved how before)).bytes;
    }
unfolding sh_reply reply_of mark_bytes all_finite items_bytes item_bytes word_bytes
shelf_replied how before out out' h w =
    let e : how % 256 ≡ how = mod-eq_of_lt h in record { result_value = refl; out_after = rw e w }

pub shot_replied :
    (d : Disposition) (x : Shot) (out out' : List ℕ) →
    d ≡ disposition_of (all_finite (numbers (pose_numbers x.pose.sim3))) →
    out' ≡ sets (sets (set (set out 0 0x53) 1 0x51) 2 (frame x.take)) 4 (items_bytes binary64 (framed_items x.pose)) →
    record {
      result_value : step_view (step.Took d sq_size 72) ≡ took_of sq_size (sq_reply (answers x));
      out_after : out' ≡ sets out 0 (sq_reply (answers x)).bytes;
    }
unfolding sq_reply reply_of mark_bytes all_finite items_bytes item_bytes word_bytes
shot_replied d x out out' e w =
    let n : length (0x53 ∷ 0x51 ∷ x.take % 256 ∷ x.take / 256 % 256 ∷ items_bytes binary64 (framed_items x.pose)) ≡ 72 =
    ap (λ (k : ℕ). suc (suc (suc (suc k)))) (framed-length binary64 x.pose) in
    record { result_value = rw (framed-finite x.pose, n, e) refl; out_after = w }

pub sh-refused :
    (k : ℕ) → (wrote disposition.Refused sh_size 3 ≡ took_of sh_size (sh_reply (refuses k)))
    × (no_bytes k ≡ (sh_reply (refuses k)).bytes)
unfolding sh_reply reply_of no_bytes
sh-refused k = (refl, refl)

pub sq-refused :
    (k : ℕ) → (wrote disposition.Refused sq_size 3 ≡ took_of sq_size (sq_reply (refuses k)))
    × (no_bytes k ≡ (sq_reply (refuses k)).bytes)
unfolding sq_reply reply_of no_bytes
sq-refused k = (refl, refl)

-- ---- what SH reads from its bytes
pub shelf_shot :
    (b : List ℕ) (t : ℕ) (x : Pose) → t ≡ word_at 2 b 2 → x ≡ framed_in binary64 (drop 4 b) →
    record { take = t; pose = x } ≡ shot_in b
unfolding shot_in
shelf_shot b t x f g = rw (f, g) refl

-- ---- whole records, by the bytes b after their marks
module _ (m : JobState) (s out b : List ℕ) where
  pub sh-whole :
      IsTaken sh_size s out b → (q : Step) (out' R : List ℕ) → let j = sh_of (sheets_of m.store) b in
      step_view q ≡ took_of sh_size (sh_reply j.answer) → out' ≡ sets out 0 (sh_reply j.answer).bytes →
      R ≡ put_bytes m.store (word_at 2 b 0) (shot_in b) → sheets_of R ≡ j.sheets →
      Handled (by_rule sh_rule) m s out q out' (record { running = m.running; store = R })
  unfolding sh_step sh_after
  sh-whole k q out' R view put became left =
      handled_whole sh_rule m s out b q out' _ k (rw (← k.bytes) view) (rw (← k.bytes) put)
      (rw (← k.bytes, became) refl) (rw (← k.bytes, left) refl)

  pub sq-whole :
      IsTaken sq_size s out b → (q : Step) (out' : List ℕ) → let a = ask (sheets_of m.store) (word_at 2 b 0) in
      step_view q ≡ took_of sq_size (sq_reply a) → out' ≡ sets out 0 (sq_reply a).bytes →
      Handled (by_rule sq_rule) m s out q out' m
  unfolding sq_step
  sq-whole k q out' view put =
      handled_whole sq_rule m s out b q out' m k (rw (← k.bytes) view) (rw (← k.bytes) put) refl refl
