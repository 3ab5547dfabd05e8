-- No reply is longer than the longest. Assumes nothing.
use Prim.Native.Nat.{ℕ, ◌≤◌}
use native.Mathlib.Omega.{arith}
use lib.ListN.{length, length-append}
use lib.Ieee.{binary64}
use Rattle.linalg.specs.Answer.{Answer, answers, refuses}
use Rattle.frames.specs.Floats.{Pose}
use Rattle.wire.specs.Wire.{word_bytes, item_bytes, items_bytes}
use Rattle.record_result.specs.RecordResult.{longest, mark_bytes, reply_of}
use Rattle.record_result.proofs.Record.{mark_length, no_length}
use Rattle.record_result.specs.Framed.{framed_items}
use Rattle.record_result.proofs.Frames.{framed-length}
use Rattle.sheets.specs.Sheets.{Shelved}
use Rattle.sheets.specs.declared.Shot.{Shot}
use Rattle.job_state.specs.Chain.{ch_reply, rn_reply}
use Rattle.job_state.specs.Retakes.{sh_reply, sq_reply}

pub ch-most : (a : Answer Pose) → length (ch_reply a).bytes ≤ longest
unfolding ch_reply reply_of
ch-most (answers x) =
    rw (
      length-append (mark_bytes 0x43 0x48) (items_bytes binary64 (framed_items x)),
      mark_length 0x43 0x48,
      framed-length binary64 x,
    ) (omega arith)
ch-most (refuses k) = rw (no_length k) (omega arith)

pub rn-most : (n : ℕ) → length (rn_reply n).bytes ≤ longest
unfolding rn_reply reply_of mark_bytes items_bytes item_bytes word_bytes
rn-most n = omega arith

pub sh-most : (a : Answer Shelved) → length (sh_reply a).bytes ≤ longest
unfolding sh_reply reply_of mark_bytes items_bytes item_bytes word_bytes
sh-most (answers x) = omega arith
sh-most (refuses k) = rw (no_length k) (omega arith)

pub sq-most : (a : Answer Shot) → length (sq_reply a).bytes ≤ longest
unfolding sq_reply reply_of mark_bytes items_bytes item_bytes word_bytes
sq-most (answers x) = omega (arith, framed-length binary64 x.pose)
sq-most (refuses k) = rw (no_length k) (omega arith)
