-- `job_state::chain::join` meets its contract: it reads the pose, joins it and writes the answer. Assumes nothing.
use borrow.Author.Rules.{rules}
use Prim.Native.Nat.{◌-◌}
use mathlib.Core.Path.{◌≡◌, sym, ap, ◌∙◌}
use lib.ListN.{length, take, drop}
use lib.Seq.{sets}
use lib.Ieee.{binary64}
use Rattle.std.proofs.lemmas.List.{take_rest}
use Rattle.linalg.specs.Answer.{answer}
use Rattle.running.specs.Running.{Joint}
use Rattle.wire.specs.Wire.{number_of}
use Rattle.record_result.specs.Framed.{framed_in}
use Rattle.sheets.proofs.Framed.{framed_front}
use Rattle.job_state.proofs.Lent.{ch_refused, ch-joined}
use Rattle.job_state.proofs.chain.join.Goals as goal
use Rattle.job_state.proofs.chain.join.Goals.{After-from_le_bytes-up}

-- the pose, and `up` behind it
pose_read : (c : After-from_le_bytes-up) → c.framed_of-x.result ≡ framed_in binary64 c.args.b.now
pose_read c =
    let b = c.args.b.now in
    let part : c.unwrap.result.now ≡ take 68 b = search rules in
    c.framed_of-x.ensures ∙ ap (framed_in binary64) part ∙ framed_front b 0

up_read : (c : After-from_le_bytes-up) → c.from_le_bytes-up.result ≡ number_of binary64 (take 8 (drop 68 c.args.b.now))
up_read c =
    let b = c.args.b.now in
    let part : c.unwrap-2.result.now ≡ take 8 (take (length b - 68) (drop 68 b)) = search rules in
    c.from_le_bytes-up.ensures ∙ ap (number_of binary64) (part ∙ ap (take 8) (take_rest b 68))

pub returns-in-Ok : goal.returns-in-Ok
returns-in-Ok c =
    let a = c.args in
    let u = (goal.at.returns-in-Ok c).After-from_le_bytes-up in
    let j = ch-joined a.b.now _ _ a.running.now _ (pose_read u) (up_read u) c.join-j.ensures in
    let e = sym (ap (λ (j : Joint). j.answer) j) ∙ ap answer c.in-Ok.is in
    rw e
    (record {
      result_value = c.put_running.ensures.result_value;
      out_after = c.put_running.ensures.out_after;
      running_after = ap (λ (j : Joint). j.running) j;
    })

pub returns-in-Err : goal.returns-in-Err
returns-in-Err c =
    let a = c.args in
    let u = (goal.at.returns-in-Err c).After-from_le_bytes-up in
    let j = ch-joined a.b.now _ _ a.running.now _ (pose_read u) (up_read u) c.join-j.ensures in
    let e = sym (ap (λ (j : Joint). j.answer) j) ∙ ap answer c.in-Err.is in
    let t = ch_refused _ in
    rw e
    (record {
      result_value = c.refuse.ensures.result_value ∙ t.0;
      out_after = c.refuse.ensures.out_after ∙ ap (sets a.out.now 0) t.1;
      running_after = ap (λ (j : Joint). j.running) j;
    })
