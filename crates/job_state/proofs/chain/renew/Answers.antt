-- `job_state::chain::renew` meets its contract: it stores n and writes it. Assumes nothing.
use native.Mathlib.Omega.{arith}
use Prim.Native.Nat.{ℕ, ◌+◌, ◌≤◌}
use mathlib.Core.Path.{◌≡◌, ap, ◌∙◌}
use mathlib.Core.List.{List}
use lib.ListN.{length}
use lib.Seq.{sets}
use Rattle.wire.specs.Wire.{word_at}
use Rattle.wire.proofs.Bytes.{word-length}
use Rattle.wire.proofs.Places.{part_stored, short_read}
use Rattle.sheets.proofs.Framed.{frame}
use Rattle.job_state.proofs.Lent.{every_replied}
use Rattle.job_state.proofs.chain.renew.Goals as goal

pub returns : goal.returns
returns c =
    let b = c.args.b.now in
    let n = c.short_from_le_bytes-n.result in
    let l = c.put_mark.new.out in
    let e : n ≡ word_at 2 b 0 = c.short_from_le_bytes-n.ensures ∙ short_read b 0 (omega (arith, c.requires.b_value)) in
    let room : 2 + 2 ≤ length l = omega (arith, c.put_mark.auto.out, c.requires.longest_in_bounds) in
    let stored =
    part_stored l _ _ 2 2 (c.copy_from_slice.ensures.after ∙ c.short_to_le_bytes.ensures) (word-length 2 n) room in
    let t = every_replied n c.args.out.now _ (stored ∙ ap (λ (o : List ℕ). sets o 2 (frame n)) c.put_mark.ensures) in
    rw (← e) (record { result_value = t.result_value; out_after = t.out_after; running_after = c.set_every.ensures })
