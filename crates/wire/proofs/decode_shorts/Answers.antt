-- `wire::decode_shorts` meets its contract: after i turns the first i numbers are those of the bytes. Assumes nothing.
use native.Mathlib.Omega.{arith}
use mathlib.Core.Path.{◌≡◌, ◌∙◌}
use Prim.Native.Nat.{ℕ, ◌+◌, ◌*◌, ◌/◌, ◌≤◌}
use lib.ListN.{length}
use lib.Seq.{length-take-le}
use Rattle.wire.specs.Wire.{word_at, fewer, words_at}
use Rattle.wire.proofs.Lists.{decoded_more, firsts-length, min_fewer, front_stored}
use Rattle.wire.proofs.Places.{short_read}
use Rattle.wire.proofs.decode_shorts.Goals as goal

pub loop-i-preserved : goal.loop-i-preserved
loop-i-preserved c =
    let n = c.min-n.result in
    let long = length-take-le n c.args.out.now (omega (arith, c.min-n.ensures)) in
    let inside : c.loop-i.i * 2 + 2 ≤ length c.args.b.now = omega (arith, c.loop-i-test.true, long, c.min-n.ensures) in
    let e = c.short_from_le_bytes.ensures ∙ short_read c.args.b.now (c.loop-i.i * 2) inside in
    rw (c.loop-i.invariant, e) (decoded_more (λ (i : ℕ). word_at 2 c.args.b.now (i * 2)) _ c.loop-i.i)

pub returns : goal.returns
returns c =
    let n = c.min-n.result in
    let m : n ≡ fewer (length c.args.b.now / 2) (length c.args.out.now) =
    c.min-n.ensures ∙ min_fewer (length c.args.b.now / 2) (length c.args.out.now) in
    let e : c.loop-i.i ≡ n =
    omega (
      arith,
      c.loop-i-test.false,
      c.loop-i.auto.i-end,
      length-take-le n c.args.out.now
          (omega (arith, c.min-n.ensures)),
    ) in
    rw (c.loop-i.invariant, e, ← m)
    (front_stored c.args.out.now (words_at 2 c.args.b.now n) n
    (firsts-length (λ (i : ℕ). word_at 2 c.args.b.now (i * 2)) n) (omega (arith, c.min-n.ensures)))
