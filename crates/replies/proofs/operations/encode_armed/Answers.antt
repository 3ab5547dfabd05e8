use native.Mathlib.Omega.{arith}
use borrow.Author.Rules.{rules}
use Prim.Native.Nat.{ℕ, ◌+◌, ◌-◌, ◌*◌}
use mathlib.Core.Path.{◌≡◌, refl, ap, ◌∙◌}
use mathlib.Core.List.{List, ◌++◌}
use lib.ListN.{length, drop}
use Rattle.std.specs.Prelude.{Ok}
use Rattle.wire.specs.Wire.{width}
use Rattle.record_result.specs.RecordResult.{wrote_as}
use Rattle.layout.specs.Layout.{scaled_pair_count}
use Rattle.replies.proofs.Views.{view_done, floats-length, ending_armed}
use Rattle.replies.proofs.operations.encode_armed.Goals as goal

pub returns : goal.returns
returns g c =
    let f = g.T.Real.format in
    let y = g.T.Real.floats c.args.y.now in
    let n : length y ≡ length c.args.y.now =
    floats-length g.T.Real.floats g.T.Real.float g.met.T.Real.floats_law c.args.y.now in
    let done : c.args.called ≡ Ok tt = search rules in
    let w : c.BYTES.result ≡ width f = c.BYTES.ensures ∙ g.met.T.Number.bytes_law in
    let e : c.BYTES.result * 20 ≡ scaled_pair_count * width f = omega (arith, w) in
    let d : 4 + scaled_pair_count * width f - 4 ≡ scaled_pair_count * width f = omega arith in
    let p = ending_armed f c.args.out.now _ _ c.args.arms.now y _
    (wrote_as c.encode.result (4 + scaled_pair_count * width f)) c.requires.arms_len
    (n ∙ c.requires.y_len) c.requires.bytes
    (λ i. search rules) (ap (λ (l : List ℕ). l ++ drop 4 c.args.out.now) c.copy_from_slice.ensures.after)
    (rw (e, d, ← n) at c.encode.ensures.value) (rw (e, d, ← n) at c.encode.ensures.out_after) refl in
    rw (view_done c.args.called _ done)
    (record {
      value = rw (c.of_answer-disposition.ensures, e) p.0;
      out_after = rw (e, d) p.1;
    })
