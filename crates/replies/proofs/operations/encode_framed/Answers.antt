use native.Mathlib.Omega.{arith}
use borrow.Author.Rules.{rules}
use Prim.Native.Nat.{◌-◌, ◌*◌}
use mathlib.Core.Path.{◌≡◌, refl, ◌∙◌}
use lib.ListN.{length}
use Rattle.std.specs.Prelude.{Ok}
use Rattle.wire.specs.Wire.{width}
use Rattle.record_result.specs.RecordResult.{wrote_as}
use Rattle.layout.specs.Layout.{pose_count}
use Rattle.record_result.specs.Framed.{framed_width}
use Rattle.replies.proofs.Views.{view_done, floats-length, ending_framed}
use Rattle.replies.proofs.operations.encode_framed.Goals as goal

pub returns : goal.returns
returns g c =
    let f = g.T.Real.format in
    let y = g.T.Real.floats c.args.y.now in
    let n : length y ≡ length c.args.y.now =
    floats-length g.T.Real.floats g.T.Real.float g.met.T.Real.floats_law c.args.y.now in
    let done : c.args.called ≡ Ok tt = search rules in
    let w : c.BYTES-at.result ≡ width f = c.BYTES-at.ensures ∙ g.met.T.Number.bytes_law in
    let e : c.BYTES-at.result * 8 ≡ pose_count * width f = omega (arith, w) in
    let z : pose_count * width f - 0 ≡ pose_count * width f = omega arith in
    let d : c.framed-length.result - pose_count * width f ≡ 4 = omega (arith, c.framed-length.ensures) in
    let p = ending_framed f c.args.out.now _ _ y c.args.k.now _ (wrote_as c.encode.result (framed_width f))
    (n ∙ c.requires.y_len) c.requires.k_len c.requires.bytes (rw (e, z, ← n) at c.encode.ensures.value)
    (rw (e, z, ← n) at c.encode.ensures.out_after) (rw (e, z, d) at c.encode_shorts.ensures) refl in
    rw (view_done c.args.called _ done)
    (record {
      value = rw (c.of_answer-disposition.ensures, c.framed-length.ensures) p.0;
      out_after = rw (e, z, d) p.1;
    })
