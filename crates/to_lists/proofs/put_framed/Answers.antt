-- `to_lists::put_framed` meets its contract if both lists have the right lengths. Assumes nothing.
use Rattle.std.proofs.Common.{◌≡◌, refl, length}
use Rattle.std.proofs.lemmas.List.{length-map}
use borrow.Author.Tests.{eq-eqb}
use Rattle.to_lists.specs.Written.{status, written, framed_fitting}
use Rattle.to_lists.proofs.Stored.{two_stored}
use Rattle.to_lists.proofs.put_framed.Goals as goal

pub returns : goal.returns
unfolding status written framed_fitting
returns g c =
    let k : length (g.T.Real.floats c.args.out.now) ≡ length c.args.out.now =
    rw (g.met.T.Real.floats_law, length-map) in
    rw (k, eq-eqb _ _ c.if-out-ne-POSE.false, eq-eqb _ _ c.if-out_frames-ne-FRAMES.false)
    (record {
      value = refl;
      out_frames_after =
          rw (
            c.to_numbers.ensures,
            two_stored c.args.out_frames.now c.args.x.from c.args.x.to
                c.if-out_frames-ne-FRAMES.false,
          ) refl;
    })
