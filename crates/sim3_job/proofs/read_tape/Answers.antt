-- `sim3_job::read_tape` meets its contract: it copies a piece of the tape after the bytes at hand, and the piece is
-- empty only at the tape's end. Assumes nothing.
use native.Mathlib.Omega.{arith}
use borrow.Author.Tests.{eqb-true}
use Prim.Native.Nat.{◌+◌, ◌-◌}
use mathlib.Core.Path.{◌≡◌, refl}
use lib.ListN.{take, drop, length-drop}
use lib.Seq.{length-take-le}
use Rattle.sim3_job.proofs.Underway.{filled_front, given-count, given-ended}
use Rattle.sim3_job.proofs.read_tape.Goals as goal

pub returns : goal.returns
returns c =
    let a = c.args in
    let n = c.piece-count.result in
    let p = c.piece-count.ensures in
    let m = c.min.ensures in
    let s : a.at + n - a.at ≡ n = omega arith in
    rw (c.given.ensures, given-count n, given-ended n)
    (record {
      within = (omega (arith, p.upper_bound, m), omega (arith, p.upper_bound, m), λ u. refl);
      from_tape = (
        refl,
        rw (c.copy_from_slice.ensures.after, s)
            (filled_front a.buf.now (take n (drop a.at a.tape.now)) _ a.have n
            (omega (arith, c.requires.have_in_bounds))
            (length-take-le n (drop a.at a.tape.now) (omega (arith, length-drop a.at a.tape.now, p.upper_bound, m)))),
        λ u v. let z : n ≡ 0 = eqb-true _ _ u in omega (arith, p.most_value z, z, m),
      );
    })
