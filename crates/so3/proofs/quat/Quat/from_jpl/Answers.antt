-- `so3::quat::Quat::from_jpl` meets its contract: each component is the entry at its place, negated except for w, and
-- every place is below 4. Assumes nothing.
use Rattle.std.proofs.Common.{arith}
use Rattle.so3.proofs.Entry.{number_at}
use Rattle.so3.specs.Quat.{quat_of_jpl, quat_conjugate, quat_of_xyzw}
use Rattle.so3.proofs.quat.Quat.from_jpl.Goals as goal

pub returns : goal.returns
unfolding quat_of_jpl quat_conjugate quat_of_xyzw
returns g c =
    let real = g.met.T.Real in
    let at = number_at g.T.Real.float c.args.a in
    simp (
      real.neg_law _ _ c.neg.ensures,
      real.neg_law _ _ c.neg-2.ensures,
      real.neg_law _ _ c.neg-3.ensures,
      at 0 (omega arith),
      at 1 (omega arith),
      at 2 (omega arith),
      at 3 (omega arith),
    )
