-- `sim3::tangent::Sim3Tangent::from_dense` meets its contract: each number is the entry at its place, and every place
-- is below 7. Assumes nothing.
use Rattle.std.proofs.Common.{arith}
use Rattle.so3.proofs.Entry.{number_at}
use Rattle.sim3.specs.Tangent.{tangent_from_dense}
use Rattle.sim3.proofs.tangent.Sim3Tangent.from_dense.Goals as goal

pub returns : goal.returns
unfolding tangent_from_dense
returns g c =
    let at = number_at g.T.Real.float c.args.v in
    simp (
      at 0 (omega arith),
      at 1 (omega arith),
      at 2 (omega arith),
      at 3 (omega arith),
      at 4 (omega arith),
      at 5 (omega arith),
      at 6 (omega arith),
    )
