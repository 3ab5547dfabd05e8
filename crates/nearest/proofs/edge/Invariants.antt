-- `nearest::edge` meets its contract: the invariant is what is known when the patterns from `from` to `to` are left,
-- and the measure is how many there are. Assumes nothing.
use Prim.Native.Nat.{◌-◌}
use Rattle.ieee.specs.Patterns.{patterns}
use Rattle.nearest.specs.Nearest.{arm_at}
use Rattle.nearest.proofs.Halving.{Left}
use Rattle.nearest.proofs.edge.Given as goal

abbrev pub invariant-loop-from : goal.invariant-loop-from
invariant-loop-from g l =
    let r = g.T.Real in Left (arm_at r.format (r.float l.sigma)) (patterns r.format) l.a l.from l.to

abbrev pub decreases-loop-from : goal.decreases-loop-from
decreases-loop-from g l = l.to - l.from
