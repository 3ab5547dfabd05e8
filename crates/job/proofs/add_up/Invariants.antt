-- `job::add_up` meets its contract: after i turns it has subtracted the sum of the first i counts. Assumes nothing.
use mathlib.Core.Path.{◌≡◌}
use Prim.Native.Nat.{◌+◌}
use lib.ListN.{take}
use Rattle.job.specs.Counts.{total}
use Rattle.job.proofs.add_up.Given as goal

abbrev pub invariant-loop-x : goal.invariant-loop-x
invariant-loop-x l = total (take l.x-index l.x-items) + l.left ≡ l.n
