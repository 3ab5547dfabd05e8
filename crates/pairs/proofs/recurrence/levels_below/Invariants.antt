-- `pairs::recurrence::levels_below` meets its contract: the loop holds `pair_steps` at an even j with -p for p, and
-- ends at n, which is even. Assumes nothing.
use mathlib.Core.Path.{◌≡◌}
use Prim.Native.Nat.{◌-◌, ◌%◌, ◌≤◌}
use Rattle.pairs.specs.Private.{pair_steps, state_minus}
use Rattle.pairs.specs.Floats.{as_series_pair_state}
use Rattle.pairs.proofs.recurrence.levels_below.Given as goal

abbrev pub invariant-loop-j : goal.invariant-loop-j
invariant-loop-j g l =
    (l.j ≤ l.n) × (l.j % 2 ≡ 0)
    × (as_series_pair_state g.T.Real.float l.s ≡ state_minus
    (pair_steps g.T.Real.format (g.T.Real.float l.sigma) (g.T.Real.float l.z) l.j))

abbrev pub decreases-loop-j : goal.decreases-loop-j
decreases-loop-j g l = l.n - l.j
