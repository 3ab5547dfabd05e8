-- `series::sim3::levels_to` meets its contract: after j turns the loop holds `solo_steps` at j. Assumes nothing.
use mathlib.Core.Path.{◌≡◌}
use Rattle.series.specs.Private.{solo_steps}
use Rattle.series.specs.Floats.{as_series_state}
use Rattle.series.proofs.sim3.levels_to.Given as goal

abbrev pub invariant-loop-j : goal.invariant-loop-j
invariant-loop-j g l =
    as_series_state g.T.Real.float l.s ≡ solo_steps g.T.Real.format (g.T.Real.float l.sigma) (g.T.Real.float l.z) l.j
