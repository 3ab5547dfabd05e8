-- `pairs::recurrence::levels_below` meets its contract: the loop holds `pair_steps` at an even j with -p for p, and
-- ends at n, which is even. Assumes nothing.
use mathlib.Core.Path.{◌≡◌}
use Prim.Native.Nat.{◌+◌}
use native.Mathlib.Omega.{arith}
use Rattle.std.proofs.Common.{rules}
use Rattle.pairs.specs.Private.{pair_steps}
use Rattle.pairs.proofs.Minus.{steps_twice}
use Rattle.pairs.proofs.Pairs.{two_more}
use Rattle.pairs.proofs.recurrence.levels_below.Goals.{else-loop-j-test, then-loop-j-test+else-n-j-gt2}
use Rattle.pairs.proofs.recurrence.levels_below.Goals as goal

pub loop-j-init : goal.loop-j-init
unfolding pair_steps
loop-j-init g c = search rules

pub loop-j-preserved : goal.loop-j-preserved
loop-j-preserved g c = search (rules, steps_twice, two_more)

pub returns : goal.returns
returns g c =
    elim c.loop-j-test.branch [
      | else-loop-j-test w ↦
          let e : c.args.n ≡ c.loop-j.j = omega arith in
          rw e (search (rules, steps_twice))
      | then-loop-j-test+else-n-j-gt2 w ↦
          let e : c.args.n ≡ c.loop-j.j + 2 = omega arith in
          rw e (search (rules, steps_twice, two_more))
    ]
