-- `sim3_c_doubles::join::sim3_running_start` meets its contract: it writes zeros, or refuses a wrong length. Assumes
-- nothing.
use borrow.Author.Tests.{eq-eqb}
use lib.Ieee.{of_bits}
use Rattle.to_lists.specs.Written.{written}
use Rattle.sim3_c_doubles.specs.Join.{run_lists, run_fitting, start_call}
use Rattle.sim3_c_doubles.proofs.Zeros.{zero_numbers, zero_state}
use Rattle.sim3_c_doubles.proofs.join.sim3_running_start.Goals as goal

pub returns-clause-state_after : goal.returns-clause-state_after
unfolding written run_fitting start_call of_bits
returns-clause-state_after c =
    let numbers = zero_numbers c.args.pose.now _ c.if-pose-ne-POSE.false (c.fill.ensures.after (λ y e. e)) in
    let state = zero_state c.args.state.now _ c.if-state-ne-STATE.false (c.fill-2.ensures.after (λ y e. e)) in
    rw (eq-eqb _ _ c.if-pose-ne-POSE.false, eq-eqb _ _ c.if-state-ne-STATE.false) (λ i. run_lists (numbers i) (state i))
