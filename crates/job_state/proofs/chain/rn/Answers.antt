-- `job_state::chain::rn` meets its contract: a record that is not taken changes nothing; else its bytes are read.
-- Assumes nothing.
use native.Mathlib.Omega.{arith}
use Rattle.job_state.specs.Chain.{rn_rule}
use Rattle.job_state.proofs.Records.{handled_left, own_length}
use Rattle.job_state.proofs.Lent.{rn-whole}
use Rattle.job_state.proofs.chain.rn.Goals as goal

pub renew-requires : goal.renew-requires
renew-requires c = record {
  b_value = own_length _ _ _ _ (omega arith) c.in-Ok.ensures;
  longest_in_bounds = c.in-Ok.ensures.room;
}

pub returns-in-Ok : goal.returns-in-Ok
returns-in-Ok c =
    let a = c.args in
    let w = c.renew.ensures in
    rn-whole a.state.now a.s.now a.out.now c.in-Ok.b.now c.in-Ok.ensures c.renew.result _ _ w.result_value w.out_after
    w.running_after

pub returns-in-Err : goal.returns-in-Err
returns-in-Err c = let a = c.args in handled_left rn_rule a.state.now a.s.now a.out.now c.in-Err.step c.in-Err.ensures
