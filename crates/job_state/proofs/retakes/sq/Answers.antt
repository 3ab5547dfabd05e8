-- `job_state::retakes::sq` meets its contract: a record that is not taken returns why; else the sheet is looked up.
-- Assumes nothing.
use native.Mathlib.Omega.{arith}
use Rattle.job_state.specs.Retakes.{sq_rule}
use Rattle.job_state.proofs.Records.{handled_left, own_length}
use Rattle.job_state.proofs.Shelf.{sq-whole}
use Rattle.job_state.proofs.retakes.sq.Goals as goal

pub find-requires : goal.find-requires
find-requires c = record {
  b_value = own_length _ _ _ _ (omega arith) c.in-Ok.ensures;
  longest_in_bounds = c.in-Ok.ensures.room;
}

pub returns-in-Ok : goal.returns-in-Ok
returns-in-Ok c =
    let a = c.args in
    let w = c.find.ensures in
    sq-whole a.state.now a.s.now a.out.now c.in-Ok.b.now c.in-Ok.ensures c.find.result _ w.result_value w.out_after

pub returns-in-Err : goal.returns-in-Err
returns-in-Err c =
    let a = c.args in
    handled_left sq_rule a.state.now a.s.now a.out.now c.in-Err.step c.in-Err.ensures
