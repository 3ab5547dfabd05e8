-- `job_state::retakes::sh` meets its contract: a record that is not taken changes nothing; else its bytes are stored.
-- Assumes nothing.
use native.Mathlib.Omega.{arith}
use Rattle.job_state.specs.Retakes.{sh_rule}
use Rattle.job_state.proofs.Records.{handled_left, own_length}
use Rattle.job_state.proofs.Shelf.{sh-whole}
use Rattle.job_state.proofs.retakes.sh.Goals as goal

pub shelve-requires : goal.shelve-requires
shelve-requires c = record {
  b_value = own_length _ _ _ _ (omega arith) c.in-Ok.ensures;
  longest_in_bounds = c.in-Ok.ensures.room;
}

pub returns-in-Ok : goal.returns-in-Ok
returns-in-Ok c =
    let a = c.args in
    let w = c.shelve.ensures in
    sh-whole a.state.now a.s.now a.out.now c.in-Ok.b.now c.in-Ok.ensures c.shelve.result _ _ w.result_value w.out_after
    w.store_after w.sheets_after

pub returns-in-Err : goal.returns-in-Err
returns-in-Err c = let a = c.args in handled_left sh_rule a.state.now a.s.now a.out.now c.in-Err.step c.in-Err.ensures
