-- The result of `reply` for the next record, as the record loop reads it. Assumes nothing.
use Prim.Native.Nat.{ℕ, ◌-◌}
use mathlib.Core.Path.{◌≡◌}
use mathlib.Core.Bool.{Bool}
use mathlib.Core.List.{List}
use lib.ListN.{length, take, drop}
use Rattle.record_result.specs.declared.Step.{Step}
use Rattle.job_state.specs.State.{state_of}
use Rattle.job_state.specs.declared.JobState.{JobState}
use Rattle.job_state.specs.Records.{Handled}
use Rattle.marks.specs.Marks.{by_table}
use Rattle.marks.specs.Rows.{row_at}
use Rattle.job.specs.declared.Counts.{Counts}
use Rattle.job.specs.Job.{Standing, standing}
use Rattle.job.proofs.Loop.{Going}
use Rattle.job.proofs.Steps.{Turn}

-- one turn of the loop, where m is the state
pub dispatched :
    {limit : ℕ} {input : List ℕ} {last : Bool} {j₀ : Standing} {out₀ : List ℕ} {d : Counts} {out : List ℕ}
    {at to : ℕ} (m : JobState) →
    Going limit input last j₀ out₀ (standing d (state_of m)) out at to → (d.totals.begun ≡ limit → ⊥) →
    (q : Step) (p : ℕ) (R : List ℕ) (m' : JobState) →
    let s = take (length input - at) (drop at input) in
    let o = take (length out - to) (drop to out) in
    Handled by_table m s o q R m' → p ≡ row_at s →
    Turn limit input last j₀ out₀ (standing d (state_of m)) out at to q p R (state_of m')
dispatched m g few q p R m' h place = record {
  going = g;
  few = few;
  view = h.result_value;
  wrote = h.out_after;
  place = place;
  left = h.state_after;
}
