-- `job::records` meets its contract: each turn preserves the definition's value, and each exit is the definition's.
-- Assumes nothing.
use native.Mathlib.Omega.{arith}
use Prim.Native.Nat.{◌-◌}
use mathlib.Core.Path.{◌≡◌, refl, sym, ap, ◌∙◌}
use lib.ListN.{length, take, drop}
use lib.Dec.{ltb}
use mathlib.Core.Bool.{cond}
use Rattle.job_state.specs.State.{state_of}
use Rattle.job.specs.Job.{standing, job_limit}
use Rattle.job.specs.declared.Counts.{Counts}
use Rattle.job.proofs.Turns.{counted_begun}
use Rattle.record_result.specs.RecordResult.{longest}
use Rattle.marks.specs.Marks.{behind_of}
use Rattle.job.proofs.Steps.{Turn, left-full, place-few, lost-few, round, round-to, left_at}
use Rattle.job.proofs.Dispatched.{dispatched}
use Rattle.job.proofs.Lent.{Leaves, left-from, kept_full, kept_round, kept_at}
use Rattle.job.proofs.records.Goals as goal
use Rattle.job.proofs.records.Goals.{After-reply-dispatched, After-stop-2}

-- ---- the reply to a turn's record, and the state after it
turn :
    (c : After-reply-dispatched) →
    Turn job_limit c.args.input.now c.args.last (standing c.args.c0 (state_of c.args.state.now)) c.args.out.now
    (standing c.loop.c (state_of c.loop.state)) c.loop.out
    c.loop.at c.loop.to c.reply-dispatched.result.step
    c.reply-dispatched.result.row c.reply-dispatched.new.out (state_of c.reply-dispatched.new.state)
turn c =
    let e = c.reply-dispatched.ensures in
    dispatched c.loop.state c.loop.invariant.0 (λ full. omega (arith, full, c.loop-test.true, c.loop.invariant.1.1))
    c.reply-dispatched.result.step c.reply-dispatched.result.row
    c.reply-dispatched.new.out c.reply-dispatched.new.state e.handled e.row_value

behind :
    (c : After-reply-dispatched) →
    c.reply-dispatched.new.state
    ≡ cond (ltb (length (take (length c.loop.out - c.loop.to) (drop c.loop.to c.loop.out))) longest) c.loop.state
    (behind_of c.loop.state (take (length c.args.input.now - c.loop.at) (drop c.loop.at c.args.input.now)))
behind c = c.reply-dispatched.ensures.handled.kept_after

pub count-requires-clause-row_lt_row_count : goal.count-requires-clause-row_lt_row_count
count-requires-clause-row_lt_row_count c =
    place-few (turn (goal.at.count-requires-clause-row_lt_row_count c).After-reply-dispatched)

pub overflow_add-at : goal.overflow_add-at
overflow_add-at c =
    let t = turn (goal.at.overflow_add-at c).After-reply-dispatched in
    let next = round t c.in-Took.disposition c.in-Took.used c.in-Took.written c.in-Took.is in
    omega (arith, next.inside, c.well_formed)

pub overflow_add-to : goal.overflow_add-to
overflow_add-to c =
    let t = turn (goal.at.overflow_add-to c).After-reply-dispatched in
    let next = round t c.in-Took.disposition c.in-Took.used c.in-Took.written c.in-Took.is in
    omega (arith, next.room, next.kept, c.well_formed)

pub loop-preserved : goal.loop-preserved
loop-preserved c =
    let t = turn (goal.at.loop-preserved c).After-reply-dispatched in
    let b = behind (goal.at.loop-preserved c).After-reply-dispatched in
    let d = c.count.ensures in
    let begun = ap (λ (k : Counts). k.totals.begun) d
    ∙ counted_begun c.in-Took.disposition c.reply-dispatched.result.row c.loop.c in (
      round-to t c.in-Took.disposition c.in-Took.used c.in-Took.written c.in-Took.is _ d,
      (
        kept_round t c.args.state.now c.loop.state
            c.reply-dispatched.new.state refl b
            c.loop.invariant.1.0
            c.in-Took.disposition c.in-Took.used c.in-Took.written c.in-Took.is _ d,
        omega (arith, begun, c.loop.invariant.1.1),
      ),
    )

pub stop-requires : goal.stop-requires
stop-requires c =
    let t = turn (goal.at.stop-requires c).After-reply-dispatched in record {
      sound = c.loop.invariant.0.sound;
      lost_in_rows = rw c.end_at-reason.ensures (lost-few c.reply-dispatched.result.step c.args.last _ (place-few t));
    }

pub returns-in_default : goal.returns-in_default
returns-in_default c =
    let t = turn (goal.at.returns-in_default c).After-reply-dispatched in
    let b = behind (goal.at.returns-in_default c).After-reply-dispatched in
    left-from job_limit c.args.input.now c.args.last c.args.state.now c.args.out.now c.args.c0
    (left_at t c.reply-dispatched.result.step refl c.in_default.not-Took c.stop.result
    (rw c.end_at-reason.ensures at c.stop.ensures))
    (kept_at t c.args.state.now c.loop.state c.reply-dispatched.new.state refl b c.loop.invariant.1.0
    c.reply-dispatched.result.step refl c.in_default.not-Took)

-- ---- the loop has ended at the limit
full :
    (c : After-stop-2) →
    Leaves job_limit c.args.input.now c.args.last c.args.c0 c.args.state.now c.args.out.now c.stop-2.result c.loop.out
    c.loop.state
full c =
    let few = c.loop.invariant.0.sound.few in
    let all : c.loop.c.totals.begun ≡ job_limit = omega (arith, few, c.loop-test.false, c.loop.invariant.1.1) in
    left-from job_limit c.args.input.now c.args.last c.args.state.now c.args.out.now c.args.c0
    (left-full c.loop.invariant.0 c.stop-2.result c.stop-2.ensures all)
    (let z : job_limit - c.loop.c.totals.begun ≡ 0 = omega (arith, all) in
    sym (c.loop.invariant.1.0 ∙ rw z (kept_full c.loop.state _ _)))

pub returns-clause-value : goal.returns-clause-value
returns-clause-value c = (full c).value

pub returns-clause-out_after : goal.returns-clause-out_after
returns-clause-out_after c = (full c).out_after

pub returns-clause-kept_after : goal.returns-clause-kept_after
returns-clause-kept_after c = (full c).kept_after

pub returns-clause-state_after : goal.returns-clause-state_after
returns-clause-state_after c = (full c).state_after
