-- `job::feed` meets its contract: it returns unsound counts unchanged, and else runs the loop and writes the end.
-- Assumes nothing.
use borrow.Author.Rules.{rules}
use native.Mathlib.Omega.{arith}
use mathlib.Core.Path.{refl, sym, ◌∙◌}
use lib.ListN.{length}
use Rattle.job_state.specs.State.{state_of}
use Rattle.job.specs.Job.{standing, job_limit}
use Rattle.job.proofs.Pieces.{sound_is, feed_bad, Looped, feed_room, feed_uses, feed_within, feed_viewed, feed_wrote}
use Rattle.job.proofs.Pieces.{feed_left, kept_bad, kept_good}
use Rattle.job.proofs.feed.Goals as goal
use Rattle.job.proofs.feed.Goals.{After-records-l}

-- what is known after the loop has returned
looped :
    (c : After-records-l) →
    Looped job_limit (standing c.args.c (state_of c.args.state.now)) c.args.input.now c.args.last
    c.args.out.now c.records-l.result c.records-l.new.out (state_of c.records-l.new.state)
looped c = record {
  good = sym c.sound.ensures ∙ c.if-not-sound.false;
  view = c.records-l.ensures.value;
  wrote = c.records-l.ensures.out_after;
  left = c.records-l.ensures.state_after;
}

pub returns-then-not-sound : goal.returns-then-not-sound
returns-then-not-sound c =
    let a = c.args in
    let bad = sym c.sound.ensures ∙ c.if-not-sound.true in
    let f = feed_bad job_limit (standing a.c (state_of a.state.now)) a.input.now a.last (length a.out.now) bad in
    rw c.leave.ensures
    (record {
      result_value = rw f refl;
      out_after = rw f refl;
      kept_after = sym (kept_bad a.c a.state.now a.input.now _ bad);
      state_after = rw f refl;
      in_bounds = search rules;
    })

pub records-l-requires : goal.records-l-requires
records-l-requires c = record { sound = sound_is job_limit c.args.c (sym c.sound.ensures ∙ c.if-not-sound.false) }

pub close-n-requires : goal.close-n-requires
close-n-requires c =
    let k = looped (goal.at.close-n-requires c).After-records-l in
    feed_room k

pub overflow_add-result : goal.overflow_add-result
overflow_add-result c =
    let k = looped (goal.at.overflow_add-result c).After-records-l in
    let within = feed_within k in omega (arith, c.close-n.ensures.value, within, c.well_formed)

pub returns : goal.returns
returns c =
    let k = looped (goal.at.returns c).After-records-l in
    let n = c.close-n in
    record {
      result_value = feed_viewed k n.result n.ensures.value;
      out_after = feed_wrote k n.result n.new.out n.ensures.value n.ensures.out_after;
      kept_after =
          c.records-l.ensures.kept_after ∙ sym (kept_good c.args.c c.args.state.now c.args.input.now _ k.good);
      state_after = feed_left k;
      in_bounds = (feed_uses k, rw n.ensures.value (feed_within k));
    }
