-- `sim3_job::run` meets its contract. From a tape, the bytes in the sink followed by what the job still writes are its
-- output for the whole tape; and each turn brings the end nearer, wherever it reads from.
use borrow.Author.Rules.{rules}
use native.Mathlib.Omega.{arith}
use Prim.Native.Nat.{ℕ, ◌+◌, ◌-◌, ◌≤◌, ◌<◌}
use mathlib.Core.Bool.{Bool, true, false}
use mathlib.Core.Path.{◌≡◌, refl, sym, ap, subst, ◌∙◌}
use mathlib.Core.List.{List, ◌++◌}
use lib.ListN.{length, take}
use Rattle.job.specs.declared.Fed.{Fed}
use Rattle.job_state.specs.State.{state_none, state_of}
use Rattle.job.specs.Job.{standing, job_limit}
use Rattle.job.specs.Feed.{feed_of, goes_on, answer_room}
use Rattle.job.proofs.Input.{input}
use Rattle.std.specs.Prelude.{Err}
use Rattle.sim3_job.specs.declared.RunError.TheVariants.{Unwritten}
use Rattle.sim3_job.specs.Filled.{reads, over}
use Rattle.sim3_job.proofs.Underway.{underway_start, underway_next, underway_feed, underway_done, underway_short}
use Rattle.sim3_job.proofs.Underway.{tape_read, none_by, sink_short, handed}
use Rattle.sim3_job.proofs.Nearer.{to_go, nearer, still_sound, none_sound, asks_more}
use Rattle.sim3_job.proofs.run.Goals as goal

pub loop-read-init : goal.loop-read-init
loop-read-init c =
    let a = c.args in
    let z = c.no_counts-c.ensures in
    let y : state_of c.fresh-state.result ≡ state_none = c.fresh-state.ensures in
    record {
      have_in_bounds = omega arith;
      buf_length = sym c.large_buffer-space.ensures;
      out_length = sym c.large_buffer-room.ensures;
      room_to_read = λ e. omega arith;
      sound = rw z none_sound;
      at_in_bounds = omega arith;
      sent_in_bounds = omega arith;
      sink_length = refl;
      underway = λ e. rw (z, y) (underway_start job_limit a.tape.now a.sink.now);
    }

pub loop-read-smaller : goal.loop-read-smaller
loop-read-smaller c =
    let l = c.loop-read in
    let t = c.feed_once-fed in
    let n = c.unwrap_or-have.result in
    let none = none_by c.in_ok-read.read c.is_none-last.result c.is_none-last.ensures in
    let h = c.in_ok-read.ensures.within in
    let room : answer_room ≤ length l.out = omega (arith, l.invariant.out_length) in
    let fits : l.have + n ≤ 65536 = omega (arith, h.0, l.invariant.buf_length) in
    let view = t.ensures.value in
    let on : goes_on t.result.reason ≡ true = sym c.goes_on.ensures ∙ c.if-not-goes_on.false in
    subst (λ (b : Bool). to_go t.result.counts (l.have + n - t.result.used) b < to_go l.c l.have (reads l.next))
    (sym c.next_after-next.ensures.reads)
    (nearer (standing l.c (state_of l.state)) (take (l.have + n) c.fill.new.buf) (reads l.next) _ l.have n
    (length l.out) t.result
    l.invariant.sound room view on (λ u z. none ∙ h.2 u ∙ rw (← c.unwrap_or-have.ensures, z) refl) fits)

pub loop-read-preserved : goal.loop-read-preserved
loop-read-preserved c =
    let a = c.args in
    let l = c.loop-read in
    let i = l.invariant in
    let f = c.fill in
    let t = c.feed_once-fed in
    let p = c.put in
    let r = c.in_ok-read.read in
    let n = c.unwrap_or-have.result in
    let ended = c.is_none-last.result in
    let end = c.in_ok-end.end in
    let h = c.in_ok-read.ensures.within in
    let buf₁ = f.new.buf in
    let sink₁ = p.new.sink in
    let F = feed_of job_limit (standing l.c (state_of l.state)) (take (l.have + n) buf₁) ended (length l.out) in
    let view = t.ensures.value in
    let wrote = t.ensures.out_after in
    let on : goes_on t.result.reason ≡ true = sym c.goes_on.ensures ∙ c.if-not-goes_on.false in
    record {
      have_in_bounds = omega (arith, h.0, i.buf_length);
      buf_length = t.auto.buf ∙ f.auto.buf ∙ i.buf_length;
      out_length = t.auto.out ∙ i.out_length;
      room_to_read = λ e. t.ensures.used_bound (asks_more _ (sym c.next_after-next.ensures.reads ∙ e));
      sound =
          still_sound (standing l.c (state_of l.state)) (take (l.have + n) buf₁) ended
          (length l.out) t.result i.sound view;
      at_in_bounds = h.1;
      sent_in_bounds = omega (arith, c.in_ok-end.ensures.within_sink, p.auto.sink);
      sink_length = p.auto.sink ∙ i.sink_length;
      underway = λ e.
          let q = tape_read job_limit a.tape.now l.sink (standing l.c (state_of l.state)) r n ended
          l.buf buf₁ (over l.next) l.at l.have l.sent c.unwrap_or-have.ensures (none_by r ended c.is_none-last.ensures)
          (c.in_ok-read.ensures.from_tape e) (i.underway e) in
          let b = handed F.bytes l.out _ t.result.written (ap (λ (x : Fed). x.written) view) wrote in
          let w : take end sink₁ ≡ take l.sent l.sink ++ F.bytes =
          c.in_ok-end.ensures.to_sink e ∙ ap (λ (x : List ℕ). take l.sent l.sink ++ x) b in
          let state : state_of t.new.state ≡ F.standing.state = t.ensures.state_after in
          let stands : standing t.result.counts (state_of t.new.state) ≡ F.standing =
          λ i. standing (ap (λ (x : Fed). x.counts) view i) (state i) in
          rw stands
          (underway_next job_limit a.tape.now sink₁ F.standing _ ended (over c.next_after-next.result) r.at end
          (underway_feed job_limit a.tape.now l.sink (standing l.c (state_of l.state))
          (take (l.have + n) buf₁) ended r.at l.sent q i.sound (length l.out) sink₁ _ end
          t.result view on w t.ensures.buf_after)
          c.next_after-next.ensures.over);
    }

pub returns-in_err-read : goal.returns-in_err-read
returns-in_err-read c =
    let a = c.args in
    let l = c.loop-read in
    record {
      sent_in_bounds = omega (arith, l.invariant.sent_in_bounds, l.invariant.sink_length);
      performed = λ e. absurd (c.in_err-read.ensures.from_tape e);
      input_theorem = input job_limit a.tape.now (λ i. omega (arith, c.type_inv.tape i));
    }

pub returns-in_err-end : goal.returns-in_err-end
returns-in_err-end c =
    let a = c.args in
    let l = c.loop-read in
    let i = l.invariant in
    let f = c.fill in
    let t = c.feed_once-fed in
    let p = c.put in
    let r = c.in_ok-read.read in
    let n = c.unwrap_or-have.result in
    let ended = c.is_none-last.result in
    let buf₁ = f.new.buf in
    let F = feed_of job_limit (standing l.c (state_of l.state)) (take (l.have + n) buf₁) ended (length l.out) in
    let view = t.ensures.value in
    let wrote = t.ensures.out_after in
    record {
      sent_in_bounds = omega (arith, i.sent_in_bounds, i.sink_length);
      performed = λ e.
          let q = tape_read job_limit a.tape.now l.sink (standing l.c (state_of l.state)) r n ended l.buf buf₁
          (over l.next)
          l.at l.have l.sent c.unwrap_or-have.ensures (none_by r ended c.is_none-last.ensures)
          (c.in_ok-read.ensures.from_tape e) (i.underway e) in
          let b = handed F.bytes l.out _ t.result.written (ap (λ (x : Fed). x.written) view) wrote in
          let w = sink_short _ _ l.sink _ l.sent (c.in_err-end.ensures.to_sink e) in
          let s = underway_short job_limit a.tape.now l.sink (standing l.c (state_of l.state))
          (take (l.have + n) buf₁) ended r.at l.sent q i.sound (length l.out)
          i.sent_in_bounds (omega (arith, w.1.1, ap length b)) in
          let z : c.from_residual-in_err-end.result ≡ Err Unwritten = search (rules, w.0) in
          rw z (omega (arith, s.0, i.sink_length), rw w.1.0 s.1);
      input_theorem = input job_limit a.tape.now (λ i. omega (arith, c.type_inv.tape i));
    }

pub returns-then-not-goes_on : goal.returns-then-not-goes_on
returns-then-not-goes_on c =
    let a = c.args in
    let l = c.loop-read in
    let i = l.invariant in
    let f = c.fill in
    let t = c.feed_once-fed in
    let p = c.put in
    let r = c.in_ok-read.read in
    let n = c.unwrap_or-have.result in
    let ended = c.is_none-last.result in
    let end = c.in_ok-end.end in
    let buf₁ = f.new.buf in
    let sink₁ = p.new.sink in
    let F = feed_of job_limit (standing l.c (state_of l.state)) (take (l.have + n) buf₁) ended (length l.out) in
    let view = t.ensures.value in
    let wrote = t.ensures.out_after in
    let off : goes_on t.result.reason ≡ false = sym c.goes_on.ensures ∙ c.if-not-goes_on.true in
    record {
      sent_in_bounds = omega (arith, c.in_ok-end.ensures.within_sink, i.sink_length);
      performed = λ e.
          let q = tape_read job_limit a.tape.now l.sink (standing l.c (state_of l.state)) r n ended l.buf buf₁
          (over l.next)
          l.at l.have l.sent c.unwrap_or-have.ensures (none_by r ended c.is_none-last.ensures)
          (c.in_ok-read.ensures.from_tape e) (i.underway e) in
          let b = handed F.bytes l.out _ t.result.written (ap (λ (x : Fed). x.written) view) wrote in
          let w : take end sink₁ ≡ take l.sent l.sink ++ F.bytes =
          c.in_ok-end.ensures.to_sink e ∙ ap (λ (x : List ℕ). take l.sent l.sink ++ x) b in
          underway_done job_limit a.tape.now l.sink (standing l.c (state_of l.state))
          (take (l.have + n) buf₁) ended r.at l.sent q i.sound
          (length l.out) sink₁ end t.result view off w;
      input_theorem = input job_limit a.tape.now (λ i. omega (arith, c.type_inv.tape i));
    }
