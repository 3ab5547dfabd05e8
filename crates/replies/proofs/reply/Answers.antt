-- `replies::reply` meets its contract: it returns a cut record and an output without room as such; else it stores the
-- mark or NO before what the operation wrote. Assumes nothing.
use native.Mathlib.Omega.{arith}
use Prim.Native.Nat.{ℕ, ◌+◌, ◌-◌, ◌≤◌, ◌<◌}
use mathlib.Core.Path.{◌≡◌, ap}
use mathlib.Core.List.{List}
use lib.Ieee.{Format}
use lib.ListN.{length, take, drop}
use lib.Seq.{sets}
use Rattle.std.specs.Prelude.{Ok, Err}
use Rattle.linalg.specs.Answer.{Answer, answer, number}
use Rattle.record_result.specs.RecordResult.{longest, written_answer, answer_bytes}
use Rattle.record_result.specs.declared.Operation.{Operation}
use Rattle.record_result.specs.declared.Wrote.{Wrote}
use Rattle.record_result.proofs.Record.{reply-cut, reply-roomless}
use Rattle.replies.specs.Table.{width_of, answer_of, operation_reply}
use Rattle.replies.proofs.Replies.{width-most, Given, given_most, given_wrote, given_refused}
use Rattle.replies.proofs.reply.Goals as goal

given :
    (f : Format) (e : Operation) (s out R : List ℕ) (w : ℕ) (g : Answer Wrote) → w ≡ width_of f e → 2 + w ≤ length s →
    longest ≤ length out →
    let p = written_answer f (answer_of f e (take (2 + w - 2) (drop 2 s))) in
    let q = answer_bytes f (answer_of f e (take (2 + w - 2) (drop 2 s))) in
    g ≡ p → R ≡ sets (take (length out - 2) (drop 2 out)) 0 q → Given f e s out g R
given f e s out R w g h whole room view stored =
    let n : 2 + w - 2 ≡ width_of f e = omega arith in
    record {
      whole = omega arith;
      room = room;
      view = rw n at view;
      stored = rw n at stored;
    }

pub overflow_add-end : goal.overflow_add-end
overflow_add-end g c = omega (arith, c.width-end.ensures, width-most g.T.Real.format c.args.e)

pub returns-then-s-end : goal.returns-then-s-end
returns-then-s-end g c =
    let f = g.T.Real.format in
    let a = c.args in
    let h : length a.s.now < 2 + width_of f a.e = omega (arith, c.width-end.ensures, c.if-s-end.true) in
    let t = reply-cut (length a.out.now) (2 + width_of f a.e) (operation_reply f a.e) a.s.now h in
    record {
      result_value = t.0;
      out_after = ap (sets a.out.now 0) t.1;
    }

pub returns-then-out-lt-LONGEST : goal.returns-then-out-lt-LONGEST
returns-then-out-lt-LONGEST g c =
    let f = g.T.Real.format in
    let a = c.args in
    let h : 2 + width_of f a.e ≤ length a.s.now = omega (arith, c.width-end.ensures, c.if-s-end.false) in
    let t = reply-roomless (length a.out.now) (2 + width_of f a.e)
    (operation_reply f a.e) a.s.now h c.if-out-lt-LONGEST.true in
    record {
      result_value = t.0;
      out_after = ap (sets a.out.now 0) t.1;
    }

pub overflow_add-result : goal.overflow_add-result
overflow_add-result g c =
    let f = g.T.Real.format in
    let e : c.give.result ≡ Ok c.in-Ok.wrote = c.in-Ok.is in
    let k = given f c.args.e c.args.s.now c.args.out.now _ _ _ c.width-end.ensures c.if-s-end.false
    c.if-out-lt-LONGEST.false c.give.ensures.value c.give.ensures.out_after in
    omega (arith, given_most k c.in-Ok.wrote (ap answer e))

pub returns-in-Ok : goal.returns-in-Ok
returns-in-Ok g c =
    let f = g.T.Real.format in
    let e : c.give.result ≡ Ok c.in-Ok.wrote = c.in-Ok.is in
    let k = given f c.args.e c.args.s.now c.args.out.now _ _ _ c.width-end.ensures c.if-s-end.false
    c.if-out-lt-LONGEST.false c.give.ensures.value c.give.ensures.out_after in
    let p = given_wrote k c.in-Ok.wrote (ap answer e) in
    rw c.width-end.ensures
    (record {
      result_value = p.0;
      out_after = p.1;
    })

pub returns-in-Err : goal.returns-in-Err
returns-in-Err g c =
    let f = g.T.Real.format in
    let e : c.give.result ≡ Err c.in-Err.refusal = c.in-Err.is in
    let k = given f c.args.e c.args.s.now c.args.out.now _ _ _ c.width-end.ensures c.if-s-end.false
    c.if-out-lt-LONGEST.false c.give.ensures.value c.give.ensures.out_after in
    let p = given_refused k (number c.in-Err.refusal) (ap answer e) in
    rw (c.width-end.ensures, c.number.ensures)
    (record {
      result_value = p.0;
      out_after = p.1;
    })
