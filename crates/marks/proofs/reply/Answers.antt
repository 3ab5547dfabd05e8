-- `marks::reply` meets its contract: by the length of the input, by its mark, and by the rule of the mark. Assumes
-- nothing.
use native.Mathlib.Omega.{arith}
use mathlib.Core.Path.{refl, sym, ap, ◌∙◌}
use lib.Ieee.{binary32, binary64}
use Rattle.record_result.specs.declared.Step.TheVariants as step
use Rattle.record_result.specs.RecordResult.{ended, unknown, cut, record_result, written_of}
use Rattle.marks.specs.Marks.{look_up_view}
use Rattle.std.specs.Prelude.{Some}
use Rattle.marks.proofs.Heads.{found_none, found-half, found-unknown, behind_short, behind_unknown}
use Rattle.marks.proofs.Heads.{met_still, met_by_lem, operation-view}
use Rattle.marks.proofs.Rows.{row-short, row-unknown, row_mark}
use Rattle.marks.proofs.reply.Goals as goal

pub returns-then-s-eq0 : goal.returns-then-s-eq0
unfolding record_result written_of
returns-then-s-eq0 c =
    let a = c.args in
    let t = met_still a.state.now a.s.now a.out.now ended
    (found_none _ a.s.now c.if-s-eq0.true) (behind_short _ a.s.now c.if-s-lt2.true) step.End refl refl in
    rw c.dispatch.ensures
    (record { handled = t; row_value = row-short a.s.now c.if-s-lt2.true })

pub returns-then-s-lt2 : goal.returns-then-s-lt2
unfolding record_result written_of
returns-then-s-lt2 c =
    let a = c.args in
    let t = met_still a.state.now a.s.now a.out.now cut
    (found-half _ a.s.now (omega (arith, c.if-s-lt2.true, c.if-s-eq0.false)))
    (behind_short _ a.s.now c.if-s-lt2.true) step.Cut refl refl in
    rw c.dispatch-then-s-lt2.ensures
    (record { handled = t; row_value = row-short a.s.now c.if-s-lt2.true })

pub returns-in_default : goal.returns-in_default
unfolding record_result written_of
returns-in_default c =
    let a = c.args in
    let none = sym c.look_up.ensures ∙ ap look_up_view c.in_default.is in
    let t = met_still a.state.now a.s.now a.out.now unknown
    (found-unknown _ a.s.now (omega arith) none)
    (behind_unknown _ a.s.now (omega arith) none) step.Unknown refl refl in
    rw c.dispatch-in_default.ensures
    (record { handled = t; row_value = row-unknown a.s.now (omega arith) none })

pub returns-in-Double : goal.returns-in-Double
returns-in-Double c =
    let a = c.args in
    let p = c.in-Some.place in
    let listed = sym c.look_up.ensures ∙ ap look_up_view (c.in-Some.is ∙ ap (λ m. Some (m, p)) c.in-Double.is) in
    let view = operation-view binary64 c.in-Double.e a.state.now a.s.now a.out.now
    c.reply.result _ c.reply.ensures.result_value c.reply.ensures.out_after in
    let t = met_by_lem a.state.now a.s.now a.out.now _ (omega arith) listed c.reply.result _ _ view in
    rw c.dispatch-in-Double.ensures
    (record { handled = t; row_value = row_mark a.s.now _ (omega arith) listed })

pub returns-in-Single : goal.returns-in-Single
returns-in-Single c =
    let a = c.args in
    let p = c.in-Some.place in
    let listed = sym c.look_up.ensures ∙ ap look_up_view (c.in-Some.is ∙ ap (λ m. Some (m, p)) c.in-Single.is) in
    let view = operation-view binary32 c.in-Single.e a.state.now a.s.now a.out.now
    c.reply-in-Single.result _ c.reply-in-Single.ensures.result_value
    c.reply-in-Single.ensures.out_after in
    let t = met_by_lem a.state.now a.s.now a.out.now _ (omega arith) listed c.reply-in-Single.result _ _ view in
    rw c.dispatch-in-Single.ensures
    (record { handled = t; row_value = row_mark a.s.now _ (omega arith) listed })

pub returns-in-Ch : goal.returns-in-Ch
returns-in-Ch c =
    let a = c.args in
    let p = c.in-Some.place in
    let listed = sym c.look_up.ensures ∙ ap look_up_view (c.in-Some.is ∙ ap (λ m. Some (m, p)) c.in-Ch.is) in
    let t = met_by_lem a.state.now a.s.now a.out.now _ (omega arith) listed c.ch.result _ _ c.ch.ensures in
    rw c.dispatch-in-Ch.ensures
    (record { handled = t; row_value = row_mark a.s.now _ (omega arith) listed })

pub returns-in-Rn : goal.returns-in-Rn
returns-in-Rn c =
    let a = c.args in
    let p = c.in-Some.place in
    let listed = sym c.look_up.ensures ∙ ap look_up_view (c.in-Some.is ∙ ap (λ m. Some (m, p)) c.in-Rn.is) in
    let t = met_by_lem a.state.now a.s.now a.out.now _ (omega arith) listed c.rn.result _ _ c.rn.ensures in
    rw c.dispatch-in-Rn.ensures
    (record { handled = t; row_value = row_mark a.s.now _ (omega arith) listed })

pub returns-in-Sh : goal.returns-in-Sh
returns-in-Sh c =
    let a = c.args in
    let p = c.in-Some.place in
    let listed = sym c.look_up.ensures ∙ ap look_up_view (c.in-Some.is ∙ ap (λ m. Some (m, p)) c.in-Sh.is) in
    let t = met_by_lem a.state.now a.s.now a.out.now _ (omega arith) listed c.sh.result _ _ c.sh.ensures in
    rw c.dispatch-in-Sh.ensures
    (record { handled = t; row_value = row_mark a.s.now _ (omega arith) listed })

pub returns-in-Sq : goal.returns-in-Sq
returns-in-Sq c =
    let a = c.args in
    let p = c.in-Some.place in
    let listed = sym c.look_up.ensures ∙ ap look_up_view (c.in-Some.is ∙ ap (λ m. Some (m, p)) c.in-Sq.is) in
    let t = met_by_lem a.state.now a.s.now a.out.now _ (omega arith) listed c.sq.result _ _ c.sq.ensures in
    rw c.dispatch-in-Sq.ensures
    (record { handled = t; row_value = row_mark a.s.now _ (omega arith) listed })
