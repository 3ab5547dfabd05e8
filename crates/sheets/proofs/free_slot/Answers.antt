-- `sheets::free_slot` meets its contract: a sheet owns each slot before the current one. Assumes nothing.
use borrow.Author.Rules.{rules}
use native.Mathlib.Omega.{arith}
use mathlib.Core.Path.{◌≡◌, sym, ◌∙◌}
use Rattle.sheets.specs.Store.{sheet_in}
use Rattle.sheets.proofs.Own.{search_start, search_none, search_free, search_next}
use Rattle.sheets.proofs.free_slot.Goals as goal

pub loop-number-init : goal.loop-number-init
loop-number-init c = search_start c.args.store.now

pub returns-then-slot_of-number : goal.returns-then-slot_of-number
unfolding sheet_in
returns-then-slot_of-number c =
    let at : c.short_at-sheet.result ≡ sheet_in c.args.store.now c.loop-number.number =
    rw c.start.ensures at c.short_at-sheet.ensures in
    search_free c.args.store.now c.loop-number.number c.loop-number-test.true
    c.loop-number.invariant c.short_at-sheet.result at (λ e. c.if-slot_of-number.true (c.slot_of.ensures ∙ e))

pub loop-number-preserved : goal.loop-number-preserved
unfolding sheet_in
loop-number-preserved c =
    let at : c.short_at-sheet.result ≡ sheet_in c.args.store.now c.loop-number.number =
    rw c.start.ensures at c.short_at-sheet.ensures in
    search_next c.args.store.now c.loop-number.number c.loop-number-test.true
    c.loop-number.invariant c.short_at-sheet.result at (search rules) c.requires
    (sym c.slot_of.ensures ∙ c.if-slot_of-number.false)

pub returns : goal.returns
returns c =
    let e : c.loop-number.number ≡ 512 = omega (arith, c.loop-number-test.false, c.loop-number.auto) in
    sym e ∙ search_none c.args.store.now c.loop-number.number (omega (arith, e))
    (omega (arith, e)) c.loop-number.invariant
