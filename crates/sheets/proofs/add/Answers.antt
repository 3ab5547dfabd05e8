-- `sheets::add` meets its contract: by whether there is a slot, and whether one more is in use. Assumes nothing.
use borrow.Author.Rules.{rules}
use native.Mathlib.Omega.{arith}
use mathlib.Core.Path.{◌≡◌}
use Rattle.std.specs.Prelude.{Err}
use Rattle.linalg.specs.declared.refusal.Refusal.TheVariants.{NoRoom}
use Rattle.wire.specs.Wire.{item_bytes}
use Rattle.sheets.specs.Sheets.{most}
use Rattle.sheets.specs.Store.{used_of, next_slot}
use Rattle.sheets.proofs.Views.{add-full, add-next, add_free}
use Rattle.sheets.proofs.add.Goals as goal

pub returns-in_err-slot : goal.returns-in_err-slot
unfolding used_of
returns-in_err-slot c =
    let a = c.args in
    let none : most ≡ next_slot a.store.now = search rules in
    let is : c.from_residual.result ≡ Err NoRoom = search rules in
    rw is (add-full a.store.now c.short_at-used.result c.short_at-used.ensures most none a.sheet a.shot (omega arith))

pub returns-then-used-lt-MOST : goal.returns-then-used-lt-MOST
unfolding used_of item_bytes
returns-then-used-lt-MOST c =
    let a = c.args in
    let slot = c.in_ok-slot.slot in
    let is : slot.number ≡ next_slot a.store.now = search rules in
    add-next a.store.now c.short_at-used.result c.short_at-used.ensures slot.number is a.sheet a.shot slot.below
    c.if-used-lt-MOST.true _ (rw c.assign.ensures at c.put_short.ensures)

pub returns-else-used-lt-MOST : goal.returns-else-used-lt-MOST
unfolding used_of
returns-else-used-lt-MOST c =
    let a = c.args in
    let slot = c.in_ok-slot.slot in
    let is : slot.number ≡ next_slot a.store.now = search rules in
    add_free a.store.now c.short_at-used.result c.short_at-used.ensures slot.number is a.sheet a.shot slot.below
    c.if-used-lt-MOST.false _ c.assign.ensures
