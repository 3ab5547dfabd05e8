-- `sheets::get` meets its contract: by whether the slot holds the sheet. Assumes nothing.
use borrow.Author.Rules.{rules}
use mathlib.Core.Path.{◌≡◌, sym, ap, ◌∙◌}
use Prim.Native.Nat.{◌+◌, ◌-◌, ◌*◌}
use lib.ListN.{length, take, drop}
use Rattle.std.proofs.lemmas.List.{take_rest}
use Rattle.sheets.specs.Store.{slots, slot_width, size, slot_at, shot_in}
use Rattle.sheets.proofs.Views.{get_kept, get_none}
use Rattle.sheets.proofs.get.Goals as goal

pub returns-then-held : goal.returns-then-held
unfolding slot_at
returns-then-held c =
    let a = c.args in
    let long : length a.store.now ≡ size = search rules in
    let part : c.unwrap.result.now
    ≡ take slot_width (take (size - c.start-at.result) (drop c.start-at.result a.store.now)) =
    search rules in
    get_kept a.store.now a.sheet c.slot_of-slot.result.number (search rules)
    c.slot_of-slot.ensures long
    (sym c.held.ensures ∙ c.if-held.true)
    c.shot_in.result (c.shot_in.ensures
    ∙ ap shot_in ((rw (c.start-at.ensures, ← long) at part)
    ∙ ap (take slot_width) (take_rest a.store.now (slots + slot_width * c.slot_of-slot.result.number))))

pub returns : goal.returns
returns c =
    let a = c.args in
    let long : length a.store.now ≡ size = search rules in
    get_none a.store.now a.sheet c.slot_of-slot.result.number (search rules)
    c.slot_of-slot.ensures long (sym c.held.ensures ∙ c.if-held.false)
