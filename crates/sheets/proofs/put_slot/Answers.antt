-- `sheets::put_slot` meets its contract: three stores are one run. Assumes nothing.
use mathlib.Core.Path.{◌∙◌}
use Prim.Native.Nat.{◌+◌, ◌*◌}
use Rattle.sheets.specs.Store.{slots, slot_width}
use Rattle.sheets.proofs.Stored.{slot_stored}
use Rattle.sheets.proofs.put_slot.Goals as goal

pub returns : goal.returns
returns c =
    let a = c.args in
    (rw (c.put_short-2.ensures, c.put_short.ensures, c.start-at.ensures) at c.put_framed.ensures)
    ∙ slot_stored a.sheet a.shot a.store.now (slots + slot_width * a.slot.number)
