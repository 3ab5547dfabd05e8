-- `sheets::next_slot` meets its contract: by whether all slots are in use. Assumes nothing.
use mathlib.Core.Path.{◌∙◌}
use Rattle.sheets.proofs.Views.{next-used, next_free}
use Rattle.sheets.proofs.next_slot.Goals as goal

pub returns-then-used-lt-MOST : goal.returns-then-used-lt-MOST
returns-then-used-lt-MOST c = next-used c.args.store.now c.args.used c.requires c.if-used-lt-MOST.true

pub returns : goal.returns
returns c = c.free_slot.ensures ∙ next_free c.args.store.now c.args.used c.requires c.if-used-lt-MOST.false
