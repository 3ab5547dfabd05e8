-- `sheets::fresh` meets its contract: no slot is in use. Assumes nothing.
use borrow.Author.Rules.{rules}
use mathlib.Core.Path.{◌≡◌, ap, ◌∙◌}
use lib.ListN.{length}
use Rattle.wire.specs.Wire.{item_bytes}
use Rattle.sheets.specs.Store.{size, sheets_of, fresh_bytes}
use Rattle.sheets.proofs.Stored.{emptied}
use Rattle.sheets.proofs.fresh.Goals as goal

pub returns : goal.returns
unfolding fresh_bytes item_bytes
returns c =
    let long : length c.args.store.now ≡ size = search rules in
    record {
      store_after = c.put_short.ensures;
      sheets_after =
          ap sheets_of c.put_short.ensures ∙ emptied c.args.store.now long;
    }
