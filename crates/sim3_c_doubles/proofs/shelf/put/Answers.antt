-- `sim3_c_doubles::shelf::put` meets its contract: by the length of the bytes. Assumes nothing.
use borrow.Author.Rules.{rules}
use borrow.Author.Tests.{eq-eqb, ne_eqb}
use mathlib.Core.Path.{◌≡◌, refl}
use lib.ListN.{length}
use Rattle.sheets.specs.Store.{size}
use Rattle.sim3_c_doubles.specs.Shelf.{holds, put_answer, put_store, put_sheets}
use Rattle.sim3_c_doubles.proofs.shelf.put.Goals as goal

pub returns-in_default : goal.returns-in_default
unfolding holds put_answer put_store put_sheets
returns-in_default c =
    let n : length c.args.store.now ≡ size → ⊥ = search rules in
    rw (ne_eqb _ size n) (record { result_value = refl; store_after = refl; sheets_after = refl })

pub returns : goal.returns
unfolding holds put_answer put_store put_sheets
returns c =
    let same : c.in-Some.store.now ≡ c.args.store.now = search rules in
    let n : length c.args.store.now ≡ size = search rules in
    let p = c.put.ensures in
    rw (eq-eqb _ size n)
    (record {
      result_value = rw same at p.result_value;
      store_after = rw same at p.store_after;
      sheets_after = rw same at p.sheets_after;
    })
