-- `sim3_c_doubles::shelf::get` meets its contract: by the length of the bytes. Assumes nothing.
use borrow.Author.Rules.{rules}
use borrow.Author.Tests.{eq-eqb, ne_eqb}
use mathlib.Core.Path.{◌≡◌, refl}
use lib.ListN.{length}
use Rattle.std.specs.Prelude.{Err}
use Rattle.linalg.specs.declared.refusal.Refusal.TheVariants.{ListLength}
use Rattle.sheets.specs.Store.{size}
use Rattle.sim3_c_doubles.specs.Shelf.{holds, get_answer}
use Rattle.sim3_c_doubles.proofs.shelf.get.Goals as goal

pub returns-in_err-store : goal.returns-in_err-store
unfolding holds get_answer
returns-in_err-store c =
    let is : c.from_residual.result ≡ Err ListLength = search rules in
    let n : length c.args.store.now ≡ size → ⊥ = search rules in
    rw (is, ne_eqb _ size n) refl

pub returns : goal.returns
unfolding holds get_answer
returns c =
    let same : c.in_ok-store.store.now ≡ c.args.store.now = search rules in
    let n : length c.args.store.now ≡ size = search rules in
    rw (eq-eqb _ size n) (rw same at c.get.ensures)
