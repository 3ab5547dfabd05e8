-- `sheets::put` meets its contract: by whether the slot holds the sheet. Assumes nothing.
use borrow.Author.Rules.{rules}
use mathlib.Core.Path.{◌≡◌, sym, ◌∙◌}
use lib.ListN.{length}
use Rattle.sheets.specs.Store.{size}
use Rattle.sheets.proofs.Framed.{Fit}
use Rattle.sheets.proofs.Views.{put_added, put_again}
use Rattle.sheets.proofs.put.Goals as goal

pub returns-then-held : goal.returns-then-held
returns-then-held c =
    let a = c.args in
    let long : length a.store.now ≡ size = search rules in
    -- the numbers are doubles, and the frames have 16 bits
    let fit : Fit c.args.shot.pose = record {
      w = search rules;
      x₁ = search rules;
      y₁ = search rules;
      z₁ = search rules;
      x₂ = search rules;
      y₂ = search rules;
      z₂ = search rules;
      s = search rules;
      from = search rules;
      to = search rules;
    } in
    put_again a.store.now a.sheet a.shot c.slot_of-slot.result.number (search rules)
    c.slot_of-slot.ensures long (search rules) fit
    (sym c.held.ensures ∙ c.if-held.true) c.retake.result _ c.retake.ensures.result_value
    c.retake.ensures.store_after

pub returns : goal.returns
returns c =
    let a = c.args in
    let long : length a.store.now ≡ size = search rules in
    -- the numbers are doubles, and the frames have 16 bits
    let fit : Fit c.args.shot.pose = record {
      w = search rules;
      x₁ = search rules;
      y₁ = search rules;
      z₁ = search rules;
      x₂ = search rules;
      y₂ = search rules;
      z₂ = search rules;
      s = search rules;
      from = search rules;
      to = search rules;
    } in
    put_added a.store.now a.sheet a.shot c.slot_of-slot.result.number (search rules)
    c.slot_of-slot.ensures long (search rules) fit
    (sym c.held.ensures ∙ c.if-held.false) c.add.result _ c.add.ensures.result_value
    c.add.ensures.store_after
