-- `sheets::bytes::framed_at` meets its contract: it does not read the bytes after the pose. Assumes nothing.
use borrow.Author.Rules.{rules}
use mathlib.Core.Path.{◌≡◌, ap, ◌∙◌}
use Prim.Native.Nat.{◌-◌}
use lib.ListN.{length, take, drop}
use lib.Ieee.{binary64}
use Rattle.std.proofs.lemmas.List.{take_rest}
use Rattle.record_result.specs.Framed.{framed_in}
use Rattle.sheets.proofs.Framed.{framed_front}
use Rattle.sheets.proofs.bytes.framed_at.Goals as goal

pub returns : goal.returns
returns c =
    let a = c.args in
    let part : c.unwrap.result.now ≡ take 68 (take (length a.b.now - a.at) (drop a.at a.b.now)) = search rules in
    c.framed_of.ensures ∙ ap (framed_in binary64) (part ∙ ap (take 68) (take_rest a.b.now a.at))
    ∙ framed_front a.b.now a.at
