-- `marks::look_up` meets its contract: by the contracts of its calls. Assumes nothing.
use native.Mathlib.Omega.{arith}
use Prim.Native.Nat.{◌+◌, ◌*◌}
use mathlib.Core.Path.{◌≡◌, ap, ◌∙◌}
use Rattle.marks.specs.Marks.{look_up, table, mark_of}
use Rattle.marks.proofs.look_up.Goals as goal

pub returns : goal.returns
unfolding mark_of
returns c =
    let a = c.args in
    let k : c.from_be_bytes.result ≡ a.a * 256 + a.b = c.from_be_bytes.ensures ∙ omega arith in
    c.known.ensures ∙ ap (λ n. look_up n 0 table) k
