-- `wire::encode` meets its contract: as many numbers as fit both, by whether all are finite. Assumes nothing.
use borrow.Author.Rules.{rules}
use mathlib.Core.Path.{◌≡◌, sym, ap, ◌∙◌}
use mathlib.Core.Bool.{true}
use Prim.Native.Nat.{◌/◌}
use mathlib.Core.List.{List}
use lib.ListN.{length, take}
use lib.Seq.{sets}
use lib.Ieee.{Float}
use Rattle.ieee.specs.Finite.{is_finite}
use Rattle.wire.specs.Wire.{width, fewer, numbers, numbers_bytes, all_finite}
use Rattle.wire.proofs.Lists.{taken_whole, one-finite}
use Rattle.wire.proofs.encode.Goals as goal

pub encode_by-requires-clause-writes : goal.encode_by-requires-clause-writes
encode_by-requires-clause-writes g c =
    let r = g.met.T.Real in
    let all = rw r.floats_law at (sym c.all_finite-finite.ensures ∙ c.if-finite.true) in
    record {
      may =
          λ y i h e. let p : is_finite (g.T.Real.float y) ≡ true =
          one-finite g.T.Real.float (take c.min-n.result c.args.x.now) y i all h e in search rules;
      gives = λ y w i h e q. search rules;
    }

pub returns-then-finite : goal.returns-then-finite
returns-then-finite g c =
    let f = g.T.Real.format in
    let r = g.met.T.Real in
    let x = c.args.x.now in
    let m = length c.args.out.now in
    let n = c.min-n.result in
    let e : g.T.Real.floats (take n x) ≡ take (fewer (length x) (m / width f)) (g.T.Real.floats x) =
    r.floats_law (take n x)
    ∙ rw (r.floats_law x) (taken_whole f g.T.Real.float x m n _
    (c.BYTES.ensures ∙ g.met.T.Number.bytes_law) c.min-n.ensures) in
    record {
      value = c.all_finite-finite.ensures ∙ ap (λ (l : List Float). all_finite (numbers l)) e;
      out_after = c.encode_by.ensures ∙ ap (λ (l : List Float). sets c.args.out.now 0 (numbers_bytes f l)) e;
    }

pub returns-else-finite : goal.returns-else-finite
returns-else-finite g c =
    let f = g.T.Real.format in
    let r = g.met.T.Real in
    let x = c.args.x.now in
    let m = length c.args.out.now in
    let n = c.min-n.result in
    let e : g.T.Real.floats (take n x) ≡ take (fewer (length x) (m / width f)) (g.T.Real.floats x) =
    r.floats_law (take n x)
    ∙ rw (r.floats_law x) (taken_whole f g.T.Real.float x m n _
    (c.BYTES.ensures ∙ g.met.T.Number.bytes_law) c.min-n.ensures) in
    record {
      value = c.all_finite-finite.ensures ∙ ap (λ (l : List Float). all_finite (numbers l)) e;
      out_after =
          c.encode_by-else-finite.ensures ∙ ap (λ (l : List Float). sets c.args.out.now 0 (numbers_bytes f l)) e;
    }
