-- `wire::decode` meets its contract: as many numbers as fit both, by whether one is a NaN. Assumes nothing.
use borrow.Author.Rules.{rules}
use native.Mathlib.Omega.{arith}
use mathlib.Core.Path.{◌≡◌, sym, ap, ◌∙◌}
use Prim.Native.Nat.{◌*◌, ◌≤◌}
use lib.ListN.{length, take}
use lib.Seq.{length-take-le}
use mathlib.Core.Bool.{false}
use lib.Ieee.{of_bits, is_nan}
use native.Mathlib.Nat.{min-le_right}
use Rattle.wire.specs.Wire.{width, word_at, number_of, number_at}
use Rattle.wire.proofs.Nans.{not_nan}
use Rattle.wire.proofs.Lists.{in_bytes, decoded_whole}
use Rattle.wire.proofs.decode.Goals as goal

pub decode_by-requires-clause-reads : goal.decode_by-requires-clause-reads
unfolding number_at number_of word_at
decode_by-requires-clause-reads g c =
    let f = g.T.Real.format in
    let b = c.args.b.now in
    let n = c.min-n.result in
    let v : c.BYTES-2.result ≡ width f = c.BYTES-2.ensures ∙ g.met.T.Number.bytes_law in
    let most : n * width f ≤ length b = in_bytes f (length b) n _ _
    (c.BYTES.ensures ∙ g.met.T.Number.bytes_law) c.min-n.ensures in
    let m : length (take n c.args.out.now) ≡ n = length-take-le n c.args.out.now
    (rw c.min-n.ensures (min-le_right _ _)) in
    let k : length (take (n * c.BYTES-2.result) b) ≡ n * width f = rw v (length-take-le (n * width f) b most) in
    record {
      may =
          λ w i h e. let p : is_nan (of_bits f (g.T.Real.bits w)) ≡ false =
          not_nan f (take (n * c.BYTES-2.result) b) n _ i k (sym c.no_nan.ensures ∙ c.if-no_nan.true)
          (omega (arith, h, m)) e in search rules;
      gives =
          λ w x i h e q. let p : g.T.Real.float x ≡ of_bits f (g.T.Real.bits w) = search rules in p ∙ ap (of_bits f) e;
    }

pub decode_by-requires-else-no_nan-clause-reads : goal.decode_by-requires-else-no_nan-clause-reads
unfolding number_at number_of word_at
decode_by-requires-else-no_nan-clause-reads g c =
    let f = g.T.Real.format in
    record {
      may = λ w i h e. tt;
      gives =
          λ w x i h e q. let p : g.T.Real.float x ≡ of_bits f (g.T.Real.bits w) = search rules in p ∙ ap (of_bits f) e;
    }

pub returns-then-no_nan : goal.returns-then-no_nan
returns-then-no_nan g c =
    let r = g.met.T.Real in
    let law = g.met.T.Number.bytes_law in
    rw (r.floats_law c.args.out.now)
    (r.floats_law _
    ∙ decoded_whole g.T.Real.format g.T.Real.float c.args.b.now c.args.out.now _ c.min-n.result _ _
    (c.BYTES.ensures ∙ law) (c.BYTES-2.ensures ∙ law) c.min-n.ensures
    c.decode_by.auto.out (sym (r.floats_law _) ∙ c.decode_by.ensures))

pub returns-else-no_nan : goal.returns-else-no_nan
returns-else-no_nan g c =
    let r = g.met.T.Real in
    let law = g.met.T.Number.bytes_law in
    let d = c.decode_by-else-no_nan in
    rw (r.floats_law c.args.out.now)
    (r.floats_law _
    ∙ decoded_whole g.T.Real.format g.T.Real.float c.args.b.now c.args.out.now _ c.min-n.result _ _
    (c.BYTES.ensures ∙ law) (c.BYTES-2.ensures ∙ law) c.min-n.ensures
    d.auto.out (sym (r.floats_law _) ∙ d.ensures))
