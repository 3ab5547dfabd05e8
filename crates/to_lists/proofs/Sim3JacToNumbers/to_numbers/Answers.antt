-- `Sim3Jac::to_numbers` meets its contract: each of the five parts goes to its part of the list. Assumes nothing.
use Rattle.std.proofs.Common.{arith}
use Rattle.std.proofs.lemmas.List.{map-append}
use Rattle.layout.specs.Layout.{block_numbers}
use Rattle.to_lists.proofs.Stored.{one_stored}
use Rattle.to_lists.proofs.Sim3JacToNumbers.to_numbers.Goals as goal

pub returns : goal.returns
unfolding block_numbers
returns g c =
    let last = one_stored c.split_at_mut-f.result.1.now c.args.self.e
    (omega (
      arith,
      c.split_at_mut-a.ensures.back_len,
      c.split_at_mut-b.ensures.back_len,
      c.split_at_mut-c.ensures.back_len,
      c.split_at_mut-f.ensures.back_len,
      c.requires,
    )) in
    simp (
      ← c.to_numbers.ensures,
      ← c.to_numbers-2.ensures,
      ← c.to_numbers-3.ensures,
      ← c.to_numbers-4.ensures,
      last,
      g.met.T.Real.floats_law,
      map-append,
    )
