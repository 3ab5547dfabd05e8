-- `Sim3::to_numbers` meets its contract: the quaternion, the translation and the log scale each go to their part of the
-- list. Assumes nothing.
use Rattle.std.proofs.Common.{arith}
use Rattle.std.proofs.lemmas.List.{map-append}
use Rattle.layout.specs.Layout.{pose_numbers}
use Rattle.to_lists.proofs.Stored.{one_stored}
use Rattle.to_lists.proofs.Sim3ToNumbers.to_numbers.Goals as goal

pub returns : goal.returns
unfolding pose_numbers
returns g c =
    let last = one_stored c.split_at_mut-t.result.1.now c.args.self.sigma
    (omega (arith, c.split_at_mut-q.ensures.back_len, c.split_at_mut-t.ensures.back_len, c.requires)) in
    simp (← c.to_numbers.ensures, ← c.to_numbers-2.ensures, last, g.met.T.Real.floats_law, map-append)
