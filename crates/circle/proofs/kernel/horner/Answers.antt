-- `circle::kernel::horner` meets its contract: the terms that are left, with p after them, have the sum of all terms.
-- Assumes nothing.
use Rattle.std.proofs.Common.{append_assoc}
use Rattle.std.proofs.lemmas.List.{map-append, nil_from_length}
use lib.Ieee.{of_bits}
use Rattle.circle.specs.Kernel.{horner_sum}
use Rattle.circle.proofs.Horner.{horner_join}
use Rattle.circle.proofs.kernel.horner.Goals as goal

pub returns-in_default : goal.returns-in_default
unfolding horner_sum of_bits
returns-in_default g c = rw (nil_from_length c.args.t.now c.in_default.ensures.cases) c.of.ensures

pub loop-c-preserved : goal.loop-c-preserved
loop-c-preserved g c =
    let real = g.met.T.Real in
    simp (real.add_law _ _ _ c.add-p.ensures, real.mul_law _ _ _ c.mul.ensures, ← horner_join)
    (simp (c.in-Some-c.ensures.steps, map-append, append_assoc) at c.loop-c.invariant)

pub returns : goal.returns
unfolding horner_sum
returns g c = rw (nil_from_length _ c.in-None.ensures.steps.0) at c.loop-c.invariant
