-- `circle::kernel::horner` meets its contract: the terms that are left, with p after them, have the sum of all terms.
-- Assumes nothing.
use Rattle.std.proofs.Common.{◌≡◌, map, [], ◌∷◌, ◌++◌}
use Rattle.circle.specs.Kernel.{horner_sum}
use Rattle.circle.proofs.kernel.horner.Given as goal

abbrev pub invariant-loop-c : goal.invariant-loop-c
invariant-loop-c g l =
    let r = g.T.Real in
    horner_sum r.format (r.float l.z) (map r.float l.c-iterator.iter.rest.now ++ (r.float l.p ∷ []))
    ≡ horner_sum r.format (r.float l.z) (map r.float l.t)
