-- `root::positive` meets its contract: the digits' range keeps every step within 64 bits, and `parts_are` assembles the
-- answer. Assumes nothing.
use mathlib.Core.Path.{refl}
use Prim.Native.Nat.{◌/◌}
use native.Mathlib.Omega.{arith}
use Rattle.root.proofs.Assembly.{range, ranges, parts_are}
use Rattle.root.proofs.Digits.{exponent_fits, exponent-is}
use Rattle.root.proofs.positive.Goals as goal

pub overflow_mul-c : goal.overflow_mul-c
overflow_mul-c c =
    omega (arith, (range _ c.digits_of-z.result.digits c.digits_of-z.result.power c.digits_of-z.ensures).1)

pub whole_root-p-requires : goal.whole_root-p-requires
whole_root-p-requires c =
    let g = range _ c.digits_of-z.result.digits c.digits_of-z.result.power c.digits_of-z.ensures in (g.0, g.1)

pub nearer-v-requires : goal.nearer-v-requires
nearer-v-requires c =
    let d = c.digits_of-z in
    let w = c.whole_root-p in
    (ranges _ d.result.digits d.result.power d.ensures w.result.root w.result.remainder _ w.ensures.0 w.ensures.1
    refl).0

pub overflow_add-j-2 : goal.overflow_add-j-2
overflow_add-j-2 c =
    let d = c.digits_of-z in
    let w = c.whole_root-p in
    let v = c.nearer-v in
    omega (
      arith,
      d.ensures.few,
      (ranges _ d.result.digits d.result.power d.ensures w.result.root w.result.remainder v.result w.ensures.0
          w.ensures.1 v.ensures).2,
    )

pub overflow_sub-result : goal.overflow_sub-result
overflow_sub-result c = exponent_fits (c.digits_of-z.result.power / 2) (omega (arith, c.digits_of-z.ensures.few))

pub returns : goal.returns
returns c =
    let d = c.digits_of-z in
    let w = c.whole_root-p in
    let v = c.nearer-v in
    let x = c.from_pattern-nearest in
    rw (exponent-is (d.result.power / 2) (omega (arith, d.ensures.few)))
    (parts_are _ d.result.digits d.result.power d.ensures w.result.root w.result.remainder v.result w.ensures.0
    w.ensures.1 v.ensures x.result x.ensures)
