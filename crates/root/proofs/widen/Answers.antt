-- `root::widen` meets its contract: the products stay below 2 ^ 55, and the quotient is right or one too large
-- (`Squares`). Assumes nothing.
use borrow.Author.Rules.{rules}
use Prim.Native.Nat.{◌+◌, ◌*◌, ◌/◌, ◌%◌}
use native.Mathlib.Omega.{arith}
use Rattle.root.proofs.Squares.{Stepped, stepped}
use Rattle.root.proofs.widen.Goals as goal
use Rattle.root.proofs.widen.Goals.{Start}

facts :
    (c : Start) →
    let a = c.args in
    Stepped a.s a.r a.b a.a a.l ((a.r * a.b + a.a) / (2 * a.s)) ((a.r * a.b + a.a) % (2 * a.s))
facts c =
    stepped c.args.s c.args.r c.args.b c.args.a c.args.l
    (record {
      small = search rules;
      rest = search rules;
      base = search rules;
      wide = search rules;
      digit =
          search rules;
      digit2 = search rules;
    })

pub overflow_mul-n : goal.overflow_mul-n
overflow_mul-n c = omega (arith, (facts c).product)

pub overflow_add-n : goal.overflow_add-n
overflow_add-n c = omega (arith, (facts c).product)

pub overflow_mul-t : goal.overflow_mul-t
overflow_mul-t c = omega (arith, (facts c).left)

pub overflow_add-t : goal.overflow_add-t
overflow_add-t c = omega (arith, (facts c).left)

pub overflow_mul-w : goal.overflow_mul-w
overflow_mul-w c = omega (arith, (facts c).square)

pub overflow_mul-root : goal.overflow_mul-root
overflow_mul-root c = omega (arith, (facts c).root)

pub overflow_add-root : goal.overflow_add-root
overflow_add-root c = omega (arith, (facts c).root)

pub overflow_sub-result-else-w-t : goal.overflow_sub-result-else-w-t
overflow_sub-result-else-w-t c =
    omega (arith, (facts (goal.at.overflow_sub-result-else-w-t c).Start).some c.if-w-t.false)

pub overflow_mul-result : goal.overflow_mul-result
overflow_mul-result c = omega (arith, (facts (goal.at.overflow_mul-result c).Start).root)

pub overflow_add-result : goal.overflow_add-result
overflow_add-result c =
    omega (
      arith,
      (facts (goal.at.overflow_add-result c).Start).root,
      (facts (goal.at.overflow_add-result c).Start).left,
    )

pub overflow_sub-result-else-w-t-2 : goal.overflow_sub-result-else-w-t-2
overflow_sub-result-else-w-t-2 c =
    omega (arith, (facts (goal.at.overflow_sub-result-else-w-t-2 c).Start).some c.if-w-t.false)

pub overflow_sub-result-else-w-t-3 : goal.overflow_sub-result-else-w-t-3
overflow_sub-result-else-w-t-3 c = (facts (goal.at.overflow_sub-result-else-w-t-3 c).Start).short c.if-w-t.false

pub returns-then-w-t : goal.returns-then-w-t
returns-then-w-t c = (facts (goal.at.returns-then-w-t c).Start).enough c.if-w-t.true

pub returns-else-w-t : goal.returns-else-w-t
returns-else-w-t c = (facts (goal.at.returns-else-w-t c).Start).too_large c.if-w-t.false
