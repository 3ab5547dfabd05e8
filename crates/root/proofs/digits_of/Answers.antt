-- `root::digits_of` meets its contract: a subnormal's leading zeros decide how far its digits move, and any other has
-- its digits in place (`Digits`). Assumes nothing.
use borrow.Author.Rules.{rules}
use native.Mathlib.Omega.{arith}
use Rattle.root.proofs.Digits.{lead, normal}
use Rattle.root.proofs.digits_of.Goals as goal

pub overflow_sub-k : goal.overflow_sub-k
overflow_sub-k c = (lead c.args.b (search rules) (search rules)).0

pub overflow_cast-result : goal.overflow_cast-result
overflow_cast-result c = omega (arith, (lead c.args.b (search rules) (search rules)).1)

pub overflow_shl-result : goal.overflow_shl-result
overflow_shl-result c = omega (arith, (lead c.args.b (search rules) (search rules)).1)

pub overflow_sub-result : goal.overflow_sub-result
overflow_sub-result c = (lead c.args.b (search rules) (search rules)).1

pub returns-then-b-lt-HIDDEN : goal.returns-then-b-lt-HIDDEN
returns-then-b-lt-HIDDEN c = (lead c.args.b (search rules) (search rules)).2

pub returns-else-b-lt-HIDDEN : goal.returns-else-b-lt-HIDDEN
returns-else-b-lt-HIDDEN c = normal c.args.b (search rules) (search rules)
