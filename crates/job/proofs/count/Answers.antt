-- `job::count` meets its contract: one more in the row, and by the cases of the disposition. Assumes nothing.
use native.Mathlib.Omega.{arith}
use Rattle.job.specs.Counts.{counts_more, totals_more, by_mark_more}
use Rattle.job.proofs.Rows.{row_small}
use Rattle.job.proofs.count.Goals as goal

pub overflow_add-c : goal.overflow_add-c
overflow_add-c c = omega (arith, row_small c.args.c.now c.args.row c.requires.sound)

pub returns-in-Answered : goal.returns-in-Answered
unfolding counts_more totals_more by_mark_more
returns-in-Answered c = rw c.in-Answered.is

pub returns-in-Refused : goal.returns-in-Refused
unfolding counts_more totals_more by_mark_more
returns-in-Refused c = rw c.in-Refused.is

pub returns-in-Unusable : goal.returns-in-Unusable
unfolding counts_more totals_more by_mark_more
returns-in-Unusable c = rw c.in-Unusable.is
