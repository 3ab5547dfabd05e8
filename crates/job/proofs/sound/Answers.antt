-- `job::sound` meets its contract: by its tests. Assumes nothing.
use borrow.Author.Rules.{rules}
use mathlib.Core.Path.{◌≡◌}
use borrow.Author.Tests.{le-leb, lt-leb, eq-eqb, ne_eqb}
use lib.ListN.{length}
use Rattle.marks.specs.Rows.{row_count}
use Rattle.job.specs.Counts.{counts_sound}
use Rattle.job.proofs.sound.Goals as goal

pub returns-then-c-left-2 : goal.returns-then-c-left-2
unfolding counts_sound
returns-then-c-left-2 c =
    -- there are as many counts by mark as the array has elements
    let w : length c.args.c.by_mark ≡ row_count = search rules in
    simp (
      le-leb _ _ c.if-c-le-LIMIT.true,
      le-leb _ _ c.if-c.true,
      le-leb _ _ c.if-c-left.true,
      eq-eqb _ _
          c.if-c-left-2.true,
      eq-eqb _ _ w,
      c.add_up.ensures,
    )

pub returns-else-c-left-2 : goal.returns-else-c-left-2
unfolding counts_sound
returns-else-c-left-2 c =
    simp (
      le-leb _ _ c.if-c-le-LIMIT.true,
      le-leb _ _ c.if-c.true,
      le-leb _ _ c.if-c-left.true,
      ne_eqb _ _
          c.if-c-left-2.false,
    )

pub returns-else-c-left : goal.returns-else-c-left
unfolding counts_sound
returns-else-c-left c =
    simp (lt-leb _ _ c.if-c-left.false, le-leb _ _ c.if-c.true, le-leb _ _ c.if-c-le-LIMIT.true)

pub returns-else-c : goal.returns-else-c
unfolding counts_sound
returns-else-c c = simp (lt-leb _ _ c.if-c.false, le-leb _ _ c.if-c-le-LIMIT.true)

pub returns-else-c-le-LIMIT : goal.returns-else-c-le-LIMIT
unfolding counts_sound
returns-else-c-le-LIMIT c = simp (lt-leb _ _ c.if-c-le-LIMIT.false)
