-- `job::stop` meets its contract: by its test, and by whether a refused record is counted. Assumes nothing.
use mathlib.Core.Path.{refl, ◌∙◌}
use borrow.Author.Tests.{lt-ltb, le-ltb}
use Rattle.job.specs.Private.{stop_of}
use Rattle.job.proofs.stop.Goals as goal

pub returns-then-room-lt-LONGEST : goal.returns-then-room-lt-LONGEST
unfolding stop_of
returns-then-room-lt-LONGEST c = c.leave.ensures ∙ rw (lt-ltb _ _ c.if-room-lt-LONGEST.true) refl

pub returns-in-None : goal.returns-in-None
unfolding stop_of
returns-in-None c = c.leave-in-None.ensures ∙ rw (le-ltb _ _ c.if-room-lt-LONGEST.false, c.in-None.is) refl

pub returns-in-Some : goal.returns-in-Some
unfolding stop_of
returns-in-Some c =
    c.leave-in-Some.ensures ∙ rw (le-ltb _ _ c.if-room-lt-LONGEST.false, c.in-Some.is, c.count.ensures) refl
