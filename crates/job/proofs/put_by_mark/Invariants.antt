-- `job::put_by_mark` meets its contract: i turns have stored the first i counts. Assumes nothing.
use mathlib.Core.Path.{◌≡◌}
use lib.ListN.{length, take}
use lib.Seq.{sets}
use Rattle.job.specs.Counts.{by_mark_bytes}
use Rattle.job.proofs.put_by_mark.Given as goal

abbrev pub invariant-loop-i : goal.invariant-loop-i
invariant-loop-i l =
    (l.out ≡ sets l.initial.out l.at (by_mark_bytes (take l.i l.n-items))) × (length l.out ≡ length l.initial.out)
