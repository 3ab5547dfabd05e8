-- The end of the output: the stores of a refusal, if there is one, and of the counts, and how many bytes they write.
-- Assumes nothing.
use Prim.Native.Nat.{ℕ, ◌+◌, ◌≤◌}
use mathlib.Core.Path.{◌≡◌, refl}
use mathlib.Core.Bool.{true}
use mathlib.Core.List.{List, ◌++◌}
use native.Mathlib.Nat.{add_assoc}
use native.Mathlib.Omega.{arith}
use lib.ListN.{length, length-append}
use lib.Seq.{sets}
use Rattle.wire.specs.Wire.{count_bytes}
use Rattle.wire.proofs.Bytes.{count-length}
use Rattle.layout.proofs.Runs.{sets_split}
use Rattle.record_result.specs.RecordResult.{longest, unknown_mark, cut_record, mark_bytes, no_bytes}
use Rattle.record_result.proofs.Record.{mark_length, no_length}
use Rattle.job.specs.declared.Counts.{Counts}
use Rattle.job.specs.declared.Reason.{Reason}
use Rattle.job.specs.declared.Reason.TheVariants.{More, Room, Bad, Full, End, Unknown, Cut}
use Rattle.job.specs.Job.{trailer}
use Rattle.marks.specs.Rows.{row_count}
use Rattle.job.specs.Counts.{by_mark_bytes}
use Rattle.job.specs.Private.{trailer_length}
use Rattle.job.specs.Feed.{closing, closing_of, is_over}
use Rattle.job.proofs.Rows.{by_mark-length}

-- the lengths of the pieces, and a run of several pieces as the runs that the code writes
ruleset sizes = (length-append, count-length)

ruleset runs = (sets_split, add_assoc, sizes)

pub trailer_run :
    (c : Counts) (l : List ℕ) (i : ℕ) →
    sets
    (sets
    (sets (sets (sets (sets l i (mark_bytes 0x5a 0x5a)) (i + 2) (count_bytes c.totals.begun)) (i + 6)
    (count_bytes c.totals.answered)) (i + 10) (count_bytes c.totals.refused))
    (i + 14)
    (count_bytes c.totals.unusable))
    (i + 18)
    (by_mark_bytes c.by_mark)
    ≡ sets l i (trailer c)
unfolding trailer
trailer_run c l i = simp (runs, mark_length)

pub trailer-length : (c : Counts) → length c.by_mark ≡ row_count → length (trailer c) ≡ trailer_length
unfolding trailer
trailer-length c h = simp (sizes, mark_length, by_mark-length, h)

pub refused_run : (k : ℕ) (c : Counts) (l : List ℕ) (i : ℕ) →
    sets (sets l i (no_bytes k)) (i + 3) (trailer c) ≡ sets l i (no_bytes k ++ trailer c)
refused_run k c l i = simp (runs, no_length)

pub refused-length : (k : ℕ) (c : Counts) → length c.by_mark ≡ row_count →
    length (no_bytes k ++ trailer c) ≡ 3 + trailer_length
refused-length k c h = simp (sizes, no_length, trailer-length c h)

-- where the loop left room for the longest answer, there is room for the end
pub closing_fits : (r : Reason) (c : Counts) (m room : ℕ) → length c.by_mark ≡ row_count → m ≤ room →
    (is_over r ≡ true → m + longest ≤ room) → m + length (closing r c) ≤ room
unfolding closing_of
closing_fits More c m room w h k = omega arith
closing_fits Room c m room w h k = omega arith
closing_fits Bad c m room w h k = omega arith
closing_fits Full c m room w h k = omega (arith, k refl, trailer-length c w)
closing_fits End c m room w h k = omega (arith, k refl, trailer-length c w)
closing_fits Unknown c m room w h k = omega (arith, k refl, refused-length unknown_mark c w)
closing_fits Cut c m room w h k = omega (arith, k refl, refused-length cut_record c w)
