-- The counts of a job: four over all its records, and one for each mark.
use Rattle.std.specs.Prelude.{ℕ, ◌+◌, ◌-◌, ◌≡◌, Bool, ◌&&◌, List, [], ◌∷◌, ◌++◌, length, get_or, set, replicate, leb}
use Rattle.std.specs.Prelude.{eqb}
use Rattle.wire.specs.Wire.{count_bytes}
use Rattle.record_result.specs.declared.Disposition.{Disposition}
use Rattle.record_result.specs.declared.Disposition.TheVariants.{Answered, Refused, Unusable}
use Rattle.marks.specs.Rows.{row_count}
use Rattle.job.specs.declared.Counts.{Counts}
use Rattle.job.specs.declared.Totals.{Totals}

abbrev pub counts_none : Counts
counts_none =
    record { totals = record { begun = 0; answered = 0; refused = 0; unusable = 0 }; by_mark = replicate row_count 0 }

-- ---- the counts by mark: one more in place r, their sum, and their bytes
unfoldable pub by_mark_more : ℕ → List ℕ → List ℕ
by_mark_more r l = set l r (get_or l r 0 + 1)

unfoldable pub total : List ℕ → ℕ
total [] = 0
total (x ∷ l) = x + total l

unfoldable pub by_mark_bytes : List ℕ → List ℕ
by_mark_bytes [] = []
by_mark_bytes (x ∷ l) = count_bytes x ++ by_mark_bytes l

-- ---- one more record, by its disposition and its place among the marks
unfoldable pub totals_more : Disposition → Totals → Totals
totals_more Answered f =
    record { begun = f.begun + 1; answered = f.answered + 1; refused = f.refused; unusable = f.unusable }
totals_more Refused f =
    record { begun = f.begun + 1; answered = f.answered; refused = f.refused + 1; unusable = f.unusable }
totals_more Unusable f =
    record { begun = f.begun + 1; answered = f.answered; refused = f.refused; unusable = f.unusable + 1 }

unfoldable pub counts_more : Disposition → ℕ → Counts → Counts
counts_more disposition r c = record { totals = totals_more disposition c.totals; by_mark = by_mark_more r c.by_mark }

-- the last three of the four add up to the first
abbrev pub Adds : Counts → Type 0
Adds c = c.totals.answered + c.totals.refused + c.totals.unusable ≡ c.totals.begun

-- the counts by mark add up to it too
abbrev pub ByMarkAdd : Counts → Type 0
ByMarkAdd c = (length c.by_mark ≡ row_count) × (total c.by_mark ≡ c.totals.begun)

-- whether a job of at most `limit` records can have these counts; the four are tested without forming a sum
unfoldable pub counts_sound : ℕ → Counts → Bool
counts_sound limit c =
    leb c.totals.begun limit
    && (leb c.totals.answered c.totals.begun
    && (leb c.totals.refused (c.totals.begun - c.totals.answered)
    && (eqb c.totals.unusable (c.totals.begun - c.totals.answered - c.totals.refused)
    && (eqb (length c.by_mark) row_count && eqb (total c.by_mark) c.totals.begun))))
