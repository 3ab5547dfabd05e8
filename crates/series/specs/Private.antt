-- What the private functions of the series compute; only private contracts cite it.
use Rattle.std.specs.Prelude.{ℕ, zero, suc, ◌+◌, Float}
use Rattle.std.specs.Float.{Format}
use Rattle.ieee.specs.Infix.{operations}
use Rattle.tables.specs.Tables.{recip_fact}
use Rattle.series.specs.Series.{series_first, series_next, level_terms}
use Rattle.series.specs.Recurrence.{sums_none, sums_gain}
use Rattle.series.specs.Floats.{SeriesState}
use Rattle.series.specs.Floats.{Signs}

module _ (f : Format) where
  infixl 60 ◌⊕◌
  infixl 70 ◌⊗◌
  open operations f use {◌⊕◌, ◌⊗◌}

  -- Horner's sums at both signs: a term in front, with the reciprocal r
  unfoldable pub g_term : Float → Float → Float → Signs Float → Signs Float
  g_term sigma minus r g = record { pos = r ⊕ sigma ⊗ g.pos; neg = r ⊕ minus ⊗ g.neg }

-- a turn of the loop for one sign, and n turns
unfoldable pub solo_step : Format → Float → Float → Float → Float → SeriesState → SeriesState
solo_step f sigma z r1 r2 s =
    record { level = series_next f sigma z s.level; sums = sums_gain f s.sums (level_terms f s.level r1 r2) }

unfoldable pub solo_steps : Format → Float → Float → ℕ → SeriesState
solo_steps f sigma z zero = record { level = series_first; sums = sums_none }
solo_steps f sigma z (suc j) =
    solo_step f sigma z (recip_fact f (j + 1)) (recip_fact f (j + 2)) (solo_steps f sigma z j)
