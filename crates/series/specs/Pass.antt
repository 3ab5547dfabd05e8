-- One pass over the reciprocals for both signs, stopped after some of its entries (02, K4). Horner's sums read the
-- table from the highest entry down; the stopped pass holds what each sign alone has after as many entries, in every
-- format, for every σ, every accepted term count and every stop.
use Rattle.std.specs.Prelude.{ℕ, zero, suc, ◌+◌, ◌-◌, cond, ltb, Float}
use Rattle.std.specs.Float.{Format}
use Rattle.std.specs.Float.Ieee.{neg}
use Rattle.ieee.specs.Numbers.{f0}
use Rattle.ieee.specs.Infix.{operations}
use Rattle.linalg.specs.Answer.{Answer, answers, refuses}
use Rattle.tables.specs.Tables.{recip_fact}
use Rattle.series.specs.Series.{w0_terms, series_most}
use Rattle.series.specs.Floats.{Signs}
use Rattle.series.specs.Floats.{Horner}
use Rattle.series.specs.Floats.{Stopped}

module _ (f : Format) where
  infixl 60 ◌⊕◌
  infixl 70 ◌⊗◌
  open operations f use {◌⊕◌, ◌⊗◌}

  -- one sign alone: the sum of `terms` terms, from 1 / l! on, after n entries; entry n + 1 is the reciprocal of index
  -- terms - (n + 1) + l
  unfoldable pub g_stopped : Float → ℕ → ℕ → ℕ → Float
  g_stopped sigma l terms zero = f0
  g_stopped sigma l terms (suc n) = recip_fact f (terms - suc n + l) ⊕ sigma ⊗ g_stopped sigma l terms n

-- sigma alone, and -sigma alone
abbrev pub both_stopped : Format → Float → ℕ → ℕ → ℕ → Signs Float
both_stopped f sigma l terms n = record { pos = g_stopped f sigma l terms n; neg = g_stopped f (neg sigma) l terms n }

-- how many entries a sum of `terms` terms has read at a stop: after its last entry it no longer changes
abbrev pub entries_read : ℕ → ℕ → ℕ
entries_read stop terms = cond (ltb terms stop) terms stop

-- v₀ and w₀ of `terms` terms, each at σ alone and at -σ alone, at a stop
unfoldable pub horner_stopped : Format → Float → ℕ → ℕ → ℕ → Horner
horner_stopped f sigma vTerms wTerms stop =
    record {
      v0 = both_stopped f sigma 1 vTerms (entries_read stop vTerms);
      w0 =
          both_stopped f sigma 2 wTerms (entries_read stop wTerms);
    }

-- the series arm at k terms and the closed arm at its count: the pass, and the sums of each sign alone, hold the same;
-- refusal 4 for k above the most terms
unfoldable pub pass_stopped : Format → Float → ℕ → ℕ → Answer Stopped
pass_stopped f sigma k stop =
    let series = horner_stopped f sigma k k stop in
    let closed = horner_stopped f sigma (w0_terms f + 1) (w0_terms f) stop in
    cond
    (ltb series_most k)
    (refuses 4)
    (answers (record { series = series; series_alone = series; closed = closed; closed_alone = closed }))
