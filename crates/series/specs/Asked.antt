-- Which reciprocals the series read. Within the accepted term counts each is in the table, and with one more term one
-- is not.
use Rattle.std.specs.Prelude.{Some, None, ◌≡◌, ℕ, ◌+◌, ◌≤◌, ◌<◌}
use Rattle.std.specs.Float.{Format}
use Rattle.tables.specs.Tables.{recip_fact, recip_table}
use Rattle.series.specs.Series.{series_most, series_v_most}

-- the table has 1 / n!
abbrev pub Has : Format → ℕ → Type 0
Has f n = recip_table f n ≡ Some (recip_fact f n)

-- v alone at k terms: Horner's v₀ over i < k, v₁ over the levels j < k + 1, v₂ over those below k + 2
pub record VAsks (f : Format) (k : ℕ) : Type 0 where
  pub v0 : (i : ℕ) → i < k → Has f (i + 1)
  pub v1 : (j : ℕ) → j < k + 1 → Has f (j + 1)
  pub v2 : (j : ℕ) → j < k + 2 → Has f (j + 1)

-- the full series: also w₀ over i < k, w₁ and w₂ over the levels of v₁ and v₂, dv₁ over those below k + 3, dv₂ over
-- those below k + 4
pub record FullAsks (f : Format) (k : ℕ) : Type 0 where
  pub v : VAsks f k
  pub w0 : (i : ℕ) → i < k → Has f (i + 2)
  pub w1 : (j : ℕ) → j < k + 1 → Has f (j + 2)
  pub w2 : (j : ℕ) → j < k + 2 → Has f (j + 2)
  pub dv1 : (j : ℕ) → j < k + 3 → Has f (j + 1)
  pub dv2 : (j : ℕ) → j < k + 4 → Has f (j + 1)

-- what `asked` proves: the table sets the limits
pub record AskedTheorem : Type 0 where
  pub full : (f : Format) (k : ℕ) → k ≤ series_most → FullAsks f k
  pub full_past : (f : Format) (k : ℕ) → series_most < k → recip_table f (k + 4) ≡ None
  pub alone : (f : Format) (k : ℕ) → k ≤ series_v_most → VAsks f k
  pub alone_past : (f : Format) (k : ℕ) → series_v_most < k → recip_table f (k + 2) ≡ None
