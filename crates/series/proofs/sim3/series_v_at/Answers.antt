-- `series::sim3::series_v_at` meets its contract: v1 and v2 are the full sums, and v0 and chi times delta are formed in
-- the same way. Assumes nothing.
use Rattle.series.proofs.Solo.{v1-is, v2-is}
use Rattle.series.specs.Series.{series_v, series_full, coeffs4, series_coeffs}
use Rattle.series.proofs.sim3.series_v_at.Goals as goal

pub returns : goal.returns
unfolding series_v series_full coeffs4 series_coeffs
returns g c =
    let real = g.met.T.Real in
    simp (
      c.chi_delta.ensures,
      c.g_series-v0.ensures,
      real.add_law _ _ _ c.add-v2.ensures,
      real.mul_law _ _ _ c.mul.ensures,
      c.recip.ensures,
      ← v1-is,
      ← v2-is,
      ← c.levels_v_to-level.ensures,
    )
