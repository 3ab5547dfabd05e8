-- `circle::kernel::series` meets its contract: by the contracts of its calls. Assumes nothing.
use Rattle.std.proofs.lemmas.List.{take-map}
use Rattle.circle.specs.Kernel.{row_series}
use Rattle.circle.proofs.kernel.series.Goals as goal

pub returns : goal.returns
unfolding row_series
returns g c = simp (c.horner.ensures, ← c.table-t.ensures, take-map)
