-- The probe returns 1 for the documented numbers. Assumes nothing.
use Rattle.environment.proofs.Documented.{documented_is-due}
use Rattle.sim3_c_doubles.specs.Probe.{probe_call, DocumentedIsOne}
use mathlib.Core.Path.{refl}

pub documented_is-one : DocumentedIsOne
unfolding probe_call
documented_is-one = rw documented_is-due refl
