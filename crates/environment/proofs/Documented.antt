-- The product of the documented numbers is the documented one, by computing it. Assumes nothing.
use mathlib.Core.Path.{refl}
use lib.Ieee.{mul, eq, of_bits}
use Rattle.environment.specs.Environment.{product_is_due, DocumentedIsDue}

pub documented_is-due : DocumentedIsDue
unfolding product_is_due mul eq of_bits
documented_is-due = refl
