-- `sheets::free_slot` meets its contract: a sheet owns each slot before the current one. Assumes nothing.
use Prim.Native.Nat.{◌-◌}
use mathlib.Core.Path.{◌≡◌}
use Rattle.sheets.specs.Sheets.{most}
use Rattle.sheets.specs.Store.{free_from, free_slot}
use Rattle.sheets.proofs.free_slot.Given as goal

abbrev pub invariant-loop-number : goal.invariant-loop-number
invariant-loop-number l = free_slot l.store ≡ free_from l.store (most - l.number) l.number
