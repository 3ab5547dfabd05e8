-- `wire::decode_shorts` meets its contract: after i turns the first i numbers are those of the bytes. Assumes nothing.
use mathlib.Core.Path.{◌≡◌}
use lib.Seq.{sets}
use Rattle.wire.specs.Wire.{words_at}
use Rattle.wire.proofs.decode_shorts.Given as goal

abbrev pub invariant-loop-i : goal.invariant-loop-i
invariant-loop-i l = l.x-items ≡ sets l.initial.x-items 0 (words_at 2 l.b l.i)
