-- `wire::encode_shorts` meets its contract: after i turns the first bytes are those of the first i numbers. Assumes
-- nothing.
use mathlib.Core.Path.{◌≡◌}
use lib.ListN.{take}
use lib.Seq.{sets}
use Rattle.wire.specs.Wire.{words_bytes}
use Rattle.wire.proofs.encode_shorts.Given as goal

abbrev pub invariant-loop-i : goal.invariant-loop-i
invariant-loop-i l = l.out ≡ sets l.initial.out 0 (words_bytes 2 (take l.i l.y-items))
