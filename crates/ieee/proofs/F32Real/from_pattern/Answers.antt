use borrow.Author.Tests.{lt-ltb, le-ltb}
use mathlib.Core.Path.{sym, ◌∙◌}
use lib.Ieee.{of_bits, binary32}
use lib.Ieee.Bits.{nan_bits_is, nan_bits_above}
use Rattle.ieee.proofs.Nan.{zero-over-zero, the_nan}
use Rattle.ieee.proofs.F32Real.from_pattern.Goals as goal

pub returns-then-pattern-gt2139095040 : goal.returns-then-pattern-gt2139095040
returns-then-pattern-gt2139095040 c =
    let n = c.args.pattern in
    zero-over-zero binary32
    ∙ sym (the_nan (of_bits binary32 n) (sym (nan_bits_is binary32 n) ∙ nan_bits_above binary32 n
    ∙ lt-ltb _ _ c.if-pattern-gt2139095040.true))

pub float_from_bits-result : goal.float_from_bits-result
float_from_bits-result c = rw (nan_bits_above binary32 c.args.pattern ∙ le-ltb _ _ c.if-pattern-gt2139095040.false) tt
