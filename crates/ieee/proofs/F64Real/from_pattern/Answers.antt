use borrow.Author.Tests.{lt-ltb, le-ltb}
use mathlib.Core.Path.{sym, ◌∙◌}
use lib.Ieee.{of_bits, binary64}
use lib.Ieee.Bits.{nan_bits_is, nan_bits_above}
use Rattle.ieee.proofs.Nan.{zero-over-zero, the_nan}
use Rattle.ieee.proofs.F64Real.from_pattern.Goals as goal

pub returns-then-pattern-gt9218868437227405312 : goal.returns-then-pattern-gt9218868437227405312
returns-then-pattern-gt9218868437227405312 c =
    let n = c.args.pattern in
    zero-over-zero binary64
    ∙ sym (the_nan (of_bits binary64 n) (sym (nan_bits_is binary64 n) ∙ nan_bits_above binary64 n
    ∙ lt-ltb _ _ c.if-pattern-gt9218868437227405312.true))

pub float_from_bits-result : goal.float_from_bits-result
float_from_bits-result c =
    rw (nan_bits_above binary64 c.args.pattern ∙ le-ltb _ _ c.if-pattern-gt9218868437227405312.false) tt
