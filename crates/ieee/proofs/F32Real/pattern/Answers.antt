use lib.Ieee.{binary32}
use Rattle.ieee.proofs.Nan.{the_nan, nan_pattern_lem}
use Rattle.ieee.proofs.F32Real.pattern.Goals as goal

pub returns-then-is_nan : goal.returns-then-is_nan
returns-then-is_nan c =
    cc (nan_pattern_lem binary32, the_nan c.args.self (cc (c.if-is_nan.true, c.is_nan.ensures.value)))
