use lib.Ieee.{binary64}
use Rattle.wire.proofs.Nans.{one_seen}
use Rattle.wire.proofs.F64Number.seen.Goals as goal

pub returns : goal.returns
returns c = one_seen binary64 c.args.before c.args.word
