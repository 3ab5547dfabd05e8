use lib.Ieee.{binary32}
use Rattle.wire.proofs.Nans.{one_seen}
use Rattle.wire.proofs.F32Number.seen.Goals as goal

pub returns : goal.returns
returns c = one_seen binary32 c.args.before c.args.word
