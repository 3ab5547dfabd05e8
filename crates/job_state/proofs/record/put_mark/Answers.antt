-- `job_state::record::put_mark` meets its contract: two stores are one run. Assumes nothing.
use native.Mathlib.Omega.{arith}
use mathlib.Core.Path.{sym, ap}
use lib.Seq.{sets}
use Rattle.wire.proofs.Bytes.{bytes-all}
use Rattle.job_state.proofs.record.put_mark.Goals as goal

pub returns : goal.returns
returns c = ap (sets c.args.out.now 0) (sym (bytes-all c.args.mark.now 2 (omega arith)))
