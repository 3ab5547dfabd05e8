-- `pairs::sim3::sim3_coeffs_armed_pair` meets its contract: below zero it refuses, else it returns what is formed.
-- Assumes nothing.
use Rattle.std.proofs.Common.{rules}
use Rattle.pairs.proofs.Even.{armed-pair-answer-is}
use Rattle.pairs.proofs.sim3.sim3_coeffs_armed_pair.Goals as goal

pub returns-in_err-unless_negative : goal.returns-in_err-unless_negative
returns-in_err-unless_negative g c = search (rules, armed-pair-answer-is)

pub returns : goal.returns
returns g c = search (rules, armed-pair-answer-is)
