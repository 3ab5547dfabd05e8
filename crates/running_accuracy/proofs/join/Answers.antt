-- `running_accuracy::join` meets its contract: by what its call ensures. Assumes nothing.
use mathlib.Core.Path.{ap}
use Rattle.running.specs.Running.{Joint}
use Rattle.running_accuracy.proofs.OneMore.{join-holds}
use Rattle.running_accuracy.proofs.join.Goals as goal

pub returns : goal.returns
returns c =
    let a = c.args in
    join-holds a.r a.x a.up _ (ap (λ (j : Joint). j.running) c.join.ensures)
