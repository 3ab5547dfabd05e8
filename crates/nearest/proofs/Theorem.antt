-- The definition returns the nearest arm (`Tried`), nothing else is the nearest arm (`Only`), and it starts from a
-- permitted pattern (`Starts`). Assumes nothing.
use Rattle.nearest.specs.Theorem.{NearestTheorem}
use Rattle.nearest.specs.Nearest.{nearest_from}
use Rattle.nearest.proofs.Tried.{nearest-is}
use Rattle.nearest.proofs.Only.{only_one}
use Rattle.nearest.proofs.Starts.{start_below}

pub nearest_theorem : NearestTheorem
nearest_theorem =
    record {
      asked =
          λ arm end first p h. record {
            is = nearest-is arm end first p h;
            only =
                λ r x. only_one arm end first p h r (nearest_from arm end first p) x (nearest-is arm end first p h);
          };
      starts = start_below;
    }
