-- Levels that hold -p for p: doing this twice changes nothing.
use mathlib.Core.Path.{◌≡◌}
use Rattle.ieee.proofs.Sign.{neg-neg}
use Rattle.pairs.specs.Private.{level_minus, state_minus}
use Rattle.series.specs.Floats.{Level}
use Rattle.pairs.specs.Floats.{SeriesPairState}

level-twice : (l : Level) → level_minus (level_minus l) ≡ l
unfolding level_minus
level-twice l = λ i. record { xi = l.xi; dxi = l.dxi; zeta = l.zeta; dzeta = l.dzeta; p = neg-neg l.p i }

pub steps_twice : (s : SeriesPairState) → state_minus (state_minus s) ≡ s
unfolding state_minus
steps_twice s = λ i. record { level = level-twice s.level i; pos = s.pos; neg = s.neg }
