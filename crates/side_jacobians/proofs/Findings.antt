-- The inputs 2 to 6 of docs/DIFFERENCES.md, computed from the definitions. Assumes nothing.
use mathlib.Core.Path.{◌≡◌, refl}
use lib.Ieee.{binary64, neg, add, sub, mul, lt, le}
use Rattle.ieee.specs.Numbers.{f0, f1, half}
use Rattle.linalg.specs.Answer.{refuses}
use Rattle.linalg.specs.Matrix.{vec_component, mat_col, mat_get}
use Rattle.linalg.specs.Floats.{Vec3}
use Rattle.linalg.specs.Floats.{Mat3}
use Rattle.series.specs.Series.{series_first, series_next, series_level, series_answer, series_v_answer}
use Rattle.coeffs.specs.Entries.{scaled_answer}
use Rattle.arms.specs.Floats.{Values}
use Rattle.jacobian.specs.Jac.{blocks, jac_inverse_answer}

-- 2: at σ = 1 and at σ = -1 level 1 has ζ = +0
zeta : (series_level binary64 f1 f0 1).zeta ≡ f0
unfolding series_level series_first series_next add sub mul
zeta = refl

zeta-neg : (series_level binary64 (neg f1) f0 1).zeta ≡ f0
unfolding series_level series_first series_next add sub mul neg
zeta-neg = refl

-- 3: σ = 1, z = -0.5
below-zero : (v : Values) → scaled_answer binary64 f1 (neg half) v ≡ refuses 1
unfolding scaled_answer lt neg
below-zero v = refl

-- 4: e = 0, and e = -0, whatever the blocks are
zero-e : (a b c : Mat3) (f : Vec3) → jac_inverse_answer binary64 (blocks a b c f f0) ≡ refuses 2
unfolding jac_inverse_answer le
zero-e a b c f = refl

minus-zero-e : (a b c : Mat3) (f : Vec3) → jac_inverse_answer binary64 (blocks a b c f (neg f0)) ≡ refuses 2
unfolding jac_inverse_answer le neg
minus-zero-e a b c f = refl

-- 5: entry (3, 0)
row-three : (m : Mat3) → mat_get m 3 0 ≡ refuses 3
unfolding mat_get mat_col vec_component
row-three m = refl

-- 6: k = 29, and k = 31 for v alone
many_terms : series_answer binary64 f0 f0 29 ≡ refuses 4
unfolding series_answer lt
many_terms = refl

many_terms_v : series_v_answer binary64 f0 f0 31 ≡ refuses 4
unfolding series_v_answer lt
many_terms_v = refl
