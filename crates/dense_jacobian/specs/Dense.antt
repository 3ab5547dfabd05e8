-- 7x7 matrices, flat and column by column: a block Jacobian written out, and J Σ Jᵀ.
use Rattle.std.specs.Prelude.{List, ◌++◌, ℕ, ◌+◌, get_or, Float}
use Rattle.std.specs.Float.{nan, Format}
use Rattle.ieee.specs.Numbers.{f0}
use Rattle.linalg.specs.Vector.{vec}
use Rattle.linalg.specs.Floats.{Vec3}
use Rattle.sim3.specs.Tangent.{tangent, tangent_to_dense}
use Rattle.sim3.specs.Floats.{Sim3Tangent}
use Rattle.jacobian.specs.Jac.{jac_apply}
use Rattle.jacobian.specs.Floats.{Sim3Jac}
use Rattle.dense_jacobian.specs.Floats.{Seven}

-- seven columns of seven numbers, each held as a tangent
abbrev pub seven : Sim3Tangent → Sim3Tangent → Sim3Tangent → Sim3Tangent → Sim3Tangent → Sim3Tangent → Sim3Tangent →
    Seven
seven a b c d e g h = record { c0 = a; c1 = b; c2 = c; c3 = d; c4 = e; c5 = g; c6 = h }

-- column c of a flat matrix
abbrev pub column_at : List Float → ℕ → Sim3Tangent
column_at l i =
    tangent (vec (get_or l i nan) (get_or l (i + 1) nan) (get_or l (i + 2) nan))
    (vec (get_or l (i + 3) nan) (get_or l (i + 4) nan) (get_or l (i + 5) nan)) (get_or l (i + 6) nan)

unfoldable pub seven_of : List Float → Seven
seven_of l =
    seven (column_at l 0) (column_at l 7) (column_at l 14) (column_at l 21) (column_at l 28) (column_at l 35)
    (column_at l 42)

unfoldable pub seven_flat : Seven → List Float
seven_flat m =
    tangent_to_dense m.c0 ++ tangent_to_dense m.c1 ++ tangent_to_dense m.c2 ++ tangent_to_dense m.c3
    ++ tangent_to_dense m.c4 ++ tangent_to_dense m.c5 ++ tangent_to_dense m.c6

-- transposed: g picks one number of a column
abbrev pub row_by : Seven → (Sim3Tangent → Float) → Sim3Tangent
row_by m g = tangent (vec (g m.c0) (g m.c1) (g m.c2)) (vec (g m.c3) (g m.c4) (g m.c5)) (g m.c6)

unfoldable pub seven_transpose : Seven → Seven
seven_transpose m =
    seven (row_by m (λ t. t.phi.x)) (row_by m (λ t. t.phi.y)) (row_by m (λ t. t.phi.z)) (row_by m (λ t. t.rho.x))
    (row_by m (λ t. t.rho.y)) (row_by m (λ t. t.rho.z)) (row_by m (λ t. t.sigma))

-- J applied to each column
unfoldable pub seven_apply : Format → Sim3Jac → Seven → Seven
seven_apply f j m =
    seven (jac_apply f j m.c0) (jac_apply f j m.c1) (jac_apply f j m.c2) (jac_apply f j m.c3) (jac_apply f j m.c4)
    (jac_apply f j m.c5) (jac_apply f j m.c6)

-- J Σ Jᵀ: M = J Σ by columns, then row r of the result is J applied to row r of M
unfoldable pub jac_sandwich : Format → Sim3Jac → List Float → List Float
jac_sandwich f j cov = seven_flat (seven_transpose (seven_apply f j (seven_transpose (seven_apply f j (seven_of cov)))))

-- J as a matrix: the columns under φ hold a and b, those under ρ hold c, that under σ holds f and e
abbrev pub none3 : Vec3
none3 = vec f0 f0 f0

unfoldable pub jac_dense : Sim3Jac → List Float
jac_dense j =
    seven_flat
    (seven
    (tangent j.a.c0 j.b.c0 f0)
    (tangent j.a.c1 j.b.c1 f0)
    (tangent j.a.c2 j.b.c2 f0)
    (tangent none3 j.c.c0 f0)
    (tangent none3 j.c.c1 f0)
    (tangent none3 j.c.c2 f0)
    (tangent none3 j.f j.e))
