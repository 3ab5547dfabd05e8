-- Definitions for the contracts of private functions; no public contract cites it.
use Rattle.std.specs.Prelude.{ℕ, ◌≡◌, ◌+◌, List, set, Float}
use Rattle.linalg.specs.Vector.{vec_neg}
use Rattle.linalg.specs.Matrix.{mat}
use Rattle.linalg.specs.Floats.{Vec3, Mat3, as_vec3}
use Rattle.linalg.specs.declared.vector.Vec3 as CodeVec3
use Rattle.point_lists.specs.Points.{point_at}

unfoldable pub put_point : List Float → ℕ → Vec3 → List Float
put_point l at p = set (set (set l at p.x) (at + 1) p.y) (at + 2) p.z

-- a motion with the postcondition `post` moves points by g; h maps a number to its float
abbrev pub Moves : {T : Type 0} → (T → Float) → (CodeVec3.Vec3 T → CodeVec3.Vec3 T → Type 0) → (Vec3 → Vec3) → Type 0
Moves {T} h post g = (p q : CodeVec3.Vec3 T) → post p q → as_vec3 h q ≡ g (as_vec3 h p)

-- a matrix with its last two columns negated
unfoldable pub mat_columns_negated : Mat3 → Mat3
mat_columns_negated m = mat m.c0 (vec_neg m.c1) (vec_neg m.c2)

-- two triples in their places, and the first four of a list, each moved by g, from a place on
unfoldable pub put_two : List Float → ℕ → Vec3 → Vec3 → List Float
put_two l at a b = put_point (put_point l at a) (at + 3) b

unfoldable pub put_four : (Vec3 → Vec3) → List Float → List Float → ℕ → List Float
put_four g l out at =
    put_two (put_two out at (g (point_at l 0)) (g (point_at l 1))) (at + 6) (g (point_at l 2)) (g (point_at l 3))
