-- Vectors, in the operations of a format f. Sums run left to right.
use Rattle.std.specs.Prelude.{List, [], ◌∷◌, Float}
use Rattle.std.specs.Float.{Format}
use Rattle.std.specs.Float.Ieee.{neg}
use Rattle.ieee.specs.Infix.{operations}
use Rattle.linalg.specs.Floats.{Vec3}

abbrev pub vec : Float → Float → Float → Vec3
vec x y z = record { x = x; y = y; z = z }

-- the three numbers in a row
unfoldable pub vec_numbers : Vec3 → List Float
vec_numbers a = a.x ∷ a.y ∷ a.z ∷ []

unfoldable pub vec_neg : Vec3 → Vec3
vec_neg a = vec (neg a.x) (neg a.y) (neg a.z)

module _ (f : Format) where
  infixl 60 ◌⊕◌ ◌⊖◌
  infixl 70 ◌⊗◌ ◌⊘◌
  open operations f use {◌⊕◌, ◌⊖◌, ◌⊗◌, ◌⊘◌}

  abbrev pub sum3 : Float → Float → Float → Float
  sum3 x y z = x ⊕ y ⊕ z

  unfoldable pub vec_scale : Vec3 → Float → Vec3
  vec_scale a s = vec (a.x ⊗ s) (a.y ⊗ s) (a.z ⊗ s)

  unfoldable pub vec_dot : Vec3 → Vec3 → Float
  vec_dot a b = a.x ⊗ b.x ⊕ a.y ⊗ b.y ⊕ a.z ⊗ b.z

  unfoldable pub vec_norm_sq : Vec3 → Float
  vec_norm_sq a = vec_dot a a

  unfoldable pub vec_cross : Vec3 → Vec3 → Vec3
  vec_cross a b = vec (a.y ⊗ b.z ⊖ a.z ⊗ b.y) (a.z ⊗ b.x ⊖ a.x ⊗ b.z) (a.x ⊗ b.y ⊖ a.y ⊗ b.x)

  unfoldable pub vec_add : Vec3 → Vec3 → Vec3
  vec_add a b = vec (a.x ⊕ b.x) (a.y ⊕ b.y) (a.z ⊕ b.z)

  unfoldable pub vec_sub : Vec3 → Vec3 → Vec3
  vec_sub a b = vec (a.x ⊖ b.x) (a.y ⊖ b.y) (a.z ⊖ b.z)

  unfoldable pub vec_over : Vec3 → Float → Vec3
  vec_over a s = vec (a.x ⊘ s) (a.y ⊘ s) (a.z ⊘ s)

-- the same as infix operators between vectors, for files that open them: a ⊞ b, a ⊟ b, a ⊡ s (each component times s),
-- a ⨯ b (the cross product)
pub record VecOperations : Type 0 where
  pub ◌⊞◌ : Vec3 → Vec3 → Vec3
  pub ◌⊟◌ : Vec3 → Vec3 → Vec3
  pub ◌⊡◌ : Vec3 → Float → Vec3
  pub ◌⨯◌ : Vec3 → Vec3 → Vec3

abbrev pub vec_operations : Format → VecOperations
vec_operations f = record { ◌⊞◌ = vec_add f; ◌⊟◌ = vec_sub f; ◌⊡◌ = vec_scale f; ◌⨯◌ = vec_cross f }
