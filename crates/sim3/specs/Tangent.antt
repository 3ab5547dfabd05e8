-- Tangents (φ, ρ, σ), in the operations of a format f.
use Rattle.std.specs.Prelude.{List, [], ◌∷◌, Float, get_or}
use Rattle.std.specs.Float.{nan, Format}
use Rattle.std.specs.Float.Ieee.{neg}
use Rattle.ieee.specs.Numbers.{f0}
use Rattle.ieee.specs.Infix.{operations}
use Rattle.linalg.specs.Vector.{vec, vec_neg, vec_operations}
use Rattle.linalg.specs.Floats.{Vec3}
use Rattle.sim3.specs.Floats.{Sim3Tangent}

abbrev pub tangent : Vec3 → Vec3 → Float → Sim3Tangent
tangent phi rho sigma = record { phi = phi; rho = rho; sigma = sigma }

unfoldable pub tangent_zero : Sim3Tangent
tangent_zero = tangent (vec f0 f0 f0) (vec f0 f0 f0) f0

-- every sign bit flipped
unfoldable pub tangent_neg : Sim3Tangent → Sim3Tangent
tangent_neg a = tangent (vec_neg a.phi) (vec_neg a.rho) (neg a.sigma)

-- the seven numbers φ, ρ, σ
unfoldable pub tangent_to_dense : Sim3Tangent → List Float
tangent_to_dense a = a.phi.x ∷ a.phi.y ∷ a.phi.z ∷ a.rho.x ∷ a.rho.y ∷ a.rho.z ∷ a.sigma ∷ []

unfoldable pub tangent_from_dense : List Float → Sim3Tangent
tangent_from_dense l =
    tangent (vec (get_or l 0 nan) (get_or l 1 nan) (get_or l 2 nan))
    (vec (get_or l 3 nan) (get_or l 4 nan) (get_or l 5 nan))
    (get_or l 6 nan)

module _ (f : Format) where
  infixl 60 ◌⊕◌ ◌⊖◌ ◌⊞◌ ◌⊟◌
  infixl 70 ◌⊗◌
  open operations f use {◌⊕◌, ◌⊖◌, ◌⊗◌}
  open vec_operations f use {◌⊞◌, ◌⊟◌}

  unfoldable pub tangent_add : Sim3Tangent → Sim3Tangent → Sim3Tangent
  tangent_add a b = tangent (a.phi ⊞ b.phi) (a.rho ⊞ b.rho) (a.sigma ⊕ b.sigma)

  unfoldable pub tangent_sub : Sim3Tangent → Sim3Tangent → Sim3Tangent
  tangent_sub a b = tangent (a.phi ⊟ b.phi) (a.rho ⊟ b.rho) (a.sigma ⊖ b.sigma)

  -- k · v, the factor first
  abbrev pub vec_scaled : Float → Vec3 → Vec3
  vec_scaled k v = vec (k ⊗ v.x) (k ⊗ v.y) (k ⊗ v.z)

  unfoldable pub tangent_scale : Sim3Tangent → Float → Sim3Tangent
  tangent_scale a k = tangent (vec_scaled k a.phi) (vec_scaled k a.rho) (k ⊗ a.sigma)

  -- acc + a₀b₀ + a₁b₁ + .. + a₆b₆, from the left
  abbrev pub vec_dot_acc : Vec3 → Vec3 → Float → Float
  vec_dot_acc a b acc = acc ⊕ a.x ⊗ b.x ⊕ a.y ⊗ b.y ⊕ a.z ⊗ b.z

  unfoldable pub tangent_dot_acc : Sim3Tangent → Sim3Tangent → Float → Float
  tangent_dot_acc a b acc = vec_dot_acc a.rho b.rho (vec_dot_acc a.phi b.phi acc) ⊕ a.sigma ⊗ b.sigma
