-- The numbers of the structures that calls only read, in the order in which Layout.antt of crate `layout` reads them.
use Rattle.std.specs.Prelude.{List, [], ◌∷◌, ◌++◌, Float}
use Rattle.linalg.specs.Vector.{vec_numbers}
use Rattle.arms.specs.Floats.{Values}
use Rattle.sim3.specs.Floats.{Sim3Tangent}

-- φ, ρ, σ
unfoldable pub tangent_numbers : Sim3Tangent → List Float
tangent_numbers t = vec_numbers t.phi ++ (vec_numbers t.rho ++ (t.sigma ∷ []))

-- the ten function values
unfoldable pub values_numbers : Values → List Float
values_numbers v = v.root ∷ v.sin_half ∷ v.cos_half ∷ v.sin ∷ v.e ∷ v.m ∷ v.e0 ∷ v.m0 ∷ v.up ∷ v.down ∷ []
