-- With all of ρ negated, the exponential's t and the blocks b and f of the left Jacobian are negated, and all else of
-- both has the same bits. For any tangent, any ten values and any two 3×3 matrices, related to each other or not, NaN
-- and infinities included, at any format.
use Rattle.std.specs.Prelude.{◌≡◌, ◌⊎◌, ℕ, Float}
use Rattle.std.specs.Float.{Format}
use Rattle.std.specs.Float.Ieee.{neg}
use Rattle.ieee.specs.Numbers.{f0}
use Rattle.ieee.specs.Signs.{Same}
use Rattle.linalg.specs.Vector.{vec_neg}
use Rattle.linalg.specs.Floats.{Vec3}
use Rattle.linalg.specs.Floats.{Mat3}
use Rattle.arms.specs.Floats.{Values}
use Rattle.sim3.specs.Tangent.{tangent}
use Rattle.sim3.specs.Floats.{Sim3}
use Rattle.sim3.specs.Floats.{Sim3Tangent}
use Rattle.jacobian.specs.Floats.{Sim3Jac}
use Rattle.side_jacobians.specs.Blocks.{jac_jl, jl_and_inverse}
use Rattle.side_jacobians.specs.Side.{exp_and_jl}
use Rattle.side_jacobians.specs.Pair.{block_pair}
use Rattle.frames.specs.Pose.{framed_exp}
use Rattle.frames.specs.Floats.{Pose}
use Rattle.theorems.specs.Floats.{BothRhos, FiveCalls}

-- the tangent with all of ρ negated
unfoldable pub rho_negated : Sim3Tangent → Sim3Tangent
rho_negated tau = tangent tau.phi (vec_neg tau.rho) tau.sigma

-- ---- y is −x, where a zero of either sign matches a zero, and a NaN a NaN, of which the logic has one
abbrev pub Opposite : Float → Float → Type 0
Opposite x y = Same y (neg x)

pub record OppositeVec (a b : Vec3) : Type 0 where
  pub x : Opposite a.x b.x
  pub y : Opposite a.y b.y
  pub z : Opposite a.z b.z

pub record OppositeMat (a b : Mat3) : Type 0 where
  pub c0 : OppositeVec a.c0 b.c0
  pub c1 : OppositeVec a.c1 b.c1
  pub c2 : OppositeVec a.c2 b.c2

-- `Opposite` says exactly this: y is −x, or both are zeros. Proved as `opposite-is`
pub record OppositeIs (x y : Float) : Type 0 where
  pub only : Opposite x y → (y ≡ neg x) ⊎ ((Same x f0) × (Same y f0))
  pub negated : y ≡ neg x → Opposite x y
  pub zeros : Same x f0 → Same y f0 → Opposite x y

-- ---- x is formed from a tangent, and y in the same way from the tangent with ρ negated
pub record RhoNegatedSim3 (x y : Sim3) : Type 0 where
  pub q : y.q ≡ x.q
  pub t : OppositeVec x.t y.t
  pub sigma : y.sigma ≡ x.sigma

pub record RhoNegatedPose (x y : Pose) : Type 0 where
  pub sim3 : RhoNegatedSim3 x.sim3 y.sim3
  pub from : y.from ≡ x.from
  pub to : y.to ≡ x.to

pub record RhoNegatedBlock (x y : Sim3Jac) : Type 0 where
  pub a : y.a ≡ x.a
  pub b : OppositeMat x.b y.b
  pub c : y.c ≡ x.c
  pub f : OppositeVec x.f y.f
  pub e : y.e ≡ x.e

-- ---- the exponential with its frames, the left Jacobian by itself, both from one evaluation, with its inverse, and in
-- the block pair
unfoldable pub five_calls_of : Format → Sim3Tangent → Values → Mat3 → Mat3 → ℕ → ℕ → FiveCalls
five_calls_of f tau v jl jlInv from to =
    record {
      exp = framed_exp f tau v from to;
      left = jac_jl f tau v jl;
      together = exp_and_jl f tau v jl;
      inverted = jl_and_inverse f tau v jl jlInv;
      pair = block_pair f tau v jl jlInv;
    }

-- each at ρ and at −ρ
unfoldable pub both_rhos_of : Format → Sim3Tangent → Values → Mat3 → Mat3 → ℕ → ℕ → BothRhos
both_rhos_of f tau v jl jlInv from to =
    record {
      at_rho = five_calls_of f tau v jl jlInv from to;
      at_negated_rho =
          five_calls_of f (rho_negated tau) v jl jlInv from to;
    }

-- the inverse and the pair's other blocks are not covered
pub record RhoNegated (r : BothRhos) : Type 0 where
  pub exp : RhoNegatedPose r.at_rho.exp r.at_negated_rho.exp
  pub left : RhoNegatedBlock r.at_rho.left r.at_negated_rho.left
  pub together_exp : RhoNegatedSim3 r.at_rho.together.x r.at_negated_rho.together.x
  pub together_left : RhoNegatedBlock r.at_rho.together.jl r.at_negated_rho.together.jl
  pub beside_inverse : RhoNegatedBlock r.at_rho.inverted.j r.at_negated_rho.inverted.j
  pub in_pair : RhoNegatedBlock r.at_rho.pair.left r.at_negated_rho.pair.left

-- what `rho_negated_theorem` proves, without a premise
abbrev pub RhoNegatedTheorem : Type 0
RhoNegatedTheorem =
    (f : Format) (tau : Sim3Tangent) (v : Values) (jl jlInv : Mat3) (from to : ℕ) →
    RhoNegated (both_rhos_of f tau v jl jlInv from to)
