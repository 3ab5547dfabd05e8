-- Quaternions of whole numbers written as differences: the size of a product is the product of the sizes. Assumes
-- nothing.
use mathlib.Core.Path.{◌≡◌}
use Prim.Native.Nat.{ℕ, zero, suc, ◌+◌}
use Rattle.rounding.proofs.Ring.{Gap, ◌⊕◌, ◌⊗◌, opp, Ex, var, normal, ring}
use Rattle.rounding.proofs.Ring as R

pub record Quad (A : Type 0) : Type 0 where
  pub w : A
  pub x : A
  pub y : A
  pub z : A

infixl 6 ◌⊖◌
abbrev pub ◌⊖◌ : Gap → Gap → Gap
a ⊖ b = a ⊕ opp b

abbrev pub hamilton : Quad Gap → Quad Gap → Quad Gap
hamilton p q =
    record {
      w = p.w ⊗ q.w ⊖ p.x ⊗ q.x ⊖ p.y ⊗ q.y ⊖ p.z ⊗ q.z;
      x = p.w ⊗ q.x ⊕ p.x ⊗ q.w ⊕ p.y ⊗ q.z ⊖ p.z ⊗ q.y;
      y = p.w ⊗ q.y ⊖ p.x ⊗ q.z ⊕ p.y ⊗ q.w ⊕ p.z ⊗ q.x;
      z = p.w ⊗ q.z ⊕ p.x ⊗ q.y ⊖ p.y ⊗ q.x ⊕ p.z ⊗ q.w;
    }

abbrev pub squared : Quad Gap → Gap
squared q = q.w ⊗ q.w ⊕ q.x ⊗ q.x ⊕ q.y ⊗ q.y ⊕ q.z ⊗ q.z

-- ---- the same as expressions
abbrev pub sub : Ex → Ex → Ex
sub a b = R.plus a (R.minus b)

abbrev pub hamilton_x : Quad Ex → Quad Ex → Quad Ex
hamilton_x p q =
    record {
      w = sub (sub (sub (R.times p.w q.w) (R.times p.x q.x)) (R.times p.y q.y)) (R.times p.z q.z);
      x = sub (R.plus (R.plus (R.times p.w q.x) (R.times p.x q.w)) (R.times p.y q.z)) (R.times p.z q.y);
      y = R.plus (R.plus (sub (R.times p.w q.y) (R.times p.x q.z)) (R.times p.y q.w)) (R.times p.z q.x);
      z = R.plus (sub (R.plus (R.times p.w q.z) (R.times p.x q.y)) (R.times p.y q.x)) (R.times p.z q.w);
    }

abbrev pub squared_x : Quad Ex → Ex
squared_x q = R.plus (R.plus (R.plus (R.times q.w q.w) (R.times q.x q.x)) (R.times q.y q.y)) (R.times q.z q.z)

abbrev one : Quad Ex
one = record { w = var 0; x = var 1; y = var 2; z = var 3 }

abbrev two : Quad Ex
two = record { w = var 4; x = var 5; y = var 6; z = var 7 }

abbrev at : Quad Gap → Quad Gap → ℕ → Gap
at p q zero = p.w
at p q (suc zero) = p.x
at p q (suc (suc zero)) = p.y
at p q (suc (suc (suc zero))) = p.z
at p q (suc (suc (suc (suc zero)))) = q.w
at p q (suc (suc (suc (suc (suc zero))))) = q.x
at p q (suc (suc (suc (suc (suc (suc zero)))))) = q.y
at p q (suc (suc (suc (suc (suc (suc (suc i))))))) = q.z

-- ---- Euler's identity: |p q|² = |p|² |q|²
pub euler : (p q : Quad Gap) → (squared (hamilton p q)).p + (squared p ⊗ squared q).n
    ≡ (squared (hamilton p q)).n + (squared p ⊗ squared q).p
unfolding normal
euler p q = ring (sub (squared_x (hamilton_x one two)) (R.times (squared_x one) (squared_x two))) tt (at p q)
