-- The left Jacobian of the exponential by blocks: once as formulas of φ, ρ, the coefficients and the rotation Jacobian,
-- so as trees and as exact values; and what is proved of the errors of its entries.
use Rattle.std.specs.Prelude.{List, [], ◌∷◌, ℕ, ◌+◌, ◌*◌, ◌^◌, ◌<◌, Bool, ◌&&◌, T, leb, Float}
use Rattle.std.specs.Float.{Format, binary32, binary64}
use Rattle.std.specs.Float.Ieee.{lt}
use Rattle.ieee.specs.Numbers.{f0, f1, f2}
use Rattle.linalg.specs.Floats.{Vec3, Mat3}
use Rattle.series.specs.Floats.{Sim3Coeffs}
use Rattle.jacobian.specs.Floats.{Sim3Jac}
use Rattle.side_jacobians.specs.Blocks.{jl_blocks, jac_jl}
use Rattle.arms.specs.Limits.{coeffs_delta, series_below}
use Rattle.arms.specs.Floats.{Values}
use Rattle.sim3.specs.Floats.{Sim3Tangent}
use Rattle.linalg.specs.Vector.{vec_norm_sq}
use Rattle.rounding.specs.Value.{Value, value_of}
use Rattle.rounding.specs.Tree.{Term, leaf, Bound, prod_bound, bound, no_overflow, ForwardError}
use Rattle.rounding.specs.Leaves.{nth, no_bound, errorless}
use Rattle.rounding.specs.Arithmetic.{Arithmetic, trees, exactly}
use Rattle.accuracy.specs.Box.{Three, exact_vec, VecIn, VecError}
use Rattle.accuracy.specs.Action.{sum3, scale3, cross3, leaves}
use Rattle.accuracy.specs.Quaternions.{negated3}
use Rattle.accuracy.specs.ManyPoints.{columns_times, scale_columns}
use Rattle.accuracy.specs.Series.{Eight, most_terms}
use Rattle.accuracy.specs.CoefficientSizes.{eight_of, exact_eight, EightWithin, coefficient_bounds}
use Rattle.accuracy.specs.Exponential.{phi_most}

abbrev pub Columns : Type 0 → Type 0
Columns A = Three (Three A)

-- the blocks below J_l(φ): Q, V, and the column of σ
pub record Blocks (A : Type 0) : Type 0 where
  pub b : Columns A
  pub c : Columns A
  pub f : Three A

module _ {A : Type 0} (arithmetic : Arithmetic A) where
  infixl 60 ◌⊕◌ ◌⊖◌ ◌⊞◌ ◌⊟◌
  infixl 70 ◌⊗◌ ◌⊡◌
  open arithmetic use {◌⊕◌, ◌⊖◌, ◌⊗◌, negated}

  abbrev pub ◌⊞◌ : Columns A → Columns A → Columns A
  m ⊞ n = record { x = sum3 arithmetic m.x n.x; y = sum3 arithmetic m.y n.y; z = sum3 arithmetic m.z n.z }

  abbrev pub difference3 : Three A → Three A → Three A
  difference3 a b = record { x = a.x ⊖ b.x; y = a.y ⊖ b.y; z = a.z ⊖ b.z }

  abbrev pub ◌⊟◌ : Columns A → Columns A → Columns A
  m ⊟ n = record { x = difference3 m.x n.x; y = difference3 m.y n.y; z = difference3 m.z n.z }

  abbrev pub ◌⊡◌ : Columns A → A → Columns A
  m ⊡ s = scale_columns arithmetic m s

  abbrev pub product : Columns A → Columns A → Columns A
  product m n =
      record {
        x = columns_times arithmetic m n.x;
        y = columns_times arithmetic m n.y;
        z = columns_times arithmetic m n.z;
      }

  abbrev pub identity : A → A → Columns A
  identity zero one =
      record {
        x = record { x = one; y = zero; z = zero };
        y = record { x = zero; y = one; z = zero };
        z = record { x = zero; y = zero; z = one };
      }

  -- hat v, the matrix of v × _; a hat v and hat v a without the products by 0; u vᵀ
  abbrev pub hat : A → Three A → Columns A
  hat zero v =
      record {
        x = record { x = zero; y = v.z; z = negated v.y };
        y = record { x = negated v.z; y = zero; z = v.x };
        z = record { x = v.y; y = negated v.x; z = zero };
      }

  abbrev pub times_hat : Columns A → Three A → Columns A
  times_hat a v =
      record {
        x = sum3 arithmetic (scale3 arithmetic a.y v.z) (scale3 arithmetic a.z (negated v.y));
        y = sum3 arithmetic (scale3 arithmetic a.x (negated v.z)) (scale3 arithmetic a.z v.x);
        z = sum3 arithmetic (scale3 arithmetic a.x v.y) (scale3 arithmetic a.y (negated v.x));
      }

  abbrev pub hat_times3 : Three A → Three A → Three A
  hat_times3 v b =
      record { x = negated v.z ⊗ b.y ⊕ v.y ⊗ b.z; y = v.z ⊗ b.x ⊕ negated v.x ⊗ b.z; z = negated v.y ⊗ b.x ⊕ v.x ⊗ b.y }

  abbrev pub hat_times : Three A → Columns A → Columns A
  hat_times v b = record { x = hat_times3 v b.x; y = hat_times3 v b.y; z = hat_times3 v b.z }

  abbrev pub outer : Three A → Three A → Columns A
  outer u v = record { x = scale3 arithmetic u v.x; y = scale3 arithmetic u v.y; z = scale3 arithmetic u v.z }

  -- x₀ a + x₁ b + x₂ c
  abbrev pub combined3 : Three A → Three A → Three A → A → A → A → Three A
  combined3 a b c x0 x1 x2 =
      sum3 arithmetic (sum3 arithmetic (scale3 arithmetic a x0) (scale3 arithmetic b x1)) (scale3 arithmetic c x2)

  -- V = v₀ I + v₁ W + v₂ W²; Q = hat(Vρ) J + 2(∂v₁ μ + ∂v₂ ν) φᵀ − v₁ Ξ + v₂ (Ξ W − 2 W Ξ); −(w₀ ρ + w₁ μ + w₂ ν)
  abbrev pub blocks : A → A → A → Three A → Three A → Eight A → Columns A → Blocks A
  blocks zero one two phi rho c jl =
      let w = hat zero phi in
      let xi = hat zero rho in
      let mu = cross3 arithmetic phi rho in
      let nu = cross3 arithmetic phi mu in
      let y = combined3 rho mu nu c.v0 c.v1 c.v2 in
      let dy = sum3 arithmetic (scale3 arithmetic mu (two ⊗ c.dv1)) (scale3 arithmetic nu (two ⊗ c.dv2)) in
      let g = combined3 rho mu nu c.w0 c.w1 c.w2 in
      record {
        b = hat_times y jl ⊞ outer dy phi ⊟ xi ⊡ c.v1 ⊞ (product xi w ⊟ product w xi ⊡ two) ⊡ c.v2;
        c = identity zero one ⊡ c.v0 ⊞ w ⊡ c.v1 ⊞ times_hat w phi ⊡ c.v2;
        f = negated3 arithmetic g;
      }

unfoldable pub exact_blocks : Three Value → Three Value → Eight Value → Columns Value → Blocks Value
exact_blocks phi rho c jl = blocks exactly (value_of f0) (value_of f1) (value_of f2) phi rho c jl

-- as trees, over 0, 1, 2, φ, ρ, the coefficients and J by its columns
unfoldable pub tree_blocks : Blocks Term
tree_blocks =
    blocks trees (leaf 0) (leaf 1) (leaf 2) (leaves 3 4 5) (leaves 6 7 8)
    (record {
      v0 = leaf 9;
      v1 = leaf 10;
      v2 = leaf 11;
      w0 = leaf 12;
      w1 = leaf 13;
      w2 = leaf 14;
      dv1 = leaf 15;
      dv2 = leaf 16;
    })
    (record { x = leaves 17 18 19; y = leaves 20 21 22; z = leaves 23 24 25 })

-- the entries of a matrix by its columns, before those of l
abbrev pub columns_row : {A : Type 0} → Columns A → List A → List A
columns_row m l = m.x.x ∷ m.x.y ∷ m.x.z ∷ m.y.x ∷ m.y.y ∷ m.y.z ∷ m.z.x ∷ m.z.y ∷ m.z.z ∷ l

abbrev pub blocks_row : {A : Type 0} → A → A → A → Three A → Three A → Eight A → Columns A → List A
blocks_row zero one two phi rho c jl =
    zero ∷ one ∷ two ∷ phi.x ∷ phi.y ∷ phi.z ∷ rho.x ∷ rho.y ∷ rho.z
    ∷ c.v0 ∷ c.v1 ∷ c.v2 ∷ c.w0 ∷ c.w1 ∷ c.w2 ∷ c.dv1 ∷ c.dv2 ∷ columns_row jl []

-- ---- the bounds, for numbers of φ up to a / w and of ρ up to b / w, the coefficients within k, the entries of J
-- within l
abbrev pub same3 : {A : Type 0} → A → Three A
same3 x = record { x = x; y = x; z = x }

abbrev pub same9 : {A : Type 0} → A → Columns A
same9 x = same3 (same3 x)

-- a test of all three
abbrev pub all3 : {A : Type 0} → (A → Bool) → Three A → Bool
all3 p t = p t.x && (p t.y && p t.z)

abbrev pub blocks_bounds : ℕ → ℕ → ℕ → Eight Bound → Bound → ℕ → Bound
blocks_bounds w a b k l =
    nth no_bound (blocks_row no_bound (errorless w) (errorless (2 * w)) (same3 (errorless a)) (same3 (errorless b)) k
    (same9 l))

-- the computed test: no tree overflows, and no bound is above e
abbrev pub three_hold : Format → ℕ → (ℕ → Bound) → Three Term → ℕ → Bool
three_hold f w b t e = all3 (no_overflow f w b) t && all3 (λ u. leb (bound f w b u).error e) t

abbrev pub columns_hold : Format → ℕ → (ℕ → Bound) → Columns Term → ℕ → Bool
columns_hold f w b t e = all3 (all3 (no_overflow f w b)) t && all3 (all3 (λ u. leb (bound f w b u).error e)) t

-- of Q up to p, of V up to q, of the column of σ up to r
unfoldable pub blocks_hold : Format → ℕ → (ℕ → Bound) → ℕ → ℕ → ℕ → Bool
unfolding bound no_overflow tree_blocks
blocks_hold f w b p q r =
    columns_hold f w b tree_blocks.b p && (columns_hold f w b tree_blocks.c q && three_hold f w b tree_blocks.f r)

-- ---- what is proved
abbrev pub three_of : Vec3 → Three Float
three_of v = record { x = v.x; y = v.y; z = v.z }

abbrev pub columns_of : Mat3 → Columns Float
columns_of m = record { x = three_of m.c0; y = three_of m.c1; z = three_of m.c2 }

-- each is finite and within its error of the exact one, and that one at most its size
pub record ThreeWithin (w : ℕ) (a : Three Float) (p : Three Value) (b : Three Bound) : Type 0 where
  pub x : ForwardError w a.x p.x b.x
  pub y : ForwardError w a.y p.y b.y
  pub z : ForwardError w a.z p.z b.z

pub record ColumnsWithin (w : ℕ) (a : Columns Float) (p : Columns Value) (b : Columns Bound) : Type 0 where
  pub x : ThreeWithin w a.x p.x b.x
  pub y : ThreeWithin w a.y p.y b.y
  pub z : ThreeWithin w a.z p.z b.z

-- each entry is finite and within e / w
pub record MatError (w : ℕ) (m : Mat3) (x : Columns Value) (e : ℕ) : Type 0 where
  pub c0 : VecError w m.c0 x.x e
  pub c1 : VecError w m.c1 x.y e
  pub c2 : VecError w m.c2 x.z e

pub record BlocksError (w : ℕ) (j : Sim3Jac) (x : Blocks Value) (p q r : ℕ) : Type 0 where
  pub b : MatError w j.b x.b p
  pub c : MatError w j.c x.c q
  pub f : VecError w j.f x.f r

-- j is the left Jacobian, of numbers of φ up to a / w and of ρ up to b / w, coefficients within k of exact ones y and
-- entries of J_l(φ) within l of exact ones m: each entry of Q, V and the column is within p, q and r of the formula's
abbrev pub BlocksIn : ℕ → ℕ → ℕ → Eight Bound → Bound → ℕ → ℕ → ℕ → Vec3 → Vec3 → Sim3Coeffs → Mat3 → Sim3Jac → Type 0
BlocksIn w a b k l p q r phi rho c jl j =
    VecIn w a phi → VecIn w b rho → (y : Eight Value) → EightWithin w (eight_of c) y k →
    (m : Columns Value) → ColumnsWithin w (columns_of jl) m (same9 l) →
    BlocksError w j (exact_blocks (exact_vec phi) (exact_vec rho) y m) p q r

-- the same in every box whose bounds are computed to be at most p, q and r
abbrev pub BlocksAccurate : Format → Vec3 → Vec3 → Sim3Coeffs → Mat3 → Sim3Jac → Type 0
BlocksAccurate f phi rho c jl j =
    (w a b : ℕ) (k : Eight Bound) (l : Bound) (p q r : ℕ) → 0 < w →
    T (blocks_hold f w (blocks_bounds w a b k l) p q r) → BlocksIn w a b k l p q r phi rho c jl j

-- ---- J_l(τ) as a whole, in units of 2^-100
-- coefficients within their bounds, after one rounding more
abbrev pub once_more : Format → Bound → Bound
once_more f b = prod_bound f (2 ^ 100) (errorless (2 ^ 100)) b

abbrev pub unscaled_bounds : Format → Eight Bound → Eight Bound
unscaled_bounds f b =
    record {
      v0 = once_more f b.v0;
      v1 = once_more f b.v1;
      v2 = once_more f b.v2;
      w0 = once_more f b.w0;
      w1 = once_more f b.w1;
      w2 = once_more f b.w2;
      dv1 = once_more f b.dv1;
      dv2 = once_more f b.dv2;
    }

-- J_l(φ) as it is handed in, within 2^-52, and 2^-23 at singles
abbrev pub rotation_bound : Format → Bound
rotation_bound binary32 = record { magnitude = 2 ^ 100; error = 2 ^ 77 }
rotation_bound binary64 = record { magnitude = 2 ^ 100; error = 2 ^ 48 }

-- j is J_l(τ): where the computed Δ is below the limit of the series and ρ's numbers at most b, each entry of its other
-- blocks is within p, q and r of the formula with every exact sum of `most_terms` terms or more and the exact J_l(φ) m
abbrev pub LeftJacobianIn : Format → ℕ → ℕ → ℕ → ℕ → Sim3Tangent → Mat3 → Sim3Jac → Type 0
LeftJacobianIn f b p q r tau jl j =
    let z = vec_norm_sq f tau.phi in
    T (lt (coeffs_delta f tau.sigma z) (series_below f)) → VecIn (2 ^ 100) (phi_most f) tau.phi →
    VecIn (2 ^ 100) b tau.rho → (m : Columns Value) →
    ColumnsWithin (2 ^ 100) (columns_of jl) m (same9 (rotation_bound f)) → (n : ℕ) →
    BlocksError (2 ^ 100) j
    (exact_blocks (exact_vec tau.phi) (exact_vec tau.rho)
    (exact_eight (value_of tau.sigma) (value_of z) (most_terms f + n)) m) p q r

-- the same for every ρ whose bounds are computed to be at most p, q and r
abbrev pub LeftJacobianAccurate : Format → Sim3Tangent → Mat3 → Sim3Jac → Type 0
LeftJacobianAccurate f tau jl j =
    (b p q r : ℕ) →
    T (blocks_hold f (2 ^ 100) (blocks_bounds (2 ^ 100) (phi_most f) b (unscaled_bounds f (coefficient_bounds f))
    (rotation_bound f)) p q r) →
    LeftJacobianIn f b p q r tau jl j

pub record BlocksTheorem : Type 0 where
  -- from any coefficients, in any format and box
  pub blocks : (f : Format) (phi rho : Vec3) (c : Sim3Coeffs) (jl : Mat3) →
      BlocksAccurate f phi rho c jl (jl_blocks f phi rho c jl)
  -- from the tangent
  pub left : (f : Format) (tau : Sim3Tangent) (v : Values) (jl : Mat3) →
      LeftJacobianAccurate f tau jl (jac_jl f tau v jl)
  -- φ up to 3/2 (13/8 at singles), ρ up to 1: Q within 2^-42 and 2^-13, V within 2^-45 and 2^-16, the column within
  -- 2^-46 and 2^-17
  pub unit_doubles : (tau : Sim3Tangent) (v : Values) (jl : Mat3) →
      LeftJacobianIn binary64 (2 ^ 100) (2 ^ 58) (2 ^ 55) (2 ^ 54) tau jl (jac_jl binary64 tau v jl)
  pub unit_singles : (tau : Sim3Tangent) (v : Values) (jl : Mat3) →
      LeftJacobianIn binary32 (2 ^ 100) (2 ^ 87) (2 ^ 84) (2 ^ 83) tau jl (jac_jl binary32 tau v jl)
  -- ρ up to 2^16: Q within 2^-26 and 2^3, the column within 2^-30 and 2^-1
  pub doubles : (tau : Sim3Tangent) (v : Values) (jl : Mat3) →
      LeftJacobianIn binary64 (2 ^ 116) (2 ^ 74) (2 ^ 55) (2 ^ 70) tau jl (jac_jl binary64 tau v jl)
  pub singles : (tau : Sim3Tangent) (v : Values) (jl : Mat3) →
      LeftJacobianIn binary32 (2 ^ 116) (2 ^ 103) (2 ^ 84) (2 ^ 99) tau jl (jac_jl binary32 tau v jl)
