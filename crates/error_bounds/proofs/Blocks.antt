-- The errors of the left Jacobian's entries. Assumes nothing.
use mathlib.Core.Path.{◌≡◌, sym, subst}
use mathlib.Core.Bool.{Bool, cond, ◌&&◌}
use Prim.Native.Nat.{ℕ, ◌+◌, ◌*◌, ◌^◌, ◌<◌}
use native.Mathlib.Omega.{arith}
use lib.Dec.{T, leb, leb→le, lit<}
use lib.Ieee.{Float, Format, binary32, binary64, sub, mul, lt}
use lib.Ieee.Fits.{and_l, and_r}
use Rattle.ieee.specs.Numbers.{f0, f1, f2}
use Rattle.linalg.specs.Vector.{vec_neg, vec_scale, vec_cross, vec_add, vec_sub, vec_norm_sq}
use Rattle.linalg.specs.Matrix.{mat_of_rows, mat_identity, mat_hat, mat_scale, mat_add, mat_sub, mat_mul_vec, mat_mul}
use Rattle.linalg.specs.Matrix.{mat_mul_hat, vec_hat_mul, mat_hat_mul}
use Rattle.linalg.specs.Floats.{Vec3, Mat3}
use Rattle.series.specs.Floats.{Sim3Coeffs}
use Rattle.jacobian.specs.Floats.{Sim3Jac}
use Rattle.side_jacobians.specs.Blocks.{mat_outer, poly_matrix, jl_q, jl_blocks, jac_jl}
use Rattle.rounding.specs.Value.{Value, value_of, AbsoluteError}
use Rattle.rounding.specs.Tree.{Term, computed, exact, Bound, bound, no_overflow, prod_reach, in_range, ForwardError}
use Rattle.rounding.specs.Leaves.{Bounded, nth, no_bound, errorless}
use Rattle.rounding.proofs.Forward.{forward_error, error_wider}
use Rattle.rounding.proofs.Leaves.{leaf_forward, two_bounded, AllForwardError, nth_forward}
use Rattle.accuracy.specs.Box.{Three, exact_vec, VecIn, VecError}
use Rattle.accuracy.proofs.Series.{one_forward}
use Rattle.error_bounds.specs.Blocks.{Columns, Blocks, tree_blocks, blocks_row, same3, same9, all3}
use Rattle.error_bounds.specs.Blocks.{three_hold, columns_hold, blocks_bounds, ThreeWithin, ColumnsWithin}
use Rattle.error_bounds.specs.Blocks.{blocks_hold, three_of, columns_of, MatError, exact_blocks, BlocksAccurate}
use Rattle.error_bounds.specs.Blocks.{once_more, unscaled_bounds, rotation_bound, LeftJacobianAccurate, BlocksTheorem}
use Rattle.accuracy.specs.CoefficientSizes.{eight_of, exact_eight, EightWithin, coefficient_bounds}
use Rattle.accuracy.specs.Series.{Eight, most_terms}
use Rattle.accuracy.specs.Exponential.{phi_most}
use Rattle.accuracy.proofs.CoefficientSizes.{coefficient_sizes_hold}
use Rattle.accuracy.proofs.Exponential.{not_scaled, unscaled-within}
use Rattle.accuracy.proofs.Rows.{norm_plain}
use Rattle.coeffs.specs.Group.{coeffs_scaled, coeffs_unscaled, coeffs_unscale}
use Rattle.arms.specs.Limits.{coeffs_delta, series_below}
use Rattle.arms.specs.Floats.{Values}
use Rattle.sim3.specs.Floats.{Sim3Tangent}

infixr 5 ◌◁◌
pub ◌◁◌ : {A B : Type 0} → A → B → A × B
a ◁ b = (a, b)

-- ---- trees over leaves that are within their bounds, three and nine at once
three_tests : {A : Type 0} (p : A → Bool) (t : Three A) → T (all3 p t) → T (p t.x) × T (p t.y) × T (p t.z)
three_tests p t k =
    let r : T (p t.y && p t.z) = and_r (p t.x) (p t.y && p t.z) k in
    (and_l (p t.x) (p t.y && p t.z) k, and_l (p t.y) (p t.z) r, and_r (p t.y) (p t.z) r)

abbrev pub each3 : {A B : Type 0} → (A → B) → Three A → Three B
each3 g t = record { x = g t.x; y = g t.y; z = g t.z }

module _ (f : Format) (w : ℕ) (b : ℕ → Bound) where
  abbrev safe : Term → Bool
  safe t = no_overflow f w b t

  abbrev most : ℕ → Term → Bool
  most e t = leb (bound f w b t).error e

  -- each is within the bound of its tree
  module _ (x : ℕ → Float) (v : ℕ → Value) (z : 0 < w) (h : (i : ℕ) → ForwardError w (x i) (v i) (b i)) where
    abbrev answer : Term → Float
    answer t = computed f x t

    abbrev truth : Term → Value
    truth t = exact v t

    three_safe : (t : Three Term) → T (all3 safe t)
        → ThreeWithin w (each3 answer t) (each3 truth t) (each3 (bound f w b) t)
    three_safe t k =
        let r = three_tests safe t k in
        let go : (u : Term) → T (safe u) → ForwardError w (answer u) (truth u) (bound f w b u) =
        forward_error f w x v b z h in
        record { x = go t.x r.0; y = go t.y r.1; z = go t.z r.2 }

    pub three_within : (t : Three Term) (e : ℕ) → T (three_hold f w b t e)
        → ThreeWithin w (each3 answer t) (each3 truth t) (each3 (bound f w b) t)
    three_within t e k = three_safe t (and_l (all3 safe t) (all3 (most e) t) k)

    pub columns_within : (t : Columns Term) (e : ℕ) → T (columns_hold f w b t e)
        → ColumnsWithin w (each3 (each3 answer) t) (each3 (each3 truth) t) (each3 (each3 (bound f w b)) t)
    columns_within t e k =
        let r = three_tests (all3 safe) t (and_l (all3 (all3 safe) t) (all3 (all3 (most e)) t) k) in
        record { x = three_safe t.x r.0; y = three_safe t.y r.1; z = three_safe t.z r.2 }

  -- so within e, where no bound is above it
  three_most : (a : Vec3) (p : Three Value) (t : Three Term) (e : ℕ)
      → ThreeWithin w (three_of a) p (each3 (bound f w b) t) → T (all3 (most e) t) → VecError w a p e
  three_most a p t e h k =
      let r = three_tests (most e) t k in
      let go : (x : Float) (y : Value) (u : Term) → ForwardError w x y (bound f w b u) → T (most e u)
      → AbsoluteError w x y e =
      λ x y u g i. error_wider w x y (bound f w b u).error e (leb→le (bound f w b u).error e i) g.close in
      record { x = go a.x p.x t.x h.x r.0; y = go a.y p.y t.y h.y r.1; z = go a.z p.z t.z h.z r.2 }

  pub three_error : (a : Vec3) (p : Three Value) (t : Three Term) (e : ℕ)
      → ThreeWithin w (three_of a) p (each3 (bound f w b) t) → T (three_hold f w b t e) → VecError w a p e
  three_error a p t e h k = three_most a p t e h (and_r (all3 safe t) (all3 (most e) t) k)

  pub columns_error : (a : Mat3) (p : Columns Value) (t : Columns Term) (e : ℕ)
      → ColumnsWithin w (columns_of a) p (each3 (each3 (bound f w b)) t) → T (columns_hold f w b t e) → MatError w a p e
  columns_error a p t e h k =
      let r = three_tests (all3 (most e)) t (and_r (all3 (all3 safe) t) (all3 (all3 (most e)) t) k) in
      record {
        c0 = three_most a.c0 p.x t.x e h.x r.0;
        c1 = three_most a.c1 p.y t.y e h.y r.1;
        c2 = three_most a.c2 p.z t.z e h.z r.2;
      }

-- ---- the blocks
pub record BlocksWithin (w : ℕ) (j : Sim3Jac) (x : Blocks Value) (u : Blocks Bound) : Type 0 where
  pub b : ColumnsWithin w (columns_of j.b) x.b u.b
  pub c : ColumnsWithin w (columns_of j.c) x.c u.c
  pub f : ThreeWithin w (three_of j.f) x.f u.f

abbrev pub bounds_of_blocks : Format → ℕ → (ℕ → Bound) → Blocks Bound
bounds_of_blocks f w b =
    record {
      b = each3 (each3 (bound f w b)) tree_blocks.b;
      c = each3 (each3 (bound f w b)) tree_blocks.c;
      f = each3 (bound f w b) tree_blocks.f;
    }

blocks_tests : (f : Format) (w : ℕ) (b : ℕ → Bound) (p q r : ℕ) → T (blocks_hold f w b p q r)
    → T (columns_hold f w b tree_blocks.b p) × T (columns_hold f w b tree_blocks.c q)
    × T (three_hold f w b tree_blocks.f r)
unfolding blocks_hold
blocks_tests f w b p q r t =
    let kb = columns_hold f w b tree_blocks.b p in
    let kc = columns_hold f w b tree_blocks.c q in
    let kf = three_hold f w b tree_blocks.f r in
    let t1 : T (kc && kf) = and_r kb (kc && kf) t in
    (and_l kb (kc && kf) t, and_l kc kf t1, and_r kc kf t1)

pub blocks_within : (f : Format) (phi rho : Vec3) (c : Sim3Coeffs) (jl : Mat3) (w a b : ℕ) (k : Eight Bound) (l : Bound)
    (p q r : ℕ) → 0 < w → T (blocks_hold f w (blocks_bounds w a b k l) p q r) → VecIn w a phi → VecIn w b rho
    → (y : Eight Value) → EightWithin w (eight_of c) y k → (m : Columns Value)
    → ColumnsWithin w (columns_of jl) m (same9 l) → BlocksWithin w (jl_blocks f phi rho c jl)
    (exact_blocks (exact_vec phi) (exact_vec rho) y m) (bounds_of_blocks f w (blocks_bounds w a b k l))
unfolding tree_blocks exact_blocks computed exact jl_blocks jl_q poly_matrix mat_outer mat_of_rows
    mat_identity mat_hat mat_scale mat_add mat_sub mat_mul_vec mat_mul mat_mul_hat vec_hat_mul mat_hat_mul vec_neg
    vec_scale vec_cross vec_add vec_sub sub
blocks_within f phi rho c jl w a b k l p q r z t hp hr y hc m hj =
    let floats = blocks_row f0 f1 f2 (three_of phi) (three_of rho) (eight_of c) (columns_of jl) in
    let values = blocks_row (value_of f0) (value_of f1) (value_of f2) (exact_vec phi) (exact_vec rho) y m in
    let bounds =
    blocks_row no_bound (errorless w) (errorless (2 * w)) (same3 (errorless a)) (same3 (errorless b)) k (same9 l) in
    let zero = leaf_forward w f0 0 (omega arith) in
    let two = leaf_forward w f2 (2 * w) (two_bounded w) in
    let of = λ (u : ℕ) (x : Float) (i : Bounded w x u). leaf_forward w x u i in
    let all : AllForwardError w floats values bounds =
    zero ◁ one_forward w ◁ two ◁ of a phi.x hp.x ◁ of a phi.y hp.y ◁ of a phi.z hp.z ◁ of b rho.x hr.x ◁ of b rho.y hr.y
    ◁ of b rho.z hr.z ◁ hc.v0 ◁ hc.v1 ◁ hc.v2 ◁ hc.w0 ◁ hc.w1 ◁ hc.w2 ◁ hc.dv1 ◁ hc.dv2
    ◁ hj.x.x ◁ hj.x.y ◁ hj.x.z ◁ hj.y.x ◁ hj.y.y ◁ hj.y.z ◁ hj.z.x ◁ hj.z.y ◁ hj.z.z ◁ tt in
    let B = blocks_bounds w a b k l in
    let F = nth f0 floats in
    let V = nth (value_of f0) values in
    let h = nth_forward w floats values bounds all in
    let s = blocks_tests f w B p q r t in
    record {
      b = columns_within f w B F V z h tree_blocks.b p s.0;
      c = columns_within f w B F V z h tree_blocks.c q s.1;
      f = three_within f w B F V z h tree_blocks.f r s.2;
    }

blocks_accurate : (f : Format) (phi rho : Vec3) (c : Sim3Coeffs) (jl : Mat3)
    → BlocksAccurate f phi rho c jl (jl_blocks f phi rho c jl)
blocks_accurate f phi rho c jl w a b k l p q r z t hp hr y hc m hj =
    let j = jl_blocks f phi rho c jl in
    let x = exact_blocks (exact_vec phi) (exact_vec rho) y m in
    let B = blocks_bounds w a b k l in
    let s = blocks_tests f w B p q r t in
    let h = blocks_within f phi rho c jl w a b k l p q r z t hp hr y hc m hj in
    record {
      b = columns_error f w B j.b x.b tree_blocks.b p h.b s.0;
      c = columns_error f w B j.c x.c tree_blocks.c q h.c s.1;
      f = three_error f w B j.f x.f tree_blocks.f r h.f s.2;
    }

-- ---- from the tangent: the coefficients of the series are not scaled, and each is times 1
abbrev pub Range : Format → Bound → Type 0
Range f b = T (in_range f (2 ^ 100) (prod_reach (2 ^ 100) (errorless (2 ^ 100)) b))

abbrev pub Ranges : Format → Eight Bound → Type 0
Ranges f b =
    Range f b.v0 × Range f b.v1 × Range f b.v2 × Range f b.w0 × Range f b.w1 × Range f b.w2 × Range f b.dv1
    × Range f b.dv2

ranges : (f : Format) → Ranges f (coefficient_bounds f)
ranges binary32 = (tt, tt, tt, tt, tt, tt, tt, tt)
ranges binary64 = (tt, tt, tt, tt, tt, tt, tt, tt)

pub unscaled_within : (f : Format) (tau : Sim3Tangent) (v : Values) (y : Eight Value) (b : Eight Bound)
    → T (lt (coeffs_delta f tau.sigma (vec_norm_sq f tau.phi)) (series_below f)) → Ranges f b
    → EightWithin (2 ^ 100) (eight_of (coeffs_scaled f tau.sigma (vec_norm_sq f tau.phi) v).c) y b
    → EightWithin (2 ^ 100) (eight_of (coeffs_unscaled f tau.sigma (vec_norm_sq f tau.phi) v)) y (unscaled_bounds f b)
unfolding coeffs_unscaled coeffs_unscale
unscaled_within f tau v y b t r h =
    let z = vec_norm_sq f tau.phi in
    let c = coeffs_scaled f tau.sigma z v in
    let q = not_scaled f tau.sigma z v t in
    let go : (x : Float) (u : Value) (d : Bound) → ForwardError (2 ^ 100) x u d → Range f d
    → ForwardError (2 ^ 100) (mul f (cond c.scaled v.up f1) x) u (once_more f d) =
    λ x u d g i. subst (λ (s : Bool). ForwardError (2 ^ 100) (mul f (cond s v.up f1) x) u (once_more f d)) (sym q)
    (unscaled-within f (2 ^ 100) x u d.magnitude d.error (lit< tt) g.close g.size g.above i) in
    record {
      v0 = go c.c.v0 y.v0 b.v0 h.v0 r.0;
      v1 = go c.c.v1 y.v1 b.v1 h.v1 r.1;
      v2 = go c.c.v2 y.v2 b.v2 h.v2 r.2;
      w0 = go c.c.w0 y.w0 b.w0 h.w0 r.3;
      w1 = go c.c.w1 y.w1 b.w1 h.w1 r.4;
      w2 = go c.c.w2 y.w2 b.w2 h.w2 r.5;
      dv1 = go c.c.dv1 y.dv1 b.dv1 h.dv1 r.6;
      dv2 = go c.c.dv2 y.dv2 b.dv2 h.dv2 r.7;
    }

left_accurate : (f : Format) (tau : Sim3Tangent) (v : Values) (jl : Mat3)
    → LeftJacobianAccurate f tau jl (jac_jl f tau v jl)
unfolding jac_jl
left_accurate f tau v jl b p q r t d hp hr m hm n =
    let z = vec_norm_sq f tau.phi in
    let y = exact_eight (value_of tau.sigma) (value_of z) (most_terms f + n) in
    let k = coefficient_bounds f in
    blocks_accurate f tau.phi tau.rho (coeffs_unscaled f tau.sigma z v) jl (2 ^ 100) (phi_most f) b
    (unscaled_bounds f k) (rotation_bound f) p q r (lit< tt) t hp hr y
    (unscaled_within f tau v y k d (ranges f)
    ((coefficient_sizes_hold f).sizes tau.sigma z v d (norm_plain f tau.phi) n)) m hm

-- what specs/Blocks.antt states
pub blocks_theorem : BlocksTheorem
blocks_theorem =
    record {
      blocks = blocks_accurate;
      left = left_accurate;
      unit_doubles = λ tau v jl. left_accurate binary64 tau v jl _ _ _ _ (unfold blocks_hold in tt);
      unit_singles = λ tau v jl. left_accurate binary32 tau v jl _ _ _ _ (unfold blocks_hold in tt);
      doubles = λ tau v jl. left_accurate binary64 tau v jl _ _ _ _ (unfold blocks_hold in tt);
      singles = λ tau v jl. left_accurate binary32 tau v jl _ _ _ _ (unfold blocks_hold in tt);
    }

pub blocks_hold_of : (f : Format) (phi rho : Vec3) (c : Sim3Coeffs) (jl : Mat3) (j : Sim3Jac)
    → j ≡ jl_blocks f phi rho c jl → BlocksAccurate f phi rho c jl j
blocks_hold_of f phi rho c jl j e =
    subst (λ (i : Sim3Jac). BlocksAccurate f phi rho c jl i) (sym e) (blocks_accurate f phi rho c jl)

pub left_holds : (f : Format) (tau : Sim3Tangent) (v : Values) (jl : Mat3) (j : Sim3Jac) → j ≡ jac_jl f tau v jl
    → LeftJacobianAccurate f tau jl j
left_holds f tau v jl j e = subst (λ (i : Sim3Jac). LeftJacobianAccurate f tau jl i) (sym e) (left_accurate f tau v jl)
