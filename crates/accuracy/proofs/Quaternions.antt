-- The errors of the product of quaternions, of the Newton step, and of the translation of an inverse. Assumes nothing.
use mathlib.Core.Path.{refl}
use mathlib.Core.Bool.{◌&&◌}
use mathlib.Core.List.{List}
use Prim.Native.Nat.{ℕ, ◌+◌, ◌*◌, ◌/◌, ◌^◌}
use native.Mathlib.Omega.{arith}
use lib.Dec.{T, lit<}
use lib.Ieee.Fits.{and_l, and_r}
use lib.Ieee.{Float, Format, binary32, binary64, sub}
use Rattle.ieee.specs.Numbers.{f3, half}
use Rattle.linalg.specs.Vector.{vec_neg, vec_scale, vec_cross, vec_add}
use Rattle.so3.specs.Quat.{quat_conjugate, quat_mul, quat_renormalized, quat_norm_sq}
use Rattle.so3.specs.So3.{so3_act}
use Rattle.so3.specs.Floats.{Quat}
use Rattle.sim3.specs.Pose.{pose_inverse}
use Rattle.sim3.specs.Floats.{Sim3}
use Rattle.rounding.specs.Tree.{Term, computed, exact, bound, no_overflow}
use Rattle.rounding.specs.Leaves.{Bounded, AllBounded, error_at_most}
use Rattle.rounding.proofs.Leaves.{tree-error, two_bounded}
use Rattle.accuracy.specs.Box.{Three, Four, exact_quat}
use Rattle.accuracy.specs.Action.{all_three}
use Rattle.accuracy.specs.Quaternions.{all_four, exact_hamilton, exact_newton, exact_inverse, tree_quat_mul}
use Rattle.accuracy.specs.Quaternions.{tree_newton, tree_inverse, quat_mul_leaves, quat_mul_sizes, newton_leaves}
use Rattle.accuracy.specs.Quaternions.{newton_sizes, inverse_leaves, inverse_sizes, ProductAccurate}
use Rattle.accuracy.specs.Quaternions.{RenormalizedAccurate, InverseAccurate, QuaternionTheorem}

module _ (f : Format) (w : ℕ) (bs : List ℕ) (e : ℕ) where
  four-parts : (t : Four Term) → T (all_four f w bs t e)
      → T (error_at_most f w bs t.w e) × T (error_at_most f w bs t.x e) × T (error_at_most f w bs t.y e)
      × T (error_at_most f w bs t.z e)
  four-parts t k =
      let a = error_at_most f w bs t.w e in
      let b = error_at_most f w bs t.x e in
      let c = error_at_most f w bs t.y e in
      let d = error_at_most f w bs t.z e in
      let r : T (b && (c && d)) = and_r a (b && (c && d)) k in
      let s : T (c && d) = and_r b (c && d) r in
      (and_l a (b && (c && d)) k, and_l b (c && d) r, and_l c d s, and_r c d s)

  pub three-parts : (t : Three Term) → T (all_three f w bs t e) →
      T (error_at_most f w bs t.x e) × T (error_at_most f w bs t.y e) × T (error_at_most f w bs t.z e)
  three-parts t k =
      let b = error_at_most f w bs t.x e in
      let c = error_at_most f w bs t.y e in
      let d = error_at_most f w bs t.z e in
      let s : T (c && d) = and_r b (c && d) k in
      (and_l b (c && d) k, and_l c d s, and_r c d s)

pub product_accurate : (f : Format) (p q : Quat) → ProductAccurate f p q (quat_mul f p q)
unfolding computed exact tree_quat_mul quat_mul sub exact_hamilton
product_accurate f p q w a b e z k hp hq =
    let bs = quat_mul_sizes a b in
    let l = quat_mul_leaves p q in
    let t = four-parts f w bs e tree_quat_mul k in
    let all : AllBounded w l bs = (hp.w, (hp.x, (hp.y, (hp.z, (hq.w, (hq.x, (hq.y, (hq.z, tt)))))))) in
    let r = quat_mul f p q in
    let y = exact_hamilton (exact_quat p) (exact_quat q) in
    record {
      w = tree-error f w l bs tree_quat_mul.w r.w y.w e z all t.0 refl refl;
      x = tree-error f w l bs tree_quat_mul.x r.x y.x e z all t.1 refl refl;
      y = tree-error f w l bs tree_quat_mul.y r.y y.y e z all t.2 refl refl;
      z = tree-error f w l bs tree_quat_mul.z r.z y.z e z all t.3 refl refl;
    }

pub renormalized_accurate : (f : Format) (q : Quat) → RenormalizedAccurate f q (quat_renormalized f q)
unfolding computed exact tree_newton quat_renormalized quat_norm_sq sub exact_newton
renormalized_accurate f q w a e z k hq =
    let bs = newton_sizes w a in
    let l = newton_leaves q in
    let t = four-parts f w bs e tree_newton k in
    let three : Bounded w f3 (3 * w) = omega arith in
    let one : Bounded w half ((w + 1) / 2) = omega arith in
    let all : AllBounded w l bs = (three, (one, (hq.w, (hq.x, (hq.y, (hq.z, tt)))))) in
    let r = quat_renormalized f q in
    let y = exact_newton (exact_quat q) in
    record {
      w = tree-error f w l bs tree_newton.w r.w y.w e z all t.0 refl refl;
      x = tree-error f w l bs tree_newton.x r.x y.x e z all t.1 refl refl;
      y = tree-error f w l bs tree_newton.y r.y y.y e z all t.2 refl refl;
      z = tree-error f w l bs tree_newton.z r.z y.z e z all t.3 refl refl;
    }

pub inverse_accurate : (f : Format) (x : Sim3) (down : Float) → InverseAccurate f x down (pose_inverse f x down).t
unfolding computed exact tree_inverse pose_inverse vec_neg quat_conjugate so3_act vec_scale vec_cross vec_add sub
    exact_inverse
inverse_accurate f x down w q t s e z k hq ht hs =
    let bs = inverse_sizes w q t s in
    let l = inverse_leaves x down in
    let c = three-parts f w bs e tree_inverse k in
    let all : AllBounded w l bs = (two_bounded w, (hq.w, (hq.x, (hq.y, (hq.z, (ht.x, (ht.y, (ht.z, (hs, tt))))))))) in
    let r = (pose_inverse f x down).t in
    let y = exact_inverse x down in
    record {
      x = tree-error f w l bs tree_inverse.x r.x y.x e z all c.0 refl refl;
      y = tree-error f w l bs tree_inverse.y r.y y.y e z all c.1 refl refl;
      z = tree-error f w l bs tree_inverse.z r.z y.z e z all c.2 refl refl;
    }

-- what specs/Quaternions.antt states
pub quaternions : QuaternionTheorem
quaternions =
    record {
      product = product_accurate;
      renormalized = renormalized_accurate;
      inverse = inverse_accurate;
      product_doubles =
          λ p q. product_accurate binary64 p q (2 ^ 100) (2 ^ 100 + 2 ^ 60) (2 ^ 100 + 2 ^ 60) (2 ^ 51) (lit< tt)
          (unfold no_overflow bound tree_quat_mul in tt);
      product_singles =
          λ p q. product_accurate binary32 p q (2 ^ 100) (2 ^ 100 + 2 ^ 84) (2 ^ 100 + 2 ^ 84) (2 ^ 80) (lit< tt)
          (unfold no_overflow bound tree_quat_mul in tt);
      renormalized_doubles =
          λ q. renormalized_accurate binary64 q (2 ^ 100) (2 ^ 100 + 2 ^ 60) (2 ^ 52) (lit< tt)
          (unfold no_overflow bound tree_newton in tt);
      renormalized_singles =
          λ q. renormalized_accurate binary32 q (2 ^ 100) (2 ^ 100 + 2 ^ 84) (2 ^ 81) (lit< tt)
          (unfold no_overflow bound tree_newton in tt);
      inverse_doubles =
          λ x down. inverse_accurate binary64 x down (2 ^ 100) (2 ^ 100 + 2 ^ 60) (2 ^ 120) (2 ^ 104) (2 ^ 78) (lit< tt)
          (unfold no_overflow bound tree_inverse in tt);
      inverse_singles =
          λ x down. inverse_accurate binary32 x down (2 ^ 100) (2 ^ 100 + 2 ^ 84) (2 ^ 120) (2 ^ 104) (2 ^ 107)
          (lit< tt) (unfold no_overflow bound tree_inverse in tt);
    }
