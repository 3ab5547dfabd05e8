-- The running join beside the product of true similarities. Assumes nothing.
use mathlib.Core.Path.{◌≡◌, sym, subst}
use mathlib.Core.List.{List, [], ◌∷◌}
use Prim.Native.Nat.{ℕ, suc, ◌+◌, ◌-◌, ◌*◌, ◌^◌, ◌≤◌, ◌<◌}
use native.Mathlib.Nat.{le_refl, le_trans, le_of_eq, suc-mul, mul_comm, mul-pos, zero-lt-suc, mul-le-mul_left}
use native.Mathlib.Nat.{mul-le-mul_right}
use native.Mathlib.Omega.{arith}
use lib.Dec.{eqb, lit≤}
use lib.Ieee.{Float, Format, binary64}
use Rattle.linalg.specs.Floats.{Vec3}
use Rattle.sim3.specs.Pose.{pose_act}
use Rattle.frames.specs.Floats.{Pose}
use Rattle.running.specs.Running.{Start, due}
use Rattle.std.specs.Prelude.{Some, None}
use Rattle.rounding.specs.Value.{Value, AtMost}
use Rattle.rounding.specs.Tree.{upward}
use Rattle.rounding.proofs.Differences.{zeros}
use Rattle.rounding.proofs.Denominators.{Is}
use Rattle.rounding.proofs.Fractions.{near_wider}
use Rattle.rounding.proofs.Forward.{error_wider}
use Rattle.rounding.proofs.Leaves.{leaf_forward}
use Rattle.rounding.proofs.Ring.{Gap, ◌⊗◌, whole}
use Rattle.accuracy.specs.Box.{Three, Four, exact_vec, exact_quat, VecIn, VecNear}
use Rattle.accuracy.specs.Quaternions.{exact_hamilton, Normal}
use Rattle.accuracy.specs.Rotation.{true_error}
use Rattle.accuracy.proofs.Euler.{Quad, hamilton, squared}
use Rattle.accuracy.proofs.Length.{Level, level-mul, level_trans, to_whole, scaled}
use Rattle.accuracy.proofs.Hamilton.{Is4, is-level, den, clear, clear_is, hamilton-is, scaled-is, Above, hamilton-above}
use Rattle.accuracy.proofs.Hamilton.{value-is, even_above, normal_even}
use Rattle.accuracy.proofs.Rotation.{Above3, floats-above, quat_values, rotate-above, similarity-near, beside, self}
use Rattle.running_accuracy.specs.Joins.{Exact, exact_pose, exact_join}
use Rattle.running_accuracy.specs.Running.{Step, joins, renews, count, join_at, exact_renormalized, exact_ran, JoinBox}
use Rattle.running_accuracy.specs.Running.{away, StepIn, AllStepsIn, run_holds, act_test, exact_act_by, ActionError}
use Rattle.running_accuracy.specs.Running.{FirstIn, page_box, pose_after}
use Rattle.running_accuracy.specs.Similarity.{true_join, true_ran, true_act_by, SimilarityError, SimilarityAccurate}
use Rattle.running_accuracy.specs.Similarity.{SimilarityIn, close_page_box, SimilarityTheorem}
use Rattle.running_accuracy.proofs.Choice.{either, both}
use Rattle.running_accuracy.proofs.Newton.{factor, factor_whole, one-level, five}
use Rattle.running_accuracy.proofs.Running.{Fine, fine, normal_wider, normal-product, normal-newton, newton_is}
use Rattle.running_accuracy.proofs.Running.{newton_above, small, one-step, not_due, page_accurate}
use Rattle.running_accuracy.proofs.Page.{page_thousand, running}

-- ---- the exact running pose X and the product Y: quaternions that are multiples of one another, translations near
record Beside (L : JoinBox) (c j : ℕ) (X Y : Exact) : Type 0 where
  a : Quad Gap
  e : ℕ
  f : ℕ
  e-above : 0 < e
  f-above : 0 < f
  x-is : Is4 X.q a e
  y-is : Is4 Y.q a f
  x-above : Above X.q
  y-above : Above Y.q
  t-above : Above3 X.t
  normal : Normal L.unit c X.q
  near : VecNear L.unit X.t Y.t j

den-above : (q : Four Value) → Above q → 0 < den q
den-above q h = mul-pos h.w (mul-pos h.x (mul-pos h.y h.z))

vec-wider : (u e k : ℕ) (x y : Three Value) → e ≤ k → VecNear u x y e → VecNear u x y k
vec-wider u e k x y l h =
    record {
      x = near_wider u x.x y.x e k l h.x;
      y = near_wider u x.y y.y e k l h.y;
      z = near_wider u x.z y.z e k l
          h.z;
    }

beside-wider : (L : JoinBox) (c k j i : ℕ) (X Y : Exact) → c ≤ k → j ≤ i → Beside L c j X Y → Beside L k i X Y
beside-wider L c k j i X Y l m h =
    record {
      a = h.a;
      e = h.e;
      f = h.f;
      e-above = h.e-above;
      f-above = h.f-above;
      x-is = h.x-is;
      y-is = h.y-is;
      x-above = h.x-above;
      y-above = h.y-above;
      t-above = h.t-above;
      normal = normal_wider L.unit c k X.q l h.normal;
      near = vec-wider L.unit j i X.t Y.t m h.near;
    }

-- a multiple by the factor of a Newton step
newton-level : (a : Gap) (f : Gap) (C : ℕ) → Level f (whole C) → Level (a ⊗ f) (whole C ⊗ a)
newton-level a f C h = level_trans (a ⊗ f) (a ⊗ whole C) (whole C ⊗ a) (level-mul a a f (whole C) (same a) h)
    (turned a C)
  where
    same : (a : Gap) → Level a a
    same a = unfold Level in omega arith

    turned : (a : Gap) (C : ℕ) → Level (a ⊗ whole C) (whole C ⊗ a)
    turned a C = unfold Level in simp zeros (omega (arith, mul_comm a.p C, mul_comm a.n C))

module _ (L : JoinBox) (F : Fine L) where
  below-one : away L < L.unit
  below-one = go (away L) L.unit F.positive F.quarter
    where
      go : (a u : ℕ) → 0 < u → 4 * a ≤ u → a < u
      go a u z h = omega arith

  -- a join
  beside-join : (f : Format) (k j : ℕ) (X Y : Exact) (x : Pose) (up : Float) (s : Value) → k < L.every →
      Beside L (L.drift * suc k) j X Y → StepIn L x up s →
      Beside L (L.drift * suc (suc k)) (true_error L.unit (away L) L.translation L.scale + j)
      (exact_join X (join_at x up s)) (true_join Y (join_at x up s))
  unfolding exact_join true_join
  beside-join f k j X Y x up s kl h g =
      let u = L.unit in
      let q = exact_quat x.sim3.q in
      let qa = quat_values x.sim3.q in
      let t = exact_vec x.sim3.t in
      let ga = den-above q qa in
      let i = clear_is q in
      let o = upward u (L.drift * L.every * L.square) in
      let ht = g.fit.t in
      let wide : L.drift * suc k ≤ away L = mul-le-mul_left L.drift (later k L.every kl) in
      let n = normal_wider u (L.drift * suc k) (away L) X.q wide h.normal in
      let r = rotate-above X.q t h.x-above (floats-above x.sim3.t) in
      record {
        a = hamilton h.a (clear q);
        e = h.e * den q;
        f = h.f * den q;
        e-above = mul-pos h.e-above ga;
        f-above = mul-pos h.f-above ga;
        x-is = hamilton-is X.q q h.a (clear q) h.e (den q) h.x-is i;
        y-is = hamilton-is Y.q q h.a (clear q) h.f (den q) h.y-is i;
        x-above = hamilton-above X.q q h.x-above qa;
        y-above = hamilton-above Y.q q h.y-above qa;
        t-above = (
          mul-pos (mul-pos r.0 g.fit.above) h.t-above.0,
          (mul-pos (mul-pos r.1.0 g.fit.above) h.t-above.1.0, mul-pos (mul-pos r.1.1 g.fit.above) h.t-above.1.1),
        );
        normal = normal_wider u (L.drift * suc k + L.square + 3 * o) (L.drift * suc (suc k)) (exact_hamilton X.q q)
            (one-step f L F k)
            (normal-product u (L.drift * suc k) L.square o X.q q h.a h.e F.positive h.e-above (small f L F k kl) h.x-is
            h.x-above qa h.normal g.normal);
        near = similarity-near u (away L) L.translation L.scale j X.q Y.q t X.t Y.t s h.a h.e h.f F.positive below-one
            h.e-above h.f-above h.x-is h.y-is h.x-above h.y-above (floats-above x.sim3.t) n
            (leaf_forward u x.sim3.t.x L.translation ht.x).size (leaf_forward u x.sim3.t.y L.translation ht.y).size
            (leaf_forward u x.sim3.t.z L.translation ht.z).size g.fit.scale g.fit.above h.near;
      }
    where
      later : (k m : ℕ) → k < m → suc k ≤ suc m
      later k m h = omega arith

  -- a renormalisation of the exact running pose alone
  beside-newton : (j : ℕ) (X Y : Exact) → Beside L (away L) j X Y → Beside L (L.drift * suc 0) j
      (exact_renormalized X) Y
  beside-newton j X Y h =
      let u = L.unit in
      let c = away L in
      let a = h.a in
      let E = h.e * h.e in
      let n = (squared a).p - (squared a).n in
      let i = value-is a in
      let ev = normal_even u c X.q a h.e h.x-above h.x-is h.normal in
      let l1 = even_above u c (squared a).p (squared a).n n E i ev.above in
      let l5 = five u c n E F.positive F.quarter l1 in
      let C = E * 3 - n in
      let l : Level (factor a h.e) (whole C) = one-level _ C
      (factor_whole (E * 3) (squared a) n C (to_whole (squared a) n i) (left E n l5)) in
      let k = newton_is X.q a h.e h.x-is in
      let e' = h.e * (E * 2) in
      let one : (x : Value) (g : Gap) → Is x (g ⊗ factor a h.e).p (g ⊗ factor a h.e).n e' →
      Is x (whole C ⊗ g).p (whole C ⊗ g).n e' =
      λ x g s. is-level x (g ⊗ factor a h.e) (whole C ⊗ g) e' (newton-level g (factor a h.e) C l) s in
      record {
        a = scaled C a;
        e = e';
        f = C * h.f;
        e-above = mul-pos h.e-above (mul-pos (mul-pos h.e-above h.e-above) (zero-lt-suc 1));
        f-above = mul-pos (some E n l5 (mul-pos h.e-above h.e-above)) h.f-above;
        x-is = record { w = one _ a.w k.w; x = one _ a.x k.x; y = one _ a.y k.y; z = one _ a.z k.z };
        y-is = scaled-is Y.q a h.f C h.y-is;
        x-above = newton_above X.q h.x-above;
        y-above = h.y-above;
        t-above = h.t-above;
        normal = normal-newton u c (L.drift * suc 0) X.q a h.e F.positive h.e-above F.quarter
            (le_trans F.again (le_of_eq (once L.drift))) h.x-is h.x-above h.normal;
        near = h.near;
      }
    where
      left : (E n : ℕ) → 4 * n ≤ 5 * E → n + (E * 3 - n) ≡ E * 3
      left E n h = omega arith

      some : (E n : ℕ) → 4 * n ≤ 5 * E → 0 < E → 0 < E * 3 - n
      some E n h z = omega arith

      once : (c : ℕ) → c ≡ c * suc 0
      once c = omega arith

  -- ---- all of them
  abbrev step-error : ℕ
  step-error = true_error L.unit (away L) L.translation L.scale

  beside-run : (f : Format) (l : List Step) (n k i j J : ℕ) (X Y : Exact) → 0 < n → n ≤ L.every → k < L.every →
      AllStepsIn L l →
      count l * step-error + j ≤ J → Beside L (L.drift * suc k) j X Y → Beside L (away L) J (exact_ran n k i X l)
      (true_ran i Y l)
  unfolding count exact_ran true_ran AllStepsIn
  beside-run f [] n k i j J X Y nz nm kl a r h =
      beside-wider L (L.drift * suc k) (away L) j J X Y (mul-le-mul_left L.drift (later k L.every kl))
      (none step-error j J r) h
    where
      later : (k m : ℕ) → k < m → suc k ≤ suc m
      later k m h = omega arith

      none : (t j J : ℕ) → 0 * t + j ≤ J → j ≤ J
      none t j J h = omega arith
  beside-run f (renews m ∷ l) n k i j J X Y nz nm kl a r h = beside-run f l m k i j J X Y a.0.0 a.0.1 kl a.1 r h
  beside-run f (joins x up s ∷ l) n k i j J X Y nz nm kl a r h =
      let B = beside-join f k j X Y x up s kl h a.0 in
      let r' = more (count l) step-error j J r in
      both (Beside L (away L) J) (eqb i x.to) _ _ _ _
      (λ yes. either (λ (Z : Exact). Beside L (away L) J Z (true_ran x.from (true_join Y (join_at x up s)) l))
      (due n (k + 1)) _ _
      (λ is. beside-run f l n 0 x.from (step-error + j) J _ _ nz nm (some k L.every kl) a.1 r'
      (beside-newton (step-error + j) _ _ (beside-wider L (L.drift * suc (suc k)) (away L) _ _ _ _
      (mul-le-mul_left L.drift (up' k L.every kl)) (le_refl _) B)))
      (λ not. beside-run f l n (k + 1) x.from (step-error + j) J _ _ nz nm (le_trans (not_due n (k + 1) nz not) nm)
      a.1 r'
      (subst (λ (m : ℕ). Beside L (L.drift * suc m) (step-error + j) (exact_join X (join_at x up s))
      (true_join Y (join_at x up s))) (sym (plus_one k)) B)))
      (λ no. beside-run f l n k i j J X Y nz nm kl a.1 (fewer (count l) step-error j J r) h)
    where
      more : (c t j J : ℕ) → suc c * t + j ≤ J → c * t + (t + j) ≤ J
      more c t j J h = let e : suc c * t ≡ c * t + t = suc-mul c t in omega arith

      fewer : (c t j J : ℕ) → suc c * t + j ≤ J → c * t + j ≤ J
      fewer c t j J h = let e : suc c * t ≡ c * t + t = suc-mul c t in omega arith

      some : (k m : ℕ) → k < m → 0 < m
      some k m h = omega arith

      up' : (k m : ℕ) → k < m → suc (suc k) ≤ suc m
      up' k m h = omega arith

      plus_one : (k : ℕ) → k + 1 ≡ suc k
      plus_one k = omega arith

  starts : (p : Pose) → FirstIn L p → Beside L (L.drift * suc 0) 0 (exact_pose p.sim3) (exact_pose p.sim3)
  starts p h =
      let q = exact_quat p.sim3.q in
      let a = quat_values p.sim3.q in
      record {
        a = clear q;
        e = den q;
        f = den q;
        e-above = den-above q a;
        f-above = den-above q a;
        x-is = clear_is q;
        y-is = clear_is q;
        x-above = a;
        y-above = a;
        t-above = floats-above p.sim3.t;
        normal = normal_wider L.unit L.square (L.drift * suc 0) q (le_trans F.start (le_of_eq (once L.drift))) h.normal;
        near = self L.unit (exact_vec p.sim3.t);
      }
    where
      once : (c : ℕ) → c ≡ c * suc 0
      once c = omega arith

  -- ---- the action on a point
  acts : (f : Format) (b s e J : ℕ) (up : Float) (z : Value) (pt : Vec3) (r : Start) (X Y : Exact) →
      VecIn L.unit b pt → AtMost L.unit z s → 0 < z.d →
      Beside L (away L) J X Y → ActionError f L.unit e up z pt r X → SimilarityError f L.unit
      (e + (true_error L.unit (away L) b s + J)) up z pt r Y
  unfolding ActionError SimilarityError exact_act_by true_act_by
  acts f b s e J up z pt None X Y hb hs ha h k = k
  acts f b s e J up z pt (Some x) X Y hb hs ha h k =
      let u = L.unit in
      let v = exact_vec pt in
      let r = rotate-above X.q v h.x-above (floats-above pt) in
      beside u e (true_error u (away L) b s + J) (pose_act f x.sim3 up pt) (exact_act_by X z pt) (true_act_by Y z pt) (
        mul-pos (mul-pos r.0 ha) h.t-above.0,
        (mul-pos (mul-pos r.1.0 ha) h.t-above.1.0, mul-pos (mul-pos r.1.1 ha) h.t-above.1.1),
      )
      k
      (similarity-near u (away L) b s J X.q Y.q v X.t Y.t z h.a h.e h.f F.positive below-one h.e-above h.f-above
      h.x-is h.y-is h.x-above h.y-above
      (floats-above pt) h.normal (leaf_forward u pt.x b hb.x).size (leaf_forward u pt.y b hb.y).size
      (leaf_forward u pt.z b hb.z).size hs ha h.near)

  beside-exact : (f : Format) (n N : ℕ) (p : Pose) (l : List Step) → count l ≤ N → 0 < n → n ≤ L.every → FirstIn L p →
      AllStepsIn L l →
      Beside L (away L) (N * step-error) (exact_ran n 0 p.from (exact_pose p.sim3) l)
      (true_ran p.from (exact_pose p.sim3) l)
  beside-exact f n N p l c nz nm hp a =
      beside-run f l n 0 p.from 0 (N * step-error) (exact_pose p.sim3) (exact_pose p.sim3) nz nm (le_trans nz nm) a
      (all (count l) N step-error c) (starts p hp)
    where
      all : (c N t : ℕ) → c ≤ N → c * t + 0 ≤ N * t
      all c N t h = let e = mul-le-mul_right t h in omega arith

pub similarity_accurate : (f : Format) (n : ℕ) (p : Pose) (up : Float) (l : List Step) → SimilarityAccurate f n p l
    (pose_after f n p up l)
similarity_accurate f n p up l L b s h e N scale z pt tl tm t c nz nm hp a hb hu hs ha =
    let F = fine L tl in
    acts L F f b s e (N * true_error L.unit (away L) L.translation L.scale) scale z pt (pose_after f n p up l) _ _ hb
    hs ha
    (beside-exact L F f n N p l c nz nm hp a)
    (page_accurate f n p up l L b s h e N scale z pt tl tm t c nz nm hp a hb hu hs ha)

wider : (f : Format) (u e k : ℕ) (up : Float) (z : Value) (pt : Vec3) (r : Start) (Y : Exact) → e ≤ k →
    SimilarityError f u e up z pt r Y → SimilarityError f u k up z pt r Y
unfolding SimilarityError
wider f u e k up z pt None Y l h = h
wider f u e k up z pt (Some x) Y l h =
    let P = pose_act f x.sim3 up pt in
    let T = true_act_by Y z pt in
    record {
      x = error_wider u P.x T.x e k l h.x;
      y = error_wider u P.y T.y e k l h.y;
      z = error_wider u P.z T.z e k l
          h.z;
    }

-- each with a test of its own: what the steps of one definition allow
close_hundred : SimilarityIn binary64 (close_page_box (2 ^ 50 + 2 ^ 58)) 100 (2 ^ 87)
close_hundred n p up l scale z pt c nz nm hp a hb hu hs ha =
    wider binary64 (2 ^ 100) _ (2 ^ 87) scale z pt (pose_after binary64 n p up l)
    (true_ran p.from (exact_pose p.sim3) l)
    (lit≤ tt)
    (similarity_accurate binary64 n p up l (close_page_box (2 ^ 50 + 2 ^ 58)) (2 ^ 116) (2 ^ 102) (2 ^ 50 + 2 ^ 58)
    (20 * 2 ^ 82) 100 scale z pt tt
    tt
    (unfold run_holds act_test in tt) c nz nm hp a hb hu hs ha)

close_thousand : SimilarityIn binary64 (close_page_box (2 ^ 50 + 2 ^ 61)) 1000 (2 ^ 93)
close_thousand n p up l scale z pt c nz nm hp a hb hu hs ha =
    wider binary64 (2 ^ 100) _ (2 ^ 93) scale z pt (pose_after binary64 n p up l)
    (true_ran p.from (exact_pose p.sim3) l)
    (lit≤ tt)
    (similarity_accurate binary64 n p up l (close_page_box (2 ^ 50 + 2 ^ 61)) (2 ^ 116) (2 ^ 102) (2 ^ 50 + 2 ^ 61)
    (15 * 2 ^ 89) 1000 scale z pt
    tt tt
    (unfold run_holds act_test in tt) c nz nm hp a hb hu hs ha)

-- what specs/Similarity.antt states
pub similarity : SimilarityTheorem
similarity =
    record {
      similarity = similarity_accurate;
      page_hundred = λ n p up l scale z pt c nz nm hp a hb hu hs ha.
          let X = exact_ran n 0 p.from (exact_pose p.sim3) l in
          let Y = true_ran p.from (exact_pose p.sim3) l in
          let F = fine page_box tt in
          let r = pose_after binary64 n p up l in
          wider binary64 (2 ^ 100) _ (2 ^ 92) scale z pt r Y (lit≤ tt)
          (acts page_box F binary64 (2 ^ 116) (2 ^ 102) (2 ^ 86) (100 * true_error (2 ^ 100) (away page_box) (2 ^ 116)
          (2 ^ 102)) scale z pt r X Y hb hs ha
          (beside-exact page_box F binary64 n 100 p l c nz nm hp a)
          (running.page_hundred n p up l scale z pt c nz nm hp a hb hu hs ha));
      page_thousand = λ n p up l scale z pt c nz nm hp a hb hu hs ha.
          let X = exact_ran n 0 p.from (exact_pose p.sim3) l in
          let Y = true_ran p.from (exact_pose p.sim3) l in
          let F = fine page_box tt in
          let r = pose_after binary64 n p up l in
          wider binary64 (2 ^ 100) _ (2 ^ 95) scale z pt r Y (lit≤ tt)
          (acts page_box F binary64 (2 ^ 116) (2 ^ 102) (6 * 2 ^ 90) (1000 * true_error (2 ^ 100) (away page_box)
          (2 ^ 116) (2 ^ 102)) scale z pt r X Y hb hs ha
          (beside-exact page_box F binary64 n 1000 p l c nz nm hp a)
          (page_thousand n p up l scale z pt c nz nm hp a hb hu hs ha));
      close_hundred = close_hundred;
      close_thousand = close_thousand;
    }
