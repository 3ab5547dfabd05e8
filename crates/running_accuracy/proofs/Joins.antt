-- Poses joined in a row: the error of the running pose. Assumes nothing.
use mathlib.Core.List.{List, [], ◌∷◌}
use native.Mathlib.Nat.{mul-pos}
use Prim.Native.Nat.{ℕ, zero, suc, ◌+◌, ◌*◌, ◌^◌, ◌≤◌, ◌<◌}
use native.Mathlib.Omega.{arith}
use mathlib.Core.Bool.{◌&&◌}
use lib.ListN.{length}
use lib.Dec.{T, leb, leb→le, lit<}
use lib.Ieee.{Float, Format, binary32, binary64}
use lib.Ieee.Fits.{and_l, and_r, and_i}
use Rattle.ieee.specs.Numbers.{f0, f2}
use Rattle.linalg.specs.Floats.{Vec3}
use Rattle.sim3.specs.Pose.{pose_act, pose_mul}
use Rattle.sim3.specs.Floats.{Sim3}
use Rattle.rounding.specs.Value.{Value, value_of, AtMost, AbsoluteError}
use Rattle.rounding.specs.Value.{plus, times, Near}
use Rattle.rounding.specs.Tree.{Term, leaf, prod, exact, Bound, reach, upward, bound, no_overflow, ForwardError}
use Rattle.rounding.specs.Leaves.{Bounded, sizes, nth, error_at_most}
use Rattle.accuracy.specs.Box.{VecIn, Three, VecError, VecNear, QuatError, exact_quat, exact_vec, vector_part}
use Rattle.accuracy.specs.Action.{exact_rotate, exact_act, tree_rotate, tree_act, act_sizes, all_three}
use Rattle.accuracy.specs.Rotation.{pure, turn_error}
use Rattle.accuracy.specs.Quaternions.{tree_quat_mul, quat_mul_sizes}
use Rattle.running_accuracy.specs.Products.{next_rotation}
use Rattle.running_accuracy.specs.Joins.{first_bound, JoinedIn, JoinedTheorem, Join, joined, Exact, exact_join}
use Rattle.running_accuracy.specs.Joins.{exact_joined, exact_pose, JoinIn, AllJoinsIn, PoseBound, exact_sizes}
use Rattle.running_accuracy.specs.Joins.{computed_sizes, carried_error, moved_bound, moved_no_overflow}
use Rattle.running_accuracy.specs.Joins.{next_pose, join_no_overflow, joins_hold}
use Rattle.rounding.proofs.Fractions.{near-plus, near_times, most-near}
use Rattle.rounding.proofs.Forward.{error_wider, error_trans, upward_enough, Sized, exact_sized}
use Rattle.rounding.proofs.Denominators.{Is, is-most}
use Rattle.rounding.proofs.Ring.{Gap}
use Rattle.accuracy.proofs.Action.{act_accurate}
use Rattle.accuracy.proofs.Hamilton.{Above, hamilton-above, clear, clear_is, den}
use Rattle.accuracy.proofs.Length.{Tall, long_w, long_x, long_y, long_z}
use Rattle.accuracy.proofs.Rotation.{Above3, floats-above, quat_values, pure-above, rotate-above, most-tall}
use Rattle.accuracy.proofs.Perturbed.{perturbed}
use Rattle.rounding.proofs.Leaves.{leaf_forward, float_sized, two_bounded, AllSized, nth_sized, value-above, error-near}
use Rattle.rounding.proofs.Leaves.{bounded_from}
use Rattle.running_accuracy.proofs.Products.{Run, one_more, run_close, first, le_leb}

-- ---- the translation
abbrev values : Exact → Value → Vec3 → List Value
values x s p =
    value_of f2 ∷ x.q.w ∷ x.q.x ∷ x.q.y ∷ x.q.z ∷ value_of p.x ∷ value_of p.y ∷ value_of p.z ∷ s ∷ x.t.x ∷ x.t.y ∷ x.t.z
    ∷ []

pub record VecForwardError (w : ℕ) (v : Vec3) (t : Three Value) (b : Bound) : Type 0 where
  pub x : ForwardError w v.x t.x b
  pub y : ForwardError w v.y t.y b
  pub z : ForwardError w v.z t.z b

-- a number of the exact rotation, from its length
number_sized : (u m e : ℕ) (q : Value) (a : Gap) → 0 < e → Is q a.p a.n e → Tall u a (m * e) → 0 < q.d → Sized u q m
number_sized u m e q a z i t d = record { size = is-most u m q a.p a.n e z i t.above t.below; above = d }

-- what was computed, from its error and the exact value's size
near_bounded : (u : ℕ) (x : Float) (y : Value) (b : Bound) → ForwardError u x y b → Bounded u x (reach b)
near_bounded u x y b h =
    bounded_from u x y b.error (reach b) h.close
    (most-near u (value_of x) y b.magnitude b.error h.above (error-near u x y b.error h.close) h.size)

-- the test of one number serves all three
act_tests : (f : Format) (u q b s t : ℕ) → T (no_overflow f u (sizes (act_sizes u q b s t)) tree_act.x) →
    T (all_three f u (act_sizes u q b s t) tree_act (bound f u (sizes (act_sizes u q b s t)) tree_act.x).error)
unfolding no_overflow bound tree_act
act_tests f u q b s t k =
    let bs = act_sizes u q b s t in
    let e = (bound f u (sizes bs) tree_act.x).error in
    let h : T (error_at_most f u bs tree_act.x e) =
    and_i (no_overflow f u (sizes bs) tree_act.x) (leb (bound f u (sizes bs) tree_act.x).error e) k (le_leb e) in
    and_i (error_at_most f u bs tree_act.x e) (error_at_most f u bs tree_act.y e && error_at_most f u bs tree_act.z e) h
    (and_i (error_at_most f u bs tree_act.y e) (error_at_most f u bs tree_act.z e) h h)

-- the same test says of the rotation alone that it has no quotient
rotate_test : (f : Format) (u q b s t : ℕ) → T (no_overflow f u (sizes (act_sizes u q b s t)) tree_act.x) →
    T (no_overflow f u (sizes (act_sizes u q b s t)) tree_rotate.x)
unfolding no_overflow bound tree_act
rotate_test f u q b s t k =
    let bs = sizes (act_sizes u q b s t) in
    let r = no_overflow f u bs tree_rotate.x in
    and_l r _ (and_l (no_overflow f u bs (prod tree_rotate.x (leaf 8))) _ k)

module _ (f : Format) (u b s h : ℕ) (x : Sim3) (X : Exact) (j : Join) (p : PoseBound) (z : 0 < u) (above : Above X.q)
    (k : Run u p.rotation.magnitude p.rotation.error x.q X.q) (ht : VecForwardError u x.t X.t p.translation)
    (hb : VecIn u b j.pose.t) (hu : AbsoluteError u j.up j.scale h) (hs : AtMost u j.scale s) (ha : 0 < j.scale.d)
    (t : T (moved_no_overflow f u b s h p)) where
  abbrev m : ℕ
  m = p.rotation.magnitude

  abbrev d : ℕ
  d = p.rotation.error

  abbrev point : Three Value
  point = exact_vec j.pose.t

  abbrev turned : ℕ
  turned = turn_error u m d b

  -- the sizes of the exact values
  all_sized : AllSized u (values X j.scale j.pose.t) (act_sizes u m b s p.translation.magnitude)
  all_sized =
      let e = k.e in
      let q = k.exact in
      let o = k.magnitude in (
        float_sized u f2 (2 * u) (two_bounded u),
        (
          number_sized u m e X.q.w k.s.w k.above q.w (long_w u k.s e m o) above.w,
          (
            number_sized u m e X.q.x k.s.x k.above q.x (long_x u k.s e m o) above.x,
            (
              number_sized u m e X.q.y k.s.y k.above q.y (long_y u k.s e m o) above.y,
              (
                number_sized u m e X.q.z k.s.z k.above q.z (long_z u k.s e m o) above.z,
                (
                  float_sized u j.pose.t.x b hb.x,
                  (
                    float_sized u j.pose.t.y b hb.y,
                    (
                      float_sized u j.pose.t.z b hb.z,
                      (
                        record { size = hs; above = ha },
                        (
                          record { size = ht.x.size; above = ht.x.above },
                          (
                            record { size = ht.y.size; above = ht.y.above },
                            (record { size = ht.z.size; above = ht.z.above }, tt),
                          ),
                        ),
                      ),
                    ),
                  ),
                ),
              ),
            ),
          ),
        ),
      )

  tree_sized : (r : Term) → T (no_overflow f u (computed_sizes u b s h p) r) →
      Sized u (exact (nth (value_of f0) (values X j.scale j.pose.t)) r) (bound f u (exact_sizes u b s p) r).magnitude
  tree_sized r o =
      exact_sized f u (nth (value_of f0) (values X j.scale j.pose.t)) (exact_sizes u b s p) (computed_sizes u b s h p) z
      (nth_sized u (values X j.scale j.pose.t) (act_sizes u m b s p.translation.magnitude) all_sized) r o

  points-above : Above3 point
  points-above = floats-above j.pose.t

  -- the rotations of the point, computed and exact, are near
  rotations : VecNear u (exact_rotate (value_of x.q.w) (vector_part (exact_quat x.q)) point)
      (exact_rotate X.q.w (vector_part X.q) point) turned
  rotations =
      let c = clear (pure point) in
      let g = den (pure point) in
      let i = clear_is (pure point) in
      let v : Above (pure point) = pure-above point points-above in
      let gz : 0 < g = mul-pos v.w (mul-pos v.x (mul-pos v.y v.z)) in
      let tall : (y : Float) (a : Gap) → Is (value_of y) a.p a.n g → Bounded u y b → Tall u a (b * g) =
      λ y a o l. most-tall u b g (value_of y) a (value-above y) o (float_sized u y b l).size in
      perturbed u m d b k.e g k.r k.s c z k.error k.magnitude (tall j.pose.t.x c.x i.x hb.x)
      (tall j.pose.t.y c.y i.y hb.y) (tall j.pose.t.z c.z i.z hb.z) (exact_quat x.q) X.q point k.above gz k.computed
      k.exact (record { x = i.x; y = i.y; z = i.z })

  -- the action as it is computed, beside the exact one at the computed pose
  rounded : VecError u (pose_act f x j.up j.pose.t) (exact_act x j.up j.pose.t)
      (bound f u (computed_sizes u b s h p) tree_act.x).error
  unfolding moved_no_overflow
  rounded =
      let q = reach p.rotation in
      let v = reach p.translation in
      act_accurate f x j.up j.pose.t u q b (s + h) v (bound f u (computed_sizes u b s h p) tree_act.x).error z
      (act_tests f u q b (s + h) v t) k.sizes hb
      (near_bounded u j.up j.scale (record { magnitude = s; error = h })
      (record { close = hu; size = hs; above = ha }))
      (record {
        x = near_bounded u x.t.x X.t.x p.translation ht.x;
        y = near_bounded u x.t.y X.t.y p.translation ht.y;
        z = near_bounded u x.t.z X.t.z p.translation ht.z;
      })

  -- one number
  number : (y : Float) (r q o : Value) (w : Float) (i n : ℕ) → AbsoluteError u y (plus (times r (value_of j.up))
      (value_of w)) i → Near u r q turned → 0 < r.d → Sized u q n → AbsoluteError u w o p.translation.error →
      AbsoluteError u y (plus (times q j.scale) o)
      (i + (upward u ((n + turned) * h + turned * s) + p.translation.error))
  number y r q o w i n c e a l v =
      let g = upward u ((n + turned) * h + turned * s) in
      error_trans u y (plus (times r (value_of j.up)) (value_of w)) (plus (times q j.scale) o) i
      (g + p.translation.error) (mul-pos (mul-pos a (value-above j.up)) (value-above w)) c
      (near-plus u (times r (value_of j.up)) (times q j.scale) (value_of w) o g p.translation.error
      (near_times u r q (value_of j.up) j.scale n s turned h g z (value-above j.up) l.above e
      (error-near u j.up j.scale h hu) l.size hs (upward_enough u ((n + turned) * h + turned * s) z))
      (error-near u w o p.translation.error v))

  pub join_shift : VecForwardError u (pose_act f x j.up j.pose.t) (exact_join X j).t (moved_bound f u b s h p)
  unfolding exact bound no_overflow tree_act exact_act exact_rotate exact_join moved_bound moved_no_overflow carried_error
  join_shift =
      let o = rounded in
      let r = rotations in
      let y = rotate-above (exact_quat x.q) point (quat_values x.q) points-above in
      let n = rotate_test f u (reach p.rotation) b (s + h) (reach p.translation) t in
      let tx = tree_sized tree_act.x t in
      let ty = tree_sized tree_act.y t in
      let tz = tree_sized tree_act.z t in
      record {
        x = record {
          close = number _ _ _ X.t.x x.t.x _ _ o.x r.x y.0 (tree_sized tree_rotate.x n) ht.x.close;
          size = tx.size;
          above = tx.above;
        };
        y = record {
          close = number _ _ _ X.t.y x.t.y _ _ o.y r.y y.1.0 (tree_sized tree_rotate.y n) ht.y.close;
          size = ty.size;
          above = ty.above;
        };
        z = record {
          close = number _ _ _ X.t.z x.t.z _ _ o.z r.z y.1.1 (tree_sized tree_rotate.z n) ht.z.close;
          size = tz.size;
          above = tz.above;
        };
      }

-- ---- the running pose
pub record PoseRun (u : ℕ) (p : PoseBound) (x : Sim3) (X : Exact) : Type 0 where
  pub rotation : Run u p.rotation.magnitude p.rotation.error x.q X.q
  pub above : Above X.q
  pub translation : VecForwardError u x.t X.t p.translation

no_less : (n : ℕ) → suc n ≤ 0 → ⊥
no_less n h = omega arith

lower : (n N : ℕ) → suc n ≤ suc N → n ≤ N
lower n N h = omega arith

module _ (u c g : ℕ) (p : PoseBound) (x : Sim3) (X : Exact) where
  pub ends' : T (leb p.rotation.error c) → T (leb p.translation.error g) → PoseRun u p x X →
      QuatError u x.q X.q c × VecError u x.t X.t g
  ends' a b k =
      let d = p.rotation.error in
      let e = p.translation.error in
      let q = run_close u p.rotation.magnitude d x.q X.q k.rotation in
      let t = k.translation in
      let la : d ≤ c = leb→le d c a in
      let lb : e ≤ g = leb→le e g b in (
        record {
          w = error_wider u x.q.w X.q.w d c la q.w;
          x = error_wider u x.q.x X.q.x d c la q.x;
          y = error_wider u x.q.y X.q.y d c la q.y;
          z = error_wider u x.q.z X.q.z d c la q.z;
        },
        record {
          x = error_wider u x.t.x X.t.x e g lb t.x.close;
          y = error_wider u x.t.y X.t.y e g lb t.y.close;
          z = error_wider u x.t.z X.t.z e g lb t.z.close;
        },
      )

module _ (f : Format) (u v b s h : ℕ) (up : 0 < u) where
  join_one : (p : PoseBound) (x : Sim3) (X : Exact) (j : Join) → T (join_no_overflow f u v b s h p) →
      JoinIn u v b s h j → PoseRun u p x X → PoseRun u
      (next_pose f u v b s h p) (pose_mul f x j.pose j.up) (exact_join X j)
  unfolding join_no_overflow next_pose next_rotation pose_mul exact_join
  join_one p x X j t g k =
      let a = no_overflow f u (sizes (quat_mul_sizes (p.rotation.magnitude + p.rotation.error) v)) tree_quat_mul.w in
      let c = moved_no_overflow f u b s h p in
      record {
        rotation =
            one_more f u v up p.rotation.magnitude p.rotation.error x.q j.pose.q X.q (and_l a c t) g.q k.rotation;
        above = hamilton-above X.q (exact_quat j.pose.q) k.above (quat_values j.pose.q);
        translation =
            join_shift f u b s h x X j p up k.above k.rotation k.translation g.t g.up g.scale g.above (and_r a c t);
      }

  -- joins in a row: the bound after each is the next of the one before
  pub joins : (c g : ℕ) (l : List Join) (N : ℕ) → length l ≤ N → (p : PoseBound) (x : Sim3) (X : Exact) →
      T (joins_hold f u v b s h c g p N) → AllJoinsIn u v b s h l → PoseRun u p x X
      → QuatError u (joined f x l).q (exact_joined X l).q c × VecError u (joined f x l).t (exact_joined X l).t g
  unfolding joined exact_joined joins_hold AllJoinsIn
  joins c g [] zero n p x X t h k =
      ends' u c g p x X (and_l (leb p.rotation.error c) (leb p.translation.error g) t)
      (and_r (leb p.rotation.error c) (leb p.translation.error g) t) k
  joins c g [] (suc N) n p x X t h k =
      let q = leb p.rotation.error c in
      let r = leb p.translation.error g in
      let w = and_l (q && r) (join_no_overflow f u v b s _ p && joins_hold f u v b s _ c g (next_pose f u v b s _ p) N)
      t in
      ends' u c g p x X (and_l q r w) (and_r q r w) k
  joins c g (j ∷ l) zero n p x X t h k = absurd (no_less (length l) n)
  joins c g (j ∷ l) (suc N) n p x X t hh k =
      let q = leb p.rotation.error c && leb p.translation.error g in
      let a = join_no_overflow f u v b s h p in
      let m = joins_hold f u v b s h c g (next_pose f u v b s h p) N in
      let r : T (a && m) = and_r q (a && m) t in
      joins c g l N (lower (length l) N n) (next_pose f u v b s h p) (pose_mul f x j.pose j.up) (exact_join X j)
      (and_r a m r) hh.1 (join_one p x X j (and_l a m r) hh.0 k)

-- what specs/Joins.antt states
pub joined_poses : JoinedTheorem
joined_poses =
    record {
      joined_poses = all;
      doubles =
          λ x l. all binary64 (2 ^ 100) (2 ^ 100 + 2 ^ 60) (2 ^ 110) (2 ^ 101) (2 ^ 48) (2 ^ 59) (2 ^ 78) 100 x l
          (lit< tt) (unfold joins_hold in tt);
      singles =
          λ x l. all binary32 (2 ^ 100) (2 ^ 100 + 2 ^ 80) (2 ^ 110) (2 ^ 101) (2 ^ 77) (2 ^ 88) (2 ^ 107) 100 x l
          (lit< tt) (unfold joins_hold in tt);
    }
  where
    all : (f : Format) (u v b s h c g N : ℕ) (x : Sim3) (l : List Join) → 0 < u →
        T (joins_hold f u v b s h c g (first_bound v b) N) → JoinedIn u v b s h c g N x l (joined f x l)
    all f u v b s h c g N x l up t n hq ht k =
        joins f u v b s h up c g l N n (first_bound v b) x (exact_pose x) t k
        (record {
          rotation = first u v x.q hq;
          above = quat_values x.q;
          translation = record
              { x = leaf_forward u x.t.x b ht.x; y = leaf_forward u x.t.y b ht.y; z = leaf_forward u x.t.z b ht.z };
        })
