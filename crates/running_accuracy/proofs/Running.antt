-- The running join with renormalisations: its error grows with the number of products, and not with the drift of the
-- length. Assumes nothing.
use mathlib.Core.Path.{◌≡◌, refl, sym, ap, subst}
use mathlib.Core.List.{List, [], ◌∷◌}
use Prim.Native.Nat.{ℕ, zero, suc, ◌+◌, ◌*◌, ◌≤◌, ◌<◌}
use native.Mathlib.Nat.{le_refl, le_trans, le_of_eq, mul-add, add-mul, mul_comm, mul-pos, add_comm, zero-lt-suc}
use native.Mathlib.Nat.{mul-le-mul_left, mul-le-mul_right, le_of_mul-le-mul_right}
use native.Mathlib.Omega.{arith}
use mathlib.Core.Bool.{Bool, true, false, not, ◌&&◌}
use lib.Dec.{T, leb, ltb, eqb, leb→le, nleb→lt, ltb→lt, nltb→le}
use lib.Ieee.{Float, Format}
use lib.Ieee.Fits.{and_l, and_r, and_i}
use Rattle.ieee.specs.Numbers.{f3, half}
use Rattle.linalg.specs.Floats.{Vec3}
use Rattle.so3.specs.Quat.{quat_mul, quat_renormalized}
use Rattle.so3.specs.Floats.{Quat}
use Rattle.sim3.specs.Pose.{pose_act, pose_mul, pose_renormalized}
use Rattle.sim3.specs.Floats.{Sim3}
use Rattle.frames.specs.Floats.{Pose}
use Rattle.running.specs.Running.{Start, due}
use Rattle.running.specs.History.{ran, Small}
use Rattle.running.proofs.Past.{history}
use Rattle.std.specs.Prelude.{Some, None}
use Rattle.rounding.specs.Value.{Value, minus, times, value_of, AtMost, AbsoluteError}
use Rattle.rounding.specs.Tree.{Bound, upward, bound, no_overflow}
use Rattle.rounding.specs.Leaves.{sizes, error_at_most, errorless}
use Rattle.accuracy.specs.Box.{VecIn, Four, QuatError, exact_quat}
use Rattle.accuracy.specs.Quaternions.{exact_squared, Normal, exact_hamilton, exact_newton, tree_quat_mul, tree_newton}
use Rattle.accuracy.specs.Quaternions.{quat_mul_sizes, newton_sizes, all_four}
use Rattle.running_accuracy.specs.Products.{LengthAtMost, product_error}
use Rattle.running_accuracy.specs.Joins.{Join, Exact, exact_join, exact_pose, PoseBound, moved_bound, moved_no_overflow}
use Rattle.running_accuracy.specs.Joins.{join_no_overflow}
use Rattle.running_accuracy.specs.Running.{RunningAccurate, PageAccurate, pose_after, FirstIn, history_of, Step, joins}
use Rattle.running_accuracy.specs.Running.{renews, events, count, join_at, exact_renormalized, exact_ran, JoinBox, away}
use Rattle.running_accuracy.specs.Running.{StepIn, AllStepsIn, box_holds, newton_error, cube, newton_far, product_far}
use Rattle.running_accuracy.specs.Running.{step_bound, newton_no_overflow, step_no_overflow, run_holds, close_test}
use Rattle.running_accuracy.specs.Running.{act_test, bound_at, RunningError, exact_act_by, ActionError}
use Rattle.rounding.proofs.Differences.{expand}
use Rattle.rounding.proofs.Forward.{upward_enough, error_wider}
use Rattle.rounding.proofs.Leaves.{leaf_forward, value-above, error-near}
use Rattle.rounding.proofs.Denominators.{Is, side_most}
use Rattle.rounding.proofs.Ring.{Gap, ◌⊕◌, ◌⊗◌, whole}
use Rattle.accuracy.proofs.Hamilton.{Is4, den, clear, clear_is, is_mul, is-sub, scaled-is, hamilton-is, Above}
use Rattle.accuracy.proofs.Hamilton.{hamilton-above, Even, squared-is, square_positive, normal_even}
use Rattle.accuracy.proofs.Euler.{Quad, ◌⊖◌, hamilton, squared}
use Rattle.accuracy.proofs.Length.{Long, Level, long_shift, scaled, long_scaled, tall_long, long_w, long_x, long_y}
use Rattle.accuracy.proofs.Length.{long_z, long_wider, sum4, sub4, long_sum}
use Rattle.accuracy.proofs.Quaternions.{renormalized_accurate}
use Rattle.accuracy.proofs.Rotation.{quat_values}
use Rattle.running_accuracy.proofs.Choice.{both}
use Rattle.running_accuracy.proofs.Products.{near_tall, tall_both, tall_bounded, quat-above, le_leb, Run}
use Rattle.running_accuracy.proofs.Products.{one_more, run_close, first, error-above}
use Rattle.running_accuracy.proofs.Newton.{factor, newton_gap, newton-apart, newton_even, even_hamilton, even_long}
use Rattle.running_accuracy.proofs.Joins.{VecForwardError, join_shift, ends'}

-- ---- the length of values, and over a denominator
below-most : (u c xp xn xd p n E : ℕ) → 0 < E → xp * E + n * xd ≡ xn * E + p * xd → u * E + u * n ≤ u * p + c * E →
    u * xd + u * xn ≤ u * xp + c * xd
below-most u c xp xn xd p n E z h k =
    let a = ap (λ (i : ℕ). u * i) h in
    let b = mul-le-mul_right xd k in
    le_of_mul-le-mul_right {k = E} (simp expand (omega (arith, simp expand at a, simp expand at b))) z

even_normal : (u c : ℕ) (q : Four Value) (a : Quad Gap) (e : ℕ) → 0 < e → Is4 q a e → Even u c a e → Normal u c q
even_normal u c q a e z h k =
    let S = exact_squared q in
    let i = (squared-is q a e h).equal in
    record {
      above = side_most u (u + c) S.p S.n S.d (squared a).p (squared a).n (e * e) (mul-pos z z) i k.above;
      below = below-most u c S.p S.n S.d (squared a).p (squared a).n (e * e) (mul-pos z z) i k.below;
    }

-- ---- the exact Newton step over a denominator
three-is : (E : ℕ) → Is (value_of f3) (E * 3) 0 E
unfolding value_of
three-is E = record { equal = omega arith }

half_is : Is (value_of half) 1 0 2
unfolding value_of
half_is = record { equal = refl }

pub newton_is : (q : Four Value) (a : Quad Gap) (e : ℕ) → Is4 q a e →
    Is4 (exact_newton q) (newton_gap a e) (e * (e * e * 2))
unfolding exact_newton
newton_is q a e h =
    let k = is_mul _ _ (whole (e * e * 3) ⊖ squared a) (whole 1) (e * e) 2
    (is-sub (value_of f3) (exact_squared q) (whole (e * e * 3)) (squared a)
    (e * e) (three-is (e * e)) (squared-is q a e h)) half_is in
    record {
      w = is_mul q.w _ a.w (factor a e) e (e * e * 2) h.w k;
      x = is_mul q.x _ a.x (factor a e) e (e * e * 2) h.x k;
      y = is_mul q.y _ a.y (factor a e) e (e * e * 2) h.y k;
      z = is_mul q.z _ a.z (factor a e) e (e * e * 2) h.z k;
    }

newton_factor_above : (q : Four Value) → Above q → 0 < (times (minus (value_of f3) (exact_squared q)) (value_of half)).d
newton_factor_above q a = mul-pos (mul-pos (value-above f3) (square_positive q a)) (value-above half)

pub newton_above : (q : Four Value) → Above q → Above (exact_newton q)
unfolding exact_newton
newton_above q a =
    let k = newton_factor_above q a in
    record { w = mul-pos a.w k; x = mul-pos a.x k; y = mul-pos a.y k; z = mul-pos a.z k }

-- ---- the running rotation, with the length of the exact one
pub record Turn (u m d c : ℕ) (R : Quat) (Q : Four Value) : Type 0 where
  pub run : Run u m d R Q
  pub above : Above Q
  pub normal : Normal u c Q

pub normal_wider : (u c k : ℕ) (q : Four Value) → c ≤ k → Normal u c q → Normal u k q
normal_wider u c k q l h =
    let S = exact_squared q in
    record {
      above = one u c k S.p S.n S.d (mul-le-mul_right S.d l) h.above;
      below =
          two (u * S.d + u * S.n) (u * S.p) (c * S.d) (k * S.d) (mul-le-mul_right S.d l) h.below;
    }
  where
    one : (u c k p n E : ℕ) → c * E ≤ k * E → u * p ≤ u * n + (u + c) * E → u * p ≤ u * n + (u + k) * E
    one u c k p n E x h = simp add-mul (omega (arith, simp add-mul at h))

    two : (a b c d : ℕ) → c ≤ d → a ≤ b + c → a ≤ b + d
    two a b c d l h = omega arith

-- another bound of the length, and a wider one of the difference
reset : (u m m' d d' c : ℕ) (R : Quat) (Q : Four Value) → d ≤ d' → u * (u + c) ≤ m' * m' → Above Q → Normal u c Q →
    Run u m d R Q → Turn u m' d' c R Q
reset u m m' d d' c R Q l h a n k =
    let s = k.s in
    let r = k.r in
    let e = k.e in
    let near = run_close u m d R Q k in
    let lng : Long u s e m' = even_long u c m' s e h (normal_even u c Q s e a k.exact n) in
    let error : Long u (sub4 r s) e d' = long_wider u (sub4 r s) e d d' l k.error in
    record {
      run = record {
        e = e;
        r = r;
        s = s;
        above = k.above;
        computed = k.computed;
        exact = k.exact;
        error = error;
        magnitude = lng;
        sizes = record {
          w =
              tall_bounded u R.w Q.w d (m' + d') r.w e k.above near.w k.computed.w
              (tall_both u r.w s.w m' d' e (long_w u (sub4 r s) e d' error) (long_w u s e m' lng));
          x =
              tall_bounded u R.x Q.x d (m' + d') r.x e k.above near.x k.computed.x
              (tall_both u r.x s.x m' d' e (long_x u (sub4 r s) e d' error) (long_x u s e m' lng));
          y =
              tall_bounded u R.y Q.y d (m' + d') r.y e k.above near.y k.computed.y
              (tall_both u r.y s.y m' d' e (long_y u (sub4 r s) e d' error) (long_y u s e m' lng));
          z =
              tall_bounded u R.z Q.z d (m' + d') r.z e k.above near.z k.computed.z
              (tall_both u r.z s.z m' d' e (long_z u (sub4 r s) e d' error) (long_z u s e m' lng));
        };
      };
      above = a;
      normal = n;
    }

-- ---- one product
pub normal-product : (u c t o : ℕ) (Q P : Four Value) (a : Quad Gap) (e : ℕ) → 0 < u → 0 < e → c * t ≤ o * u →
    Is4 Q a e → Above Q → Above P
    → Normal u c Q → Normal u t P → Normal u (c + t + 3 * o) (exact_hamilton Q P)
normal-product u c t o Q P a e uz ez ho h aq ap' nq np =
    let b = clear P in
    let g = den P in
    let gz : 0 < g = mul-pos ap'.w (mul-pos ap'.x (mul-pos ap'.y ap'.z)) in
    even_normal u (c + t + 3 * o) (exact_hamilton Q P) (hamilton a b) (e * g) (mul-pos ez gz)
    (hamilton-is Q P a b e g h (clear_is P))
    (even_hamilton u c t o e g a b uz ho (normal_even u c Q a e aq h nq) (normal_even u t P b g ap' (clear_is P) np))

turn_product : (f : Format) (u v m d c t o k : ℕ) (R q : Quat) (Q : Four Value) → 0 < u → T
    (no_overflow f u (sizes (quat_mul_sizes (m + d) v)) tree_quat_mul.w) → LengthAtMost u v q →
    Normal u t (exact_quat q) → c * t ≤ o * u
    → c + t + 3 * o ≤ k → u * (u + k) ≤ m * m → Turn u m d c R Q
    → Turn u m (2 * product_error f u v (m + d) + upward u (d * v)) k (quat_mul f R q) (exact_hamilton Q (exact_quat q))
turn_product f u v m d c t o k R q Q uz safeq hs hn ho hk hm h =
    let D = 2 * product_error f u v (m + d) + upward u (d * v) in
    let H = exact_hamilton Q (exact_quat q) in
    let nn : Normal u k H = normal_wider u (c + t + 3 * o) k H hk
    (normal-product u c t o Q (exact_quat q) h.run.s h.run.e uz
    h.run.above ho h.run.exact h.above (quat_values q) h.normal hn) in
    reset u (upward u (m * v)) m D D k (quat_mul f R q) H (le_refl D) hm
    (hamilton-above Q (exact_quat q) h.above (quat_values q)) nn (one_more f u v uz m d R q Q safeq hs h.run)

-- ---- one Newton step
newton_test : (f : Format) (u a : ℕ) → T (no_overflow f u (sizes (newton_sizes u a)) tree_newton.w) →
    T (all_four f u (newton_sizes u a) tree_newton (newton_error f u a))
unfolding no_overflow bound tree_newton newton_error
newton_test f u a t =
    let bs = newton_sizes u a in
    let e = newton_error f u a in
    let h : T (error_at_most f u bs tree_newton.w e) = and_i (no_overflow f u (sizes bs) tree_newton.w)
    (leb (bound f u (sizes bs) tree_newton.w).error e) t (le_leb e) in
    and_i (error_at_most f u bs tree_newton.w e) (error_at_most f u bs tree_newton.x e
    && (error_at_most f u bs tree_newton.y e && error_at_most f u bs tree_newton.z e)) h
    (and_i (error_at_most f u bs tree_newton.x e) (error_at_most f u bs tree_newton.y e
    && error_at_most f u bs tree_newton.z e) h
    (and_i (error_at_most f u bs tree_newton.y e) (error_at_most f u bs tree_newton.z e) h h))

newton-error-above : (f : Format) (u a : ℕ) → 0 < 2 * newton_error f u a
unfolding newton_error bound tree_newton
newton-error-above f u a = twice (newton_error f u a) (later _ _ _)
  where
    later : (x y z : ℕ) → 0 < x + (suc y + suc z)
    later x y z = omega arith

    twice : (x : ℕ) → 0 < x → 0 < 2 * x
    twice x h = omega arith

-- (k n - l a) + l (a - b) is k n - l b
bridge : (k l : ℕ) (n a b : Gap) → Level ((whole k ⊗ n ⊖ whole l ⊗ a) ⊕ whole l ⊗ (a ⊖ b)) (whole k ⊗ n ⊖ whole l ⊗ b)
unfolding Level
bridge k l n a b = go k l n.p n.n a.p a.n b.p b.n
  where
    go : (k l np nn p n q m : ℕ) → k * np + 0 * nn + (l * n + 0 * p) + (l * (p + m) + 0 * (n + q))
        + (k * nn + 0 * np + (l * q + 0 * m))
        ≡ k * nn + 0 * np + (l * p + 0 * n) + (l * (n + q) + 0 * (p + m)) + (k * np + 0 * nn + (l * m + 0 * q))
    go k l np nn p n q m = simp mul-add (omega arith)

back : (a b : Gap) → Level ((a ⊖ b) ⊕ b) a
unfolding Level
back a b = omega arith

pub normal-newton : (u c k : ℕ) (Q : Four Value) (s : Quad Gap) (e : ℕ) → 0 < u → 0 < e → 4 * c ≤ u →
    upward u (c * c) ≤ k →
    Is4 Q s e → Above Q → Normal u c Q → Normal u k (exact_newton Q)
normal-newton u c k Q s e uz ez hc hk h a n =
    let d = upward u (c * c) in
    normal_wider u d k (exact_newton Q) hk
    (even_normal u d (exact_newton Q) (newton_gap s e) (e * (e * e * 2))
    (mul-pos ez (mul-pos (mul-pos ez ez) (zero-lt-suc 1)))
    (newton_is Q s e h) (newton_even u c d e s uz hc (upward_enough u (c * c) uz) (normal_even u c Q s e a h n)))

turn_newton : (f : Format) (u m d c k : ℕ) (R : Quat) (Q : Four Value) → 0 < u → 0 < m → 0 < d → T
    (no_overflow f u (sizes (newton_sizes u (m + d))) tree_newton.w) → 4 * c ≤ u →
    4 * ((m + d) * (m + d)) ≤ 7 * (u * u) → upward u (c * c) ≤ k → u *
    (u + k) ≤ m * m → Turn u m d c R Q
    → Turn u m (2 * newton_error f u (m + d) + upward (2 * u) ((2 * u + c) * (d + cube u d))) k (quat_renormalized f R)
    (exact_newton Q)
turn_newton f u m d c k R Q uz mz dz st hc hb hk hm h =
    let K = h.run in
    let r = K.r in
    let s = K.s in
    let e = K.e in
    let ez = K.above in
    let err = newton_error f u (m + d) in
    let N = quat_renormalized f R in
    let H = exact_newton (exact_quat R) in
    let near : QuatError u N H err = renormalized_accurate f R u (m + d) err uz (newton_test f u (m + d) st) K.sizes in
    let e' = den (exact_quat N) in
    let n = clear (exact_quat N) in
    let ni = clear_is (exact_quat N) in
    let ep : 0 < e' = quat-above N in
    let E2 = e * (e * e * 2) in
    let E2z : 0 < E2 = mul-pos ez (mul-pos (mul-pos ez ez) (zero-lt-suc 1)) in
    let E = E2 * e' in
    let Ep : 0 < E = mul-pos E2z ep in
    let hr = newton_is (exact_quat R) r e K.computed in
    let hs = newton_is Q s e K.exact in
    let Nr = newton_gap r e in
    let Ns = newton_gap s e in
    let n' = scaled E2 n in
    let s' = scaled e' Ns in
    let ev = normal_even u c Q s e h.above K.exact h.normal in
    let si : Is4 (exact_newton Q) s' E = subst (λ (i : ℕ). Is4 (exact_newton Q) s' i) (mul_comm e' E2)
    (scaled-is (exact_newton Q) Ns E2 e' hs) in
    let nn : Is4 (exact_quat N) n' E = scaled-is (exact_quat N) n e' E2 ni in
    let ha = newton_above (exact_quat R) (quat_values R) in
    let one : Long u (sub4 n' (scaled e' Nr)) E (2 * err) =
    tall_long u (sub4 n' (scaled e' Nr)) E err
    (near_tall u err (value_of N.w) H.w n.w Nr.w e' E2 (value-above N.w) ha.w ni.w hr.w
    (error-near u N.w H.w err near.w))
    (near_tall u err (value_of N.x) H.x n.x Nr.x e' E2 (value-above N.x) ha.x ni.x hr.x
    (error-near u N.x H.x err near.x))
    (near_tall u err (value_of N.y) H.y n.y Nr.y e' E2 (value-above N.y) ha.y ni.y hr.y
    (error-near u N.y H.y err near.y))
    (near_tall u err (value_of N.z) H.z n.z Nr.z e' E2 (value-above N.z) ha.z ni.z hr.z
    (error-near u N.z H.z err near.z)) in
    let lr : Long u r e (d + m) = long_shift u (sum4 (sub4 r s) s) r e (d + m) (back r.w s.w) (back r.x s.x)
    (back r.y s.y)
    (back r.z s.z) (long_sum u (sub4 r s) s e d m dz mz K.error K.magnitude) in
    let lr' : Long u r e (m + d) = subst (λ (i : ℕ). Long u r e i) (add_comm d m) lr in
    let D2 = upward (2 * u) ((2 * u + c) * (d + cube u d)) in
    let ap' : Long u (sub4 Nr Ns) E2 D2 =
    newton-apart u c (m + d) d (cube u d) D2 e r s uz ez hc hb (upward_enough (u * u) (d * d * d) (mul-pos uz uz))
    (turned-over (2 * u) ((2 * u + c) * (d + cube u d)) (twice_pos u uz)) ev lr' K.error in
    let two : Long u (scaled e' (sub4 Nr Ns)) E D2 = subst (λ (i : ℕ). Long u (scaled e' (sub4 Nr Ns)) i D2)
    (mul_comm e' E2) (long_scaled u e' (sub4 Nr Ns) E2 D2 ap') in
    let D = 2 * err + D2 in
    let error : Long u (sub4 n' s') E D =
    long_shift u (sum4 (sub4 n' (scaled e' Nr)) (scaled e' (sub4 Nr Ns))) (sub4 n' s') E D
    (bridge E2 e' n.w Nr.w Ns.w) (bridge E2 e' n.x Nr.x Ns.x) (bridge E2 e' n.y Nr.y Ns.y) (bridge E2 e' n.z Nr.z Ns.z)
    (long_sum u (sub4 n' (scaled e' Nr)) (scaled e' (sub4 Nr Ns)) E (2 * err) D2 (newton-error-above f u (m + d))
    (zero-lt-suc _) one two) in
    let nrm : Normal u k (exact_newton Q) = normal-newton u c k Q s e uz ez hc hk K.exact h.above h.normal in
    let aq = newton_above Q h.above in
    let lng : Long u s' E m = even_long u k m s' E hm (normal_even u k (exact_newton Q) s' E aq si nrm) in
    record {
      run = record {
        e = E;
        r = n';
        s = s';
        above = Ep;
        computed = nn;
        exact = si;
        error = error;
        magnitude = lng;
        sizes = record {
          w =
              tall_bounded u N.w H.w err (m + D) n'.w E Ep near.w nn.w
              (tall_both u n'.w s'.w m D E (long_w u (sub4 n' s') E D error) (long_w u s' E m lng));
          x =
              tall_bounded u N.x H.x err (m + D) n'.x E Ep near.x nn.x
              (tall_both u n'.x s'.x m D E (long_x u (sub4 n' s') E D error) (long_x u s' E m lng));
          y =
              tall_bounded u N.y H.y err (m + D) n'.y E Ep near.y nn.y
              (tall_both u n'.y s'.y m D E (long_y u (sub4 n' s') E D error) (long_y u s' E m lng));
          z =
              tall_bounded u N.z H.z err (m + D) n'.z E Ep near.z nn.z
              (tall_both u n'.z s'.z m D E (long_z u (sub4 n' s') E D error) (long_z u s' E m lng));
        };
      };
      above = aq;
      normal = nrm;
    }
  where
    twice_pos : (x : ℕ) → 0 < x → 0 < 2 * x
    twice_pos x h = omega arith

    turned-over : (k x : ℕ) → 0 < k → x ≤ k * upward k x
    turned-over k x h = le_trans (upward_enough k x h) (le_of_eq (mul_comm (upward k x) k))

-- ---- the running pose
pub record PoseTurn (L : JoinBox) (d : ℕ) (w : Bound) (c : ℕ) (x : Sim3) (X : Exact) : Type 0 where
  pub rotation : Turn L.unit L.longest d c x.q X.q
  pub translation : VecForwardError L.unit x.t X.t w

-- what the test of the limits says
pub record Fine (L : JoinBox) : Type 0 where
  pub positive : 0 < L.unit
  pub some : 0 < L.longest
  pub step : L.square + 3 * upward L.unit (L.drift * L.every * L.square) ≤ L.drift
  pub again : upward L.unit (away L * away L) ≤ L.drift
  pub start : L.square ≤ L.drift
  pub length : L.unit * (L.unit + away L) ≤ L.longest * L.longest
  pub quarter : 4 * away L ≤ L.unit

pub fine : (L : JoinBox) → T (box_holds L) → Fine L
fine L t =
    let a = leb 1 L.unit in
    let b = leb 1 L.longest in
    let c = leb (L.square + 3 * upward L.unit (L.drift * L.every * L.square)) L.drift in
    let d = leb (upward L.unit (away L * away L)) L.drift in
    let e = leb L.square L.drift in
    let f = leb (L.unit * (L.unit + away L)) (L.longest * L.longest) in
    let g = leb (4 * away L) L.unit in
    let t1 : T (b && (c && (d && (e && (f && g))))) = and_r a (b && (c && (d && (e && (f && g))))) t in
    let t2 : T (c && (d && (e && (f && g)))) = and_r b (c && (d && (e && (f && g)))) t1 in
    let t3 : T (d && (e && (f && g))) = and_r c (d && (e && (f && g))) t2 in
    let t4 : T (e && (f && g)) = and_r d (e && (f && g)) t3 in
    let t5 : T (f && g) = and_r e (f && g) t4 in
    record {
      positive = leb→le 1 L.unit (and_l a (b && (c && (d && (e && (f && g))))) t);
      some = leb→le 1 L.longest (and_l b (c && (d && (e && (f && g)))) t1);
      step =
          leb→le (L.square + 3 * upward L.unit (L.drift * L.every * L.square)) L.drift
          (and_l c (d && (e && (f && g))) t2);
      again = leb→le (upward L.unit (away L * away L)) L.drift (and_l d (e && (f && g)) t3);
      start = leb→le L.square L.drift (and_l e (f && g) t4);
      length = leb→le (L.unit * (L.unit + away L)) (L.longest * L.longest) (and_l f g t5);
      quarter = leb→le (4 * away L) L.unit (and_r f g t5);
    }

module _ (f : Format) (L : JoinBox) (F : Fine L) where
  room : (k : ℕ) → k ≤ L.every → L.unit * (L.unit + L.drift * suc k) ≤ L.longest * L.longest
  room k h =
      le_trans (mul-le-mul_left L.unit (more L.unit (L.drift * suc k) (away L)
      (mul-le-mul_left L.drift (up k L.every h)))) F.length
    where
      more : (a b c : ℕ) → b ≤ c → a + b ≤ a + c
      more a b c h = omega arith

      up : (k m : ℕ) → k ≤ m → suc k ≤ suc m
      up k m h = omega arith

  pub small : (k : ℕ) → k < L.every → L.drift * suc k * L.square ≤ upward L.unit (L.drift * L.every * L.square) * L.unit
  small k h =
      le_trans (mul-le-mul_right L.square (mul-le-mul_left L.drift h))
      (upward_enough L.unit (L.drift * L.every * L.square) F.positive)

  pub one-step : (k : ℕ) → L.drift * suc k + L.square + 3 * upward L.unit (L.drift * L.every * L.square)
      ≤ L.drift * suc (suc k)
  one-step k = go L.drift L.square (3 * upward L.unit (L.drift * L.every * L.square)) k F.step
    where
      go : (c t o k : ℕ) → t + o ≤ c → c * suc k + t + o ≤ c * suc (suc k)
      go c t o k h = let a : c * suc (suc k) ≡ c + c * suc k = mul_suc' c (suc k) in omega arith
        where
          mul_suc' : (c k : ℕ) → c * suc k ≡ c + c * k
          mul_suc' c k = omega arith

  module _ (d : ℕ) (w : Bound) (x : Sim3) (X : Exact) (y : Pose) (up : Float) (s : Value) (k : ℕ) (kl : k < L.every)
      (h : PoseTurn L d w (L.drift * suc k) x X) (g : StepIn L y up s)
      (t : T (step_no_overflow f L (bound_at L d w))) where
    next : Bound
    next = moved_bound f L.unit L.translation L.scale L.scale_error (bound_at L d w)

    parts : T (no_overflow f L.unit (sizes (quat_mul_sizes (L.longest + d) L.length)) tree_quat_mul.w) × T
        (moved_no_overflow f L.unit L.translation L.scale L.scale_error (bound_at L d w)) × T
        (newton_no_overflow f L (product_far f L d))
    unfolding step_no_overflow join_no_overflow
    parts =
        let a = no_overflow f L.unit (sizes (quat_mul_sizes (L.longest + d) L.length)) tree_quat_mul.w in
        let b = moved_no_overflow f L.unit L.translation L.scale L.scale_error (bound_at L d w) in
        let c = newton_no_overflow f L (product_far f L d) in
        let ab : T (a && b) = and_l (a && b) c t in
        (and_l a b ab, and_r a b ab, and_r (a && b) c t)

    newton-parts : T (no_overflow f L.unit (sizes (newton_sizes L.unit (L.longest + product_far f L d))) tree_newton.w)
        ×
        (product_far f L d ≤ newton_far f L (product_far f L d))
        × (4 * ((L.longest + product_far f L d) * (L.longest + product_far f L d)) ≤ 7 *
        (L.unit * L.unit))
    unfolding newton_no_overflow
    newton-parts =
        let D = product_far f L d in
        let a = no_overflow f L.unit (sizes (newton_sizes L.unit (L.longest + D))) tree_newton.w in
        let b = leb D (newton_far f L D) in
        let c = leb (4 * ((L.longest + D) * (L.longest + D))) (7 * (L.unit * L.unit)) in
        let q : T (a && (b && c)) = parts.2 in
        let r : T (b && c) = and_r a (b && c) q in (
          and_l a (b && c) q,
          leb→le D (newton_far f L D) (and_l b c r),
          leb→le (4 * ((L.longest + D) * (L.longest + D)))
              (7 * (L.unit * L.unit)) (and_r b c r),
        )

    shifted : VecForwardError L.unit (pose_mul f x y.sim3 up).t (exact_join X (join_at y up s)).t next
    unfolding pose_mul next
    shifted =
        join_shift f L.unit L.translation L.scale L.scale_error x X (join_at y up s) (bound_at L d w) F.positive
        h.rotation.above h.rotation.run h.translation g.fit.t g.fit.up g.fit.scale g.fit.above parts.1

    turning : (j : ℕ) → L.drift * suc (suc k) ≤ j → L.unit * (L.unit + j) ≤ L.longest * L.longest →
        Turn L.unit L.longest
        (product_far f L d) j (pose_mul f x y.sim3 up).q (exact_join X (join_at y up s)).q
    unfolding pose_mul exact_join product_far
    turning j l r =
        turn_product f L.unit L.length L.longest d (L.drift * suc k) L.square
        (upward L.unit (L.drift * L.every * L.square)) j
        x.q y.sim3.q X.q F.positive parts.0 g.fit.q g.normal (small k kl) (le_trans (one-step k) l) r h.rotation

    far_above : 0 < product_far f L d
    unfolding product_far
    far_above =
        first_above (2 * product_error f L.unit L.length (L.longest + d)) (upward L.unit (d * L.length))
        (error-above f L.unit L.length (L.longest + d))
      where
        first_above : (a b : ℕ) → 0 < a → 0 < a + b
        first_above a b h = omega arith

    -- without a Newton step
    joined-errorless : PoseTurn L (newton_far f L (product_far f L d)) next (L.drift * suc (suc k))
        (pose_mul f x y.sim3 up) (exact_join X (join_at y up s))
    joined-errorless =
        let r : L.unit * (L.unit + L.drift * suc (suc k)) ≤ L.longest * L.longest = room (suc k) kl in
        let a = turning (L.drift * suc (suc k)) (le_refl (L.drift * suc (suc k))) r in
        record {
          rotation =
              reset L.unit L.longest L.longest (product_far f L d) (newton_far f L (product_far f L d))
              (L.drift * suc (suc k))
              (pose_mul f x y.sim3 up).q (exact_join X (join_at y up s)).q newton-parts.1 r a.above a.normal a.run;
          translation = shifted;
        }

    -- with one
    joined-renormalized : PoseTurn L (newton_far f L (product_far f L d)) next (L.drift * suc 0)
        (pose_renormalized f (pose_mul f x y.sim3 up)) (exact_renormalized (exact_join X (join_at y up s)))
    unfolding pose_renormalized newton_far
    joined-renormalized =
        let a = turning (away L) (mul-le-mul_left L.drift (up' k L.every kl)) F.length in
        record {
          rotation =
              turn_newton f L.unit L.longest (product_far f L d) (away L) (L.drift * suc 0) (pose_mul f x y.sim3 up).q
              (exact_join X (join_at y up s)).q F.positive F.some far_above newton-parts.0 F.quarter newton-parts.2
              (le_trans F.again (le_of_eq (one L.drift))) (room 0 (zero-le L.every)) a;
          translation = shifted;
        }
      where
        up' : (k m : ℕ) → k < m → suc (suc k) ≤ suc m
        up' k m h = omega arith

        one : (c : ℕ) → c ≡ c * suc 0
        one c = omega arith

        zero-le : (m : ℕ) → 0 ≤ m
        zero-le m = omega arith

-- ---- all of them
pub not_due : (n j : ℕ) → 0 < n → T (not (due n j)) → j < n
unfolding due
not_due n j z h = go (ltb 0 n) (leb n j) (nltb→le 0 n) (nleb→lt n j) h
  where
    no : (n : ℕ) → 0 < n → n ≤ 0 → ⊥
    no n h k = omega arith

    go : (a b : Bool) → (T (not a) → n ≤ 0) → (T (not b) → j < n) → T (not (a && b)) → j < n
    go true true p q h = absurd h
    go true false p q h = q tt
    go false b p q h = absurd (no n z (p tt))

suc_le : (k m : ℕ) → k < m → suc k ≤ suc m
suc_le k m h = omega arith

plus_one : (k : ℕ) → k + 1 ≡ suc k
plus_one k = omega arith

module _ (f : Format) (L : JoinBox) (F : Fine L) (e : PoseBound → Bool) (P : Start → Exact → Type 0)
    (done : (d : ℕ) (w : Bound) (k : ℕ) (p : Pose) (X : Exact) → k ≤ away L → T (e (bound_at L d w)) →
    PoseTurn L d w k p.sim3 X → P (Some p) X)
  where
    running : (l : List Step) (N n k d : ℕ) (w : Bound) (p : Pose) (X : Exact) → count l ≤ N →
        T (run_holds f L e (bound_at L d w) N) → AllStepsIn L l
        → 0 < n → n ≤ L.every → k < L.every → PoseTurn L d w (L.drift * suc k) p.sim3 X
        → P (ran f (Some p) n k (events l)) (exact_ran n k p.from X l)
    unfolding events count exact_ran AllStepsIn ran run_holds step_bound next
    running [] zero n k d w p X h t a nz nm km q =
        done d w (L.drift * suc k) p X (mul-le-mul_left L.drift (suc_le k L.every km)) t q
    running [] (suc N) n k d w p X h t a nz nm km q =
        done d w (L.drift * suc k) p X (mul-le-mul_left L.drift (suc_le k L.every km))
        (and_l (e (bound_at L d w)) (step_no_overflow f L (bound_at L d w)
        && run_holds f L e (step_bound f L (bound_at L d w)) N) t) q
    running (renews m ∷ l) N n k d w p X h t a nz nm km q = running l N m k d w p X h t a.1 a.0.0 a.0.1 km q
    running (joins x up s ∷ l) zero n k d w p X h t a nz nm km q = absurd (no_less (count l) h)
      where
        no_less : (n : ℕ) → suc n ≤ 0 → ⊥
        no_less n h = omega arith
    running (joins x up s ∷ l) (suc N) n k d w p X h t a nz nm km q =
        let st = step_no_overflow f L (bound_at L d w) in
        let rest = run_holds f L e (step_bound f L (bound_at L d w)) N in
        let r : T (st && rest) = and_r (e (bound_at L d w)) (st && rest) t in
        let ts : T st = and_l st rest r in
        let tr : T rest = and_r st rest r in
        let cl : count l ≤ N = lower (count l) N h in
        both P (eqb p.from x.to) _ _ _ _
        (λ yes. both P (due n (k + 1)) _ _ _ _
        (λ is. running l N n 0 (newton_far f L (product_far f L d)) _ _ _ cl tr a.1 nz nm (pos_of k L.every km)
        (joined-renormalized f L F d w p.sim3 X x up s k km q a.0 ts))
        (λ not. running l N n (k + 1) (newton_far f L (product_far f L d)) _ _ _ cl tr a.1 nz nm
        (le_trans (not_due n (k + 1) nz not) nm)
        (subst (λ (j : ℕ). PoseTurn L (newton_far f L (product_far f L d))
        (next f L F d w p.sim3 X x up s k km q a.0 ts) (L.drift * suc j)
        (pose_mul f p.sim3 x.sim3 up) (exact_join X (join_at x up s))) (sym (plus_one k))
        (joined-errorless f L F d w p.sim3 X x up s k km q a.0 ts))))
        (λ no. running l (suc N) n k d w p X (weaker (count l) N cl) t a.1 nz nm km q)
      where
        lower : (n N : ℕ) → suc n ≤ suc N → n ≤ N
        lower n N h = omega arith

        pos_of : (k m : ℕ) → k < m → 0 < m
        pos_of k m h = omega arith

        weaker : (n N : ℕ) → n ≤ N → n ≤ suc N
        weaker n N h = omega arith

-- ---- from the first pose on
small_events : (L : JoinBox) (l : List Step) → L.every < 65536 → AllStepsIn L l → Small (events l)
unfolding AllStepsIn events Small
small_events L [] h a = tt
small_events L (joins x up s ∷ l) h a = small_events L l h a.1
small_events L (renews n ∷ l) h a = (below n L.every a.0.1 h, small_events L l h a.1)
  where
    below : (n m : ℕ) → n ≤ m → m < 65536 → n < 65536
    below n m h k = omega arith

starts : (L : JoinBox) (F : Fine L) (p : Pose) → FirstIn L p →
    PoseTurn L 0 (errorless L.translation) (L.drift * suc 0) p.sim3 (exact_pose p.sim3)
starts L F p h =
    record {
      rotation = reset L.unit L.length L.longest 0 0 (L.drift * suc 0) p.sim3.q (exact_quat p.sim3.q) (le_refl 0)
          (le_trans (mul-le-mul_left L.unit (more L.unit L.drift L.every)) F.length) (quat_values p.sim3.q)
          (normal_wider L.unit L.square (L.drift * suc 0) (exact_quat p.sim3.q)
          (le_trans F.start (le_of_eq (one L.drift)))
          h.normal) (first L.unit L.length p.sim3.q h.q);
      translation = record {
        x = leaf_forward L.unit p.sim3.t.x L.translation h.t.x;
        y = leaf_forward L.unit p.sim3.t.y
            L.translation h.t.y;
        z = leaf_forward L.unit p.sim3.t.z L.translation h.t.z;
      };
    }
  where
    one : (c : ℕ) → c ≡ c * suc 0
    one c = omega arith

    more : (u c m : ℕ) → u + c * suc 0 ≤ u + c * suc m
    more u c m = let a : c * suc 0 ≤ c * suc m = mul-le-mul_left c (omega arith) in omega arith

module _ (f : Format) (L : JoinBox) (e : PoseBound → Bool) (P : Start → Exact → Type 0)
    (done : (d : ℕ) (w : Bound) (k : ℕ) (p : Pose) (X : Exact) → k ≤ away L → T (e (bound_at L d w)) →
    PoseTurn L d w k p.sim3 X → P (Some p) X)
  where
    view : (N n : ℕ) (p : Pose) (up : Float) (l : List Step) → T (box_holds L) → T (ltb L.every 65536) → T
        (run_holds f L e (bound_at L 0 (errorless L.translation)) N) → count l ≤ N → 0 < n → n ≤ L.every → FirstIn L p →
        AllStepsIn L l
        → P (pose_after f n p up l) (exact_ran n 0 p.from (exact_pose p.sim3) l)
    view N n p up l tl tm t h nz nm hp a =
        let F = fine L tl in
        let lm : L.every < 65536 = ltb→lt L.every 65536 tm in
        subst (λ (s : Start). P s (exact_ran n 0 p.from (exact_pose p.sim3) l))
        (sym (history f (history_of n p up l) (small_story n L.every nm lm (small_events L l lm a))))
        (through (running f L F e P done l N n 0 0 (errorless L.translation) p (exact_pose p.sim3) h t a nz nm
        (le_trans nz nm) (starts L F p hp)))
      where
        through : P (ran f (Some p) n 0 (events l)) (exact_ran n 0 p.from (exact_pose p.sim3) l) →
            P (ran f None 0 0 (history_of n p up l)) (exact_ran n 0 p.from (exact_pose p.sim3) l)
        through h = unfold ran in h

        small_story : (n m : ℕ) → n ≤ m → m < 65536 → Small (events l) → Small (history_of n p up l)
        small_story n m h k s = unfold Small in (below n m h k, s)
          where
            below : (n m : ℕ) → n ≤ m → m < 65536 → n < 65536
            below n m h k = omega arith

pub running_accurate : (f : Format) (n : ℕ) (p : Pose) (up : Float) (l : List Step) →
    RunningAccurate f n p l (pose_after f n p up l)
unfolding RunningError
running_accurate f n p up l L c g N tl tm t h nz nm hp a =
    view f L (close_test c g) (RunningError L.unit c g)
    (λ d w k q X i o r. ends' L.unit c g (bound_at L d w) q.sim3 X (and_l (leb d c) (leb w.error g) o)
    (and_r (leb d c) (leb w.error g) o)
    (record { rotation = r.rotation.run; above = r.rotation.above; translation = r.translation }))
    N n p up l tl tm t h nz nm hp a

-- and its action on a point
act_done : (f : Format) (L : JoinBox) (b s h e : ℕ) (d : ℕ) (w : Bound) (k : ℕ) (q : Pose) (X : Exact) (up : Float)
    (z : Value) (pt : Vec3)
    → 0 < L.unit → VecIn L.unit b pt → AbsoluteError L.unit up z h → AtMost L.unit z s → 0 < z.d → T
    (act_test f L.unit b s h e (bound_at L d w)) → PoseTurn L d w k q.sim3 X
    → ActionError f L.unit e up z pt (Some q) X
unfolding ActionError exact_act_by act_test exact_join
act_done f L b s h e d w k q X up z pt uz hb hu hs ha o r =
    let u = L.unit in
    let sf = moved_no_overflow f u b s h (bound_at L d w) in
    let E = (moved_bound f u b s h (bound_at L d w)).error in
    let j : Join = record { pose = record { q = q.sim3.q; t = pt; sigma = q.sim3.sigma }; up = up; scale = z } in
    let a = join_shift f u b s h q.sim3 X j (bound_at L d w) uz r.rotation.above r.rotation.run r.translation hb hu hs ha (and_l sf (leb E e) o) in
    let l : E ≤ e = leb→le E e (and_r sf (leb E e) o) in
    let P = pose_act f q.sim3 up pt in
    let Y = exact_act_by X z pt in
    record {
      x = error_wider u P.x Y.x E e l a.x.close;
      y = error_wider u P.y Y.y E e l a.y.close;
      z =
          error_wider u P.z Y.z E e l a.z.close;
    }

pub page_accurate : (f : Format) (n : ℕ) (p : Pose) (up : Float) (l : List Step) →
    PageAccurate f n p l (pose_after f n p up l)
page_accurate f n p up l L b s h e N scale z pt tl tm t c nz nm hp a hb hu hs ha =
    view f L (act_test f L.unit b s h e) (ActionError f L.unit e scale z pt)
    (λ d w k q X i o r. act_done f L b s h e d w k q X scale z pt (fine L tl).positive hb hu hs ha o r)
    N n p up l tl tm t c nz nm hp a

-- and its length: the exact rotation keeps a length near 1, within a bound that does not grow with the products
pub length_accurate : (f : Format) (L : JoinBox) (e : PoseBound → Bool) (N n : ℕ) (p : Pose) (up : Float)
    (l : List Step) → T (box_holds L) → T
    (ltb L.every 65536) → T (run_holds f L e (bound_at L 0 (errorless L.translation)) N) → count l ≤ N → 0 < n →
    n ≤ L.every → FirstIn L p
    → AllStepsIn L l
    → Normal L.unit (away L) (exact_ran n 0 p.from (exact_pose p.sim3) l).q
length_accurate f L e N n p up l tl tm t h nz nm hp a =
    view f L e (λ s X. Normal L.unit (away L) X.q) (λ d w k q X i o r. normal_wider L.unit k
    (away L) X.q i r.rotation.normal) N n p up l tl tm t h nz nm hp a
