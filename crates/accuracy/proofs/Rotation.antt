-- The formula of the action beside the true rotation, q v q̄ / |q|²: it is q v q̄ + (1 - |q|²) v. Assumes nothing.
use mathlib.Core.Path.{◌≡◌, sym, ap, subst, subst₂, ◌∙◌}
use mathlib.Core.Path as P
use mathlib.Core.Bool.{false}
use Prim.Native.Nat.{ℕ, zero, suc, ◌+◌, ◌-◌, ◌*◌, ◌^◌, ◌≤◌, ◌<◌}
use native.Mathlib.Nat.{le_trans, le_of_eq, add-zero, mul_assoc, mul_comm, mul-pos, mul-le-mul_left, mul-le-mul_right}
use native.Mathlib.Nat.{le_of_mul-le-mul_right, lt_of_mul-lt-mul_right, mul-lt-mul_of_pos_right, add_comm}
use native.Mathlib.Omega.{arith}
use lib.Dec.{lit≤, lit<}
use lib.Ieee.{Float, Format, binary32, binary64}
use Rattle.ieee.specs.Numbers.{f0, f2}
use Rattle.linalg.specs.Floats.{Vec3}
use Rattle.so3.specs.Floats.{Quat}
use Rattle.sim3.specs.Pose.{pose_act, pose_inverse}
use Rattle.sim3.specs.Floats.{Sim3}
use Rattle.rounding.specs.Value.{Value, opposite, plus, minus, times, inverse, ratio, signed, value_of, AtMost, Near}
use Rattle.rounding.specs.Tree.{upward, bound, no_overflow}
use Rattle.rounding.proofs.Differences.{expand, zeros, product}
use Rattle.rounding.proofs.Denominators.{Is, is-opposite, is-divided, is-times}
use Rattle.rounding.proofs.Quotients.{inverse-up}
use Rattle.rounding.proofs.Fractions.{near-plus, near-right, near_trans, near-opposite}
use Rattle.rounding.proofs.Forward.{upward_enough, error_trans, error_wider}
use Rattle.rounding.proofs.Leaves.{value-above, leaf_forward}
use Rattle.rounding.proofs.Ring.{Gap, ◌⊕◌, ◌⊗◌, opp, whole, Ex, var, normal, ring}
use Rattle.rounding.proofs.Ring as R
use Rattle.accuracy.specs.Box.{Three, Four, exact_vec, exact_quat, vector_part, VecError, VecNear}
use Rattle.accuracy.specs.Action.{exact_rotate, exact_scaled_sum, exact_act, tree_act}
use Rattle.accuracy.specs.Norm.{exact_norm_sq}
use Rattle.accuracy.specs.Quaternions.{exact_hamilton, exact_squared, Normal, exact_inverse, tree_inverse}
use Rattle.accuracy.specs.Rotation.{conjugate, pure, conjugated, true_rotation, true_act, true_error}
use Rattle.accuracy.specs.Rotation.{TrueActionAccurate, RotationTheorem, true_inverse, TrueInverseAccurate}
use Rattle.accuracy.proofs.Action.{act_accurate}
use Rattle.accuracy.proofs.Quaternions.{inverse_accurate}
use Rattle.accuracy.proofs.Euler.{Quad, ◌⊖◌, hamilton, hamilton_x, squared, squared_x, sub}
use Rattle.accuracy.proofs.Length.{Long, Tall, Level, level-mul, level_trans, to_whole, long_x, long_y, long_z}
use Rattle.accuracy.proofs.Length.{tall_long}
use Rattle.accuracy.proofs.Hamilton.{Is4, is-level, den, clear, clear_is, is_mul, is-add, is-sub, is_whole, hamilton-is}
use Rattle.accuracy.proofs.Hamilton.{side_least, Above, hamilton-above, value-is, even_above, even_below, squared-is}
use Rattle.accuracy.proofs.Hamilton.{square_positive, normal_even, tall_near}

-- ---- over denominators: q over e, and v over g with a scalar part that is a difference of 0
abbrev pub conjugate_gap : Quad Gap → Quad Gap
conjugate_gap q = record { w = q.w; x = opp q.x; y = opp q.y; z = opp q.z }

abbrev conjugated_gap : Quad Gap → Quad Gap → Quad Gap
conjugated_gap q v = hamilton (hamilton q v) (conjugate_gap q)

abbrev pub pure_gap : Quad Gap → Quad Gap
pure_gap v = record { w = v.x ⊖ v.x; x = v.x; y = v.y; z = v.z }

-- E v + 2w (u × v) + 2 u × (u × v)
abbrev pub quad : Three Gap → Quad Gap
quad a = record { w = a.x; x = a.x; y = a.y; z = a.z }

abbrev pub rotated_gap : ℕ → Quad Gap → Quad Gap → Three Gap
rotated_gap E q v =
    let x = q.y ⊗ v.z ⊖ q.z ⊗ v.y in
    let y = q.z ⊗ v.x ⊖ q.x ⊗ v.z in
    let z = q.x ⊗ v.y ⊖ q.y ⊗ v.x in
    record {
      x = whole E ⊗ v.x ⊕ x ⊗ (q.w ⊕ q.w) ⊕ ((q.y ⊗ z ⊖ q.z ⊗ y) ⊕ (q.y ⊗ z ⊖ q.z ⊗ y));
      y = whole E ⊗ v.y ⊕ y ⊗ (q.w ⊕ q.w) ⊕ ((q.z ⊗ x ⊖ q.x ⊗ z) ⊕ (q.z ⊗ x ⊖ q.x ⊗ z));
      z = whole E ⊗ v.z ⊕ z ⊗ (q.w ⊕ q.w) ⊕ ((q.x ⊗ y ⊖ q.y ⊗ x) ⊕ (q.x ⊗ y ⊖ q.y ⊗ x));
    }

-- the same as expressions
abbrev pub conjugate_x : Quad Ex → Quad Ex
conjugate_x q = record { w = q.w; x = R.minus q.x; y = R.minus q.y; z = R.minus q.z }

abbrev pub pure_x : Quad Ex → Quad Ex
pure_x v = record { w = sub v.x v.x; x = v.x; y = v.y; z = v.z }

abbrev pub rotated_x : Ex → Quad Ex → Quad Ex → Three Ex
rotated_x E q v =
    let x = sub (R.times q.y v.z) (R.times q.z v.y) in
    let y = sub (R.times q.z v.x) (R.times q.x v.z) in
    let z = sub (R.times q.x v.y) (R.times q.y v.x) in
    let cx = sub (R.times q.y z) (R.times q.z y) in
    let cy = sub (R.times q.z x) (R.times q.x z) in
    let cz = sub (R.times q.x y) (R.times q.y x) in
    let t = R.plus q.w q.w in
    record {
      x = R.plus (R.plus (R.times E v.x) (R.times x t)) (R.plus cx cx);
      y = R.plus (R.plus (R.times E v.y) (R.times y t)) (R.plus cy cy);
      z = R.plus (R.plus (R.times E v.z) (R.times z t)) (R.plus cz cz);
    }

abbrev q_x : Quad Ex
q_x = record { w = var 1; x = var 2; y = var 3; z = var 4 }

abbrev v_x : Quad Ex
v_x = pure_x (record { w = var 5; x = var 5; y = var 6; z = var 7 })

abbrev conjugated_x : Quad Ex
conjugated_x = hamilton_x (hamilton_x q_x v_x) (conjugate_x q_x)

abbrev rest_x : (a c v : Ex) → Ex
rest_x a c v = sub a (R.plus c (R.times (sub (var 0) (squared_x q_x)) v))

module _ (E : ℕ) (q v : Quad Gap) where
  abbrev point : ℕ → Gap
  point zero = whole E
  point (suc zero) = q.w
  point (suc (suc zero)) = q.x
  point (suc (suc (suc zero))) = q.y
  point (suc (suc (suc (suc zero)))) = q.z
  point (suc (suc (suc (suc (suc zero))))) = v.x
  point (suc (suc (suc (suc (suc (suc zero)))))) = v.y
  point (suc (suc (suc (suc (suc (suc (suc i))))))) = v.z

  -- it is q v q̄ + (E - |q|²) v
  split_x : Level (rotated_gap E q v).x ((conjugated_gap q (pure_gap v)).x ⊕ (whole E ⊖ squared q) ⊗ v.x)
  unfolding Level normal
  split_x = ring (rest_x (rotated_x (var 0) q_x v_x).x conjugated_x.x v_x.x) tt point

  split_y : Level (rotated_gap E q v).y ((conjugated_gap q (pure_gap v)).y ⊕ (whole E ⊖ squared q) ⊗ v.y)
  unfolding Level normal
  split_y = ring (rest_x (rotated_x (var 0) q_x v_x).y conjugated_x.y v_x.y) tt point

  split_z : Level (rotated_gap E q v).z ((conjugated_gap q (pure_gap v)).z ⊕ (whole E ⊖ squared q) ⊗ v.z)
  unfolding Level normal
  split_z = ring (rest_x (rotated_x (var 0) q_x v_x).z conjugated_x.z v_x.z) tt point

  -- the same without the scalar part, which is 0
  vector-length : Level (squared (pure_gap (conjugated_gap q (pure_gap v))))
      (squared q ⊗ squared q ⊗ squared (pure_gap v))
  unfolding Level normal
  vector-length = ring (sub (squared_x (pure_x conjugated_x)) (R.times (R.times (squared_x q_x) (squared_x q_x))
      (squared_x v_x))) tt point

  -- |q v q̄|² = |q|⁴ |v|²
  length_is : Level (squared (conjugated_gap q (pure_gap v))) (squared q ⊗ squared q ⊗ squared (pure_gap v))
  unfolding Level normal
  length_is = ring (sub (squared_x conjugated_x) (R.times (R.times (squared_x q_x) (squared_x q_x)) (squared_x v_x)))
      tt point

-- |q v q̄| is |q|² |v|
conjugated-long : (u l g L : ℕ) (q v : Quad Gap) → Level (squared q) (whole L) → Long u (pure_gap v) g l →
    Long u (conjugated_gap q (pure_gap v)) (L * g) l
conjugated-long u l g L q v h k = record {
  magnitude = go u l g L (squared c).p (squared c).n b.p b.n
      (unfold Level in all) k.magnitude;
}
  where
    c : Quad Gap
    c = conjugated_gap q (pure_gap v)

    b : Gap
    b = squared (pure_gap v)

    same : Level b b
    same = unfold Level in omega arith

    all : Level (squared c) (whole L ⊗ whole L ⊗ b)
    all =
        level_trans (squared c) (squared q ⊗ squared q ⊗ b) (whole L ⊗ whole L ⊗ b) (length_is 0 q v)
        (level-mul (squared q ⊗ squared q) (whole L ⊗ whole L) b b (level-mul (squared q) (whole L) (squared q)
        (whole L) h h) same)

    go : (u l g L cp cn bp bn : ℕ) → cp + ((L * L + 0 * 0) * bn + (L * 0 + 0 * L) * bp) ≡ cn +
        ((L * L + 0 * 0) * bp + (L * 0 + 0 * L) * bn) →
        u * u * bp ≤ u * u * bn + l * l * (g * g) → u * u * cp ≤ u * u * cn + l * l * (L * g * (L * g))
    go u l g L cp cn bp bn e i =
        let a = ap (λ (x : ℕ). u * u * x) e in
        let j = mul-le-mul_left (L * L) i in
        simp expand (omega (arith, simp (zeros, expand) at a, simp expand at j))

-- ---- the two numbers, a / (E g) and c / (L g), where a is c + (E - L) v: their difference is (E - L) (L v - c)
apart : (u c m l k E g L vp vn cp cn ap an : ℕ) → 0 < u → ap + (cn + (E * vn + L * vp)) ≡ an +
    (cp + (E * vp + L * vn)) → u * L ≤ (u + c) * E
    → u * E ≤ u * L + c * E → u * vp ≤ u * vn + m * g → u * vn ≤ u * vp + m * g → u * cp ≤ u * cn + l * (L * g) →
    u * cn ≤ u * cp + l * (L * g)
    → c * (m + l) ≤ k * u → u * (L * ap + E * cn) ≤ u * (L * an + E * cp) + k * (E * (L * g))
apart u c m l k E g L vp vn cp cn ap an z e l1 l2 v1 v2 c1 c2 b =
    let d = mul-le-mul_left L v1 in
    let d' = mul-le-mul_left L v2 in
    let t =
    product (u * E) (u * L) (u * (L * vp + cn)) (u * (L * vn + cp)) (c * E) ((m + l) * (L * g)) l2
    (omega (arith, simp expand at l1))
    (simp expand (omega (arith, c2, simp expand at d))) (simp expand (omega (arith, c1, simp expand at d'))) in
    let i = mul-le-mul_right (E * (L * g)) b in
    let j = level u L ap an cp cn E vp vn e in
    le_of_mul-le-mul_right {k = u} (simp expand (omega (arith, simp expand at t, simp expand at i, simp expand at j))) z
  where
    level : (u L ap an cp cn E vp vn : ℕ) → ap + (cn + (E * vn + L * vp)) ≡ an + (cp + (E * vp + L * vn)) →
        u * u * L * (ap + (cn + (E * vn + L * vp))) ≡ u * u * L * (an + (cp + (E * vp + L * vn)))
    level u L ap an cp cn E vp vn e = P.ap (λ (x : ℕ). u * u * L * x) e

from-gaps : (E L sp sn vp vn cp cn ap an : ℕ) → sp + 0 ≡ sn + L →
    ap + (cn + ((E + sn) * vn + (0 + sp) * vp)) ≡ an + (cp + ((E + sn) * vp + (0 + sp) * vn)) →
    ap + (cn + (E * vn + L * vp)) ≡ an + (cp + (E * vp + L * vn))
from-gaps E L sp sn vp vn cp cn ap an h k =
    let a = P.ap (λ (x : ℕ). x * vp) h in
    let b = P.ap (λ (x : ℕ). x * vn) h in
    omega (arith, simp (zeros, expand) at k, simp (zeros, expand) at a, simp (zeros, expand) at b)

coordinate : (u c m l k E g L : ℕ) (f r : Value) (s a b v : Gap) → 0 < u → 0 < E → 0 < L → 0 < g → Level s (whole L) →
    Level a (b ⊕ (whole E ⊖ s) ⊗ v)
    → u * L ≤ (u + c) * E → u * E ≤ u * L + c * E → Tall u v (m * g) → Tall u b (l * (L * g)) → c * (m + l) ≤ k * u →
    Is f a.p a.n (E * g) → Is r b.p b.n (L * g)
    → Near u f r k
unfolding Level
coordinate u c m l k E g L f r s a b v uz ez lz gz h e l1 l2 tv tb i hf hr =
    let q = from-gaps E L s.p s.n v.p v.n b.p b.n a.p a.n h e in
    let q' = from-gaps E L s.p s.n v.n v.p b.n b.p a.n a.p h (turned a.p b.n _ _ a.n b.p e) in
    tall_near u k f r (whole L ⊗ a) (whole E ⊗ b) (E * (L * g)) (mul-pos ez (mul-pos lz gz))
    (subst (λ (x : ℕ). Is f (whole L ⊗ a).p (whole L ⊗ a).n x) (turn L E g) (is_whole f a (E * g) L hf))
    (is_whole r b (L * g) E hr)
    (record {
      above = wholes u (E * (L * g)) k a.p a.n b.p b.n L E (apart u c m l k E g L v.p v.n b.p b.n a.p a.n uz q l1 l2
          tv.above tv.below tb.above tb.below i);
      below = wholes u (E * (L * g)) k a.n a.p b.n b.p L E (apart u c m l k E g L v.n v.p b.n b.p a.n a.p uz q' l1 l2
          tv.below tv.above tb.below tb.above i);
    })
  where
    turn : (L E g : ℕ) → L * (E * g) ≡ E * (L * g)
    turn L E g = simp expand

    turned : (ap bn x y an bp : ℕ) → ap + (bn + x) ≡ an + (bp + y) → an + (bp + y) ≡ ap + (bn + x)
    turned ap bn x y an bp h = sym h

    wholes : (u D k p n q m L E : ℕ) → u * (L * p + E * m) ≤ u * (L * n + E * q) + k * D →
        u * (L * p + 0 * n + (E * m + 0 * q)) ≤ u * (L * n + 0 * p + (E * q + 0 * m)) + k * D
    wholes u D k p n q m L E h = simp zeros h

-- ---- the values over their denominators
pub record Is3 (v : Three Value) (b : Quad Gap) (g : ℕ) : Type 0 where
  pub x : Is v.x b.x.p b.x.n g
  pub y : Is v.y b.y.p b.y.n g
  pub z : Is v.z b.z.p b.z.n g

double-left : (x : Value) (a : Gap) (e : ℕ) → Is x a.p a.n e → Is (times (value_of f2) x) (a ⊕ a).p (a ⊕ a).n e
unfolding value_of
double-left x a e h = let i = h.equal in record { equal = simp (zeros, expand) (omega (arith, simp expand at i)) }

double-right : (x : Value) (a : Gap) (e : ℕ) → Is x a.p a.n e → Is (times x (value_of f2)) (a ⊕ a).p (a ⊕ a).n e
unfolding value_of
double-right x a e h = let i = h.equal in record { equal = simp (zeros, expand) (omega (arith, simp expand at i)) }

is-same : (x : Value) (p n p' n' e e' : ℕ) → p ≡ p' → n ≡ n' → e ≡ e' → Is x p n e → Is x p' n' e'
is-same x p n p' n' e e' i j k h = subst (λ (d : ℕ). Is x p' n' d) k (subst₂ (λ (a b : ℕ). Is x a b e) i j h)

-- |v|²
norm-is : (v : Three Value) (b : Quad Gap) (g : ℕ) → Is3 v b g →
    Is (exact_norm_sq v) (squared (pure_gap b)).p (squared (pure_gap b)).n (g * g)
norm-is v b g k =
    is-level (exact_norm_sq v) (b.x ⊗ b.x ⊕ b.y ⊗ b.y ⊕ b.z ⊗ b.z) (squared (pure_gap b)) (g * g)
    (unfold Level in level b.x b.y b.z)
    (is-add _ _ _ _ (g * g) (is-add _ _ _ _ (g * g) (is_mul v.x v.x b.x b.x g g k.x k.x)
    (is_mul v.y v.y b.y b.y g g k.y k.y))
    (is_mul v.z v.z b.z b.z g g k.z k.z))
  where
    level : (x y z : Gap) → (x ⊗ x ⊕ y ⊗ y ⊕ z ⊗ z).p + (squared (pure_gap (record { w = x; x = x; y = y; z = z }))).n ≡
        (x ⊗ x ⊕ y ⊗ y ⊕ z ⊗ z).n + (squared (pure_gap (record { w = x; x = x; y = y; z = z }))).p
    level x y z = simp expand (omega arith)

module _ (q : Four Value) (v : Three Value) (a b : Quad Gap) (e g : ℕ) (h : Is4 q a e) (k : Is3 v b g) where
  -- the formula
  one-number : (vx ux c : Value) (bx x y : Gap) → Is vx bx.p bx.n g → Is ux x.p x.n (e * g) →
      Is c y.p y.n (e * (e * g)) → (let r = whole (e * e) ⊗ bx ⊕ x ⊗ (a.w ⊕ a.w) ⊕ (y ⊕ y) in
      Is (plus (plus vx (times ux (times (value_of f2) q.w))) (times c (value_of f2))) r.p r.n (e * e * g))
  one-number vx ux c bx x y hv hx hy =
      is-add _ _ (whole (e * e) ⊗ bx ⊕ x ⊗ (a.w ⊕ a.w)) (y ⊕ y) (e * e * g)
      (is-add vx _ (whole (e * e) ⊗ bx) (x ⊗ (a.w ⊕ a.w)) (e * e * g) (is_whole vx bx g (e * e) hv)
      (to-den _ (x ⊗ (a.w ⊕ a.w)) (e * g * e) (first e g) (is_mul ux (times (value_of f2) q.w) x (a.w ⊕ a.w) (e * g) e
      hx (double-left q.w a.w e h.w))))
      (to-den _ (y ⊕ y) (e * (e * g)) (sym (mul_assoc e e g)) (double-right c y (e * (e * g)) hy))
    where
      first : (e g : ℕ) → e * g * e ≡ e * e * g
      first e g = simp expand

      to-den : (x : Value) (r : Gap) (d : ℕ) → d ≡ e * e * g → Is x r.p r.n d → Is x r.p r.n (e * e * g)
      to-den x r d i j = subst (λ (z : ℕ). Is x r.p r.n z) i j

  cross-x : Is (minus (times q.y v.z) (times q.z v.y)) (a.y ⊗ b.z ⊖ a.z ⊗ b.y).p (a.y ⊗ b.z ⊖ a.z ⊗ b.y).n (e * g)
  cross-x = is-sub _ _ (a.y ⊗ b.z) (a.z ⊗ b.y) (e * g) (is_mul q.y v.z a.y b.z e g h.y k.z)
      (is_mul q.z v.y a.z b.y e g h.z k.y)

  cross-y : Is (minus (times q.z v.x) (times q.x v.z)) (a.z ⊗ b.x ⊖ a.x ⊗ b.z).p (a.z ⊗ b.x ⊖ a.x ⊗ b.z).n (e * g)
  cross-y = is-sub _ _ (a.z ⊗ b.x) (a.x ⊗ b.z) (e * g) (is_mul q.z v.x a.z b.x e g h.z k.x)
      (is_mul q.x v.z a.x b.z e g h.x k.z)

  cross-z : Is (minus (times q.x v.y) (times q.y v.x)) (a.x ⊗ b.y ⊖ a.y ⊗ b.x).p (a.x ⊗ b.y ⊖ a.y ⊗ b.x).n (e * g)
  cross-z = is-sub _ _ (a.x ⊗ b.y) (a.y ⊗ b.x) (e * g) (is_mul q.x v.y a.x b.y e g h.x k.y)
      (is_mul q.y v.x a.y b.x e g h.y k.x)

  turned-cross : (s t y z : Value) (c d m n : Gap) → Is s c.p c.n e → Is t d.p d.n e → Is y m.p m.n (e * g) →
      Is z n.p n.n (e * g) → Is
      (minus (times s y) (times t z)) (c ⊗ m ⊖ d ⊗ n).p (c ⊗ m ⊖ d ⊗ n).n (e * (e * g))
  turned-cross s t y z c d m n hs ht hy hz = is-sub _ _ (c ⊗ m) (d ⊗ n) (e * (e * g)) (is_mul s y c m e (e * g) hs hy)
      (is_mul t z d n e (e * g) ht hz)

  pub rotate-is : Is3 (exact_rotate q.w (vector_part q) v) (quad (rotated_gap (e * e) a b)) (e * e * g)
  unfolding exact_rotate
  rotate-is =
      record {
        x = one-number v.x _ _ b.x (a.y ⊗ b.z ⊖ a.z ⊗ b.y) _ k.x cross-x
            (turned-cross q.y q.z _ _ a.y a.z (a.x ⊗ b.y ⊖ a.y ⊗ b.x) (a.z ⊗ b.x ⊖ a.x ⊗ b.z) h.y h.z cross-z cross-y);
        y = one-number v.y _ _ b.y (a.z ⊗ b.x ⊖ a.x ⊗ b.z) _ k.y cross-y
            (turned-cross q.z q.x _ _ a.z a.x (a.y ⊗ b.z ⊖ a.z ⊗ b.y) (a.x ⊗ b.y ⊖ a.y ⊗ b.x) h.z h.x cross-x cross-z);
        z = one-number v.z _ _ b.z (a.x ⊗ b.y ⊖ a.y ⊗ b.x) _ k.z cross-z
            (turned-cross q.x q.y _ _ a.x a.y (a.z ⊗ b.x ⊖ a.x ⊗ b.z) (a.y ⊗ b.z ⊖ a.z ⊗ b.y) h.x h.y cross-y cross-x);
      }

  -- q v q̄
  pure-is : Is4 (pure v) (pure_gap b) g
  unfolding value_of
  pure-is = record { w = record { equal = omega arith }; x = k.x; y = k.y; z = k.z }

  conjugate-is : Is4 (conjugate q) (conjugate_gap a) e
  conjugate-is = record {
    w = h.w;
    x = is-opposite q.x a.x.p a.x.n e h.x;
    y = is-opposite q.y a.y.p a.y.n e h.y;
    z = is-opposite q.z a.z.p a.z.n e h.z;
  }

  conjugated-is : Is4 (conjugated q v) (conjugated_gap a (pure_gap b)) (e * g * e)
  conjugated-is = hamilton-is (exact_hamilton q (pure v)) (conjugate q) (hamilton a (pure_gap b)) (conjugate_gap a)
      (e * g) e (hamilton-is q (pure v) a (pure_gap b) e g h pure-is) conjugate-is

-- over |q|²
record Inverse (s : Value) (E L : ℕ) : Type 0 where
  is : Is (inverse s) E 0 L
  above : 0 < (inverse s).d

inverse-is : (s : Value) (E L p n : ℕ) → 0 < E → 0 < L → 0 < s.d → Is s p n E → p ≡ n + L → Inverse s E L
inverse-is s E L p n ez lz sz h e =
    let i : s.p * E ≡ s.n * E + L * s.d = number s.p s.n s.d p n E L h.equal e in
    let l : s.n < s.p = less s.p s.n s.d E L (mul-pos lz sz) i in
    let D = s.p - s.n in
    let d : s.p ≡ s.n + D = from s.p s.n l in
    let t : inverse s ≡ signed false s.d D = inverse-up s D d (diff s.p s.n l) in
    record {
      is = subst (λ (x : Value). Is x E 0 L) (sym t) (record { equal = last s.d L E D (over s.p s.n s.d E L D i d) });
      above = subst (λ (x : Value). 0 < x.d) (sym t) (diff s.p s.n l);
    }
  where
    number : (sp sn sd p n E L : ℕ) → sp * E + n * sd ≡ sn * E + p * sd → p ≡ n + L → sp * E ≡ sn * E + L * sd
    number sp sn sd p n E L h e = let a = ap (λ (x : ℕ). x * sd) e in omega (arith, simp expand at a, h)

    less : (sp sn sd E L : ℕ) → 0 < L * sd → sp * E ≡ sn * E + L * sd → sn < sp
    less sp sn sd E L z h = lt_of_mul-lt-mul_right E (more (sn * E) (sp * E) (L * sd) z h)
      where
        more : (a b c : ℕ) → 0 < c → b ≡ a + c → a < b
        more a b c z h = omega arith

    from : (p n : ℕ) → n < p → p ≡ n + (p - n)
    from p n h = omega arith

    diff : (p n : ℕ) → n < p → 0 < p - n
    diff p n h = omega arith

    over : (sp sn sd E L D : ℕ) → sp * E ≡ sn * E + L * sd → sp ≡ sn + D → D * E ≡ L * sd
    over sp sn sd E L D h e = let a = ap (λ (x : ℕ). x * E) e in omega (arith, simp expand at a, h)

    last : (d L E D : ℕ) → D * E ≡ L * d → d * L + 0 * D ≡ 0 * L + E * D
    last d L E D h = simp zeros (omega (arith, mul_comm D E, mul_comm L d))

ratio-is : (r s : Value) (c : Gap) (e g L : ℕ) → 0 < e → Is r c.p c.n (e * g * e) → Is (inverse s) (e * e) 0 L →
    Is (ratio r s) c.p c.n (L * g)
ratio-is r s c e g L ez h i =
    is-divided (ratio r s) c.p c.n (L * g) (e * e) (mul-pos ez ez)
    (is-same (ratio r s) _ _ (e * e * c.p) (e * e * c.n) _ (e * e * (L * g)) (first e c.p c.n) (second e c.p c.n)
    (third e g L)
    (is-times r (inverse s) c.p c.n (e * e) 0 (e * g * e) L h i))
  where
    first : (e p n : ℕ) → p * (e * e) + n * 0 ≡ e * e * p
    first e p n = simp (zeros, expand)

    second : (e p n : ℕ) → p * 0 + n * (e * e) ≡ e * e * n
    second e p n = simp (zeros, expand)

    third : (e g L : ℕ) → e * g * e * L ≡ e * e * (L * g)
    third e g L = simp expand

-- ---- the formula and the true rotation
abbrev pub Above3 : Three Value → Type 0
Above3 v = (0 < v.x.d) × ((0 < v.y.d) × (0 < v.z.d))

-- what is known of q and v: |q|² within c / u of 1, below 1, v's numbers at most m / u and its length at most l / u
record Turning (u c m l : ℕ) (q : Four Value) (v : Three Value) : Type 0 where
  e : ℕ
  g : ℕ
  L : ℕ
  a : Quad Gap
  b : Quad Gap
  e-above : 0 < e
  g-above : 0 < g
  L-above : 0 < L
  q-is : Is4 q a e
  v-is : Is3 v b g
  length : Level (squared a) (whole L)
  s-is : Inverse (exact_squared q) (e * e) L
  upper : u * L ≤ (u + c) * (e * e)
  lower : u * (e * e) ≤ u * L + c * (e * e)
  long : Long u (pure_gap b) g l
  x : Tall u b.x (m * g)
  y : Tall u b.y (m * g)
  z : Tall u b.z (m * g)

near-one : (u c m l k : ℕ) (q : Four Value) (v : Three Value) → 0 < u → c * (m + l) ≤ k * u → Turning u c m l q v →
    VecNear u
    (exact_rotate q.w (vector_part q) v) (true_rotation q v) k
unfolding true_rotation
near-one u c m l k q v uz i t =
    let f = rotate-is q v t.a t.b t.e t.g t.q-is t.v-is in
    let r = conjugated-is q v t.a t.b t.e t.g t.q-is t.v-is in
    let C = conjugated_gap t.a (pure_gap t.b) in
    let s = exact_squared q in
    let ez = mul-pos t.e-above t.e-above in
    let cl = conjugated-long u l t.g t.L t.a t.b t.length t.long in
    record {
      x = coordinate u c m l k (t.e * t.e) t.g t.L _ _ (squared t.a) _ C.x t.b.x uz ez t.L-above t.g-above t.length
          (split_x (t.e * t.e) t.a t.b) t.upper t.lower t.x
          (long_x u C (t.L * t.g) l cl) i f.x (ratio-is _ s C.x t.e t.g t.L t.e-above r.x t.s-is.is);
      y = coordinate u c m l k (t.e * t.e) t.g t.L _ _ (squared t.a) _ C.y t.b.y uz ez t.L-above t.g-above t.length
          (split_y (t.e * t.e) t.a t.b) t.upper t.lower t.y
          (long_y u C (t.L * t.g) l cl) i f.y (ratio-is _ s C.y t.e t.g t.L t.e-above r.y t.s-is.is);
      z = coordinate u c m l k (t.e * t.e) t.g t.L _ _ (squared t.a) _ C.z t.b.z uz ez t.L-above t.g-above t.length
          (split_z (t.e * t.e) t.a t.b) t.upper t.lower t.z
          (long_z u C (t.L * t.g) l cl) i f.z (ratio-is _ s C.z t.e t.g t.L t.e-above r.z t.s-is.is);
    }

pub pure-above : (v : Three Value) → Above3 v → Above (pure v)
pure-above v h = record { w = value-above f0; x = h.0; y = h.1.0; z = h.1.1 }

conjugated-above : (q : Four Value) (v : Three Value) → Above q → Above3 v → Above (conjugated q v)
conjugated-above q v hq hv =
    hamilton-above (exact_hamilton q (pure v)) (conjugate q) (hamilton-above q (pure v) hq (pure-above v hv))
    (record { w = hq.w; x = hq.x; y = hq.y; z = hq.z })

-- the size of a value over a denominator, and of a vector's scalar part
pub most-tall : (u m g : ℕ) (x : Value) (b : Gap) → 0 < x.d → Is x b.p b.n g → AtMost u x m → Tall u b (m * g)
most-tall u m g x b z h k =
    record {
      above = side_least u m x.p x.n x.d b.p b.n g z h.equal k.above;
      below = side_least u m x.n x.p x.d b.n b.p g z (sym h.equal) k.below;
    }

pub no_scalar : (u : ℕ) (a : Gap) (k : ℕ) → Tall u (a ⊖ a) k
no_scalar u a k = record { above = simp expand (omega arith); below = simp expand (omega arith) }

pub rotate-above : (q : Four Value) (v : Three Value) → Above q → Above3 v →
    Above3 (exact_rotate q.w (vector_part q) v)
unfolding exact_rotate
rotate-above q v hq hv =
    let x = mul-pos (mul-pos hq.y hv.1.1) (mul-pos hq.z hv.1.0) in
    let y = mul-pos (mul-pos hq.z hv.0) (mul-pos hq.x hv.1.1) in
    let z = mul-pos (mul-pos hq.x hv.1.0) (mul-pos hq.y hv.0) in
    let two = value-above f2 in
    let one = λ (vd ud cd : ℕ) (a : 0 < vd) (b : 0 < ud) (d : 0 < cd). mul-pos
    (mul-pos a (mul-pos b (mul-pos two hq.w))) (mul-pos d two) in (
      one _ _ _ hv.0 x (mul-pos (mul-pos hq.y z) (mul-pos hq.z y)),
      (
        one _ _ _ hv.1.0 y (mul-pos (mul-pos hq.z x) (mul-pos hq.x z)),
        one _ _ _ hv.1.1 z (mul-pos (mul-pos hq.x y) (mul-pos hq.y x)),
      ),
    )

some-length : (u c E L : ℕ) → c < u → 0 < E → u * E ≤ u * L + c * E → 0 < L
some-length u c E zero h z k = absurd (no (u * E) (c * E) (mul-lt-mul_of_pos_right h z) (simp zeros at k))
  where
    no : (x y : ℕ) → y < x → x ≤ y → ⊥
    no x y h k = omega arith
some-length u c E (suc L) h z k = omega arith

module _ (u c : ℕ) (q : Four Value) (v : Three Value) (uz : 0 < u) (cu : c < u) (hq : Above q) (hv : Above3 v)
    (n : Normal u c q) where
  abbrev g-of : ℕ
  g-of = den (pure v)

  abbrev b-of : Quad Gap
  b-of = clear (pure v)

  v-of : Is3 v b-of g-of
  v-of = let k = clear_is (pure v) in record { x = k.x; y = k.y; z = k.z }

  turning : (m l : ℕ) → Long u (pure_gap b-of) g-of l → Tall u b-of.x (m * g-of) → Tall u b-of.y (m * g-of) →
      Tall u b-of.z (m * g-of) → Turning u c m l q v
  turning m l h x y z =
      let e = den q in
      let a = clear q in
      let ez : 0 < e = den-above q hq in
      let L = (squared a).p - (squared a).n in
      let i = value-is a in
      let ev = normal_even u c q a e hq (clear_is q) n in
      let l1 = even_above u c (squared a).p (squared a).n L (e * e) i ev.above in
      let l2 = even_below u c (squared a).p (squared a).n L (e * e) i ev.below in
      let lz : 0 < L = some-length u c (e * e) L cu (mul-pos ez ez) l2 in
      record {
        e = e;
        g = g-of;
        L = L;
        a = a;
        b = b-of;
        e-above = ez;
        g-above = den-above (pure v) (pure-above v hv);
        L-above = lz;
        q-is = clear_is q;
        v-is = v-of;
        length = to_whole (squared a) L i;
        s-is = inverse-is (exact_squared q) (e * e) L (squared a).p (squared a).n (mul-pos ez ez) lz
            (square_positive q hq) (squared-is q a e (clear_is q)) i;
        upper = l1;
        lower = l2;
        long = h;
        x = x;
        y = y;
        z = z;
      }
    where
      den-above : (q : Four Value) → Above q → 0 < den q
      den-above q h = mul-pos h.w (mul-pos h.x (mul-pos h.y h.z))

  -- v's numbers at most m / u: its length at most twice that
  in-box : (m : ℕ) → AtMost u v.x m → AtMost u v.y m → AtMost u v.z m → Turning u c m (2 * m) q v
  in-box m x y z =
      let tx = most-tall u m g-of v.x b-of.x hv.0 v-of.x x in
      let ty = most-tall u m g-of v.y b-of.y hv.1.0 v-of.y y in
      let tz = most-tall u m g-of v.z b-of.z hv.1.1 v-of.z z in
      turning m (2 * m) (tall_long u (pure_gap b-of) g-of m (no_scalar u b-of.x (m * g-of)) tx ty tz) tx ty tz

  -- its length at most l / u
  of-length : (l : ℕ) → AtMost (u * u) (exact_norm_sq v) (l * l) → Turning u c l l q v
  of-length l h =
      let S = exact_norm_sq v in
      let is = norm-is v b-of g-of v-of in
      let b = squared (pure_gap b-of) in
      let k : Long u (pure_gap b-of) g-of l = record {
        magnitude = side_least (u * u) (l * l) S.p S.n S.d b.p b.n
            (g-of * g-of) (mul-pos (mul-pos (mul-pos hv.0 hv.0) (mul-pos hv.1.0 hv.1.0)) (mul-pos hv.1.1 hv.1.1))
            is.equal h.above;
      } in
      turning l l k (long_x u (pure_gap b-of) g-of l k) (long_y u (pure_gap b-of) g-of l k)
      (long_z u (pure_gap b-of) g-of l k)

  -- ---- the denominators
  true-above : (m l : ℕ) → Turning u c m l q v → Above3 (true_rotation q v)
  unfolding true_rotation
  true-above m l t = let r = conjugated-above q v hq hv in let i = t.s-is.above in
      (mul-pos r.x i, (mul-pos r.y i, mul-pos r.z i))

-- ---- a rotation does not depend on the length: q = a / e and p = a / f
near-level : (u : ℕ) (x y : Value) (c : Gap) (D : ℕ) → 0 < D → Is x c.p c.n D → Is y c.p c.n D → Near u x y 0
near-level u x y c D z h k =
    tall_near u 0 x y c c D z h k (record { above = simp expand (omega arith); below = simp expand (omega arith) })

pub same-rotation : (u c : ℕ) (q p : Four Value) (v : Three Value) (a : Quad Gap) (e f : ℕ) → c < u → 0 < e → 0 < f →
    Is4 q a e → Is4 p a f → Above q → Above p → Above3 v → Normal u c q →
    VecNear u (true_rotation q v) (true_rotation p v) 0 × Above3 (true_rotation p v)
unfolding true_rotation
same-rotation u c q p v a e f cu ez fz hq hp aq ap' av n =
    let L = (squared a).p - (squared a).n in
    let i = value-is a in
    let ev = normal_even u c q a e aq hq n in
    let l2 = even_below u c (squared a).p (squared a).n L (e * e) i ev.below in
    let lz : 0 < L = some-length u c (e * e) L cu (mul-pos ez ez) l2 in
    let pv = pure-above v av in
    let k = clear_is (pure v) in
    let b = clear (pure v) in
    let g = den (pure v) in
    let gz : 0 < g = mul-pos pv.w (mul-pos pv.x (mul-pos pv.y pv.z)) in
    let is : Is3 v b g = record { x = k.x; y = k.y; z = k.z } in
    let rq = conjugated-is q v a b e g hq is in
    let rp = conjugated-is p v a b f g hp is in
    let iq = inverse-is (exact_squared q) (e * e) L (squared a).p (squared a).n (mul-pos ez ez) lz
    (square_positive q aq) (squared-is q a e hq) i in
    let ip = inverse-is (exact_squared p) (f * f) L (squared a).p (squared a).n (mul-pos fz fz) lz
    (square_positive p ap') (squared-is p a f hp) i in
    let one : (x y : Value) (c : Gap) → Is x c.p c.n (e * g * e) → Is y c.p c.n (f * g * f) →
    Near u (ratio x (exact_squared q)) (ratio y (exact_squared p)) 0 =
    λ x y c h j. near-level u _ _ c (L * g) (mul-pos lz gz) (ratio-is x (exact_squared q) c e g L ez h iq.is)
    (ratio-is y (exact_squared p) c f g L fz j ip.is) in
    let d = conjugated-above p v ap' av in (
      record { x = one _ _ _ rq.x rp.x; y = one _ _ _ rq.y rp.y; z = one _ _ _ rq.z rp.z },
      (mul-pos d.x ip.above, (mul-pos d.y ip.above, mul-pos d.z ip.above)),
    )

-- ---- times a scale z of at most s / u, and a translation that is near
scaled-near : (u k s j i : ℕ) (f r t t' : Three Value) (z : Value) → 0 < u → Above3 r → VecNear u f r k → AtMost u z s →
    0 < z.d → k * s ≤ j * u → VecNear u t t' i → VecNear u (exact_scaled_sum f z t) (exact_scaled_sum r z t') (j + i)
scaled-near u k s j i f r t t' z uz p a hz zz l h =
    record {
      x = one f.x r.x t.x t'.x p.0 a.x h.x;
      y = one f.y r.y t.y t'.y p.1.0 a.y h.y;
      z = one f.z r.z t.z t'.z p.1.1 a.z h.z;
    }
  where
    one : (f g t t' : Value) → 0 < g.d → Near u f g k → Near u t t' i →
        Near u (plus (times f z) t) (plus (times g z) t') (j + i)
    one f g t t' p a h =
        near-plus u (times f z) (times g z) t t' j i (near-right u f g z k s j uz p zz a hz l) h

pub self : (u : ℕ) (t : Three Value) → VecNear u t t 0
self u t = record { x = one t.x; y = one t.y; z = one t.z }
  where
    one : (x : Value) → Near u x x 0
    one x = record { above = omega arith; below = omega arith }

-- ---- of floats
pub floats-above : (v : Vec3) → Above3 (exact_vec v)
floats-above v = (value-above v.x, (value-above v.y, value-above v.z))

pub quat_values : (q : Quat) → Above (exact_quat q)
quat_values q = record { w = value-above q.w; x = value-above q.x; y = value-above q.y; z = value-above q.z }

unit-above : (c w : ℕ) → c < w → 0 < w
unit-above c w h = omega arith

rotation-length : (u : ℕ) (q : Four Value) (v : Three Value) → Above q → Above3 v →
    (exact_squared q).n < (exact_squared q).p →
    Near u (exact_norm_sq (true_rotation q v)) (exact_norm_sq v) 0
unfolding true_rotation
rotation-length u q v aq av l =
    let e = den q in
    let a = clear q in
    let hq = clear_is q in
    let ez = mul-pos aq.w (mul-pos aq.x (mul-pos aq.y aq.z)) in
    let s = exact_squared q in
    let L = (squared a).p - (squared a).n in
    let i = value-is a in
    let h = squared-is q a e hq in
    let lz : 0 < L = some s.p s.n s.d (squared a).p (squared a).n L (e * e) (mul-pos ez ez) l h.equal i in
    let b = clear (pure v) in
    let k = clear_is (pure v) in
    let g = den (pure v) in
    let pv = pure-above v av in
    let gz : 0 < g = mul-pos pv.w (mul-pos pv.x (mul-pos pv.y pv.z)) in
    let is : Is3 v b g = record { x = k.x; y = k.y; z = k.z } in
    let r = conjugated-is q v a b e g hq is in
    let c = conjugated_gap a (pure_gap b) in
    let inv = inverse-is s (e * e) L (squared a).p (squared a).n (mul-pos ez ez) lz (square_positive q aq) h i in
    let rot : Is3 (true_rotation q v) c (L * g) = record {
      x = ratio-is _ s c.x e g L ez r.x inv.is;
      y = ratio-is _ s c.y e g L ez r.y inv.is;
      z = ratio-is _ s c.z e g L ez r.z inv.is;
    } in
    let B = squared (pure_gap b) in
    let one = norm-is (true_rotation q v) c (L * g) rot in
    let two = is_whole (exact_norm_sq v) B (g * g) (L * L) (norm-is v b g is) in
    near-level u (exact_norm_sq (true_rotation q v)) (exact_norm_sq v) (whole (L * L) ⊗ B) (L * g * (L * g))
    (mul-pos (mul-pos lz gz) (mul-pos lz gz))
    (is-level (exact_norm_sq (true_rotation q v)) (squared (pure_gap c)) (whole (L * L) ⊗ B) (L * g * (L * g))
    (lengths a b L (to_whole (squared a) L i)) one)
    (subst (λ (d : ℕ). Is (exact_norm_sq v) (whole (L * L) ⊗ B).p (whole (L * L) ⊗ B).n d) (square L g) two)
  where
    some : (sp sn sd p n L E : ℕ) → 0 < E → sn < sp → sp * E + n * sd ≡ sn * E + p * sd → p ≡ n + L → 0 < L
    some sp sn sd p n zero E z l h i = absurd (no (sn * E) (sp * E) (n * sd) (mul-lt-mul_of_pos_right l z)
        (subst (λ (x : ℕ). sp * E + n * sd ≡ sn * E + x * sd) (none p n i) h))
      where
        none : (p n : ℕ) → p ≡ n + 0 → p ≡ n
        none p n e = omega arith

        no : (x y z : ℕ) → x < y → y + z ≡ x + z → ⊥
        no x y z h k = omega arith
    some sp sn sd p n (suc L) E z l h i = omega arith

    square : (L g : ℕ) → L * L * (g * g) ≡ L * g * (L * g)
    square L g = simp expand

    whole-square : (L : ℕ) → Level (whole L ⊗ whole L) (whole (L * L))
    whole-square L = unfold Level in simp zeros (omega arith)

    same : (a : Gap) → Level a a
    same a = unfold Level in omega arith

    lengths : (a b : Quad Gap) (L : ℕ) → Level (squared a) (whole L) →
        Level (squared (pure_gap (conjugated_gap a (pure_gap b)))) (whole (L * L) ⊗ squared (pure_gap b))
    lengths a b L h =
        let B = squared (pure_gap b) in
        level_trans _ (squared a ⊗ squared a ⊗ B) (whole (L * L) ⊗ B) (vector-length 0 a b)
        (level-mul (squared a ⊗ squared a) (whole (L * L)) B B
        (level_trans (squared a ⊗ squared a) (whole L ⊗ whole L) (whole (L * L))
        (level-mul (squared a) (whole L) (squared a) (whole L) h h) (whole-square L)) (same B))

formula-near : (u c l : ℕ) (q : Quat) (v : Vec3) → c < u → Normal u c (exact_quat q) →
    AtMost (u * u) (exact_norm_sq (exact_vec v)) (l * l) →
    VecNear u (exact_rotate (value_of q.w) (vector_part (exact_quat q)) (exact_vec v))
    (true_rotation (exact_quat q) (exact_vec v)) (upward u (2 * c * l))
formula-near u c l q v cu n h =
    let uz = unit-above c u cu in
    near-one u c l l (upward u (2 * c * l)) (exact_quat q) (exact_vec v) uz
    (le_trans (le_of_eq (twice c l)) (upward_enough u (2 * c * l) uz))
    (of-length u c (exact_quat q) (exact_vec v) uz cu (quat_values q) (floats-above v) n l h)
  where
    twice : (c l : ℕ) → c * (l + l) ≡ 2 * c * l
    twice c l = simp expand (omega arith)

-- the rotation of a vector in a box, and that by another multiple of q
record Turned (u k : ℕ) (q p : Four Value) (v : Three Value) : Type 0 where
  near : VecNear u (exact_rotate q.w (vector_part q) v) (true_rotation p v) k
  above : Above3 (true_rotation p v)

rotation-near : (u c b : ℕ) (q p : Four Value) (v : Three Value) (a : Quad Gap) (e f : ℕ) → 0 < u → c < u → 0 < e →
    0 < f →
    Is4 q a e → Is4 p a f → Above q → Above p → Above3 v → Normal u c q → AtMost u v.x b → AtMost u v.y b →
    AtMost u v.z b →
    Turned u (upward u (3 * c * b)) q p v
rotation-near u c b q p v a e f uz cu ez fz hq hp aq ap' av n hx hy hz =
    let k = upward u (3 * c * b) in
    let i = in-box u c q v uz cu aq av n b hx hy hz in
    let d = true-above u c q v uz cu aq av n b (2 * b) i in
    let r = near-one u c b (2 * b) k q v uz (le_trans (le_of_eq (thrice c b)) (upward_enough u (3 * c * b) uz)) i in
    let same = same-rotation u c q p v a e f cu ez fz hq hp aq ap' av n in
    let s = same.0 in
    let F = exact_rotate q.w (vector_part q) v in
    let R = true_rotation q v in
    let P = true_rotation p v in
    record {
      near = record {
        x = through F.x R.x P.x d.0 r.x s.x;
        y = through F.y R.y P.y d.1.0 r.y s.y;
        z = through F.z R.z P.z d.1.1 r.z s.z;
      };
      above = same.1;
    }
  where
    thrice : (c b : ℕ) → c * (b + 2 * b) ≡ 3 * c * b
    thrice c b = simp expand (omega arith)

    through : (x y w : Value) → 0 < y.d → Near u x y (upward u (3 * c * b)) → Near u y w 0 →
        Near u x w (upward u (3 * c * b))
    through x y w z h k =
        subst (λ (e : ℕ). Near u x w e) (add-zero (upward u (3 * c * b)))
        (near_trans u x y w (upward u (3 * c * b)) 0 z h k)

-- a similarity, with a translation that is near
pub similarity-near : (u c b s j : ℕ) (q p : Four Value) (v t t' : Three Value) (z : Value) (a : Quad Gap) (e f : ℕ) →
    0 < u → c < u → 0 < e → 0 < f → Is4 q a e → Is4 p a f → Above q → Above p → Above3 v → Normal u c q →
    AtMost u v.x b → AtMost u v.y b → AtMost u v.z b → AtMost u z s → 0 < z.d → VecNear u t t' j →
    VecNear u (exact_scaled_sum (exact_rotate q.w (vector_part q) v) z t) (exact_scaled_sum (true_rotation p v) z t')
    (true_error u c b s + j)
similarity-near u c b s j q p v t t' z a e f uz cu ez fz hq hp aq ap' av n hx hy hz hs zz ht =
    let r = rotation-near u c b q p v a e f uz cu ez fz hq hp aq ap' av n hx hy hz in
    let k = upward u (3 * c * b) in
    scaled-near u k s (true_error u c b s) j (exact_rotate q.w (vector_part q) v) (true_rotation p v) t t' z uz
    r.above r.near hs zz
    (upward_enough u (k * s) uz) ht

-- from the formula's to the true one
pub beside : (u e k : ℕ) (r : Vec3) (f g : Three Value) → Above3 f → VecError u r f e → VecNear u f g k →
    VecError u r g (e + k)
beside u e k r f g a h n =
    record {
      x = error_trans u r.x f.x g.x e k a.0 h.x n.x;
      y = error_trans u r.y f.y g.y e k a.1.0 h.y n.y;
      z = error_trans u r.z f.z g.z e k a.1.1 h.z n.z;
    }

pub true_accurate : (f : Format) (x : Sim3) (up : Float) (p : Vec3) → TrueActionAccurate f x up p (pose_act f x up p)
unfolding exact_act true_act
true_accurate f x up p w q c b s t e cw k hq n hp hs ht =
    let z = unit-above c w cw in
    let Q = exact_quat x.q in
    let V = exact_vec p in
    let S = value_of up in
    let a = quat_values x.q in
    let r = rotate-above Q V a (floats-above p) in
    let sz = value-above up in
    let i = clear_is Q in
    let d = mul-pos a.w (mul-pos a.x (mul-pos a.y a.z)) in
    let near = similarity-near w c b s 0 Q Q V (exact_vec x.t) (exact_vec x.t) S (clear Q) (den Q) (den Q) z cw d d i
    i a a
    (floats-above p) n (leaf_forward w p.x b hp.x).size (leaf_forward w p.y b hp.y).size
    (leaf_forward w p.z b hp.z).size (leaf_forward w up s hs).size sz (self w (exact_vec x.t)) in
    beside w e (true_error w c b s) (pose_act f x up p)
    (exact_scaled_sum (exact_rotate Q.w (vector_part Q) V) S (exact_vec x.t)) (true_act x up p) (
      mul-pos (mul-pos r.0 sz) (value-above x.t.x),
      (mul-pos (mul-pos r.1.0 sz) (value-above x.t.y), mul-pos (mul-pos r.1.1 sz) (value-above x.t.z)),
    )
    (act_accurate f x up p w q b s t e z k hq hp hs ht)
    (subst (λ (j : ℕ). VecNear w (exact_scaled_sum (exact_rotate Q.w (vector_part Q) V) S (exact_vec x.t))
    (exact_scaled_sum (true_rotation Q V) S (exact_vec x.t)) j) (add-zero (true_error w c b s)) near)

pub vec_wider : (u e k : ℕ) (r : Vec3) (g : Three Value) → e ≤ k → VecError u r g e → VecError u r g k
vec_wider u e k r g l h = record {
  x = error_wider u r.x g.x e k l h.x;
  y = error_wider u r.y g.y e k l h.y;
  z = error_wider u r.z g.z e k l h.z;
}

-- ---- an inverse: the conjugate has the same length
opposite-square : (x : Value) → times (opposite x) (opposite x) ≡ times x x
opposite-square x =
    P.ap (λ (p : ℕ). record { p = p; n = x.n * x.p + x.p * x.n; d = x.d * x.d }) (add_comm (x.n * x.n) (x.p * x.p))
    ∙ P.ap (λ (n : ℕ). record { p = x.p * x.p + x.n * x.n; n = n; d = x.d * x.d }) (add_comm (x.n * x.p) (x.p * x.n))

conjugate-normal : (w c : ℕ) (q : Four Value) → Normal w c q → Normal w c (conjugate q)
conjugate-normal w c q h = record {
  above = subst (λ (s : Value). w * s.p ≤ w * s.n + (w + c) * s.d) same h.above;
  below = subst (λ (s : Value). w * s.d + w * s.n ≤ w * s.p + c * s.d) same h.below;
}
  where
    same : exact_squared q ≡ exact_squared (conjugate q)
    same =
        sym (P.ap (λ (x : Value). plus (plus (plus (times q.w q.w) x) (times (opposite q.y) (opposite q.y)))
        (times (opposite q.z) (opposite q.z))) (opposite-square q.x)
        ∙ P.ap (λ (y : Value). plus (plus (plus (times q.w q.w) (times q.x q.x)) y)
        (times (opposite q.z) (opposite q.z))) (opposite-square q.y)
        ∙ P.ap (λ (z : Value). plus (plus (plus (times q.w q.w) (times q.x q.x)) (times q.y q.y)) z)
        (opposite-square q.z))

pub true-inverse_accurate : (f : Format) (x : Sim3) (down : Float) → TrueInverseAccurate f x down
    (pose_inverse f x down).t
unfolding exact_inverse true_inverse exact_rotate
true-inverse_accurate f x down w q c t s e cw k hq n ht hs =
    let z = unit-above c w cw in
    let Q = conjugate (exact_quat x.q) in
    let V = exact_vec x.t in
    let S = value_of down in
    let g = quat_values x.q in
    let a : Above Q = record { w = g.w; x = g.x; y = g.y; z = g.z } in
    let n' = conjugate-normal w c (exact_quat x.q) n in
    let i = clear_is Q in
    let d = mul-pos a.w (mul-pos a.x (mul-pos a.y a.z)) in
    let sz = value-above down in
    let F = exact_rotate Q.w (vector_part Q) V in
    let R = true_rotation Q V in
    let m = upward w (3 * c * t) in
    let T' = rotation-near w c t Q Q V (clear Q) (den Q) (den Q) z cw d d i i a a (floats-above x.t) n'
    (leaf_forward w x.t.x t ht.x).size (leaf_forward w x.t.y t ht.y).size (leaf_forward w x.t.z t ht.z).size in
    let r = rotate-above Q V a (floats-above x.t) in
    let one : (f g : Value) → 0 < g.d → Near w f g m → Near w (opposite (times f S)) (opposite (times g S))
    (true_error w c t s) =
    λ f g p h. near-opposite w (times f S) (times g S) (true_error w c t s)
    (near-right w f g S m s (true_error w c t s) z p sz h (leaf_forward w down s hs).size (upward_enough w (m * s) z))
    in
    beside w e (true_error w c t s) (pose_inverse f x down).t (exact_inverse x down) (true_inverse x down) (
      mul-pos r.0 sz,
      (mul-pos r.1.0 sz, mul-pos r.1.1 sz),
    )
    (inverse_accurate f x down w q t s e z k hq ht hs)
    (record {
      x = one F.x R.x T'.above.0 T'.near.x;
      y = one F.y R.y T'.above.1.0 T'.near.y;
      z = one F.z R.z T'.above.1.1 T'.near.z;
    })

-- what specs/Rotation.antt states
pub rotation : RotationTheorem
rotation =
    record {
      isometry = λ u q v l. rotation-length u (exact_quat q) (exact_vec v) (quat_values q) (floats-above v) l;
      formula = formula-near;
      action = true_accurate;
      doubles = λ x up p hq n hp hs ht.
          vec_wider (2 ^ 100) _ (2 ^ 74) (pose_act binary64 x up p) (true_act x up p) (lit≤ tt)
          (true_accurate binary64 x up p (2 ^ 100) (2 ^ 100 + 2 ^ 60) (2 ^ 50) (2 ^ 116) (2 ^ 104) (2 ^ 120)
          (51 * 2 ^ 68) (lit< tt) (unfold no_overflow bound tree_act in tt) hq n hp hs ht);
      unit_doubles = λ x up p hq n hp hs ht.
          vec_wider (2 ^ 100) _ (2 ^ 54) (pose_act binary64 x up p) (true_act x up p) (lit≤ tt)
          (true_accurate binary64 x up p (2 ^ 100) (2 ^ 100 + 2 ^ 60) (2 ^ 50) (2 ^ 100) (2 ^ 100) (2 ^ 100)
          (51 * 2 ^ 48) (lit< tt) (unfold no_overflow bound tree_act in tt) hq n hp hs ht);
      singles = λ x up p hq n hp hs ht.
          vec_wider (2 ^ 100) _ (2 ^ 103) (pose_act binary32 x up p) (true_act x up p) (lit≤ tt)
          (true_accurate binary32 x up p (2 ^ 100) (2 ^ 100 + 2 ^ 84) (2 ^ 79) (2 ^ 116) (2 ^ 104) (2 ^ 120)
          (51 * 2 ^ 97) (lit< tt) (unfold no_overflow bound tree_act in tt) hq n hp hs ht);
      unit_singles = λ x up p hq n hp hs ht.
          vec_wider (2 ^ 100) _ (2 ^ 83) (pose_act binary32 x up p) (true_act x up p) (lit≤ tt)
          (true_accurate binary32 x up p (2 ^ 100) (2 ^ 100 + 2 ^ 84) (2 ^ 79) (2 ^ 100) (2 ^ 100) (2 ^ 100)
          (51 * 2 ^ 77) (lit< tt) (unfold no_overflow bound tree_act in tt) hq n hp hs ht);
      inverse = true-inverse_accurate;
      inverse_doubles = λ x down hq n ht hs.
          vec_wider (2 ^ 100) _ (2 ^ 78) (pose_inverse binary64 x down).t (true_inverse x down) (lit≤ tt)
          (true-inverse_accurate binary64 x down (2 ^ 100) (2 ^ 100 + 2 ^ 60) (2 ^ 50) (2 ^ 120) (2 ^ 104)
          (51 * 2 ^ 72) (lit< tt)
          (unfold no_overflow bound tree_inverse in tt) hq n ht hs);
      inverse_singles = λ x down hq n ht hs.
          vec_wider (2 ^ 100) _ (2 ^ 107) (pose_inverse binary32 x down).t (true_inverse x down) (lit≤ tt)
          (true-inverse_accurate binary32 x down (2 ^ 100) (2 ^ 100 + 2 ^ 84) (2 ^ 79) (2 ^ 120) (2 ^ 104)
          (51 * 2 ^ 101) (lit< tt)
          (unfold no_overflow bound tree_inverse in tt) hq n ht hs);
    }
