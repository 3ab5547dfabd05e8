-- Products in a row: the error of the running rotation grows as their number. Assumes nothing.
use mathlib.Core.Path.{◌≡◌, sym, ap, ap₂, subst}
use mathlib.Core.List.{List, [], ◌∷◌}
use Prim.Native.Nat.{ℕ, zero, suc, ◌+◌, ◌*◌, ◌≤◌, ◌<◌}
use native.Mathlib.Nat.{le_refl, le_trans, le_of_eq, mul-add, add-mul, mul_comm, mul-pos, zero-mul, add-zero, add_comm}
use native.Mathlib.Nat.{zero-lt-suc, mul-le-mul_right, le_of_mul-le-mul_right}
use native.Mathlib.Omega.{arith}
use mathlib.Core.Bool.{◌&&◌}
use lib.Dec.{T, leb, le→leb}
use lib.Ieee.{Float, nan, inf, fin, Format}
use lib.Ieee.Fits.{and_i}
use Rattle.so3.specs.Quat.{quat_mul}
use Rattle.so3.specs.Floats.{Quat}
use Rattle.rounding.specs.Value.{Value, value_of, AtMost, Near, AbsoluteError}
use Rattle.rounding.specs.Tree.{upward, bound, no_overflow}
use Rattle.rounding.specs.Leaves.{Bounded, sizes, error_at_most}
use Rattle.accuracy.specs.Box.{QuatIn, Four, QuatError, exact_quat}
use Rattle.accuracy.specs.Quaternions.{exact_squared, exact_hamilton, tree_quat_mul, quat_mul_sizes, all_four}
use Rattle.running_accuracy.specs.Products.{LengthAtMost, product_error}
use Rattle.rounding.proofs.Differences.{expand}
use Rattle.rounding.proofs.Forward.{upward_enough}
use Rattle.rounding.proofs.Denominators.{Is, is-most}
use Rattle.rounding.proofs.Ring.{Gap, ◌⊕◌, ◌⊗◌, whole, Ex, var, normal, ring}
use Rattle.rounding.proofs.Ring as R
use Rattle.accuracy.proofs.Hamilton.{Is4, den, clear, clear_is, is_mul, is-add, scaled-is, hamilton-is, side_least}
use Rattle.accuracy.proofs.Hamilton.{pos4, tall_near}
use Rattle.accuracy.proofs.Euler.{Quad, ◌⊖◌, hamilton, hamilton_x, squared}
use Rattle.accuracy.proofs.Length.{Long, Tall, Level, long_product, long_shift, scaled, long_scaled, tall_long, long_w}
use Rattle.accuracy.proofs.Length.{long_x, long_y, long_z, sum4, sub4, long_sum}
use Rattle.rounding.proofs.Leaves.{value-above, error-near, bounded_from}
use Rattle.accuracy.proofs.Quaternions.{product_accurate}

-- ---- from the values to the numbers
short_long : (u v : ℕ) (q : Four Value) (a : Quad Gap) (e : ℕ) → 0 < (exact_squared q).d → Is4 q a e →
    AtMost (u * u) (exact_squared q) (v * v) → Long u a e v
short_long u v q a e z h k =
    let i =
    is-add _ _ _ _ (e * e) (is-add _ _ _ _ (e * e) (is-add _ _ _ _ (e * e) (is_mul q.w q.w a.w a.w e e h.w h.w)
    (is_mul q.x q.x a.x a.x e e h.x h.x)) (is_mul q.y q.y a.y a.y e e h.y h.y))
    (is_mul q.z q.z a.z a.z e e h.z h.z) in
    record {
      magnitude = side_least (u * u) (v * v) (exact_squared q).p (exact_squared q).n (exact_squared q).d
          (squared a).p (squared a).n (e * e) z i.equal k.above;
    }

-- a difference of two values over one denominator
near-whole : (w c xp xn xd yp yn yd p n e q m g : ℕ) → 0 < xd → 0 < yd → xp * e + n * xd ≡ xn * e + p * xd →
    yp * g + m * yd ≡ yn * g + q * yd
    → w * (xp * yd + yn * xd) ≤ w * (xn * yd + yp * xd) + c * (xd * yd) →
    w * (g * p + e * m) ≤ w * (g * n + e * q) + c * (g * e)
near-whole w c xp xn xd yp yn yd p n e q m g xz yz h k l =
    le_of_mul-le-mul_right {k = xd * yd} (go w c xp xn xd yp yn yd p n e q m g (ap (λ (i : ℕ). w * (g * yd) * i) h)
    (ap (λ (i : ℕ). w * (e * xd) * i) k) (mul-le-mul_right (e * g) l)) (mul-pos xz yz)
  where
    go : (w c xp xn xd yp yn yd p n e q m g : ℕ) → w * (g * yd) * (xp * e + n * xd) ≡ w * (g * yd) * (xn * e + p * xd) →
        w * (e * xd) * (yp * g + m * yd) ≡ w * (e * xd) * (yn * g + q * yd)
        → w * (xp * yd + yn * xd) * (e * g) ≤ (w * (xn * yd + yp * xd) + c * (xd * yd)) * (e * g) →
        w * (g * p + e * m) * (xd * yd) ≤ (w * (g * n + e * q) + c * (g * e)) * (xd * yd)
    go w c xp xn xd yp yn yd p n e q m g h k l =
        simp expand (omega (arith, simp expand at h, simp expand at k, simp expand at l))

wholes : (w p n e q m g c : ℕ) → w * (g * p + e * m) ≤ w * (g * n + e * q) + c →
    w * (g * p + 0 * n + (e * m + 0 * q)) ≤ w * (g * n + 0 * p + (e * q + 0 * m)) + c
wholes w p n e q m g c h = simp (zero-mul, add-zero) h

pub near_tall : (w c : ℕ) (x y : Value) (a b : Gap) (e g : ℕ) → 0 < x.d → 0 < y.d → Is x a.p a.n e → Is y b.p b.n g →
    Near w x y c → Tall w (whole g ⊗ a ⊖ whole e ⊗ b) (c * (g * e))
near_tall w c x y a b e g xz yz h k l =
    let lb = l.below in
    record {
      above =
          wholes w a.p a.n e b.p b.n g (c * (g * e))
          (near-whole w c x.p x.n x.d y.p y.n y.d a.p a.n e b.p b.n g xz yz h.equal k.equal l.above);
      below = wholes w a.n a.p e b.n b.p g (c * (g * e)) (near-whole w c x.n x.p x.d y.n y.p y.d a.n a.p e b.n
          b.p g xz yz (sym h.equal) (sym k.equal) (rotation w y.p x.d x.n y.d y.n x.p c lb));
    }
  where
    rotation : (u a b c d e f g : ℕ) → u * (a * b + c * d) ≤ u * (e * b + f * d) + g * (d * b) →
        u * (c * d + a * b) ≤ u * (f * d + e * b) + g * (b * d)
    rotation u a b c d e f g h = simp expand (omega (arith, simp expand at h))

-- ---- the test of one number serves all four
pub le_leb : (n : ℕ) → T (leb n n)
le_leb n = le→leb n n (le_refl n)

pub one_test : (f : Format) (u v a : ℕ) → T (no_overflow f u (sizes (quat_mul_sizes a v)) tree_quat_mul.w) →
    T (all_four f u (quat_mul_sizes a v) tree_quat_mul (product_error f u v a))
unfolding no_overflow bound tree_quat_mul product_error
one_test f u v a t =
    let bs = quat_mul_sizes a v in
    let e = product_error f u v a in
    let h : T (error_at_most f u bs tree_quat_mul.w e) = and_i (no_overflow f u (sizes bs) tree_quat_mul.w)
    (leb (bound f u (sizes bs) tree_quat_mul.w).error e) t (le_leb e) in
    and_i (error_at_most f u bs tree_quat_mul.w e) (error_at_most f u bs tree_quat_mul.x e
    && (error_at_most f u bs tree_quat_mul.y e && error_at_most f u bs tree_quat_mul.z e)) h
    (and_i (error_at_most f u bs tree_quat_mul.x e) (error_at_most f u bs tree_quat_mul.y e
    && error_at_most f u bs tree_quat_mul.z e) h
    (and_i (error_at_most f u bs tree_quat_mul.y e) (error_at_most f u bs tree_quat_mul.z e) h h))

-- ---- the numbers of a float
near-error : (w : ℕ) (x : Float) (b : ℕ) (y : Value) (e : ℕ) → Bounded w x b → Near w (value_of x) y e →
    AbsoluteError w x y e
unfolding value_of
near-error w nan b y e s h = absurd s
near-error w (inf t) b y e s h = absurd s
near-error w (fin t m k) b y e s h = h

-- ---- the difference of the products
abbrev pub sub_x : Ex → Ex → Ex
sub_x a b = R.plus a (R.minus b)

abbrev pub quad_x : ℕ → Quad Ex
quad_x k = record { w = var k; x = var (k + 1); y = var (k + 2); z = var (k + 3) }

abbrev pub sub_x4 : Quad Ex → Quad Ex → Quad Ex
sub_x4 a b = record { w = sub_x a.w b.w; x = sub_x a.x b.x; y = sub_x a.y b.y; z = sub_x a.z b.z }

-- (k n - l (r c)) + l ((r - s) c), less (k n - l (s c))
abbrev split_x : (Quad Ex → Ex) → Ex
split_x g =
    let k = var 0 in
    let l = var 1 in
    let n = quad_x 2 in
    let r = quad_x 6 in
    let s = quad_x 10 in
    let c = quad_x 14 in
    sub_x (R.plus (sub_x (R.times k (g n)) (R.times l (g (hamilton_x r c))))
    (R.times l (g (hamilton_x (sub_x4 r s) c)))) (sub_x (R.times k (g n)) (R.times l (g (hamilton_x s c))))

abbrev pub entries : Quad Gap → List Gap → List Gap
entries a l = a.w ∷ a.x ∷ a.y ∷ a.z ∷ l

abbrev pub nth_gap : List Gap → ℕ → Gap
nth_gap [] i = whole 0
nth_gap (a ∷ l) zero = a
nth_gap (a ∷ l) (suc i) = nth_gap l i

module _ (k l : ℕ) (n r s c : Quad Gap) where
  split_w : Level (sum4 (sub4 (scaled k n) (scaled l (hamilton r c))) (scaled l (hamilton (sub4 r s) c))).w
      (sub4 (scaled k n) (scaled l (hamilton s c))).w
  unfolding Level normal
  split_w =
      ring (split_x (λ a. a.w)) tt (nth_gap (whole k ∷ whole l ∷ entries n (entries r (entries s (entries c [])))))

  split_x_lem : Level (sum4 (sub4 (scaled k n) (scaled l (hamilton r c))) (scaled l (hamilton (sub4 r s) c))).x
      (sub4 (scaled k n) (scaled l (hamilton s c))).x
  unfolding Level normal
  split_x_lem =
      ring (split_x (λ a. a.x)) tt (nth_gap (whole k ∷ whole l ∷ entries n (entries r (entries s (entries c [])))))

  split_y : Level (sum4 (sub4 (scaled k n) (scaled l (hamilton r c))) (scaled l (hamilton (sub4 r s) c))).y
      (sub4 (scaled k n) (scaled l (hamilton s c))).y
  unfolding Level normal
  split_y =
      ring (split_x (λ a. a.y)) tt (nth_gap (whole k ∷ whole l ∷ entries n (entries r (entries s (entries c [])))))

  split_z : Level (sum4 (sub4 (scaled k n) (scaled l (hamilton r c))) (scaled l (hamilton (sub4 r s) c))).z
      (sub4 (scaled k n) (scaled l (hamilton s c))).z
  unfolding Level normal
  split_z =
      ring (split_x (λ a. a.z)) tt (nth_gap (whole k ∷ whole l ∷ entries n (entries r (entries s (entries c [])))))

-- ---- one product more
pub record Run (u m d : ℕ) (R : Quat) (Q : Four Value) : Type 0 where
  pub e : ℕ
  pub r : Quad Gap
  pub s : Quad Gap
  pub above : 0 < e
  pub computed : Is4 (exact_quat R) r e
  pub exact : Is4 Q s e
  pub error : Long u (sub4 r s) e d
  pub magnitude : Long u s e m
  pub sizes : QuatIn u (m + d) R

pub tall_both : (w : ℕ) (a b : Gap) (c d e : ℕ) → Tall w (a ⊖ b) (d * e) → Tall w b (c * e) → Tall w a ((c + d) * e)
tall_both w a b c d e h k =
    let x = h.above in
    let y = h.below in
    let p = k.above in
    let q = k.below in
    let z : (c + d) * e ≡ c * e + d * e = add-mul c d e in
    record { above = omega (arith, simp mul-add at x); below = omega (arith, simp mul-add at y) }

pub tall_bounded : (w : ℕ) (x : Float) (y : Value) (g b : ℕ) (a : Gap) (e : ℕ) → 0 < e → AbsoluteError w x y g →
    Is (value_of x) a.p a.n e → Tall w a (b * e) → Bounded w x b
tall_bounded w x y g b a e z h k t = bounded_from w x y g b h (is-most w b (value_of x) a.p a.n e z k t.above t.below)

pub quat-above : (q : Quat) → 0 < den (exact_quat q)
quat-above q = mul-pos (value-above q.w) (mul-pos (value-above q.x) (mul-pos (value-above q.y) (value-above q.z)))

squared-above : (q : Quat) → 0 < (exact_squared (exact_quat q)).d
squared-above q =
    pos4 _ _ _ _ _ _ _ _ (value-above q.w) (value-above q.w) (value-above q.x) (value-above q.x) (value-above q.y)
    (value-above q.y) (value-above q.z) (value-above q.z)

above-w : (p q : Quat) → 0 < (exact_hamilton (exact_quat p) (exact_quat q)).w.d
unfolding exact_hamilton
above-w p q =
    pos4 _ _ _ _ _ _ _ _ (value-above p.w) (value-above q.w) (value-above p.x) (value-above q.x) (value-above p.y)
    (value-above q.y) (value-above p.z) (value-above q.z)

above-x : (p q : Quat) → 0 < (exact_hamilton (exact_quat p) (exact_quat q)).x.d
unfolding exact_hamilton
above-x p q =
    pos4 _ _ _ _ _ _ _ _ (value-above p.w) (value-above q.x) (value-above p.x) (value-above q.w) (value-above p.y)
    (value-above q.z) (value-above p.z) (value-above q.y)

above-y : (p q : Quat) → 0 < (exact_hamilton (exact_quat p) (exact_quat q)).y.d
unfolding exact_hamilton
above-y p q =
    pos4 _ _ _ _ _ _ _ _ (value-above p.w) (value-above q.y) (value-above p.x) (value-above q.z) (value-above p.y)
    (value-above q.w) (value-above p.z) (value-above q.x)

above-z : (p q : Quat) → 0 < (exact_hamilton (exact_quat p) (exact_quat q)).z.d
unfolding exact_hamilton
above-z p q =
    pos4 _ _ _ _ _ _ _ _ (value-above p.w) (value-above q.z) (value-above p.x) (value-above q.y) (value-above p.y)
    (value-above q.x) (value-above p.z) (value-above q.w)

pub error-above : (f : Format) (u v a : ℕ) → 0 < 2 * product_error f u v a
unfolding product_error bound tree_quat_mul
error-above f u v a = twice (product_error f u v a) (later _ _ _)
  where
    later : (x y z : ℕ) → 0 < x + (suc y + suc z)
    later x y z = omega arith

    twice : (x : ℕ) → 0 < x → 0 < 2 * x
    twice x h = omega arith

module _ (f : Format) (u v : ℕ) (up : 0 < u) where
  pub one_more : (m d : ℕ) (R q : Quat) (Q : Four Value) → T
      (no_overflow f u (sizes (quat_mul_sizes (m + d) v)) tree_quat_mul.w) → LengthAtMost u v q → Run u m d R Q
      → Run u (upward u (m * v)) (2 * product_error f u v (m + d) + upward u (d * v)) (quat_mul f R q)
      (exact_hamilton Q (exact_quat q))
  one_more m d R q Q t h k =
      let g = den (exact_quat q) in
      let c = clear (exact_quat q) in
      let gp : 0 < g = quat-above q in
      let ci = clear_is (exact_quat q) in
      let cl : Long u c g v = short_long u v (exact_quat q) c g (squared-above q) ci h.length in
      let err = product_error f u v (m + d) in
      let N = quat_mul f R q in
      let H = exact_hamilton (exact_quat R) (exact_quat q) in
      let near : QuatError u N H err = product_accurate f R q u (m + d) v err up
      (one_test f u v (m + d) t) k.sizes h.sizes in
      let e' = den (exact_quat N) in
      let n = clear (exact_quat N) in
      let ni = clear_is (exact_quat N) in
      let ep : 0 < e' = quat-above N in
      let eg = k.e * g in
      let E = eg * e' in
      let Ep : 0 < E = mul-pos (mul-pos k.above gp) ep in
      let hr = hamilton-is (exact_quat R) (exact_quat q) k.r c k.e g k.computed ci in
      let hs = hamilton-is Q (exact_quat q) k.s c k.e g k.exact ci in
      let n' = scaled eg n in
      let s' = scaled e' (hamilton k.s c) in
      let si : Is4 (exact_hamilton Q (exact_quat q)) s' E = subst
      (λ (i : ℕ). Is4 (exact_hamilton Q (exact_quat q)) s' i) (mul_comm e' eg)
      (scaled-is (exact_hamilton Q (exact_quat q)) (hamilton k.s c) eg e' hs) in
      let nn : Is4 (exact_quat N) n' E = scaled-is (exact_quat N) n e' eg ni in
      let one : Long u (sub4 n' (scaled e' (hamilton k.r c))) E (2 * err) =
      tall_long u (sub4 n' (scaled e' (hamilton k.r c))) E err
      (near_tall u err (value_of N.w) H.w n.w (hamilton k.r c).w e' eg (value-above N.w) (above-w R q) ni.w hr.w
      (error-near u N.w H.w err near.w))
      (near_tall u err (value_of N.x) H.x n.x (hamilton k.r c).x e' eg (value-above N.x) (above-x R q) ni.x hr.x
      (error-near u N.x H.x err near.x))
      (near_tall u err (value_of N.y) H.y n.y (hamilton k.r c).y e' eg (value-above N.y) (above-y R q) ni.y hr.y
      (error-near u N.y H.y err near.y))
      (near_tall u err (value_of N.z) H.z n.z (hamilton k.r c).z e' eg (value-above N.z) (above-z R q) ni.z hr.z
      (error-near u N.z H.z err near.z)) in
      let two : Long u (scaled e' (hamilton (sub4 k.r k.s) c)) E (upward u (d * v)) =
      subst (λ (i : ℕ). Long u (scaled e' (hamilton (sub4 k.r k.s) c)) i (upward u (d * v))) (mul_comm e' eg)
      (long_scaled u e' (hamilton (sub4 k.r k.s) c) eg (upward u (d * v))
      (long_product u (sub4 k.r k.s) c k.e g d v (upward u (d * v)) up k.error cl (upward_enough u (d * v) up))) in
      let error : Long u (sub4 n' s') E (2 * err + upward u (d * v)) =
      long_shift u (sum4 (sub4 n' (scaled e' (hamilton k.r c))) (scaled e' (hamilton (sub4 k.r k.s) c))) (sub4 n' s') E
      (2 * err + upward u (d * v))
      (split_w eg e' n k.r k.s c) (split_x_lem eg e' n k.r k.s c) (split_y eg e' n k.r k.s c)
      (split_z eg e' n k.r k.s c)
      (long_sum u (sub4 n' (scaled e' (hamilton k.r c))) (scaled e' (hamilton (sub4 k.r k.s) c)) E (2 * err)
      (upward u (d * v)) (error-above f u v (m + d)) (zero-lt-suc _) one two) in
      let lng : Long u s' E (upward u (m * v)) =
      subst (λ (i : ℕ). Long u s' i (upward u (m * v))) (mul_comm e' eg)
      (long_scaled u e' (hamilton k.s c) eg (upward u (m * v))
      (long_product u k.s c k.e g m v (upward u (m * v)) up k.magnitude cl (upward_enough u (m * v) up))) in
      let M = upward u (m * v) in
      let D = 2 * err + upward u (d * v) in
      record {
        e = E;
        r = n';
        s = s';
        above = Ep;
        computed = nn;
        exact = si;
        error = error;
        magnitude = lng;
        sizes = record {
          w =
              tall_bounded u N.w H.w err (M + D) n'.w E Ep near.w nn.w
              (tall_both u n'.w s'.w M D E (long_w u (sub4 n' s') E D error) (long_w u s' E M lng));
          x =
              tall_bounded u N.x H.x err (M + D) n'.x E Ep near.x nn.x
              (tall_both u n'.x s'.x M D E (long_x u (sub4 n' s') E D error) (long_x u s' E M lng));
          y =
              tall_bounded u N.y H.y err (M + D) n'.y E Ep near.y nn.y
              (tall_both u n'.y s'.y M D E (long_y u (sub4 n' s') E D error) (long_y u s' E M lng));
          z =
              tall_bounded u N.z H.z err (M + D) n'.z E Ep near.z nn.z
              (tall_both u n'.z s'.z M D E (long_z u (sub4 n' s') E D error) (long_z u s' E M lng));
        };
      }

-- ---- what it says of the numbers
pub run_close : (u m d : ℕ) (R : Quat) (Q : Four Value) → Run u m d R Q → QuatError u R Q d
run_close u m d R Q k =
    let a = k.r in
    let b = k.s in
    record {
      w = near-error u R.w (m + d) Q.w d k.sizes.w (tall_near u d (value_of R.w) Q.w a.w b.w k.e k.above k.computed.w
          k.exact.w (long_w u (sub4 a b) k.e d k.error));
      x = near-error u R.x (m + d) Q.x d k.sizes.x (tall_near u d (value_of R.x) Q.x a.x b.x k.e k.above k.computed.x
          k.exact.x (long_x u (sub4 a b) k.e d k.error));
      y = near-error u R.y (m + d) Q.y d k.sizes.y (tall_near u d (value_of R.y) Q.y a.y b.y k.e k.above k.computed.y
          k.exact.y (long_y u (sub4 a b) k.e d k.error));
      z = near-error u R.z (m + d) Q.z d k.sizes.z (tall_near u d (value_of R.z) Q.z a.z b.z k.e k.above k.computed.z
          k.exact.z (long_z u (sub4 a b) k.e d k.error));
    }

self_level : (a : Gap) → ((a ⊖ a) ⊗ (a ⊖ a)).p ≡ ((a ⊖ a) ⊗ (a ⊖ a)).n
self_level a = go a.p a.n
  where
    go : (p n : ℕ) → (p + n) * (p + n) + (n + p) * (n + p) ≡ (p + n) * (n + p) + (n + p) * (p + n)
    go p n = ap₂ (λ (x y : ℕ). (p + n) * x + y) (add_comm p n) (ap (λ (x : ℕ). (n + p) * x) (add_comm n p))

-- the first quaternion is no product
pub first : (u v : ℕ) (R : Quat) → LengthAtMost u v R → Run u v 0 R (exact_quat R)
first u v R h =
    let a = clear (exact_quat R) in
    let e = den (exact_quat R) in
    record {
      e = e;
      r = a;
      s = a;
      above = quat-above R;
      computed = clear_is (exact_quat R);
      exact = clear_is (exact_quat R);
      error =
          record {
            magnitude =
                le_trans (le_of_eq
                (ap (λ (x : ℕ). u * u * x) (four-level (self_level a.w) (self_level a.x) (self_level a.y)
                (self_level a.z))))
                (omega arith);
          };
      magnitude = short_long u v (exact_quat R) a e (squared-above R) (clear_is (exact_quat R)) h.length;
      sizes = rw add-zero h.sizes;
    }
  where
    four-level : {a a' b b' c c' d d' : ℕ} → a ≡ a' → b ≡ b' → c ≡ c' → d ≡ d' → a + b + c + d ≡ a' + b' + c' + d'
    four-level h i j k = ap₂ (λ (x y : ℕ). x + y) (ap₂ (λ (x y : ℕ). x + y) (ap₂ (λ (x y : ℕ). x + y) h i) j) k
