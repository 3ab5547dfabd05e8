-- The forward error of trees that have quotients. Assumes nothing.
use mathlib.Core.Path.{◌≡◌, refl, sym, ap, subst, subst₂}
use Prim.Native.Nat.{ℕ, zero, suc, ◌+◌, ◌-◌, ◌*◌, ◌^◌, ◌≤◌, ◌<◌}
use native.Mathlib.Nat.{mul-add, mul_comm, mul-pos, mul-le-mul, mul-le-mul_left, mul-le-mul_right}
use native.Mathlib.Nat.{le_of_mul-le-mul_right, mul-zero}
use native.Mathlib.Omega.{arith}
use mathlib.Core.Bool.{Bool, true, false, not, ◌&&◌, cond}
use lib.IntN.{ℤ}
use lib.Dec.{T, ltb, eqb, ltb→lt, nltb→le, eqb→eq, lit≤, lit<}
use lib.Ieee.{Float, nan, inf, fin, Format, binary64, unlike, up, down, round, div}
use lib.Ieee.Fits.{down_pos, and_l, and_r}
use Rattle.rounding.specs.Value.{Value, opposite, times, inverse, ratio, Near, AtMost, AtLeast, signed, value_of}
use Rattle.rounding.specs.Value.{AbsoluteError}
use Rattle.rounding.specs.Roundoff.{rounding_error}
use Rattle.rounding.specs.Tree.{Term, leaf, opp, sum, prod, quot, computed, exact, Bound, upward, sum_reach, prod_reach}
use Rattle.rounding.specs.Tree.{inverse_bound, quot_bound, bound, in_range, well_defined, DivisorsAtLeast, ForwardError}
use Rattle.rounding.proofs.Differences.{expand, zeros}
use Rattle.rounding.proofs.Fractions.{near-opposite, most-near, most-times, near_times}
use mathlib.Core.List.{[], ◌∷◌}
use Rattle.rounding.specs.Leaves.{Bounded, AllBounded, at, exact_at, sizes}
use Rattle.rounding.proofs.Leaves.{most-signed, leaves_forward}
use Rattle.rounding.proofs.Forward.{of, rounding-error-difference, signs, error_trans, error_wider, upward_enough}
use Rattle.rounding.proofs.Forward.{forward_opp, forward_sum, forward_prod}

-- ---- by the sign
by_sign : (t : Bool) (p n c D E : ℕ) → (T t → p < n) → (T (not t) → n ≤ p) → p ≡ n + D → 0 < D → p - n + (n - p) ≡ E →
    signed t c E ≡ signed false c D
by_sign true p n c D E h k e z q = absurd (no p n D (h tt) e)
  where
    no : (p n D : ℕ) → p < n → p ≡ n + D → ⊥
    no p n D l e = omega arith
by_sign false p n c D E h k e z q = ap (λ (i : ℕ). signed false c i) (same p n D E e q)
  where
    same : (p n D E : ℕ) → p ≡ n + D → p - n + (n - p) ≡ E → E ≡ D
    same p n D E e q = omega arith

pub inverse-up : (y : Value) (D : ℕ) → y.p ≡ y.n + D → 0 < D → inverse y ≡ signed false y.d D
unfolding inverse
inverse-up y D e z =
    by_sign (ltb y.p y.n) y.p y.n y.d D (y.p - y.n + (y.n - y.p)) (ltb→lt y.p y.n) (nltb→le y.p y.n) e z refl

by_sign' : (t : Bool) (p n c D E : ℕ) → (T t → p < n) → (T (not t) → n ≤ p) → n ≡ p + D → 0 < D → p - n + (n - p) ≡ E →
    signed t c E ≡ signed true c D
by_sign' false p n c D E h k e z q = absurd (no p n D (k tt) e z)
  where
    no : (p n D : ℕ) → n ≤ p → n ≡ p + D → 0 < D → ⊥
    no p n D l e z = omega arith
by_sign' true p n c D E h k e z q = ap (λ (i : ℕ). signed true c i) (same p n D E e q)
  where
    same : (p n D E : ℕ) → n ≡ p + D → p - n + (n - p) ≡ E → E ≡ D
    same p n D E e q = omega arith

inverse-down : (y : Value) (D : ℕ) → y.n ≡ y.p + D → 0 < D → inverse y ≡ signed true y.d D
unfolding inverse
inverse-down y D e z =
    by_sign' (ltb y.p y.n) y.p y.n y.d D (y.p - y.n + (y.n - y.p)) (ltb→lt y.p y.n) (nltb→le y.p y.n) e z refl

-- ---- what is near a number away from 0 is on the same side
same_side : (w g l r p n d m D c : ℕ) → 0 < c → l ≡ g + r → w * ((m + D) * d + n * c)
    ≤ w * (m * d + p * c) + g * (c * d) → l * c ≤ w * D → w * n + r * d ≤ w * p
same_side w g l r p n d m D c z e h k =
    let a = mul-le-mul_right d k in
    let b = ap (λ (i : ℕ). i * (c * d)) e in
    le_of_mul-le-mul_right {k = c} (simp expand (omega (arith, simp expand at h, simp expand at a, simp expand at b))) z

above_it : (w r p n d : ℕ) → 0 < r → 0 < d → w * n + r * d ≤ w * p → n < p
above_it w r p n d rz dz h = go (ltb n p) (ltb→lt n p) (nltb→le n p)
  where
    no : (x y z : ℕ) → 0 < z → x ≤ y → y + z ≤ x → ⊥
    no x y z h k l = omega arith

    go : (t : Bool) → (T t → n < p) → (T (not t) → p ≤ n) → n < p
    go true l g = l tt
    go false l g = absurd (no (w * p) (w * n) (r * d) (mul-pos rz dz) (mul-le-mul_left w (g tt)) h)

left_over : (w r n D d : ℕ) → w * n + r * d ≤ w * (n + D) → r * d ≤ w * D
left_over w r n D d h = omega (arith, simp mul-add at h)

-- |d / D - c / D'| is at most k / w
apart : (w g l r k d D c D' : ℕ) → 0 < l → 0 < r → r * d ≤ w * D → l * c ≤ w * D' → g * (w * w) ≤ k * (l * r) →
    g * (d * c) ≤ k * (D * D')
apart w g l r k d D c D' lz rz h i j =
    let a : r * d * (l * c) ≤ w * D * (w * D') = mul-le-mul h i in
    let b = mul-le-mul_left g a in
    let e = mul-le-mul_right (D * D') j in
    le_of_mul-le-mul_right {k = l * r} (simp expand (omega (arith, simp expand at b, simp expand at e))) (mul-pos lz rz)

sides : (w g k n d D m c D' : ℕ) → g * (d * c) ≤ k * (D * D') →
    w * ((n + D) * c + m * d) ≤ w * (n * c + (m + D') * d) + g * (d * c) → w * (c * D) ≤ w * (d * D') + k * (D * D')
sides w g k n d D m c D' h i = simp expand (omega (arith, h, simp expand at i))

near-inverse : (w g k d D c D' : ℕ) → w * (c * D) ≤ w * (d * D') + k * (D * D') →
    w * (d * D') ≤ w * (c * D) + k * (D * D') → Near w (signed false d D) (signed false c D') k
near-inverse w g k d D c D' h i =
    record { above = simp zeros (omega arith); below = simp zeros (omega (arith, mul_comm D D')) }

some : (l c w D : ℕ) → 0 < l → 0 < c → l * c ≤ w * D → 0 < D
some l c w zero lz cz h = absurd (no (l * c) (w * zero) (mul-pos lz cz) (mul-zero w) h)
  where
    no : (x y : ℕ) → 0 < x → y ≡ 0 → x ≤ y → ⊥
    no x y h e k = omega arith
some l c w (suc D) lz cz h = omega arith

record Side (w k : ℕ) (y : Value) (c D' : ℕ) : Type 0 where
  D : ℕ
  is : y.p ≡ y.n + D
  pos : 0 < D
  near : Near w (signed false y.d D) (signed false c D') k

core : (w g l k : ℕ) (y : Value) (p n c D' : ℕ) → 0 < y.d → 0 < c → g < l → p ≡ n + D' → Near w y (of p n c) g →
    l * c ≤ w * D' → g * (w * w) ≤ k * (l * (l - g)) → Side w k y c D'
core w g l k y p n c D' yz cz gl e h i j =
    let r = l - g in
    let rz : 0 < r = omega arith in
    let lr : l ≡ g + r = omega arith in
    let ha = subst (λ (q : ℕ). w * (y.p * c + n * y.d) ≤ w * (y.n * c + q * y.d) + g * (y.d * c)) e h.above in
    let hb = subst (λ (q : ℕ). w * (q * y.d + y.n * c) ≤ w * (n * y.d + y.p * c) + g * (c * y.d)) e h.below in
    let s = same_side w g l r y.p y.n y.d n D' c cz lr hb i in
    let lt : y.n < y.p = above_it w r y.p y.n y.d rz yz s in
    let D = y.p - y.n in
    let is : y.p ≡ y.n + D = from y.p y.n lt in
    let rd : r * y.d ≤ w * D = left_over w r y.n D y.d (subst (λ (q : ℕ). w * y.n + r * y.d ≤ w * q) is s) in
    let ap' : g * (y.d * c) ≤ k * (D * D') = apart w g l r k y.d D c D' (less g l gl) rz rd i j in
    let x1 = sides w g k y.n y.d D n c D' ap'
    (subst (λ (q : ℕ). w * (q * c + n * y.d) ≤ w * (y.n * c + (n + D') * y.d) + g * (y.d * c)) is ha) in
    let x2 = sides w g k n c D' y.n y.d D (subst₂ (λ (q z : ℕ). g * q ≤ k * z) (mul_comm y.d c) (mul_comm D D') ap')
    (subst (λ (q : ℕ). w * ((n + D') * y.d + y.n * c) ≤ w * (n * y.d + q * c) + g * (c * y.d)) is hb) in
    record {
      D = D;
      is = is;
      pos = diff_pos y.p y.n lt;
      near =
          near-inverse w g k y.d D c D' x1 (subst (λ (q : ℕ). w * (y.d * D') ≤ w * (c * D) + k * q) (mul_comm D' D) x2);
    }
  where
    from : (p n : ℕ) → n < p → p ≡ n + (p - n)
    from p n h = omega arith

    diff_pos : (p n : ℕ) → n < p → 0 < p - n
    diff_pos p n h = omega arith

    less : (g l : ℕ) → g < l → 0 < l
    less g l h = omega arith

-- 1 / y is near 1 / y', and 1 / y' not great
pub record Inverses (w k i : ℕ) (y y' : Value) : Type 0 where
  pub near : Near w (inverse y) (inverse y') k
  pub size : AtMost w (inverse y') i
  pub above : 0 < (inverse y).d
  pub above' : 0 < (inverse y').d

most-inverse : (w l i c D : ℕ) → 0 < l → l * c ≤ w * D → w * w ≤ i * l → w * c ≤ i * D
most-inverse w l i c D z h k =
    let a = mul-le-mul_left w h in
    let b = mul-le-mul_right D k in
    le_of_mul-le-mul_right {k = l} (simp expand (omega (arith, a, simp expand at b))) z

inverses : (w g l : ℕ) (y y' : Value) → 0 < y.d → 0 < y'.d → g < l → Near w y y' g → AtLeast w y' l →
    Inverses w (upward (l * (l - g)) (g * (w * w))) (upward l (w * w)) y y'
inverses w g l y y' yz cz gl h k = go (ltb y'.p y'.n) (ltb→lt y'.p y'.n) (nltb→le y'.p y'.n)
  where
    go : (t : Bool) → (T t → y'.p < y'.n) → (T (not t) → y'.n ≤ y'.p) →
        Inverses w (upward (l * (l - g)) (g * (w * w))) (upward l (w * w)) y y'
    go true a b =
        let lz : 0 < l = omega arith in
        let D' = y'.n - y'.p in
        let lt : y'.p < y'.n = a tt in
        let e : y'.n ≡ y'.p + D' = from y'.p y'.n lt in
        let m : l * y'.d ≤ w * D' = subst (λ (x : ℕ). l * y'.d ≤ w * x) (all' y'.p y'.n lt) k.least in
        let r : 0 < l - g = omega arith in
        let K = upward (l * (l - g)) (g * (w * w)) in
        let s = core w g l K (opposite y) y'.n y'.p y'.d D' yz cz gl e (near-opposite w y y' g h) m
        (upward_enough (l * (l - g)) (g * (w * w)) (mul-pos lz r)) in
        let z' : 0 < D' = some l y'.d w D' lz cz m in
        let i1 : inverse y ≡ signed true y.d s.D = inverse-down y s.D s.is s.pos in
        let i2 : inverse y' ≡ signed true y'.d D' = inverse-down y' D' e z' in
        let mm = most-inverse w l (upward l (w * w)) y'.d D' lz m (upward_enough l (w * w) lz) in
        record {
          near =
              subst₂ (λ (x z : Value). Near w x z K) (sym i1) (sym i2)
              (near-opposite w (signed false y.d s.D) (signed false y'.d D') K s.near);
          size =
              subst (λ (x : Value). AtMost w x (upward l (w * w))) (sym i2)
              (most-signed w (upward l (w * w)) true y'.d D' mm);
          above = subst (λ (x : Value). 0 < x.d) (sym i1) s.pos;
          above' = subst (λ (x : Value). 0 < x.d) (sym i2) z';
        }
      where
        from : (p n : ℕ) → p < n → n ≡ p + (n - p)
        from p n h = omega arith

        all' : (p n : ℕ) → p < n → p - n + (n - p) ≡ n - p
        all' p n h = omega arith
    go false a b =
        let lz : 0 < l = omega arith in
        let D' = y'.p - y'.n in
        let lt : y'.n ≤ y'.p = b tt in
        let e : y'.p ≡ y'.n + D' = from y'.n y'.p lt in
        let m : l * y'.d ≤ w * D' = subst (λ (x : ℕ). l * y'.d ≤ w * x) (all' y'.p y'.n lt) k.least in
        let r : 0 < l - g = omega arith in
        let K = upward (l * (l - g)) (g * (w * w)) in
        let s = core w g l K y y'.p y'.n y'.d D' yz cz gl e h m
        (upward_enough (l * (l - g)) (g * (w * w)) (mul-pos lz r)) in
        let z' : 0 < D' = some l y'.d w D' lz cz m in
        let i1 : inverse y ≡ signed false y.d s.D = inverse-up y s.D s.is s.pos in
        let i2 : inverse y' ≡ signed false y'.d D' = inverse-up y' D' e z' in
        let mm = most-inverse w l (upward l (w * w)) y'.d D' lz m (upward_enough l (w * w) lz) in
        record {
          near = subst₂ (λ (x z : Value). Near w x z K) (sym i1) (sym i2) s.near;
          size =
              subst (λ (x : Value). AtMost w x (upward l (w * w))) (sym i2)
              (most-signed w (upward l (w * w)) false y'.d D' mm);
          above = subst (λ (x : Value). 0 < x.d) (sym i1) s.pos;
          above' = subst (λ (x : Value). 0 < x.d) (sym i2) z';
        }
      where
        from : (n p : ℕ) → n ≤ p → p ≡ n + (p - n)
        from n p h = omega arith

        all' : (p n : ℕ) → n ≤ p → p - n + (n - p) ≡ p - n
        all' p n h = omega arith

-- ---- the float's quotient
float_inverse : (t : Bool) (b c : ℕ) → 0 < b → inverse (signed t b c) ≡ signed t c b
float_inverse false b c z = inverse-up (signed false b c) b (omega arith) z
float_inverse true b c z = inverse-down (signed true b c) b (omega arith) z

float_pos : (t : Bool) (b c : ℕ) → 0 < (inverse (signed t b c)).d → 0 < b
unfolding inverse
float_pos false b c h = omega arith
float_pos true b c h = omega arith

div-round : (f : Format) (w u : ℕ) (s : Bool) (i : ℕ) (j : ℤ) (r : Bool) (l : ℕ) (o : ℤ) → 0 < l * up o → AtMost w
    (times (signed s (i * up j) (down j)) (signed r (down o) (l * up o))) u → T (in_range f w u)
    → AbsoluteError w (div f (fin s i j) (fin r l o)) (times (signed s (i * up j) (down j))
    (signed r (down o) (l * up o))) (rounding_error f w u)
unfolding div
div-round f w u s i j r l o z m t = go (eqb l 0) (eqb→eq l 0)
  where
    no : (x y : ℕ) → x ≡ 0 → 0 < x * y → ⊥
    no x y e h = let a : x * y ≡ 0 * y = ap (λ (q : ℕ). q * y) e in omega arith

    go : (b : Bool) → (T b → l ≡ 0) → AbsoluteError w (cond b (cond (eqb i 0) nan (inf (unlike s r)))
        (round f (unlike s r) (i * up j * down o) (l * up o * down j)))
        (times (signed s (i * up j) (down j)) (signed r (down o) (l * up o)))
        (rounding_error f w u)
    go true h = absurd (no l (up o) (h tt) z)
    go false h =
        let x : Value = signed s (i * up j) (down j) in
        let y : Value = signed r (down o) (l * up o) in
        subst (λ (d : ℕ). AbsoluteError w (round f (unlike s r) (i * up j * down o) d) (times x y)
        (rounding_error f w u)) (mul_comm (down j) (l * up o))
        (rounding-error-difference f w u (unlike s r) (i * up j * down o) (times x y).p (times x y).n
        (down j * (l * up o)) (mul-pos (down_pos j) z)
        (signs s r (i * up j) (down j) (down o) (l * up o)) m t)

error-div : (f : Format) (w l : ℕ) (x y : Float) (x' y' : Value) (a b : Bound) → 0 < w → 0 < x'.d → 0 < y'.d →
    b.error < l → AbsoluteError w x x'
    a.error → AbsoluteError w y y' b.error → AtMost w x' a.magnitude → AtLeast w y' l
    → T (in_range f w (prod_reach w a (inverse_bound w l b.error))) →
    AbsoluteError w (div f x y) (ratio x' y') (quot_bound f w a (inverse_bound w l b.error)).error
error-div f w l nan y x' y' a b z c d lt h k m n t = absurd h
error-div f w l (inf s) y x' y' a b z c d lt h k m n t = absurd h
error-div f w l (fin s i j) nan x' y' a b z c d lt h k m n t = absurd k
error-div f w l (fin s i j) (inf r) x' y' a b z c d lt h k m n t = absurd k
error-div f w l (fin s i j) (fin r o q) x' y' a b z c d lt h k m n t =
    let x : Value = signed s (i * up j) (down j) in
    let y : Value = signed r (o * up q) (down q) in
    let I = inverses w b.error l y y' (down_pos q) d lt k n in
    let bz : 0 < o * up q = float_pos r (o * up q) (down q) I.above in
    let Y : Value = signed r (down q) (o * up q) in
    let e : inverse y ≡ Y = float_inverse r (o * up q) (down q) bz in
    let B = inverse_bound w l b.error in
    let nY : Near w Y (inverse y') B.error = subst (λ (v : Value). Near w v (inverse y') B.error) e I.near in
    let A = a.magnitude + a.error in
    let u = upward w (A * (B.magnitude + B.error)) in
    let near = upward w (A * B.error + a.error * B.magnitude) in
    let magnitude : AtMost w (times x Y) u = most-times w x Y A (B.magnitude + B.error) u z
    (most-near w x x' a.magnitude a.error c h m)
    (most-near w Y (inverse y') B.magnitude B.error I.above' nY I.size)
    (upward_enough w (A * (B.magnitude + B.error)) z) in
    let v = div-round f w u s i j r o q bz magnitude t in
    error_wider w (div f (fin s i j) (fin r o q)) (ratio x' y') (rounding_error f w u + near)
    (near + rounding_error f w u) (omega arith)
    (error_trans w (div f (fin s i j) (fin r o q)) (times x Y) (ratio x' y') (rounding_error f w u) near
    (mul-pos (down_pos j) bz) v
    (near_times w x x' Y (inverse y') a.magnitude B.magnitude a.error B.error near z bz c h nY m I.size
    (upward_enough w (A * B.error + a.error * B.magnitude) z)))

inverse-size : (w : ℕ) (y : Value) (l : ℕ) → 0 < l → 0 < y.d → AtLeast w y l →
    AtMost w (inverse y) (upward l (w * w)) × (0 < (inverse y).d)
inverse-size w y l z d h =
    let I = inverses w 0 l y y d d z (record { above = omega arith; below = omega arith }) h in (I.size, I.above)

pub forward_quot : (f : Format) (w l : ℕ) (x y : Float) (v u : Value) (a c : Bound) → 0 < w → ForwardError w x v a →
    ForwardError w y u c
    → c.error < l → AtLeast w u l → T (in_range f w (prod_reach w a (inverse_bound w l c.error)))
    → ForwardError w (div f x y) (ratio v u) (quot_bound f w a (inverse_bound w l c.error))
forward_quot f w l x y v u a c z p q lt h i =
    let I = inverse-size w u l (less c.error l lt) q.above h in
    record {
      close = error-div f w l x y v u a c z p.above q.above lt p.close q.close p.size h i;
      size =
          most-times w v (inverse u) a.magnitude (upward l (w * w))
          (upward w (a.magnitude * upward l (w * w))) z p.size I.0 (upward_enough w (a.magnitude * upward l (w * w)) z);
      above = mul-pos p.above I.1;
    }
  where
    less : (g l : ℕ) → g < l → 0 < l
    less g l h = omega arith

-- ---- the theorem, with quotients
pub forward_error-divided : (f : Format) (w : ℕ) (x : ℕ → Float) (v : ℕ → Value) (b : ℕ → Bound) → 0 < w →
    ((i : ℕ) → ForwardError w (x i) (v i) (b i)) → (t : Term) → T (well_defined f w b t) → DivisorsAtLeast w v t
    → ForwardError w (computed f x t) (exact v t) (bound f w b t)
unfolding computed exact bound well_defined DivisorsAtLeast
forward_error-divided f w x v b z h (leaf i) s o = h i
forward_error-divided f w x v b z h (opp t) s o =
    forward_opp w (computed f x t) (exact v t) (bound f w b t) (forward_error-divided f w x v b z h t s o)
forward_error-divided f w x v b z h (sum t u) s o =
    let i = in_range f w (sum_reach (bound f w b t) (bound f w b u)) in
    let l : T (well_defined f w b u && i) = and_r (well_defined f w b t) (well_defined f w b u && i) s in
    forward_sum f w (computed f x t) (computed f x u) (exact v t) (exact v u) (bound f w b t) (bound f w b u) z
    (forward_error-divided f w x v b z h t (and_l (well_defined f w b t) (well_defined f w b u && i) s) o.0)
    (forward_error-divided f w x v b z h u (and_l (well_defined f w b u) i l) o.1) (and_r (well_defined f w b u) i l)
forward_error-divided f w x v b z h (prod t u) s o =
    let i = in_range f w (prod_reach w (bound f w b t) (bound f w b u)) in
    let l : T (well_defined f w b u && i) = and_r (well_defined f w b t) (well_defined f w b u && i) s in
    forward_prod f w (computed f x t) (computed f x u) (exact v t) (exact v u) (bound f w b t) (bound f w b u) z
    (forward_error-divided f w x v b z h t (and_l (well_defined f w b t) (well_defined f w b u && i) s) o.0)
    (forward_error-divided f w x v b z h u (and_l (well_defined f w b u) i l) o.1) (and_r (well_defined f w b u) i l)
forward_error-divided f w x v b z h (quot m t u) s o =
    let e = (bound f w b u).error in
    let i = in_range f w (prod_reach w (bound f w b t) (inverse_bound w m e)) in
    let j = ltb e m in
    let l : T (well_defined f w b u && (j && i)) = and_r (well_defined f w b t) (well_defined f w b u && (j && i)) s in
    let k : T (j && i) = and_r (well_defined f w b u) (j && i) l in
    forward_quot f w m (computed f x t) (computed f x u) (exact v t) (exact v u) (bound f w b t) (bound f w b u) z
    (forward_error-divided f w x v b z h t (and_l (well_defined f w b t) (well_defined f w b u && (j && i)) s) o.0)
    (forward_error-divided f w x v b z h u (and_l (well_defined f w b u) (j && i) l) o.1.0)
    (ltb→lt e m (and_l j i k)) o.1.1 (and_r j i k)

-- ---- for instance a quotient x / y of floats up to 16 in size, y at least 1 / 4, in units of 2 ^ -100: within 2 ^ -46
pub quotient_binary64 : (x y : Float) → Bounded (2 ^ 100) x (2 ^ 104) → Bounded (2 ^ 100) y (2 ^ 104) →
    AtLeast (2 ^ 100) (value_of y) (2 ^ 98)
    → AbsoluteError (2 ^ 100) (div binary64 x y) (ratio (value_of x) (value_of y)) (2 ^ 54)
unfolding computed exact bound well_defined DivisorsAtLeast
quotient_binary64 x y hx hy h =
    let t = quot (2 ^ 98) (leaf 0) (leaf 1) in
    let l = x ∷ y ∷ [] in
    let bs = 2 ^ 104 ∷ 2 ^ 104 ∷ [] in
    let all : AllBounded (2 ^ 100) l bs = (hx, (hy, tt)) in
    error_wider (2 ^ 100) (div binary64 x y) (ratio (value_of x) (value_of y))
    (bound binary64 (2 ^ 100) (sizes bs) t).error (2 ^ 54) (lit≤ tt)
    (forward_error-divided binary64 (2 ^ 100) (at l) (exact_at l) (sizes bs) (lit< tt)
    (leaves_forward (2 ^ 100) l bs all) t tt (tt, (tt, h))).close
