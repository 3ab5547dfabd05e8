-- How far sums and products of fractions are from one another. Assumes nothing.
use mathlib.Core.Path.{◌≡◌, ap, ◌∙◌}
use Prim.Native.Nat.{ℕ, ◌+◌, ◌*◌, ◌≤◌, ◌<◌}
use native.Mathlib.Nat.{le_trans, le_of_eq, mul-add, mul-zero, zero-add, mul-le-mul_left, mul-le-mul_right}
use native.Mathlib.Nat.{le_of_mul-le-mul_right}
use native.Mathlib.Omega.{arith}
use Rattle.rounding.specs.Value.{Value, opposite, plus, times, Exceeds, Near, AtMost}
use Rattle.rounding.proofs.Differences.{expand, product, products}

-- ---- opposites
pub near-opposite : (w : ℕ) (x y : Value) (e : ℕ) → Near w x y e → Near w (opposite x) (opposite y) e
near-opposite w x y e h =
    record {
      above = let k = h.below in simp expand (omega (arith, simp expand at k));
      below = let k = h.above in
          simp expand (omega (arith, simp expand at k));
    }

pub most-opposite : (w : ℕ) (x : Value) (b : ℕ) → AtMost w x b → AtMost w (opposite x) b
most-opposite w x b h = record { above = h.below; below = h.above }

-- ---- wider bounds
pub over_wider : (w : ℕ) (x y : Value) (e g : ℕ) → e ≤ g → Exceeds w x y e → Exceeds w x y g
over_wider w x y e g l h =
    let k : e * (x.d * y.d) ≤ g * (x.d * y.d) = mul-le-mul_right (x.d * y.d) l in le_trans h (omega arith)

pub near_wider : (w : ℕ) (x y : Value) (e g : ℕ) → e ≤ g → Near w x y e → Near w x y g
near_wider w x y e g l h = record { above = over_wider w x y e g l h.above; below = over_wider w y x e g l h.below }

pub most_wider : (w : ℕ) (x : Value) (b c : ℕ) → b ≤ c → AtMost w x b → AtMost w x c
most_wider w x b c l h =
    let k : b * x.d ≤ c * x.d = mul-le-mul_right x.d l in
    record { above = le_trans h.above (omega arith); below = le_trans h.below (omega arith) }

-- ---- sums
pub over-plus : (w : ℕ) (x x' y y' : Value) (e g : ℕ) → Exceeds w x x' e → Exceeds w y y' g →
    Exceeds w (plus x y) (plus x' y') (e + g)
over-plus w x x' y y' e g h k =
    let a = mul-le-mul_right (y.d * y'.d) h in
    let b = mul-le-mul_right (x.d * x'.d) k in
    simp expand (omega (arith, simp expand at a, simp expand at b))

pub near-plus : (w : ℕ) (x x' y y' : Value) (e g : ℕ) → Near w x x' e → Near w y y' g →
    Near w (plus x y) (plus x' y') (e + g)
near-plus w x x' y y' e g h k =
    record { above = over-plus w x x' y y' e g h.above k.above; below = over-plus w x' x y' y e g h.below k.below }

side_plus : (w : ℕ) (p n d q m c a b : ℕ) → w * p ≤ w * n + a * d → w * q ≤ w * m + b * c →
    w * (p * c + q * d) ≤ w * (n * c + m * d) + (a + b) * (d * c)
side_plus w p n d q m c a b h k =
    let x = mul-le-mul_right c h in
    let y = mul-le-mul_right d k in
    simp expand (omega (arith, simp expand at x, simp expand at y))

pub most-plus : (w : ℕ) (x y : Value) (a b : ℕ) → AtMost w x a → AtMost w y b → AtMost w (plus x y) (a + b)
most-plus w x y a b h k =
    record {
      above = side_plus w x.p x.n x.d y.p y.n y.d a b h.above k.above;
      below = side_plus w x.n x.p x.d y.n y.p y.d a b h.below k.below;
    }

-- ---- from x to y to z
pub over_trans : (w : ℕ) (x y z : Value) (e g : ℕ) → 0 < y.d → Exceeds w x y e → Exceeds w y z g → Exceeds w x z (e + g)
over_trans w x y z e g c h k =
    let a = mul-le-mul_right z.d h in
    let b = mul-le-mul_right x.d k in
    le_of_mul-le-mul_right (simp expand (omega (arith, simp expand at a, simp expand at b))) c

pub near_trans : (w : ℕ) (x y z : Value) (e g : ℕ) → 0 < y.d → Near w x y e → Near w y z g → Near w x z (e + g)
near_trans w x y z e g c h k =
    record {
      above = over_trans w x y z e g c h.above k.above;
      below = let t = over_trans w z y x g e c k.below h.below in simp expand (omega (arith, simp expand at t));
    }

-- ---- the size of what is near
side_near : (w : ℕ) (p n d q m c b e : ℕ) → 0 < c → w * (p * c + m * d) ≤ w * (n * c + q * d) + e * (d * c) →
    w * q ≤ w * m + b * c → w * p ≤ w * n + (b + e) * d
side_near w p n d q m c b e z h k =
    let y = mul-le-mul_right d k in
    le_of_mul-le-mul_right (simp expand (omega (arith, simp expand at h, simp expand at y))) z

pub most-near : (w : ℕ) (x y : Value) (b e : ℕ) → 0 < y.d → Near w x y e → AtMost w y b → AtMost w x (b + e)
most-near w x y b e z h k =
    record {
      above = side_near w x.p x.n x.d y.p y.n y.d b e z h.above k.above;
      below =
          side_near w x.n x.p x.d y.n y.p y.d b e z (let t = h.below in
          simp expand (omega (arith, simp expand at t))) k.below;
    }

-- ---- products
pub side_times : (w p n d q m c a b k : ℕ) → 0 < w → w * p ≤ w * n + a * d → w * n ≤ w * p + a * d → w * q ≤ w * m + b * c →
    w * m ≤ w * q + b * c → a * b ≤ k * w
    → w * (p * q + n * m) ≤ w * (p * m + n * q) + k * (d * c)
side_times w p n d q m c a b k z xa xb ya yb h =
    let t = product (w * p) (w * n) (w * q) (w * m) (a * d) (b * c) xa xb ya yb in
    let l = mul-le-mul_right (d * c) h in
    le_of_mul-le-mul_right (simp expand (omega (arith, simp expand at t, simp expand at l))) z

pub most-times : (w : ℕ) (x y : Value) (a b k : ℕ) → 0 < w → AtMost w x a → AtMost w y b → a * b ≤ k * w →
    AtMost w (times x y) k
most-times w x y a b k z h g l =
    record {
      above = side_times w x.p x.n x.d y.p y.n y.d a b k z h.above h.below g.above g.below l;
      below = side_times w x.p x.n x.d y.n y.p y.d a b k z h.above h.below g.below g.above l;
    }

-- what `products` says, divided by w
divided : (w a b e g k xp xn xd xp' xn' xd' yp yn yd yp' yn' yd' : ℕ)
    → w * (xp * xd') * (w * (yp * yd')) + w * (xn * xd') * (w * (yn * yd'))
    + (w * (xp' * xd) * (w * (yn' * yd)) + w * (xn' * xd) * (w * (yp' * yd)))
    ≤ w * (xp * xd') * (w * (yn * yd')) + w * (xn * xd') * (w * (yp * yd'))
    + (w * (xp' * xd) * (w * (yp' * yd)) + w * (xn' * xd) * (w * (yn' * yd)))
    + (a * (xd * xd') * (g * (yd * yd')) + e * (xd * xd') * (b * (yd * yd')))
    → (a * g + e * b) * (xd * xd' * (yd * yd')) ≤ k * w * (xd * xd' * (yd * yd'))
    → w * ((xp * yp + xn * yn) * (xd' * yd') + (xp' * yn' + xn' * yp') * (xd * yd)) * w
    ≤ (w * ((xp * yn + xn * yp) * (xd' * yd') + (xp' * yp' + xn' * yn') * (xd * yd)) + k * (xd * yd * (xd' * yd'))) * w
divided w a b e g k xp xn xd xp' xn' xd' yp yn yd yp' yn' yd' t u =
    simp expand (omega (arith, simp expand at t, simp expand at u))

-- x at most a in size, y' at most b, x within e of x', y within g of y'
over-times : (w : ℕ) (x x' y y' : Value) (a b e g k : ℕ) → 0 < w → Near w x x' e → Near w y y' g → AtMost w x a →
    AtMost w y' b → a * g + e * b ≤ k * w
    → Exceeds w (times x y) (times x' y') k
over-times w x x' y y' a b e g k z hx hy sx sy l =
    let x1 = hx.above in
    let x2 = hx.below in
    let y1 = hy.above in
    let y2 = hy.below in
    let s1 = mul-le-mul_right x'.d sx.above in
    let s2 = mul-le-mul_right x'.d sx.below in
    let r1 = mul-le-mul_right y.d sy.above in
    let r2 = mul-le-mul_right y.d sy.below in
    let t =
    products (w * (x.p * x'.d)) (w * (x.n * x'.d)) (w * (x'.p * x.d)) (w * (x'.n * x.d)) (w * (y.p * y'.d))
    (w * (y.n * y'.d)) (w * (y'.p * y.d)) (w * (y'.n * y.d))
    (e * (x.d * x'.d)) (g * (y.d * y'.d)) (a * (x.d * x'.d)) (b * (y.d * y'.d))
    (omega (arith, simp expand at x1)) (omega (arith, simp expand at x2)) (omega (arith, simp expand at y1))
    (omega (arith, simp expand at y2))
    (simp expand (omega (arith, simp expand at s1))) (simp expand (omega (arith, simp expand at s2)))
    (simp expand (omega (arith, simp expand at r1)))
    (simp expand (omega (arith, simp expand at r2))) in
    let u = mul-le-mul_right (x.d * x'.d * (y.d * y'.d)) l in
    le_of_mul-le-mul_right (divided w a b e g k x.p x.n x.d x'.p x'.n x'.d y.p y.n y.d y'.p y'.n y'.d t u) z

flipped : (w k a b c d a' b' c' d' m m' : ℕ) → w * ((b + a) * m' + (d' + c') * m)
    ≤ w * ((d + c) * m' + (b' + a') * m) + k * (m * m') → w *
    ((c' + d') * m + (a + b) * m') ≤ w * ((a' + b') * m + (c + d) * m') + k * (m' * m)
flipped w k a b c d a' b' c' d' m m' h = simp expand (omega (arith, simp expand at h))

pub near_times : (w : ℕ) (x x' y y' : Value) (a b e g k : ℕ) → 0 < w → 0 < y.d → 0 < x'.d → Near w x x' e →
    Near w y y' g → AtMost w x' a → AtMost w y' b → (a + e) * g + e * b ≤ k * w
    → Near w (times x y) (times x' y') k
near_times w x x' y y' a b e g k z yd xd hx hy sx sy l =
    record {
      above = over-times w x x' y y' (a + e) b e g k z hx hy (most-near w x x' a e xd hx sx) sy l;
      below =
          flipped w k _ _ _ _ _ _ _ _ _ _ (over-times w (opposite x) (opposite x') y y' (a + e) b e g k z
          (near-opposite w x x' e hx) hy
          (most-opposite w x (a + e) (most-near w x x' a e xd hx sx)) sy l);
    }

-- ---- a common factor on the right
most_any : (w : ℕ) (x : Value) → 0 < x.d → AtMost w x (w * (x.p + x.n))
most_any w x z =
    let h : w * (x.p + x.n) * 1 ≤ w * (x.p + x.n) * x.d = mul-le-mul_left (w * (x.p + x.n)) z in
    let k : w * (x.p + x.n) ≡ w * x.p + w * x.n = mul-add w x.p x.n in
    record { above = omega arith; below = omega arith }

pub near-right : (w : ℕ) (x y d : Value) (e b k : ℕ) → 0 < w → 0 < y.d → 0 < d.d → Near w x y e → AtMost w d b →
    e * b ≤ k * w → Near w (times x d) (times y d) k
near-right w x y d e b k wp yp dp h g l =
    near_times w x y d d (w * (y.p + y.n)) b e 0 k wp dp yp h (record { above = omega arith; below = omega arith })
    (most_any w y yp) g
    (le_trans (le_of_eq (ap (λ (i : ℕ). i + e * b) (mul-zero (w * (y.p + y.n) + e)) ∙ zero-add (e * b))) l)
