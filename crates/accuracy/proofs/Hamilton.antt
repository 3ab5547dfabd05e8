-- Four values over one denominator, their Hamilton product and the square of their length. Assumes nothing.
use mathlib.Core.Path.{◌≡◌, sym, ap, subst}
use Prim.Native.Nat.{ℕ, ◌+◌, ◌-◌, ◌*◌, ◌≤◌, ◌<◌}
use native.Mathlib.Nat.{mul-add, mul-pos, mul-le-mul_right, le_of_mul-le-mul_right}
use native.Mathlib.Omega.{arith}
use Rattle.rounding.specs.Value.{Value, opposite, plus, minus, times, Near}
use Rattle.rounding.proofs.Differences.{expand}
use Rattle.rounding.proofs.Denominators.{Is, is_shift, is-opposite, is-scaled, is-plus, is-times}
use Rattle.rounding.proofs.Ring.{Gap, ◌⊕◌, ◌⊗◌, whole}
use Rattle.accuracy.specs.Box.{Four}
use Rattle.accuracy.specs.Quaternions.{exact_hamilton, exact_squared, Normal}
use Rattle.accuracy.proofs.Euler.{Quad, ◌⊖◌, hamilton, squared}
use Rattle.accuracy.proofs.Length.{Tall, Level, squared-up, scaled}

-- ---- four values over one denominator
pub record Is4 (q : Four Value) (a : Quad Gap) (e : ℕ) : Type 0 where
  pub w : Is q.w a.w.p a.w.n e
  pub x : Is q.x a.x.p a.x.n e
  pub y : Is q.y a.y.p a.y.n e
  pub z : Is q.z a.z.p a.z.n e

own : (x : Value) (k : ℕ) → Is x (x.p * k) (x.n * k) (x.d * k)
own x k = record { equal = go x.p x.n x.d k }
  where
    go : (p n d k : ℕ) → p * (d * k) + n * k * d ≡ n * (d * k) + p * k * d
    go p n d k = simp expand (omega arith)

own_as : (x : Value) (k e : ℕ) → x.d * k ≡ e → Is x (x.p * k) (x.n * k) e
own_as x k e h = subst (λ (i : ℕ). Is x (x.p * k) (x.n * k) i) h (own x k)

abbrev gap : Value → ℕ → Gap
gap x k = record { p = x.p * k; n = x.n * k }

abbrev pub den : Four Value → ℕ
den q = q.w.d * (q.x.d * (q.y.d * q.z.d))

abbrev pub clear : Four Value → Quad Gap
clear q = record {
  w = gap q.w (q.x.d * (q.y.d * q.z.d));
  x = gap q.x (q.w.d * (q.y.d * q.z.d));
  y = gap q.y
      (q.w.d * (q.x.d * q.z.d));
  z = gap q.z (q.w.d * (q.x.d * q.y.d));
}

swap_x : (a b c d : ℕ) → b * (a * (c * d)) ≡ a * (b * (c * d))
swap_x a b c d = simp expand

swap_y : (a b c d : ℕ) → c * (a * (b * d)) ≡ a * (b * (c * d))
swap_y a b c d = simp expand

swap_z : (a b c d : ℕ) → d * (a * (b * c)) ≡ a * (b * (c * d))
swap_z a b c d = simp expand

pub clear_is : (q : Four Value) → Is4 q (clear q) (den q)
clear_is q =
    record {
      w = own q.w (q.x.d * (q.y.d * q.z.d));
      x = own_as q.x (q.w.d * (q.y.d * q.z.d)) (den q) (swap_x q.w.d q.x.d q.y.d q.z.d);
      y = own_as q.y (q.w.d * (q.x.d * q.z.d)) (den q) (swap_y q.w.d q.x.d q.y.d q.z.d);
      z = own_as q.z (q.w.d * (q.x.d * q.y.d)) (den q) (swap_z q.w.d q.x.d q.y.d q.z.d);
    }

-- ---- the Hamilton product of such
pub is_mul : (x y : Value) (a b : Gap) (e g : ℕ) → Is x a.p a.n e → Is y b.p b.n g →
    Is (times x y) (a ⊗ b).p (a ⊗ b).n (e * g)
is_mul x y a b e g h k = is-times x y a.p a.n b.p b.n e g h k

pub is-add : (x y : Value) (a b : Gap) (e : ℕ) → Is x a.p a.n e → Is y b.p b.n e → Is (plus x y) (a ⊕ b).p (a ⊕ b).n e
is-add x y a b e h k = is-plus x y a.p a.n b.p b.n e h k

pub is-sub : (x y : Value) (a b : Gap) (e : ℕ) → Is x a.p a.n e → Is y b.p b.n e → Is (minus x y) (a ⊖ b).p (a ⊖ b).n e
is-sub x y a b e h k = is-plus x (opposite y) a.p a.n b.n b.p e h (is-opposite y b.p b.n e k)

pub hamilton-is : (p q : Four Value) (a b : Quad Gap) (e g : ℕ) → Is4 p a e → Is4 q b g →
    Is4 (exact_hamilton p q) (hamilton a b) (e * g)
unfolding exact_hamilton
hamilton-is p q a b e g h k =
    record {
      w = is-sub _ _ _ _ (e * g) (is-sub _ _ _ _ (e * g) (is-sub _ _ _ _ (e * g) (is_mul p.w q.w a.w b.w e g h.w k.w)
          (is_mul p.x q.x a.x b.x e g h.x k.x)) (is_mul p.y q.y a.y b.y e g h.y k.y))
          (is_mul p.z q.z a.z b.z e g h.z k.z);
      x = is-sub _ _ _ _ (e * g) (is-add _ _ _ _ (e * g) (is-add _ _ _ _ (e * g) (is_mul p.w q.x a.w b.x e g h.w k.x)
          (is_mul p.x q.w a.x b.w e g h.x k.w)) (is_mul p.y q.z a.y b.z e g h.y k.z))
          (is_mul p.z q.y a.z b.y e g h.z k.y);
      y = is-add _ _ _ _ (e * g) (is-add _ _ _ _ (e * g) (is-sub _ _ _ _ (e * g) (is_mul p.w q.y a.w b.y e g h.w k.y)
          (is_mul p.x q.z a.x b.z e g h.x k.z)) (is_mul p.y q.w a.y b.w e g h.y k.w))
          (is_mul p.z q.x a.z b.x e g h.z k.x);
      z = is-add _ _ _ _ (e * g) (is-sub _ _ _ _ (e * g) (is-add _ _ _ _ (e * g) (is_mul p.w q.z a.w b.z e g h.w k.z)
          (is_mul p.x q.y a.x b.y e g h.x k.y)) (is_mul p.y q.x a.y b.x e g h.y k.x))
          (is_mul p.z q.w a.z b.w e g h.z k.w);
    }

pub is-level : (x : Value) (a b : Gap) (e : ℕ) → Level a b → Is x a.p a.n e → Is x b.p b.n e
unfolding Level
is-level x a b e h k = is_shift x a.p a.n b.p b.n e h k

-- ---- over another denominator
pub is_whole : (x : Value) (a : Gap) (e k : ℕ) → Is x a.p a.n e → Is x (whole k ⊗ a).p (whole k ⊗ a).n (k * e)
is_whole x a e k h =
    is_shift x (k * a.p) (k * a.n) (whole k ⊗ a).p (whole k ⊗ a).n (k * e) (omega arith) (is-scaled x a.p a.n e k h)

pub scaled-is : (q : Four Value) (a : Quad Gap) (e k : ℕ) → Is4 q a e → Is4 q (scaled k a) (k * e)
scaled-is q a e k h =
    record {
      w = is_whole q.w a.w e k h.w;
      x = is_whole q.x a.x e k h.x;
      y = is_whole q.y a.y e k h.y;
      z =
          is_whole q.z a.z e k h.z;
    }

-- ---- from the values to the numbers
pub side_least : (u b xp xn xd p n e : ℕ) → 0 < xd → xp * e + n * xd ≡ xn * e + p * xd → u * xp ≤ u * xn + b * xd →
    u * p ≤ u * n + b * e
side_least u b xp xn xd p n e z h k =
    let a = ap (λ (i : ℕ). u * i) h in
    let c = mul-le-mul_right e k in
    le_of_mul-le-mul_right {k = xd} (simp expand (omega (arith, simp expand at a, simp expand at c))) z

pub below-least : (u c xp xn xd p n E : ℕ) → 0 < xd → xp * E + n * xd ≡ xn * E + p * xd →
    u * xd + u * xn ≤ u * xp + c * xd → u * E + u * n ≤ u * p + c * E
below-least u c xp xn xd p n E z h k =
    let a = ap (λ (i : ℕ). u * i) h in
    let b = mul-le-mul_right E k in
    le_of_mul-le-mul_right {k = xd} (simp expand (omega (arith, simp expand at a, simp expand at b))) z

pub pos4 : (a a' b b' c c' d d' : ℕ) → 0 < a → 0 < a' → 0 < b → 0 < b' → 0 < c → 0 < c' → 0 < d → 0 < d' →
    0 < a * a' * (b * b') * (c * c') * (d * d')
pos4 a a' b b' c c' d d' ha ha' hb hb' hc hc' hd hd' =
    mul-pos (mul-pos (mul-pos (mul-pos ha ha') (mul-pos hb hb')) (mul-pos hc hc')) (mul-pos hd hd')

-- ---- the denominators are above 0
pub record Above (q : Four Value) : Type 0 where
  pub w : 0 < q.w.d
  pub x : 0 < q.x.d
  pub y : 0 < q.y.d
  pub z : 0 < q.z.d

pub hamilton-above : (p q : Four Value) → Above p → Above q → Above (exact_hamilton p q)
unfolding exact_hamilton
hamilton-above p q h k =
    record {
      w = pos4 _ _ _ _ _ _ _ _ h.w k.w h.x k.x h.y k.y h.z k.z;
      x = pos4 _ _ _ _ _ _ _ _ h.w k.x h.x k.w h.y k.z h.z k.y;
      y = pos4 _ _ _ _ _ _ _ _ h.w k.y h.x k.z h.y k.w h.z k.x;
      z = pos4 _ _ _ _ _ _ _ _ h.w k.z h.x k.y h.y k.x h.z k.w;
    }

-- ---- the square of the length
pub squared-is : (q : Four Value) (a : Quad Gap) (e : ℕ) → Is4 q a e →
    Is (exact_squared q) (squared a).p (squared a).n (e * e)
squared-is q a e h =
    is-add _ _ _ _ (e * e) (is-add _ _ _ _ (e * e) (is-add _ _ _ _ (e * e) (is_mul q.w q.w a.w a.w e e h.w h.w)
    (is_mul q.x q.x a.x a.x e e h.x h.x)) (is_mul q.y q.y a.y a.y e e h.y h.y))
    (is_mul q.z q.z a.z a.z e e h.z h.z)

pub square_positive : (q : Four Value) → Above q → 0 < (exact_squared q).d
square_positive q a = pos4 _ _ _ _ _ _ _ _ a.w a.w a.x a.x a.y a.y a.z a.z

-- the length of a / e, squared, is within c / u of 1
pub record Even (u c : ℕ) (a : Quad Gap) (e : ℕ) : Type 0 where
  pub above : u * (squared a).p ≤ u * (squared a).n + (u + c) * (e * e)
  pub below : u * (e * e) + u * (squared a).n ≤ u * (squared a).p + c * (e * e)

pub value-is : (a : Quad Gap) → (squared a).p ≡ (squared a).n + ((squared a).p - (squared a).n)
value-is a = go (squared a).p (squared a).n (squared-up a)
  where
    go : (p n : ℕ) → n ≤ p → p ≡ n + (p - n)
    go p n h = omega arith

-- u L against E, for the number L
pub even_above : (u c p n L E : ℕ) → p ≡ n + L → u * p ≤ u * n + (u + c) * E → u * L ≤ (u + c) * E
even_above u c p n L E e h =
    let k = subst (λ (x : ℕ). u * x ≤ u * n + (u + c) * E) e h in omega (arith, simp mul-add at k)

pub even_below : (u c p n L E : ℕ) → p ≡ n + L → u * E + u * n ≤ u * p + c * E → u * E ≤ u * L + c * E
even_below u c p n L E e h =
    let k = subst (λ (x : ℕ). u * E + u * n ≤ u * x + c * E) e h in omega (arith, simp mul-add at k)

pub normal_even : (u c : ℕ) (q : Four Value) (a : Quad Gap) (e : ℕ) → Above q → Is4 q a e → Normal u c q → Even u c a e
normal_even u c q a e z h k =
    let S = exact_squared q in
    let i = (squared-is q a e h).equal in
    record {
      above = side_least u (u + c) S.p S.n S.d (squared a).p (squared a).n (e * e) (square_positive q z) i k.above;
      below = below-least u c S.p S.n S.d (squared a).p (squared a).n (e * e) (square_positive q z) i k.below;
    }

-- ---- two values of near numbers
pub tall_near : (w c : ℕ) (x y : Value) (a b : Gap) (e : ℕ) → 0 < e → Is x a.p a.n e → Is y b.p b.n e →
    Tall w (a ⊖ b) (c * e) → Near w x y c
tall_near w c x y a b e z h k t =
    record {
      above = go w c x.p x.n x.d y.p y.n y.d a.p a.n b.p b.n e z h.equal k.equal t.above;
      below =
          rotation w x.n y.d y.p x.d x.p y.n c (go w c x.n x.p x.d y.n y.p y.d a.n a.p b.n b.p e z (sym h.equal)
          (sym k.equal) t.below);
    }
  where
    go : (w c xp xn xd yp yn yd p n q m e : ℕ) → 0 < e → xp * e + n * xd ≡ xn * e + p * xd →
        yp * e + m * yd ≡ yn * e + q * yd → w * (p + m) ≤ w *
        (n + q) + c * e → w * (xp * yd + yn * xd) ≤ w * (xn * yd + yp * xd) + c * (xd * yd)
    go w c xp xn xd yp yn yd p n q m e z h k l =
        le_of_mul-le-mul_right {k = e} (last w c xp xn xd yp yn yd p n q m e (ap (λ (i : ℕ). w * yd * i) h)
        (ap (λ (i : ℕ). w * xd * i) k) (mul-le-mul_right (xd * yd) l)) z
      where
        last : (w c xp xn xd yp yn yd p n q m e : ℕ) → w * yd * (xp * e + n * xd) ≡ w * yd * (xn * e + p * xd) →
            w * xd * (yp * e + m * yd) ≡ w * xd *
            (yn * e + q * yd) → w * (p + m) * (xd * yd) ≤ (w * (n + q) + c * e) * (xd * yd)
            → w * (xp * yd + yn * xd) * e ≤ (w * (xn * yd + yp * xd) + c * (xd * yd)) * e
        last w c xp xn xd yp yn yd p n q m e h k l =
            simp expand (omega (arith, simp expand at h, simp expand at k, simp expand at l))

    rotation : (u a b c d e f g : ℕ) → u * (a * b + c * d) ≤ u * (e * b + f * d) + g * (d * b) →
        u * (c * d + a * b) ≤ u * (f * d + e * b) + g * (b * d)
    rotation u a b c d e f g h = simp expand (omega (arith, simp expand at h))
