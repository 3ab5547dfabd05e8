-- The truncation of Horner's sums. Assumes nothing.
use mathlib.Core.Path.{◌≡◌, sym, ap, ◌∙◌, subst, subst₂}
use Prim.Native.Nat.{ℕ, zero, suc, ◌+◌, ◌*◌, ◌^◌, ◌≤◌, ◌<◌}
use native.Mathlib.Nat.{mul_assoc, mul_comm, mul-one, one-mul, suc-mul, zero-add, add-suc, suc-add, mul-pos}
use native.Mathlib.Nat.{mul-le-mul_left, mul-le-mul_right, le_of_mul-le-mul_right, pow-suc, pow-zero}
use native.Mathlib.Omega.{arith}
use Rattle.ieee.specs.Numbers.{f0}
use Rattle.ieee.specs.Table.{factorial}
use Rattle.rounding.specs.Value.{Value, plus, times, value_of, AtMost, Near}
use Rattle.accuracy.specs.Series.{exact_recip, exact_horner}
use Rattle.accuracy.proofs.Series.{factorial_pos}
use Rattle.rounding.proofs.Differences.{expand, zeros, product}
use Rattle.rounding.proofs.Fractions.{near-plus, most-plus}

-- ---- a factor in front
factor_whole : (w u r e sp sn sd xp xn xd yp yn yd : ℕ)
    → w * sp * (u * (xp * yd + yn * xd)) + w * sn * (u * (xn * yd + yp * xd))
    ≤ w * sp * (u * (xn * yd + yp * xd)) + w * sn * (u * (xp * yd + yn * xd)) + r * sd * (e * (xd * yd))
    → w * u * ((sp * xp + sn * xn) * (sd * yd) + (sp * yn + sn * yp) * (sd * xd))
    ≤ w * u * ((sp * xn + sn * xp) * (sd * yd) + (sp * yp + sn * yn) * (sd * xd)) + r * e * (sd * xd * (sd * yd))
factor_whole w u r e sp sn sd xp xn xd yp yn yd h =
    let x = mul-le-mul_right sd h in
    simp expand (omega (arith, simp expand at x))

over_factor : (w u r e sp sn sd xp xn xd yp yn yd : ℕ) → w * sp ≤ w * sn + r * sd → w * sn ≤ w * sp + r * sd →
    u * (xp * yd + yn * xd) ≤ u *
    (xn * yd + yp * xd) + e * (xd * yd) → u * (xn * yd + yp * xd) ≤ u * (xp * yd + yn * xd) + e * (xd * yd)
    → w * u * ((sp * xp + sn * xn) * (sd * yd) + (sp * yn + sn * yp) * (sd * xd))
    ≤ w * u * ((sp * xn + sn * xp) * (sd * yd) + (sp * yp + sn * yn) * (sd * xd)) + r * e * (sd * xd * (sd * yd))
over_factor w u r e sp sn sd xp xn xd yp yn yd a b h k =
    factor_whole w u r e sp sn sd xp xn xd yp yn yd
    (product (w * sp) (w * sn) (u * (xp * yd + yn * xd)) (u * (xn * yd + yp * xd)) (r * sd) (e * (xd * yd)) a b h k)

turned : (u a b c d e f g : ℕ) → u * (a * b + c * d) ≤ u * (e * b + f * d) + g * (d * b) →
    u * (c * d + a * b) ≤ u * (f * d + e * b) + g * (b * d)
turned u a b c d e f g h = simp expand (omega (arith, simp expand at h))

pub near_factor : (w u : ℕ) (s x y : Value) (r e : ℕ) → AtMost w s r → Near u x y e →
    Near (w * u) (times s x) (times s y) (r * e)
near_factor w u s x y r e h k =
    let b = k.below in
    record {
      above =
          over_factor w u r e s.p s.n s.d x.p x.n x.d y.p y.n y.d h.above h.below k.above
          (turned u y.p x.d x.n y.d y.n x.p e b);
      below =
          over_factor w u r e s.p s.n s.d y.p y.n y.d x.p x.n x.d h.above h.below b (let c = k.above in
          turned u x.p y.d y.n x.d x.n y.p e c);
    }

-- ---- from one unit to another
convert_le : (w u a b c e g : ℕ) → 0 < u → u * a ≤ u * b + e * g → w * e ≤ c * u → w * a ≤ w * b + c * g
convert_le w u a b c e g z h k =
    let x = mul-le-mul_left w h in
    let y = mul-le-mul_right g k in
    le_of_mul-le-mul_right {k = u} (simp expand (omega (arith, simp expand at x, simp expand at y))) z

pub near_convert : (w u : ℕ) (x y : Value) (c e : ℕ) → 0 < u → w * e ≤ c * u → Near u x y e → Near w x y c
near_convert w u x y c e z h k =
    record { above = convert_le w u _ _ c e _ z k.above h; below = convert_le w u _ _ c e _ z k.below h }

pub most_convert : (w u : ℕ) (x : Value) (c e : ℕ) → 0 < u → w * e ≤ c * u → AtMost u x e → AtMost w x c
most_convert w u x c e z h k =
    record { above = convert_le w u _ _ c e _ z k.above h; below = convert_le w u _ _ c e _ z k.below h }

-- ---- a product's size, in the product of the units
times-whole : (w u a b p n d q m c : ℕ) → w * p * (u * q) + w * n * (u * m)
    ≤ w * p * (u * m) + w * n * (u * q) + a * d * (b * c) → w * u * (p * q + n * m)
    ≤ w * u * (p * m + n * q) + a * b * (d * c)
times-whole w u a b p n d q m c h = simp expand (omega (arith, simp expand at h))

pub most_factor : (w u : ℕ) (x y : Value) (a b : ℕ) → AtMost w x a → AtMost u y b → AtMost (w * u) (times x y) (a * b)
most_factor w u x y a b h k =
    record {
      above =
          times-whole w u a b x.p x.n x.d y.p y.n y.d (product (w * x.p) (w * x.n) (u * y.p) (u * y.n) (a * x.d)
          (b * y.d) h.above h.below k.above k.below);
      below =
          times-whole w u a b x.p x.n x.d y.n y.p y.d (product (w * x.p) (w * x.n) (u * y.n) (u * y.p) (a * x.d)
          (b * y.d) h.above h.below k.below k.above);
    }

pub recip_most : (l : ℕ) → AtMost (factorial l) (exact_recip l) 1
recip_most l = record { above = omega arith; below = omega arith }

zero-most : (u b : ℕ) → AtMost u (value_of f0) b
unfolding value_of
zero-most u b = record { above = omega arith; below = omega arith }

room : (f r w l : ℕ) → 2 * r ≤ suc l * w → f * (r * 2) ≤ 1 * (w * (suc l * f))
room f r w l h = let x = mul-le-mul_left f h in simp (one-mul, expand) (omega (arith, simp expand at x))

more : (r w l : ℕ) → 2 * r ≤ suc l * w → 2 * r ≤ suc (suc l) * w
more r w l h = rw suc-mul (omega arith)

-- a whole sum is at most 2 / l!
horner_most : (w r : ℕ) (s : Value) → 0 < w → AtMost w s r → (n l : ℕ) → 2 * r ≤ suc l * w →
    AtMost (factorial l) (exact_horner s l n) 2
unfolding exact_horner factorial
horner_most w r s z h zero l k = zero-most (factorial l) 2
horner_most w r s z h (suc n) l k =
    most-plus (factorial l) (exact_recip l) (times s (exact_horner s (suc l) n)) 1 1 (recip_most l)
    (most_convert (factorial l) (w * factorial (suc l)) (times s (exact_horner s (suc l) n)) 1 (r * 2)
    (mul-pos z (factorial_pos (suc l))) (room (factorial l) r w l k)
    (most_factor w (factorial (suc l)) s (exact_horner s (suc l) n) r 2 h
    (horner_most w r s z h n (suc l) (more r w l k))))

-- ---- the tail of Horner's sums
near_none : (u : ℕ) (x : Value) (e : ℕ) → AtMost u x e → Near u x (value_of f0) e
unfolding value_of
near_none u x e h =
    let a = h.above in let b = h.below in record {
      above = simp (zeros, mul-one) a;
      below =
          simp (zeros, mul-one, one-mul) b;
    }

near_same : (u : ℕ) (x : Value) → Near u x x 0
near_same u x = record { above = omega arith; below = omega arith }

pub near_front : (u : ℕ) (a x y : Value) (e : ℕ) → Near u x y e → Near u (plus a x) (plus a y) e
near_front u a x y e h = rw zero-add at (near-plus u a a x y 0 e (near_same u a) h)

late : (r w k l : ℕ) → 2 * r ≤ suc (suc k + l) * w → 2 * r ≤ suc (k + suc l) * w
late r w k l h = subst (λ (i : ℕ). 2 * r ≤ suc i * w) (suc-add k l ∙ sym (add-suc k l)) h

unit-step : (w k l : ℕ) → w * (w ^ k * factorial (k + suc l)) ≡ w ^ suc k * factorial (suc k + l)
unit-step w k l = sym (mul_assoc w (w ^ k) (factorial (k + suc l))) ∙ ap (λ (i : ℕ). i * factorial (k + suc l))
    (mul_comm w (w ^ k) ∙ sym (pow-suc w k)) ∙ ap (λ (i : ℕ). w ^ suc k * factorial i) (add-suc k l ∙ sym (suc-add k l))

error-step : (r k : ℕ) → r * (r ^ k * 2) ≡ r ^ suc k * 2
error-step r k = sym (mul_assoc r (r ^ k) 2) ∙ ap (λ (i : ℕ). i * 2) (mul_comm r (r ^ k) ∙ sym (pow-suc r k))

pub horner_tail : (w r : ℕ) (s : Value) → 0 < w → AtMost w s r → (n k l : ℕ) → 2 * r ≤ suc (k + l) * w →
    Near (w ^ k * factorial (k + l)) (exact_horner s l (k + n)) (exact_horner s l k) (r ^ k * 2)
unfolding exact_horner
horner_tail w r s z h n zero l k =
    rw (pow-zero, pow-zero, zero-add, zero-add, one-mul, one-mul)
    (near_none (factorial l) (exact_horner s l n) 2 (horner_most w r s z h n l (rw zero-add at k)))
horner_tail w r s z h n (suc k) l g =
    let x = exact_horner s (suc l) (k + n) in
    let y = exact_horner s (suc l) k in
    let u = w ^ k * factorial (k + suc l) in
    let i = horner_tail w r s z h n k (suc l) (late r w k l g) in
    rw (suc-add k n) (subst₂ (λ (a b : ℕ). Near a (plus (exact_recip l) (times s x))
    (plus (exact_recip l) (times s y)) b) (unit-step w k l) (error-step r k)
    (near_front (w * u) (exact_recip l) (times s x) (times s y) (r * (r ^ k * 2))
    (near_factor w u s x y r (r ^ k * 2) h i)))
