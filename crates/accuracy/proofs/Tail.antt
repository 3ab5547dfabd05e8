-- The terms of the series decrease, so the sums of any greater length are near. Assumes nothing.
use mathlib.Core.Path.{◌≡◌, refl, ap}
use Prim.Native.Nat.{ℕ, zero, suc, ◌+◌, ◌*◌, ◌^◌, ◌≤◌, ◌<◌}
use native.Mathlib.Nat.{le_trans, mul-add, mul_assoc, mul_comm, mul-one, add-zero, add-suc, mul-pos, mul-le-mul}
use native.Mathlib.Nat.{mul-le-mul_left, mul-le-mul_right, le_of_mul-le-mul_right, pow-suc, pow-zero}
use native.Mathlib.Omega.{arith}
use lib.Pow.{pow_pos}
use Rattle.ieee.specs.Table.{factorial}
use Rattle.rounding.specs.Value.{Value, opposite, plus, minus, times, value_of, AtMost, Near}
use Rattle.accuracy.specs.Series.{Five, exact_first, exact_next, exact_level, exact_recip, exact_total}
use Rattle.rounding.proofs.Differences.{expand, zeros}
use Rattle.rounding.proofs.Fractions.{near_wider, near-plus}
use Rattle.accuracy.proofs.Powers.{State, start, step, state, h_is}
use Rattle.accuracy.proofs.Series.{factorial_pos}
use Rattle.rounding.proofs.Squares.{Size}
use Rattle.rounding.proofs.Denominators.{Is, is_shift, is-opposite, is-scaled, is-divided, is-plus, is-times, is-most}

-- ---- a level over powers of one denominator
pub record LevelIs (l : Five Value) (a : State) (d e : ℕ) : Type 0 where
  pub p : Is l.p a.p a.p' e
  pub xi : Is l.xi (d * a.x) (d * a.x') e
  pub zeta : Is l.zeta (d * (d * a.z)) (d * (d * a.z')) e

first-is : (d : ℕ) → LevelIs exact_first start d 1
unfolding exact_first value_of
first-is d =
    record { p = record { equal = refl }; xi = record { equal = simp zeros }; zeta = record { equal = simp zeros } }

p_shift : (s s' p p' : ℕ) → p * s + p' * s' + (s * p' + s' * p) ≡ p * s' + p' * s + (s * p + s' * p')
p_shift s s' p p' = simp expand (omega arith)

zeta_shift : (s s' d z z' x x' : ℕ)
    → s * (d * (d * z)) + s' * (d * (d * z')) + d * (d * x) + d * (d * (s * z' + s' * z + x'))
    ≡ s * (d * (d * z')) + s' * (d * (d * z)) + d * (d * x') + d * (d * (s * z + s' * z' + x))
zeta_shift s s' d z z' x x' = simp expand (omega arith)

xi_shift : (s s' y d h h' x x' z z' p p' : ℕ) → p + h' + y * z' ≡ p' + h + y * z
    → s * (d * x) + s' * (d * x') + d * p + y * (d * z') + d * (s * x' + s' * x + h')
    ≡ s * (d * x') + s' * (d * x) + d * p' + y * (d * z) + d * (s * x + s' * x' + h)
xi_shift s s' y d h h' x x' z z' p p' i =
    let k = ap (λ (c : ℕ). d * c) i in simp expand (omega (arith, simp expand at k))

z_shift : (y d z z' : ℕ) → y * (d * (d * z)) + 0 * (d * (d * z')) + d * (y * (d * z'))
    ≡ y * (d * (d * z')) + 0 * (d * (d * z)) + d * (y * (d * z))
z_shift y d z z' = simp (zeros, expand) (omega arith)

next-is : (s s' y d e : ℕ) (sigma z : Value) (l : Five Value) (a : State) → 0 < d → Is sigma s s' d → Is z y 0 (d * d) →
    a.p + a.h' + y * a.z' ≡ a.p' + a.h + y * a.z → LevelIs l a d e
    → LevelIs (exact_next sigma z l) (step s s' y a) d (d * e)
unfolding exact_next
next-is s s' y d e sigma z l a pos hs hz i h =
    let sx = is-times sigma l.xi s s' (d * a.x) (d * a.x') d e hs h.xi in
    let dp = is-scaled l.p a.p a.p' e d h.p in
    let zz = is-times z l.zeta y 0 (d * (d * a.z)) (d * (d * a.z')) (d * d) e hz h.zeta in
    let zc : Is (times z l.zeta) (y * (d * a.z)) (y * (d * a.z')) (d * e) =
    is-divided (times z l.zeta) (y * (d * a.z)) (y * (d * a.z')) (d * e) d pos
    (rw mul_assoc at (is_shift (times z l.zeta) (y * (d * (d * a.z)) + 0 * (d * (d * a.z')))
    (y * (d * (d * a.z')) + 0 * (d * (d * a.z)))
    (d * (y * (d * a.z))) (d * (y * (d * a.z'))) (d * d * e) (z_shift y d a.z a.z') zz)) in
    let sz = is-times sigma l.zeta s s' (d * (d * a.z)) (d * (d * a.z')) d e hs h.zeta in
    let dx = is-scaled l.xi (d * a.x) (d * a.x') e d h.xi in
    record {
      p = rw (mul_comm e d) at (is_shift (times l.p sigma) _ _ (s * a.p + s' * a.p') (s * a.p' + s' * a.p) (e * d)
          (p_shift s s' a.p a.p') (is-times l.p sigma a.p a.p' s s' e d h.p hs));
      xi =
          is_shift (minus (plus (times sigma l.xi) l.p) (times z l.zeta)) _ _ (d * (s * a.x + s' * a.x' + a.h))
          (d * (s * a.x' + s' * a.x + a.h')) (d * e)
          (xi_shift s s' y d a.h a.h' a.x a.x' a.z a.z' a.p a.p' i)
          (is-plus (plus (times sigma l.xi) l.p) (opposite (times z l.zeta)) _ _ _ _ (d * e)
          (is-plus (times sigma l.xi) l.p _ _ _ _ (d * e) sx dp) (is-opposite (times z l.zeta) _ _ (d * e) zc));
      zeta =
          is_shift (plus (times sigma l.zeta) l.xi) _ _ (d * (d * (s * a.z + s' * a.z' + a.x)))
          (d * (d * (s * a.z' + s' * a.z + a.x'))) (d * e)
          (zeta_shift s s' d a.z a.z' a.x a.x') (is-plus (times sigma l.zeta) l.xi _ _ _ _ (d * e) sz dx);
    }

module _ (s s' y t r : ℕ) (e : s * s + s' * s' + y ≡ t + 2 * (s * s')) (b : t ≤ r * r) (d : ℕ) (sigma z : Value)
    (pos : 0 < d) (hs : Is sigma s s' d) (hz : Is z y 0 (d * d)) where
  pub level-is : (j : ℕ) → LevelIs (exact_level sigma z j) (state s s' y j) d (d ^ j)
  unfolding exact_level state
  level-is zero = rw pow-zero (first-is d)
  level-is (suc j) =
      rw (pow-suc, mul_comm (d ^ j) d) (next-is s s' y d (d ^ j) sigma z (exact_level sigma z j)
      (state s s' y j) pos hs hz (h_is s s' y t r e b j) (level-is j))

-- ---- the size of a term
recip_is : (n : ℕ) → Is (exact_recip n) 1 0 (factorial n)
recip_is n = record { equal = simp zeros }

side_term : (w c x x' m e : ℕ) → x ≤ x' + m → w * m ≤ c * e → w * (x * 1 + x' * 0) ≤ w * (x * 0 + x' * 1) + c * e
side_term w c x x' m e h k = let a = mul-le-mul_left w h in simp (zeros, mul-one) (omega (arith, simp mul-add at a))

side_term' : (w c x x' m e : ℕ) → x' ≤ x + m → w * m ≤ c * e → w * (x * 0 + x' * 1) ≤ w * (x * 1 + x' * 0) + c * e
side_term' w c x x' m e h k = let a = mul-le-mul_left w h in simp (zeros, mul-one) (omega (arith, simp mul-add at a))

pub term_most : (w c k x x' m e n : ℕ) (v : Value) → 0 < k → 0 < e → Is v (k * x) (k * x') (k * e) → Size x x' m →
    w * m ≤ c * (e * factorial n) → AtMost w (times v (exact_recip n)) c
term_most w c k x x' m e n v kp ep h g l =
    is-most w c (times v (exact_recip n)) (x * 1 + x' * 0) (x * 0 + x' * 1) (e * factorial n)
    (mul-pos ep (factorial_pos n))
    (is-times v (exact_recip n) x x' 1 0 e (factorial n) (is-divided v x x' e k kp h) (recip_is n))
    (side_term w c x x' m (e * factorial n) g.above l) (side_term' w c x x' m (e * factorial n) g.below l)

-- ---- r ^ m / (d ^ m m!) halves from m = k on, where 2 r ≤ k d
decay_step : (w c r d k m a g f : ℕ) → 2 * r ≤ k * d → k ≤ suc m → w * a ≤ c * (g * f) →
    w * 2 * (a * r) ≤ c * (g * d * (suc m * f))
decay_step w c r d k m a g f h l i =
    let p : w * a * (2 * r) ≤ c * (g * f) * (k * d) = mul-le-mul i h in
    let q : c * (g * f) * (k * d) ≤ c * (g * f) * (suc m * d) = mul-le-mul_left (c * (g * f)) (mul-le-mul_right d l) in
    let u : w * a * (2 * r) ≤ c * (g * f) * (suc m * d) = le_trans p q in
    simp expand (omega (arith, simp expand at u))

pub decay : (w c r d k : ℕ) → 2 * r ≤ k * d → w * r ^ k ≤ c * (d ^ k * factorial k) → (i : ℕ) →
    w * 2 ^ i * r ^ (k + i) ≤ c * (d ^ (k + i) * factorial (k + i))
unfolding factorial
decay w c r d k h b zero = rw (add-zero, pow-zero, mul-one) b
decay w c r d k h b (suc i) =
    rw (add-suc k i, pow-suc 2 i, pow-suc r (k + i), pow-suc d (k + i), ← mul_assoc w (2 ^ i) 2)
    (decay_step (w * 2 ^ i) c r d k (k + i) (r ^ (k + i)) (d ^ (k + i)) (factorial (k + i)) h (omega arith)
    (decay w c r d k h b i))

pub weigh : (w c q q' a p g f : ℕ) → w * p ≤ c * q * (g * f) → q ≤ q' → w * (a * p) ≤ c * (g * (a * q' * f))
weigh w c q q' a p g f h l =
    let x = mul-le-mul_left a h in
    let y = mul-le-mul_right (a * c * (g * f)) l in
    simp expand (omega (arith, simp expand at x, simp expand at y))

-- ---- sums with one more term
over_more : (w ap an ad bp bn bd tp tn td e c : ℕ) → w * (ap * bd + bn * ad) ≤ w * (an * bd + bp * ad) + e * (ad * bd) →
    w * tp ≤ w * tn + c * td
    → w * ((ap * td + tp * ad) * bd + bn * (ad * td)) ≤ w * ((an * td + tn * ad) * bd + bp * (ad * td)) + (e + c)
    * (ad * td * bd)
over_more w ap an ad bp bn bd tp tn td e c h k =
    let x = mul-le-mul_right td h in
    let y = mul-le-mul_right (ad * bd) k in
    simp expand (omega (arith, simp expand at x, simp expand at y))

over_more' : (w ap an ad bp bn bd tp tn td e c : ℕ) → w * (bp * ad + an * bd)
    ≤ w * (bn * ad + ap * bd) + e * (bd * ad) → w * tn ≤ w * tp + c * td
    → w * (bp * (ad * td) + (an * td + tn * ad) * bd) ≤ w * (bn * (ad * td) + (ap * td + tp * ad) * bd) + (e + c)
    * (bd * (ad * td))
over_more' w ap an ad bp bn bd tp tn td e c h k =
    let x = mul-le-mul_right td h in
    let y = mul-le-mul_right (ad * bd) k in
    simp expand (omega (arith, simp expand at x, simp expand at y))

near_more : (w : ℕ) (a b t : Value) (e c : ℕ) → Near w a b e → AtMost w t c → Near w (plus a t) b (e + c)
near_more w a b t e c h k =
    record {
      above = over_more w a.p a.n a.d b.p b.n b.d t.p t.n t.d e c h.above k.above;
      below = over_more' w a.p a.n a.d b.p b.n b.d t.p t.n t.d e c h.below k.below;
    }

scale-le : (w k a b c g : ℕ) → w * a ≤ w * b + c * g → w * k * a ≤ w * k * b + k * c * g
scale-le w k a b c g h = let x = mul-le-mul_left k h in simp expand (omega (arith, simp expand at x))

unscale_le : (w k a b c g : ℕ) → 0 < k → w * k * a ≤ w * k * b + k * c * g → w * a ≤ w * b + c * g
unscale_le w k a b c g z h = le_of_mul-le-mul_right {k = k} (simp expand (omega (arith, simp expand at h))) z

pub near-scale : (w k : ℕ) (x y : Value) (e : ℕ) → Near w x y e → Near (w * k) x y (k * e)
near-scale w k x y e h = record { above = scale-le w k _ _ e _ h.above; below = scale-le w k _ _ e _ h.below }

pub near_unscale : (w k : ℕ) (x y : Value) (e : ℕ) → 0 < k → Near (w * k) x y (k * e) → Near w x y e
near_unscale w k x y e z h =
    record { above = unscale_le w k _ _ e _ z h.above; below = unscale_le w k _ _ e _ z h.below }

-- ---- the tail: where each term from k on is at most c / w, and halves, the sums beyond k terms stay within 2 c / w
unfoldable grown : ℕ → ℕ → ℕ
grown c zero = 0
grown c (suc n) = 2 * (grown c n + c)

grown_is : (c n : ℕ) → grown c n + 2 * c ≡ 2 ^ n * (2 * c)
unfolding grown
grown_is c zero = rw pow-zero (omega arith)
grown_is c (suc n) = let i = grown_is c n in rw pow-suc (simp expand (omega (arith, simp expand at i)))

module _ (t : ℕ → Value) (w c k : ℕ) (h : (i : ℕ) → AtMost (w * 2 ^ i) (t (k + i)) c) where
  tail_grown : (n : ℕ) → Near (w * 2 ^ n) (exact_total t (k + n)) (exact_total t k) (grown c n)
  unfolding exact_total grown
  tail_grown zero = rw add-zero (record { above = omega arith; below = omega arith })
  tail_grown (suc n) =
      rw (add-suc, pow-suc, ← mul_assoc w (2 ^ n) 2) (near-scale (w * 2 ^ n) 2
      (plus (exact_total t (k + n)) (t (k + n))) (exact_total t k)
      (grown c n + c) (near_more (w * 2 ^ n) (exact_total t (k + n)) (exact_total t k) (t (k + n)) (grown c n) c
      (tail_grown n) (h n)))

  pub tail-near : (n : ℕ) → Near w (exact_total t (k + n)) (exact_total t k) (2 * c)
  tail-near n =
      let g = grown_is c n in
      near_unscale w (2 ^ n) (exact_total t (k + n)) (exact_total t k) (2 * c) (pow_pos n)
      (near_wider (w * 2 ^ n) (exact_total t (k + n)) (exact_total t k) (grown c n) (2 ^ n * (2 * c)) (omega arith)
      (tail_grown n))

-- ---- two sums: where they are the same up to o terms, and each later term of one near that of the other, by halves
module _ (t v : ℕ → Value) (w c o : ℕ) (z : Near w (exact_total t o) (exact_total v o) 0)
    (h : (i : ℕ) → Near (w * 2 ^ i) (t (o + i)) (v (o + i)) c) where
  both_grown : (n : ℕ) → Near (w * 2 ^ n) (exact_total t (o + n)) (exact_total v (o + n)) (grown c n)
  unfolding exact_total grown
  both_grown zero = rw (add-zero, pow-zero, mul-one) z
  both_grown (suc n) =
      let T = exact_total t (o + n) in
      let S = exact_total v (o + n) in
      rw (add-suc, pow-suc, ← mul_assoc w (2 ^ n) 2) (near-scale (w * 2 ^ n) 2 (plus T (t (o + n)))
      (plus S (v (o + n))) (grown c n + c)
      (near-plus (w * 2 ^ n) T S (t (o + n)) (v (o + n)) (grown c n) c (both_grown n) (h n)))

  pub totals-near : (n : ℕ) → Near w (exact_total t (o + n)) (exact_total v (o + n)) (2 * c)
  totals-near n =
      let g = grown_is c n in
      let T = exact_total t (o + n) in
      let S = exact_total v (o + n) in
      near_unscale w (2 ^ n) T S (2 * c) (pow_pos n) (near_wider (w * 2 ^ n) T S (grown c n) (2 ^ n * (2 * c))
      (omega arith) (both_grown n))
