-- The truncation of the series of the derivatives, dv₁ and dv₂. Assumes nothing.
use mathlib.Core.Path.{◌≡◌, ap, subst, subst₃}
use Prim.Native.Nat.{ℕ, zero, suc, ◌+◌, ◌*◌, ◌^◌, ◌≤◌, ◌<◌}
use native.Mathlib.Nat.{one-le-pow, mul_assoc, mul_comm, suc-add, mul-pos, pow-suc, pow-zero}
use native.Mathlib.Numerals.{add-one}
use native.Mathlib.Omega.{arith}
use Rattle.ieee.specs.Table.{factorial}
use Rattle.rounding.specs.Value.{Value, opposite, plus, minus, times, value_of, AtMost, Near}
use Rattle.accuracy.specs.Series.{Five, exact_first, exact_next, exact_level, exact_recip, dxi_part, dzeta_part}
use Rattle.accuracy.specs.Series.{exact_term, exact_total}
use Rattle.rounding.proofs.Differences.{expand, zeros}
use Rattle.accuracy.proofs.Powers.{State, state}
use Rattle.accuracy.proofs.Slopes.{Slope, slope_step, slope, triples, fours, six_triples, four_fours, a-size, b-size}
use Rattle.rounding.proofs.Denominators.{Is, is_shift, is-opposite, is-scaled, is-divided, is-plus, is-times}
use Rattle.accuracy.proofs.Tail.{LevelIs, level-is, term_most, weigh, tail-near}
use Rattle.accuracy.proofs.Truncation.{Rest, shrinks, nonnegative-sum, no_cross, delta-whole, no_minus, sigma-whole}
use Rattle.accuracy.proofs.Truncation.{z-whole}

pub record SlopeIs (l : Five Value) (a : Slope) (d e : ℕ) : Type 0 where
  pub dxi : Is l.dxi (d * (d * (d * a.a))) (d * (d * (d * a.a'))) e
  pub dzeta : Is l.dzeta (d * (d * (d * (d * a.b)))) (d * (d * (d * (d * a.b')))) e

dxi_shift : (s s' y d a a' z z' b b' : ℕ)
    → s * (d * (d * (d * a))) + s' * (d * (d * (d * a'))) + d * (d * (d * z')) + y * (d * (d * (d * b'))) + d
    * (d * (d * (s * a' + s' * a + z + y * b)))
    ≡ s * (d * (d * (d * a'))) + s' * (d * (d * (d * a))) + d * (d * (d * z)) + y * (d * (d * (d * b))) + d
    * (d * (d * (s * a + s' * a' + z' + y * b')))
dxi_shift s s' y d a a' z z' b b' = simp expand (omega arith)

dzeta_shift : (s s' d a a' b b' : ℕ)
    → s * (d * (d * (d * (d * b)))) + s' * (d * (d * (d * (d * b')))) + d * (d * (d * (d * a))) + d
    * (d * (d * (d * (s * b' + s' * b + a'))))
    ≡ s * (d * (d * (d * (d * b')))) + s' * (d * (d * (d * (d * b)))) + d * (d * (d * (d * a'))) + d
    * (d * (d * (d * (s * b + s' * b' + a))))
dzeta_shift s s' d a a' b b' = simp expand (omega arith)

b_shift : (y d b b' : ℕ) → y * (d * (d * (d * (d * b)))) + 0 * (d * (d * (d * (d * b')))) + d
    * (y * (d * (d * (d * b')))) ≡ y *
    (d * (d * (d * (d * b')))) + 0 * (d * (d * (d * (d * b)))) + d * (y * (d * (d * (d * b))))
b_shift y d b b' = simp (zeros, expand) (omega arith)

slope_next : (s s' y d e : ℕ) (sigma z : Value) (l : Five Value) (c : State) (a : Slope) → 0 < d → Is sigma s s' d →
    Is z y 0 (d * d) → LevelIs l c d e → SlopeIs l a d e
    → SlopeIs (exact_next sigma z l) (slope_step s s' y c a) d (d * e)
unfolding exact_next
slope_next s s' y d e sigma z l c a pos hs hz h k =
    let sa = is-times sigma l.dxi s s' (d * (d * (d * a.a))) (d * (d * (d * a.a'))) d e hs k.dxi in
    let dz = is-scaled l.zeta (d * (d * c.z)) (d * (d * c.z')) e d h.zeta in
    let zb = is-times z l.dzeta y 0 (d * (d * (d * (d * a.b)))) (d * (d * (d * (d * a.b')))) (d * d) e hz k.dzeta in
    let zc : Is (times z l.dzeta) (y * (d * (d * (d * a.b)))) (y * (d * (d * (d * a.b')))) (d * e) =
    is-divided (times z l.dzeta) (y * (d * (d * (d * a.b)))) (y * (d * (d * (d * a.b')))) (d * e) d pos
    (subst (λ (i : ℕ). Is (times z l.dzeta) (d * (y * (d * (d * (d * a.b))))) (d * (y * (d * (d * (d * a.b'))))) i)
    (mul_assoc d d e)
    (is_shift (times z l.dzeta) _ _ (d * (y * (d * (d * (d * a.b))))) (d * (y * (d * (d * (d * a.b'))))) (d * d * e)
    (b_shift y d a.b a.b') zb)) in
    let sb = is-times sigma l.dzeta s s' (d * (d * (d * (d * a.b)))) (d * (d * (d * (d * a.b')))) d e hs k.dzeta in
    let da = is-scaled l.dxi (d * (d * (d * a.a))) (d * (d * (d * a.a'))) e d k.dxi in
    record {
      dxi = is_shift (minus (minus (times sigma l.dxi) l.zeta) (times z l.dzeta)) _ _
          (d * (d * (d * (s * a.a + s' * a.a' + c.z' + y * a.b'))))
          (d * (d * (d * (s * a.a' + s' * a.a + c.z + y * a.b)))) (d * e)
          (dxi_shift s s' y d a.a a.a' c.z c.z' a.b a.b')
          (is-plus (minus (times sigma l.dxi) l.zeta) (opposite (times z l.dzeta)) _ _ _ _ (d * e)
          (is-plus (times sigma l.dxi) (opposite l.zeta) _ _ _ _ (d * e) sa (is-opposite l.zeta _ _ (d * e) dz))
          (is-opposite (times z l.dzeta) _ _ (d * e) zc));
      dzeta =
          is_shift (plus (times sigma l.dzeta) l.dxi) _ _ (d * (d * (d * (d * (s * a.b + s' * a.b' + a.a)))))
          (d * (d * (d * (d * (s * a.b' + s' * a.b + a.a'))))) (d * e)
          (dzeta_shift s s' d a.a a.a' a.b a.b') (is-plus (times sigma l.dzeta) l.dxi _ _ _ _ (d * e) sb da);
    }

slope_first : (d : ℕ) (s s' y : ℕ) → SlopeIs exact_first (slope s s' y 0) d 1
unfolding exact_first value_of slope
slope_first d s s' y = record { dxi = record { equal = simp zeros }; dzeta = record { equal = simp zeros } }

module _ (s s' y t r : ℕ) (e : s * s + s' * s' + y ≡ t + 2 * (s * s')) (b : t ≤ r * r) (d : ℕ) (sigma z : Value)
    (pos : 0 < d) (hs : Is sigma s s' d) (hz : Is z y 0 (d * d)) where
  slope_is : (j : ℕ) → SlopeIs (exact_level sigma z j) (slope s s' y j) d (d ^ j)
  unfolding exact_level slope
  slope_is zero = rw pow-zero (slope_first d s s' y)
  slope_is (suc j) =
      rw (pow-suc, mul_comm (d ^ j) d) (slope_next s s' y d (d ^ j) sigma z (exact_level sigma z j) (state s s' y j)
      (slope s s' y j) pos hs hz (level-is s s' y t r e b d sigma z pos hs hz j) (slope_is j))

-- ---- factorials
regroup_dxi : (a b c e p f : ℕ) → 6 * p ≡ a * (b * c) → e * (c * (b * (a * f))) ≡ p * (6 * e) * f
regroup_dxi a b c e p f h = let k = ap (λ (i : ℕ). i * (e * f)) h in simp expand (omega (arith, simp expand at k))

pub fact_dxi : (m : ℕ) → factorial (suc (suc (suc m)) + 1) ≡ triples m * (6 * suc (suc (suc (suc m)))) * factorial m
unfolding factorial
fact_dxi m =
    rw add-one (regroup_dxi (suc m) (suc (suc m)) (suc (suc (suc m))) (suc (suc (suc (suc m)))) (triples m)
    (factorial m) (six_triples m))

regroup_dzeta : (a b c e g p f : ℕ) → 24 * p ≡ a * (b * (c * e)) → g * (e * (c * (b * (a * f)))) ≡ p * (24 * g) * f
regroup_dzeta a b c e g p f h = let k = ap (λ (i : ℕ). i * (g * f)) h in simp expand (omega (arith, simp expand at k))

pub fact_dzeta : (m : ℕ) → factorial (suc (suc (suc (suc m))) + 1)
    ≡ fours m * (24 * suc (suc (suc (suc (suc m))))) * factorial m
unfolding factorial
fact_dzeta m =
    rw add-one (regroup_dzeta (suc m) (suc (suc m)) (suc (suc (suc m))) (suc (suc (suc (suc m))))
    (suc (suc (suc (suc (suc m))))) (fours m) (factorial m) (four_fours m))

three_powers : (d m : ℕ) → d ^ suc (suc (suc m)) ≡ d * (d * d) * d ^ m
three_powers d m = rw (pow-suc d (suc (suc m)), pow-suc d (suc m), pow-suc d m) (simp expand)

four_powers : (d m : ℕ) → d ^ suc (suc (suc (suc m))) ≡ d * (d * (d * d)) * d ^ m
four_powers d m =
    rw (pow-suc d (suc (suc (suc m))), pow-suc d (suc (suc m)), pow-suc d (suc m), pow-suc d m) (simp expand)

three-times : (d a : ℕ) → d * (d * (d * a)) ≡ d * (d * d) * a
three-times d a = simp expand

four-times : (d a : ℕ) → d * (d * (d * (d * a))) ≡ d * (d * (d * d)) * a
four-times d a = simp expand

module _ (w r : ℕ) (sigma z : Value) (wp : 0 < w) (sd : 0 < sigma.d) (zd : 0 < z.d) (ss : sigma.p * sigma.n ≡ 0)
    (zn : z.n ≡ 0) (delta : AtMost (w * w) (plus (times sigma sigma) z) (r * r)) where
  is_slope : (j : ℕ) → SlopeIs (exact_level sigma z j) (slope (sigma.p * (z.d * w)) (sigma.n * (z.d * w))
      (z.p * (sigma.d * (sigma.d * (z.d * (w * w))))) j) (sigma.d * z.d * w) ((sigma.d * z.d * w) ^ j)
  is_slope j =
      let s = sigma.p * (z.d * w) in
      let s' = sigma.n * (z.d * w) in
      let y = z.p * (sigma.d * (sigma.d * (z.d * (w * w)))) in
      slope_is s s' y (s * s + s' * s' + y) (r * (sigma.d * z.d))
      (nonnegative-sum (s * s + s' * s' + y) (2 * (s * s')) (no_cross sigma.p sigma.n (z.d * w) ss))
      (delta-whole w r sigma.p sigma.n sigma.d z.p z.d _ (no_minus sigma.p sigma.n sigma.d z.n z.d w ss zn) delta.above)
      (sigma.d * z.d * w) sigma z (mul-pos (mul-pos sd zd) wp)
      (record { equal = sigma-whole sigma.p sigma.n sigma.d z.d w })
      (record { equal = z-whole z.p z.n sigma.d z.d w zn }) j

  dxi-most : (u c m n : ℕ) → u * (triples m * (r * (sigma.d * z.d)) ^ m) ≤ c * ((sigma.d * z.d * w) ^ m * factorial n) →
      AtMost u
      (times (exact_level sigma z (suc (suc (suc m)))).dxi (exact_recip n)) c
  dxi-most u c m n h =
      let s = sigma.p * (z.d * w) in
      let s' = sigma.n * (z.d * w) in
      let y = z.p * (sigma.d * (sigma.d * (z.d * (w * w)))) in
      let d = sigma.d * z.d * w in
      let dp : 0 < d = mul-pos (mul-pos sd zd) wp in
      let a = slope s s' y (suc (suc (suc m))) in
      term_most u c (d * (d * d)) a.a a.a' (triples m * (r * (sigma.d * z.d)) ^ m) (d ^ m) n
      (exact_level sigma z (suc (suc (suc m)))).dxi (mul-pos dp (mul-pos dp dp)) (one-le-pow m d dp)
      (subst₃ (λ (p q e : ℕ). Is (exact_level sigma z (suc (suc (suc m)))).dxi p q e) (three-times d a.a)
      (three-times d a.a') (three_powers d m) (is_slope (suc (suc (suc m)))).dxi)
      (a-size s s' y (s * s + s' * s' + y) (r * (sigma.d * z.d))
      (nonnegative-sum (s * s + s' * s' + y) (2 * (s * s')) (no_cross sigma.p sigma.n (z.d * w) ss))
      (delta-whole w r sigma.p sigma.n sigma.d z.p z.d _ (no_minus sigma.p sigma.n sigma.d z.n z.d w ss zn) delta.above)
      m) h

  dzeta-most : (u c m n : ℕ) → u * (fours m * (r * (sigma.d * z.d)) ^ m) ≤ c * ((sigma.d * z.d * w) ^ m * factorial n) →
      AtMost u
      (times (exact_level sigma z (suc (suc (suc (suc m))))).dzeta (exact_recip n)) c
  dzeta-most u c m n h =
      let s = sigma.p * (z.d * w) in
      let s' = sigma.n * (z.d * w) in
      let y = z.p * (sigma.d * (sigma.d * (z.d * (w * w)))) in
      let d = sigma.d * z.d * w in
      let dp : 0 < d = mul-pos (mul-pos sd zd) wp in
      let a = slope s s' y (suc (suc (suc (suc m)))) in
      term_most u c (d * (d * (d * d))) a.b a.b' (fours m * (r * (sigma.d * z.d)) ^ m) (d ^ m) n
      (exact_level sigma z (suc (suc (suc (suc m))))).dzeta (mul-pos dp (mul-pos dp (mul-pos dp dp)))
      (one-le-pow m d dp)
      (subst₃ (λ (p q e : ℕ). Is (exact_level sigma z (suc (suc (suc (suc m))))).dzeta p q e) (four-times d a.b)
      (four-times d a.b')
      (four_powers d m) (is_slope (suc (suc (suc (suc m))))).dzeta)
      (b-size s s' y (s * s + s' * s' + y) (r * (sigma.d * z.d))
      (nonnegative-sum (s * s + s' * s' + y) (2 * (s * s')) (no_cross sigma.p sigma.n (z.d * w) ss))
      (delta-whole w r sigma.p sigma.n sigma.d z.p z.d _ (no_minus sigma.p sigma.n sigma.d z.n z.d w ss zn) delta.above)
      m) h

  -- dv₁: the first term left out is the one of level k + 3
  pub tail-dv1 : (k c : ℕ) → 2 * r ≤ k * w → Rest w r k (6 * suc (suc (suc (suc k)))) c → (n : ℕ) → Near w
      (exact_total (exact_term sigma z dxi_part 1) (suc (suc (suc k)) + n))
      (exact_total (exact_term sigma z dxi_part 1) (suc (suc (suc k)))) (2 * c)
  unfolding exact_term
  tail-dv1 k c h b n = tail-near (exact_term sigma z dxi_part 1) w c (suc (suc (suc k))) at n
    where
      at : (i : ℕ) → AtMost (w * 2 ^ i) (exact_term sigma z dxi_part 1 (suc (suc (suc k)) + i)) c
      at i =
          rw (suc-add, suc-add, suc-add) (dxi-most (w * 2 ^ i) c (k + i) (suc (suc (suc (k + i))) + 1)
          (rw fact_dxi (weigh (w * 2 ^ i) c (6 * suc (suc (suc (suc k)))) (6 * suc (suc (suc (suc (k + i)))))
          (triples (k + i))
          ((r * (sigma.d * z.d)) ^ (k + i)) ((sigma.d * z.d * w) ^ (k + i)) (factorial (k + i))
          (shrinks w r sigma z wp sd zd ss zn delta k (c * (6 * suc (suc (suc (suc k))))) h b i) (omega arith))))

  -- dv₂: the first term left out is the one of level k + 4
  pub tail-dv2 : (k c : ℕ) → 2 * r ≤ k * w → Rest w r k (24 * suc (suc (suc (suc (suc k))))) c → (n : ℕ) → Near w
      (exact_total (exact_term sigma z dzeta_part 1) (suc (suc (suc (suc k))) + n))
      (exact_total (exact_term sigma z dzeta_part 1) (suc (suc (suc (suc k))))) (2 * c)
  unfolding exact_term
  tail-dv2 k c h b n = tail-near (exact_term sigma z dzeta_part 1) w c (suc (suc (suc (suc k)))) at n
    where
      at : (i : ℕ) → AtMost (w * 2 ^ i) (exact_term sigma z dzeta_part 1 (suc (suc (suc (suc k))) + i)) c
      at i =
          rw (suc-add, suc-add, suc-add, suc-add) (dzeta-most (w * 2 ^ i) c (k + i) (suc (suc (suc (suc (k + i)))) + 1)
          (rw fact_dzeta (weigh (w * 2 ^ i) c (24 * suc (suc (suc (suc (suc k)))))
          (24 * suc (suc (suc (suc (suc (k + i)))))) (fours (k + i))
          ((r * (sigma.d * z.d)) ^ (k + i)) ((sigma.d * z.d * w) ^ (k + i)) (factorial (k + i))
          (shrinks w r sigma z wp sd zd ss zn delta k (c * (24 * suc (suc (suc (suc (suc k)))))) h b i) (omega arith))))
