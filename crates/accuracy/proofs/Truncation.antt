-- The truncation of the series: how far the sums of any greater length are from those of k terms. Assumes nothing.
use mathlib.Core.Path.{◌≡◌, sym, ap, ◌∙◌, subst₃}
use Prim.Native.Nat.{ℕ, suc, ◌+◌, ◌*◌, ◌^◌, ◌≤◌, ◌<◌}
use native.Mathlib.Nat.{one-le-pow, le_trans, mul_assoc, mul_comm, mul-mul-mul_comm, zero-mul, mul-zero, suc-add}
use native.Mathlib.Nat.{mul-pos, mul-le-mul, mul-le-mul_left, mul-le-mul_right, le_of_mul-le-mul_right, pow-suc}
use native.Mathlib.Numerals.{add-one, add-two}
use native.Mathlib.Omega.{arith}
use Rattle.std.proofs.lemmas.Nat.{mul-pow}
use Rattle.ieee.specs.Table.{factorial}
use Rattle.rounding.specs.Value.{Value, plus, times, AtMost, Near}
use Rattle.accuracy.specs.Series.{exact_level, exact_recip, xi_part, zeta_part, exact_term, exact_total, exact_horner}
use Rattle.rounding.proofs.Differences.{expand, zeros}
use Rattle.accuracy.proofs.Powers.{state, s_size, x-size, z-size, pairs, twice_pairs}
use Rattle.rounding.proofs.Denominators.{Is}
use Rattle.accuracy.proofs.HornerTail.{horner_tail, near_convert}
use Rattle.accuracy.proofs.Tail.{LevelIs, level-is, term_most, decay, weigh, tail-near}
use Rattle.accuracy.proofs.Series.{factorial_pos}

-- ---- factorials
fact_xi_1 : (m : ℕ) → factorial (suc m + 1) ≡ suc m * suc (suc m) * factorial m
unfolding factorial
fact_xi_1 m =
    rw add-one (sym (mul_assoc (suc (suc m)) (suc m) (factorial m))
    ∙ ap (λ (i : ℕ). i * factorial m) (mul_comm (suc (suc m)) (suc m)))

regroup_xi : (a b c f : ℕ) → c * (b * (a * f)) ≡ a * (b * c) * f
regroup_xi a b c f = simp expand

fact_xi_2 : (m : ℕ) → factorial (suc m + 2) ≡ suc m * (suc (suc m) * suc (suc (suc m))) * factorial m
unfolding factorial
fact_xi_2 m = rw add-two (regroup_xi (suc m) (suc (suc m)) (suc (suc (suc m))) (factorial m))

regroup_zeta : (a b c p f : ℕ) → 2 * p ≡ a * b → c * (b * (a * f)) ≡ p * (2 * c) * f
regroup_zeta a b c p f h = let k = ap (λ (i : ℕ). i * (c * f)) h in simp expand (omega (arith, simp expand at k))

fact_zeta_1 : (m : ℕ) → factorial (suc (suc m) + 1) ≡ pairs m * (2 * suc (suc (suc m))) * factorial m
unfolding factorial
fact_zeta_1 m =
    rw add-one (regroup_zeta (suc m) (suc (suc m)) (suc (suc (suc m))) (pairs m) (factorial m) (twice_pairs m))

regroup_zeta_2 : (a b c e p f : ℕ) → 2 * p ≡ a * b → e * (c * (b * (a * f))) ≡ p * (2 * (c * e)) * f
regroup_zeta_2 a b c e p f h =
    let k = ap (λ (i : ℕ). i * (c * (e * f))) h in simp expand (omega (arith, simp expand at k))

fact_zeta_2 : (m : ℕ) → factorial (suc (suc m) + 2) ≡ pairs m * (2 * (suc (suc (suc m)) * suc (suc (suc (suc m)))))
    * factorial m
unfolding factorial
fact_zeta_2 m =
    rw add-two (regroup_zeta_2 (suc m) (suc (suc m)) (suc (suc (suc m))) (suc (suc (suc (suc m)))) (pairs m)
    (factorial m) (twice_pairs m))

-- ---- sigma and z over one denominator
pub sigma-whole : (sp sn sd zd w : ℕ) → sp * (sd * zd * w) + sn * (zd * w) * sd
    ≡ sn * (sd * zd * w) + sp * (zd * w) * sd
sigma-whole sp sn sd zd w = simp expand (omega arith)

pub z-whole : (zp zn sd zd w : ℕ) → zn ≡ 0 → zp * (sd * zd * w * (sd * zd * w)) + 0 * zd
    ≡ zn * (sd * zd * w * (sd * zd * w)) + zp * (sd * (sd * (zd * (w * w)))) * zd
z-whole zp zn sd zd w h = rw h (simp (zeros, expand) (omega arith))

pub no_cross : (a b c : ℕ) → a * b ≡ 0 → 2 * (a * c * (b * c)) ≡ 0
no_cross a b c h =
    ap (λ (i : ℕ). 2 * i) (mul-mul-mul_comm a c b c ∙ ap (λ (i : ℕ). i * (c * c)) h ∙ zero-mul (c * c)) ∙ mul-zero 2

pub nonnegative-sum : (t u : ℕ) → u ≡ 0 → t ≡ t + u
nonnegative-sum t u h = omega arith

pub no_minus : (sp sn sd zn zd w : ℕ) → sp * sn ≡ 0 → zn ≡ 0 → w * w * ((sp * sn + sn * sp) * zd + zn * (sd * sd)) ≡ 0
no_minus sp sn sd zn zd w h k = rw (k, mul_comm sn sp, h) (simp zeros)

pub delta-whole : (w r sp sn sd zp zd k : ℕ) → k ≡ 0 → w * w * ((sp * sp + sn * sn) * zd + zp * (sd * sd))
    ≤ k + r * r * (sd * sd * zd)
    → sp * (zd * w) * (sp * (zd * w)) + sn * (zd * w) * (sn * (zd * w)) + zp * (sd * (sd * (zd * (w * w))))
    ≤ r * (sd * zd) * (r * (sd * zd))
delta-whole w r sp sn sd zp zd k h l =
    let a : w * w * ((sp * sp + sn * sn) * zd + zp * (sd * sd)) ≤ r * r * (sd * sd * zd) = omega arith in
    whole w r sp sn sd zp zd (mul-le-mul_right zd a)
  where
    whole : (w r sp sn sd zp zd : ℕ) → w * w * ((sp * sp + sn * sn) * zd + zp * (sd * sd)) * zd
        ≤ r * r * (sd * sd * zd) * zd
        → sp * (zd * w) * (sp * (zd * w)) + sn * (zd * w) * (sn * (zd * w)) + zp * (sd * (sd * (zd * (w * w))))
        ≤ r * (sd * zd) * (r * (sd * zd))
    whole w r sp sn sd zp zd b = simp expand (omega (arith, simp expand at b))

pub two_powers : (d m : ℕ) → d ^ suc (suc m) ≡ d * d * d ^ m
two_powers d m = rw (pow-suc d (suc m), pow-suc d m) (simp expand)

half-whole : (r k w g : ℕ) → 2 * r ≤ k * w → 2 * (r * g) ≤ k * (g * w)
half-whole r k w g h = let a = mul-le-mul_right g h in simp expand (omega (arith, simp expand at a))

base_whole : (w c r g k f : ℕ) → w * r ^ k ≤ c * (w ^ k * f) → w * (r * g) ^ k ≤ c * ((g * w) ^ k * f)
base_whole w c r g k f h = rw (mul-pow r g k, mul-pow g w k) (go (r ^ k) (g ^ k) (w ^ k) h)
  where
    go : (a b e : ℕ) → w * a ≤ c * (e * f) → w * (a * b) ≤ c * (b * e * f)
    go a b e l = let x = mul-le-mul_right b l in simp expand (omega (arith, simp expand at x))

side_sigma : (w r p n d e : ℕ) → 0 < e → p * (e * w) ≤ n * (e * w) + r * (d * e) → w * p ≤ w * n + r * d
side_sigma w r p n d e z h = le_of_mul-le-mul_right {k = e} (simp expand (omega (arith, simp expand at h))) z

doubled : (w a c u : ℕ) → w * a ≤ c * u → w * (a * 2) ≤ 2 * c * u
doubled w a c u h = simp expand (omega arith)

-- the bound of what is left of a series at k terms: the first term left out is at most c / w
abbrev pub Rest : ℕ → ℕ → ℕ → ℕ → ℕ → Type 0
Rest w r k q c = w * r ^ k ≤ c * q * (w ^ k * factorial k)

module _ (w r : ℕ) (sigma z : Value) (wp : 0 < w) (sd : 0 < sigma.d) (zd : 0 < z.d) (ss : sigma.p * sigma.n ≡ 0)
    (zn : z.n ≡ 0) (delta : AtMost (w * w) (plus (times sigma sigma) z) (r * r)) where
  pub dpos : 0 < sigma.d * z.d * w
  dpos = mul-pos (mul-pos sd zd) wp

  pub is-level : (j : ℕ) → LevelIs (exact_level sigma z j) (state (sigma.p * (z.d * w)) (sigma.n * (z.d * w))
      (z.p * (sigma.d * (sigma.d * (z.d * (w * w))))) j) (sigma.d * z.d * w) ((sigma.d * z.d * w) ^ j)
  is-level j =
      let s = sigma.p * (z.d * w) in
      let s' = sigma.n * (z.d * w) in
      let y = z.p * (sigma.d * (sigma.d * (z.d * (w * w)))) in
      level-is s s' y (s * s + s' * s' + y) (r * (sigma.d * z.d))
      (nonnegative-sum (s * s + s' * s' + y) (2 * (s * s')) (no_cross sigma.p sigma.n (z.d * w) ss))
      (delta-whole w r sigma.p sigma.n sigma.d z.p z.d _ (no_minus sigma.p sigma.n sigma.d z.n z.d w ss zn) delta.above)
      (sigma.d * z.d * w) sigma z dpos
      (record { equal = sigma-whole sigma.p sigma.n sigma.d z.d w })
      (record { equal = z-whole z.p z.n sigma.d z.d w zn }) j

  xi-most : (u c m n : ℕ) → u * (suc m * (r * (sigma.d * z.d)) ^ m) ≤ c * ((sigma.d * z.d * w) ^ m * factorial n) →
      AtMost u (times (exact_level sigma z (suc m)).xi (exact_recip n)) c
  xi-most u c m n h =
      let s = sigma.p * (z.d * w) in
      let s' = sigma.n * (z.d * w) in
      let y = z.p * (sigma.d * (sigma.d * (z.d * (w * w)))) in
      let d = sigma.d * z.d * w in
      let a = state s s' y (suc m) in
      term_most u c d a.x a.x' (suc m * (r * (sigma.d * z.d)) ^ m) (d ^ m) n (exact_level sigma z (suc m)).xi dpos
      (one-le-pow m d dpos)
      (rw (pow-suc d m, mul_comm (d ^ m) d) at (is-level (suc m)).xi)
      (x-size s s' y (s * s + s' * s' + y) (r * (sigma.d * z.d))
      (nonnegative-sum (s * s + s' * s' + y) (2 * (s * s')) (no_cross sigma.p sigma.n (z.d * w) ss))
      (delta-whole w r sigma.p sigma.n sigma.d z.p z.d _ (no_minus sigma.p sigma.n sigma.d z.n z.d w ss zn) delta.above)
      m) h

  zeta-most : (u c m n : ℕ) → u * (pairs m * (r * (sigma.d * z.d)) ^ m) ≤ c * ((sigma.d * z.d * w) ^ m * factorial n) →
      AtMost u (times (exact_level sigma z (suc (suc m))).zeta (exact_recip n)) c
  zeta-most u c m n h =
      let s = sigma.p * (z.d * w) in
      let s' = sigma.n * (z.d * w) in
      let y = z.p * (sigma.d * (sigma.d * (z.d * (w * w)))) in
      let d = sigma.d * z.d * w in
      let a = state s s' y (suc (suc m)) in
      let l = (is-level (suc (suc m))).zeta in
      term_most u c (d * d) a.z a.z' (pairs m * (r * (sigma.d * z.d)) ^ m) (d ^ m) n
      (exact_level sigma z (suc (suc m))).zeta (mul-pos dpos dpos) (one-le-pow m d dpos)
      (subst₃ (λ (p q e : ℕ). Is (exact_level sigma z (suc (suc m))).zeta p q e) (sym (mul_assoc d d a.z))
      (sym (mul_assoc d d a.z')) (two_powers d m) l)
      (z-size s s' y (s * s + s' * s' + y) (r * (sigma.d * z.d))
      (nonnegative-sum (s * s + s' * s' + y) (2 * (s * s')) (no_cross sigma.p sigma.n (z.d * w) ss))
      (delta-whole w r sigma.p sigma.n sigma.d z.p z.d _ (no_minus sigma.p sigma.n sigma.d z.n z.d w ss zn) delta.above)
      m) h

  -- r ^ m / m! from m = k on
  pub shrinks : (k c : ℕ) → 2 * r ≤ k * w → w * r ^ k ≤ c * (w ^ k * factorial k) → (i : ℕ) →
      w * 2 ^ i * (r * (sigma.d * z.d)) ^ (k + i) ≤ c * ((sigma.d * z.d * w) ^ (k + i) * factorial (k + i))
  shrinks k c h b i =
      decay w c (r * (sigma.d * z.d)) (sigma.d * z.d * w) k (half-whole r k w (sigma.d * z.d) h)
      (base_whole w c r (sigma.d * z.d) k (factorial k) b) i

  -- v₁: the first term left out is the one of level k + 1
  pub tail-v1 : (k c : ℕ) → 2 * r ≤ k * w → Rest w r k (suc (suc k)) c → (n : ℕ) →
      Near w (exact_total (exact_term sigma z xi_part 1) (suc k + n))
      (exact_total (exact_term sigma z xi_part 1) (suc k)) (2 * c)
  unfolding exact_term
  tail-v1 k c h b n = tail-near (exact_term sigma z xi_part 1) w c (suc k) at n
    where
      at : (i : ℕ) → AtMost (w * 2 ^ i) (exact_term sigma z xi_part 1 (suc k + i)) c
      at i =
          rw suc-add (xi-most (w * 2 ^ i) c (k + i) (suc (k + i) + 1)
          (rw fact_xi_1 (weigh (w * 2 ^ i) c (suc (suc k)) (suc (suc (k + i))) (suc (k + i))
          ((r * (sigma.d * z.d)) ^ (k + i))
          ((sigma.d * z.d * w) ^ (k + i)) (factorial (k + i)) (shrinks k (c * suc (suc k)) h b i) (omega arith))))

  -- w₁: the same over (j + 2)!
  pub tail-w1 : (k c : ℕ) → 2 * r ≤ k * w → Rest w r k (suc (suc k) * suc (suc (suc k))) c → (n : ℕ) → Near w
      (exact_total (exact_term sigma z xi_part 2) (suc k + n)) (exact_total (exact_term sigma z xi_part 2) (suc k))
      (2 * c)
  unfolding exact_term
  tail-w1 k c h b n = tail-near (exact_term sigma z xi_part 2) w c (suc k) at n
    where
      at : (i : ℕ) → AtMost (w * 2 ^ i) (exact_term sigma z xi_part 2 (suc k + i)) c
      at i =
          rw suc-add (xi-most (w * 2 ^ i) c (k + i) (suc (k + i) + 2)
          (rw fact_xi_2 (weigh (w * 2 ^ i) c (suc (suc k) * suc (suc (suc k)))
          (suc (suc (k + i)) * suc (suc (suc (k + i)))) (suc (k + i))
          ((r * (sigma.d * z.d)) ^ (k + i)) ((sigma.d * z.d * w) ^ (k + i)) (factorial (k + i))
          (shrinks k (c * (suc (suc k) * suc (suc (suc k)))) h b i) (mul-le-mul (omega arith) (omega arith)))))

  -- v₂: the first term left out is the one of level k + 2
  pub tail-v2 : (k c : ℕ) → 2 * r ≤ k * w → Rest w r k (2 * suc (suc (suc k))) c → (n : ℕ) → Near w
      (exact_total (exact_term sigma z zeta_part 1) (suc (suc k) + n))
      (exact_total (exact_term sigma z zeta_part 1) (suc (suc k))) (2 * c)
  unfolding exact_term
  tail-v2 k c h b n = tail-near (exact_term sigma z zeta_part 1) w c (suc (suc k)) at n
    where
      at : (i : ℕ) → AtMost (w * 2 ^ i) (exact_term sigma z zeta_part 1 (suc (suc k) + i)) c
      at i =
          rw (suc-add, suc-add) (zeta-most (w * 2 ^ i) c (k + i) (suc (suc (k + i)) + 1)
          (rw fact_zeta_1 (weigh (w * 2 ^ i) c (2 * suc (suc (suc k))) (2 * suc (suc (suc (k + i)))) (pairs (k + i))
          ((r * (sigma.d * z.d)) ^ (k + i)) ((sigma.d * z.d * w) ^ (k + i)) (factorial (k + i))
          (shrinks k (c * (2 * suc (suc (suc k)))) h b i) (omega arith))))

  -- w₂: the same over (j + 2)!
  pub tail-w2 : (k c : ℕ) → 2 * r ≤ k * w → Rest w r k (2 * (suc (suc (suc k)) * suc (suc (suc (suc k))))) c → (n : ℕ) →
      Near w
      (exact_total (exact_term sigma z zeta_part 2) (suc (suc k) + n))
      (exact_total (exact_term sigma z zeta_part 2) (suc (suc k))) (2 * c)
  unfolding exact_term
  tail-w2 k c h b n = tail-near (exact_term sigma z zeta_part 2) w c (suc (suc k)) at n
    where
      at : (i : ℕ) → AtMost (w * 2 ^ i) (exact_term sigma z zeta_part 2 (suc (suc k) + i)) c
      at i =
          rw (suc-add, suc-add) (zeta-most (w * 2 ^ i) c (k + i) (suc (suc (k + i)) + 2)
          (rw fact_zeta_2 (weigh (w * 2 ^ i) c (2 * (suc (suc (suc k)) * suc (suc (suc (suc k)))))
          (2 * (suc (suc (suc (k + i))) * suc (suc (suc (suc (k + i)))))) (pairs (k + i))
          ((r * (sigma.d * z.d)) ^ (k + i))
          ((sigma.d * z.d * w) ^ (k + i)) (factorial (k + i))
          (shrinks k (c * (2 * (suc (suc (suc k)) * suc (suc (suc (suc k)))))) h b i)
          (mul-le-mul_left 2 (mul-le-mul (omega arith) (omega arith))))))

  -- ---- |sigma| is at most r / w
  sigma-most : AtMost w sigma r
  sigma-most =
      let s = sigma.p * (z.d * w) in
      let s' = sigma.n * (z.d * w) in
      let y = z.p * (sigma.d * (sigma.d * (z.d * (w * w)))) in
      let q = s_size s s' y (s * s + s' * s' + y) (r * (sigma.d * z.d))
      (nonnegative-sum (s * s + s' * s' + y) (2 * (s * s')) (no_cross sigma.p sigma.n (z.d * w) ss))
      (delta-whole w r sigma.p sigma.n sigma.d z.p z.d _ (no_minus sigma.p sigma.n sigma.d z.n z.d w ss zn) delta.above)
      in
      record {
        above = side_sigma w r sigma.p sigma.n sigma.d z.d zd q.above;
        below =
            side_sigma w r sigma.n sigma.p sigma.d z.d zd q.below;
      }

  -- v₀ and w₀: the first term left out is σ ^ k / (k + l)!
  pub tail_horner : (l k c : ℕ) → 2 * r ≤ k * w → w * r ^ k ≤ c * (w ^ k * factorial (k + l)) → (n : ℕ) →
      Near w (exact_horner sigma l (k + n)) (exact_horner sigma l k) (2 * c)
  tail_horner l k c h b n =
      near_convert w (w ^ k * factorial (k + l)) (exact_horner sigma l (k + n)) (exact_horner sigma l k) (2 * c)
      (r ^ k * 2)
      (mul-pos (one-le-pow k w wp) (factorial_pos (k + l))) (doubled w (r ^ k) c (w ^ k * factorial (k + l)) b)
      (horner_tail w r sigma wp sigma-most n k l (le_trans h (mul-le-mul_right w (omega arith))))
