-- How far the exact sums of the series at one z are from those at another. Assumes nothing.
use mathlib.Core.Path.{◌≡◌, refl, sym, ap, ◌∙◌, subst, subst₂}
use Prim.Native.Nat.{ℕ, zero, suc, ◌+◌, ◌*◌, ◌^◌, ◌≤◌, ◌<◌}
use native.Mathlib.Nat.{le_trans, le_of_eq, one-le-pow, mul-add, one-mul, mul-zero, zero-mul, mul-pos, mul-le-mul}
use native.Mathlib.Nat.{mul-le-mul_left, mul-le-mul_right, pow-suc, pow-zero}
use native.Mathlib.Omega.{arith}
use lib.Dec.{lit≤}
use Rattle.std.proofs.lemmas.Nat.{mul-pow}
use Rattle.ieee.specs.Table.{factorial}
use Rattle.rounding.specs.Value.{Value, opposite, plus, minus, times, AtMost, Near}
use Rattle.accuracy.specs.Series.{exact_level, exact_recip, xi_part, zeta_part, exact_term, exact_total}
use Rattle.rounding.proofs.Differences.{expand, zeros}
use Rattle.rounding.proofs.Fractions.{near-plus}
use Rattle.rounding.proofs.Squares.{Size}
use Rattle.rounding.proofs.Denominators.{Is, is-opposite, is-scaled, is-plus}
use Rattle.accuracy.proofs.Powers.{state}
use Rattle.accuracy.proofs.Slopes.{triples, fours}
use Rattle.accuracy.proofs.Apart.{x-gap, z-gap}
use Rattle.accuracy.proofs.Tail.{LevelIs, level-is, term_most, totals-near}
use Rattle.accuracy.proofs.Truncation.{sigma-whole, z-whole, nonnegative-sum, no_minus, delta-whole, two_powers}
use Rattle.accuracy.proofs.SlopeTail.{fact_dxi, fact_dzeta}

size-times : {p n m : ℕ} → (d : ℕ) → Size p n m → Size (d * p) (d * n) (d * m)
size-times d h =
    let a = mul-le-mul_left d h.above in
    let b = mul-le-mul_left d h.below in
    record { above = omega (arith, simp mul-add at a); below = omega (arith, simp mul-add at b) }

-- ---- a term at both, from its difference
near-product : (u c : ℕ) (a b r : Value) → AtMost u (times (minus a b) r) c → Near u (times a r) (times b r) c
near-product u c a b r h =
    record {
      above = one u c a.p a.n a.d b.p b.n b.d r.p r.n r.d (mul-le-mul_right r.d h.above);
      below = two u c a.p a.n a.d b.p b.n b.d r.p r.n r.d (mul-le-mul_right r.d h.below);
    }
  where
    one : (u c p n d q m e x y f : ℕ) → u * ((p * e + m * d) * x + (n * e + q * d) * y) * f ≤
        (u * ((p * e + m * d) * y + (n * e + q * d) * x) + c * (d * e * f)) * f →
        u * ((p * x + n * y) * (e * f) + (q * y + m * x) * (d * f)) ≤ u *
        ((p * y + n * x) * (e * f) + (q * x + m * y) * (d * f)) + c * (d * f * (e * f))
    one u c p n d q m e x y f h = simp expand (omega (arith, simp expand at h))

    two : (u c p n d q m e x y f : ℕ) → u * ((p * e + m * d) * y + (n * e + q * d) * x) * f ≤
        (u * ((p * e + m * d) * x + (n * e + q * d) * y) + c * (d * e * f)) * f →
        u * ((q * x + m * y) * (d * f) + (p * y + n * x) * (e * f)) ≤ u *
        ((q * y + m * x) * (d * f) + (p * x + n * y) * (e * f)) + c * (e * f * (d * f))
    two u c p n d q m e x y f h = simp expand (omega (arith, simp expand at h))

is-like : (x : Value) (p n e p' n' e' : ℕ) → p ≡ p' → n ≡ n' → e ≡ e' → Is x p n e → Is x p' n' e'
is-like x p n e p' n' e' a b c h = subst (λ (d : ℕ). Is x p' n' d) c (subst₂ (λ (i j : ℕ). Is x i j e) a b h)

-- with the reciprocal of n!
near-term : (u c m p n e l : ℕ) (a b : Value) → 0 < e → Is (minus a b) p n e → Size p n m →
    u * m ≤ c * (e * factorial l) →
    Near u (times a (exact_recip l)) (times b (exact_recip l)) c
near-term u c m p n e l a b z h k i =
    near-product u c a b (exact_recip l) (term_most u c 1 p n m e l (minus a b) (one-above 1) z
    (is-like (minus a b) p n e (1 * p) (1 * n) (1 * e) (one p) (one n) (one e) h) k i)
  where
    one : (p : ℕ) → p ≡ 1 * p
    one p = omega arith

    one-above : (x : ℕ) → 0 < 1
    one-above x = omega arith

-- q a / d² at the m-th power, where 2^m a is at most b m! times the m-th power of the unit
halving : (w q k D T p a G b W f c N M : ℕ) → w * q ≡ k * D → p * a ≤ b * (W * f) → k * b ≤ N * c → N ≤ M →
    w * p * (q * (T * (a * G))) ≤ c * (D * (G * W) * (T * M * f))
halving w q k D T p a G b W f c N M e h i j =
    let x : k * D * (p * (T * (a * G))) ≤ k * D * (T * G * (b * (W * f))) = mul-le-mul_left (k * D) (first h) in
    let y = mul-le-mul_right (D * T * G * (W * f)) i in
    let z = mul-le-mul_right (c * D * T * G * (W * f)) j in
    let l = ap (λ (o : ℕ). o * (p * (T * (a * G)))) e in
    last x y z l
  where
    first : p * a ≤ b * (W * f) → p * (T * (a * G)) ≤ T * G * (b * (W * f))
    first h = let x = mul-le-mul_left (T * G) h in simp expand (omega (arith, simp expand at x))

    last : k * D * (p * (T * (a * G))) ≤ k * D * (T * G * (b * (W * f))) → k * b * (D * T * G * (W * f)) ≤ N * c *
        (D * T * G * (W * f)) →
        N * (c * D * T * G * (W * f)) ≤ M * (c * D * T * G * (W * f)) → w * q * (p * (T * (a * G))) ≡ k * D *
        (p * (T * (a * G))) →
        w * p * (q * (T * (a * G))) ≤ c * (D * (G * W) * (T * M * f))
    last x y z l = simp expand (omega (arith, simp expand at x, simp expand at y, simp expand at z, simp expand at l))

cross-none : (a b m c : ℕ) → a * b ≡ 0 → 2 * (m * (a * c) * (m * (b * c))) ≡ 0
cross-none a b m c h = go (ap (λ (x : ℕ). x * (m * c * (m * c))) h)
  where
    go : a * b * (m * c * (m * c)) ≡ 0 * (m * c * (m * c)) → 2 * (m * (a * c) * (m * (b * c))) ≡ 0
    go e = let i : a * b * (m * c * (m * c)) ≡ 0 = e ∙ zero-mul (m * c * (m * c)) in
        simp expand (omega (arith, simp expand at i))

one-more : (w : ℕ) (t v : ℕ → Value) (n : ℕ) → Near w (exact_total t n) (exact_total v n) 0 → Near w (t n) (v n) 0 →
    Near w (exact_total t (suc n)) (exact_total v (suc n)) 0
unfolding exact_total
one-more w t v n h k = near-plus w (exact_total t n) (exact_total v n) (t n) (v n) 0 0 h k

three : (w : ℕ) (t v : ℕ → Value) → Near w (t 0) (v 0) 0 → Near w (t 1) (v 1) 0 → Near w (t 2) (v 2) 0 →
    Near w (exact_total t 3) (exact_total v 3) 0
unfolding exact_total
three w t v a b c = one-more w t v 2
    (one-more w t v 1 (one-more w t v 0 (record { above = omega arith; below = omega arith }) a) b) c

plus_three : (m : ℕ) → 3 + m ≡ suc (suc (suc m))
plus_three m = omega arith

plus_four : (m : ℕ) → 4 + m ≡ suc (suc (suc (suc m)))
plus_four m = omega arith

module _ (w r k : ℕ) (sigma z v : Value) (wp : 0 < w) (sd : 0 < sigma.d) (zd : 0 < z.d) (vd : 0 < v.d)
    (ss : sigma.p * sigma.n ≡ 0) (zn : z.n ≡ 0) (vn : v.n ≡ 0)
    (delta : AtMost (w * w) (plus (times sigma sigma) z) (r * r))
    (delta' : AtMost (w * w) (plus (times sigma sigma) v) (r * r)) (near : Near w z v k) where
  abbrev S : ℕ
  S = v.d * (sigma.p * (z.d * w))

  abbrev S' : ℕ
  S' = v.d * (sigma.n * (z.d * w))

  abbrev D : ℕ
  D = v.d * (sigma.d * z.d * w)

  abbrev Y : ℕ
  Y = v.d * v.d * (z.p * (sigma.d * (sigma.d * (z.d * (w * w)))))

  abbrev Y' : ℕ
  Y' = z.d * z.d * (v.p * (sigma.d * (sigma.d * (v.d * (w * w)))))

  abbrev G : ℕ
  G = sigma.d * z.d * v.d

  abbrev Q : ℕ
  Q = k * (G * G * w)

  d-above : 0 < D
  d-above = mul-pos vd (mul-pos (mul-pos sd zd) wp)

  sigma-is : Is sigma S S' D
  sigma-is = is-scaled sigma (sigma.p * (z.d * w)) (sigma.n * (z.d * w)) (sigma.d * z.d * w) v.d
      (record { equal = sigma-whole sigma.p sigma.n sigma.d z.d w })

  z-is : Is z Y 0 (D * D)
  z-is =
      is-like z _ _ _ Y 0 (D * D) refl (mul-zero (v.d * v.d)) (square v.d (sigma.d * z.d * w))
      (is-scaled z (z.p * (sigma.d * (sigma.d * (z.d * (w * w))))) 0 (sigma.d * z.d * w * (sigma.d * z.d * w))
      (v.d * v.d)
      (record { equal = z-whole z.p z.n sigma.d z.d w zn }))
    where
      square : (m d : ℕ) → m * m * (d * d) ≡ m * d * (m * d)
      square m d = simp expand

  v-is : Is v Y' 0 (D * D)
  v-is =
      is-like v _ _ _ Y' 0 (D * D) refl (mul-zero (z.d * z.d)) (square v.d z.d sigma.d w)
      (is-scaled v (v.p * (sigma.d * (sigma.d * (v.d * (w * w))))) 0 (sigma.d * v.d * w * (sigma.d * v.d * w))
      (z.d * z.d)
      (record { equal = z-whole v.p v.n sigma.d v.d w vn }))
    where
      square : (vd zd sd w : ℕ) → zd * zd * (sd * vd * w * (sd * vd * w)) ≡ vd * (sd * zd * w) * (vd * (sd * zd * w))
      square vd zd sd w = simp expand

  z-sum : S * S + S' * S' + Y ≤ r * G * (r * G)
  z-sum = go r w sigma.p sigma.n sigma.d z.p z.d v.d (delta-whole w r sigma.p sigma.n sigma.d z.p z.d _
      (no_minus sigma.p sigma.n sigma.d z.n z.d w ss zn) delta.above)
    where
      go : (r w sp sn sd zp zd vd : ℕ) → sp * (zd * w) * (sp * (zd * w)) + sn * (zd * w) * (sn * (zd * w)) + zp *
          (sd * (sd * (zd * (w * w)))) ≤ r * (sd * zd) * (r * (sd * zd)) →
          vd * (sp * (zd * w)) * (vd * (sp * (zd * w))) + vd * (sn * (zd * w)) * (vd * (sn * (zd * w))) + vd * vd *
          (zp * (sd * (sd * (zd * (w * w))))) ≤ r * (sd * zd * vd) * (r * (sd * zd * vd))
      go r w sp sn sd zp zd vd h = let x = mul-le-mul_left (vd * vd) h in simp expand (omega (arith, simp expand at x))

  v-sum : S * S + S' * S' + Y' ≤ r * G * (r * G)
  v-sum = go r w sigma.p sigma.n sigma.d v.p v.d z.d (delta-whole w r sigma.p sigma.n sigma.d v.p v.d _
      (no_minus sigma.p sigma.n sigma.d v.n v.d w ss vn) delta'.above)
    where
      go : (r w sp sn sd vp vd zd : ℕ) → sp * (vd * w) * (sp * (vd * w)) + sn * (vd * w) * (sn * (vd * w)) + vp *
          (sd * (sd * (vd * (w * w)))) ≤ r * (sd * vd) * (r * (sd * vd)) →
          vd * (sp * (zd * w)) * (vd * (sp * (zd * w))) + vd * (sn * (zd * w)) * (vd * (sn * (zd * w))) + zd * zd *
          (vp * (sd * (sd * (vd * (w * w))))) ≤ r * (sd * zd * vd) * (r * (sd * zd * vd))
      go r w sp sn sd vp vd zd h = let x = mul-le-mul_left (zd * zd) h in simp expand (omega (arith, simp expand at x))

  y-near : Size Y Y' Q
  y-near =
      record {
        above = one w k z.p z.n z.d v.p v.n v.d sigma.d zn vn near.above;
        below = two w k z.p z.n z.d v.p v.n v.d sigma.d zn vn near.below;
      }
    where
      one : (w k zp zn zd vp vn vd sd : ℕ) → zn ≡ 0 → vn ≡ 0 → w * (zp * vd + vn * zd) ≤ w * (zn * vd + vp * zd) + k *
          (zd * vd) →
          vd * vd * (zp * (sd * (sd * (zd * (w * w))))) ≤ zd * zd * (vp * (sd * (sd * (vd * (w * w))))) + k *
          (sd * zd * vd * (sd * zd * vd) * w)
      one w k zp zn zd vp vn vd sd e f h =
          let i = subst₂ (λ (a b : ℕ). w * (zp * vd + b * zd) ≤ w * (a * vd + vp * zd) + k * (zd * vd)) e f h in
          let x = mul-le-mul_right (zd * vd * (sd * sd) * w) i in
          simp expand (omega (arith, simp (zeros, expand) at x))

      two : (w k zp zn zd vp vn vd sd : ℕ) → zn ≡ 0 → vn ≡ 0 → w * (vp * zd + zn * vd) ≤ w * (vn * zd + zp * vd) + k *
          (vd * zd) →
          zd * zd * (vp * (sd * (sd * (vd * (w * w))))) ≤ vd * vd * (zp * (sd * (sd * (zd * (w * w))))) + k *
          (sd * zd * vd * (sd * zd * vd) * w)
      two w k zp zn zd vp vn vd sd e f h =
          let i = subst₂ (λ (a b : ℕ). w * (vp * zd + a * vd) ≤ w * (b * zd + zp * vd) + k * (vd * zd)) e f h in
          let x = mul-le-mul_right (zd * vd * (sd * sd) * w) i in
          simp expand (omega (arith, simp (zeros, expand) at x))

  none : 2 * (S * S') ≡ 0
  none = cross-none sigma.p sigma.n v.d (z.d * w) ss

  first : S * S + S' * S' + Y ≡ S * S + S' * S' + Y + 2 * (S * S')
  first = nonnegative-sum (S * S + S' * S' + Y) (2 * (S * S')) none

  second : S * S + S' * S' + Y' ≡ S * S + S' * S' + Y' + 2 * (S * S')
  second = nonnegative-sum (S * S + S' * S' + Y') (2 * (S * S')) none

  z-level : (j : ℕ) → LevelIs (exact_level sigma z j) (state S S' Y j) D (D ^ j)
  z-level = level-is S S' Y (S * S + S' * S' + Y) (r * G) first z-sum D sigma z d-above sigma-is z-is

  v-level : (j : ℕ) → LevelIs (exact_level sigma v j) (state S S' Y' j) D (D ^ j)
  v-level = level-is S S' Y' (S * S + S' * S' + Y') (r * G) second v-sum D sigma v d-above sigma-is v-is

  -- ---- the terms
  xi-minus : (j : ℕ) → (let a = state S S' Y j in let c = state S S' Y' j in
      Is (minus (exact_level sigma z j).xi (exact_level sigma v j).xi) (D * (a.x + c.x')) (D * (a.x' + c.x)) (D ^ j))
  xi-minus j =
      let a = state S S' Y j in
      let c = state S S' Y' j in
      let b = (exact_level sigma v j).xi in
      is-like _ _ _ (D ^ j) _ _ (D ^ j) (sym (mul-add D a.x c.x')) (sym (mul-add D a.x' c.x)) refl
      (is-plus (exact_level sigma z j).xi (opposite b) (D * a.x) (D * a.x') (D * c.x') (D * c.x) (D ^ j) (z-level j).xi
      (is-opposite b (D * c.x) (D * c.x') (D ^ j) (v-level j).xi))

  zeta-minus : (j : ℕ) → (let a = state S S' Y j in let c = state S S' Y' j in
      Is (minus (exact_level sigma z j).zeta (exact_level sigma v j).zeta) (D * (D * (a.z + c.z')))
      (D * (D * (a.z' + c.z))) (D ^ j))
  zeta-minus j =
      let a = state S S' Y j in
      let c = state S S' Y' j in
      let b = (exact_level sigma v j).zeta in
      is-like _ _ _ (D ^ j) _ _ (D ^ j) (twice D a.z c.z') (twice D a.z' c.z) refl
      (is-plus (exact_level sigma z j).zeta (opposite b) (D * (D * a.z)) (D * (D * a.z')) (D * (D * c.z'))
      (D * (D * c.z)) (D ^ j) (z-level j).zeta
      (is-opposite b (D * (D * c.z)) (D * (D * c.z')) (D ^ j) (v-level j).zeta))
    where
      twice : (d a c : ℕ) → d * (d * a) + d * (d * c) ≡ d * (d * (a + c))
      twice d a c = simp expand (omega arith)

  xi-term : (u c m j : ℕ) → (let a = state S S' Y j in let b = state S S' Y' j in Size (a.x + b.x') (a.x' + b.x) m) →
      u * (D * m) ≤ c * (D ^ j * factorial (j + 1)) → Near u (exact_term sigma z xi_part 1 j)
      (exact_term sigma v xi_part 1 j) c
  unfolding exact_term
  xi-term u c m j h i =
      near-term u c (D * m) _ _ (D ^ j) (j + 1) (exact_level sigma z j).xi (exact_level sigma v j).xi
      (one-le-pow j D d-above) (xi-minus j) (size-times D h) i

  zeta-term : (u c m j : ℕ) → (let a = state S S' Y j in let b = state S S' Y' j in Size (a.z + b.z') (a.z' + b.z) m) →
      u * (D * (D * m)) ≤ c * (D ^ j * factorial (j + 1)) → Near u (exact_term sigma z zeta_part 1 j)
      (exact_term sigma v zeta_part 1 j) c
  unfolding exact_term
  zeta-term u c m j h i =
      near-term u c (D * (D * m)) _ _ (D ^ j) (j + 1) (exact_level sigma z j).zeta (exact_level sigma v j).zeta
      (one-le-pow j D d-above) (zeta-minus j)
      (size-times D (size-times D h)) i

  -- the first ones are the same
  nothing : (u d e : ℕ) → u * (d * 0) ≤ 0 * e
  nothing u d e = simp zeros (omega arith)

  nothing' : (u d e : ℕ) → u * (d * (d * 0)) ≤ 0 * e
  nothing' u d e = simp zeros (omega arith)

  xi-none : (j : ℕ) → j ≤ 2 → Near w (exact_term sigma z xi_part 1 j) (exact_term sigma v xi_part 1 j) 0
  xi-none zero h = xi-term w 0 0 0 (unfold state in record { above = omega arith; below = omega arith }) (nothing w D _)
  xi-none (suc zero) h = xi-term w 0 0 1 (unfold state in record { above = omega arith; below = omega arith })
      (nothing w D _)
  xi-none (suc (suc zero)) h = xi-term w 0 0 2 (unfold state in record { above = omega arith; below = omega arith })
      (nothing w D _)
  xi-none (suc (suc (suc j))) h = absurd (no j h)
    where
      no : (j : ℕ) → suc (suc (suc j)) ≤ 2 → ⊥
      no j h = omega arith

  zeta-none : (j : ℕ) → j ≤ 3 → Near w (exact_term sigma z zeta_part 1 j) (exact_term sigma v zeta_part 1 j) 0
  zeta-none zero h = zeta-term w 0 0 0 (unfold state in record { above = omega arith; below = omega arith })
      (nothing' w D _)
  zeta-none (suc zero) h = zeta-term w 0 0 1 (unfold state in record { above = omega arith; below = omega arith })
      (nothing' w D _)
  zeta-none (suc (suc zero)) h = zeta-term w 0 0 2
      (unfold state in record { above = omega arith; below = omega arith }) (nothing' w D _)
  zeta-none (suc (suc (suc zero))) h = zeta-term w 0 0 3
      (unfold state in record { above = omega arith; below = omega arith }) (nothing' w D _)
  zeta-none (suc (suc (suc (suc j)))) h = absurd (no j h)
    where
      no : (j : ℕ) → suc (suc (suc (suc j))) ≤ 3 → ⊥
      no j h = omega arith

  -- ---- the others halve
  d-power : (m : ℕ) → D ^ suc (suc m) ≡ D * D * (G ^ m * w ^ m)
  d-power m =
      two_powers D m ∙ ap (λ (x : ℕ). D * D * x) (ap (λ (x : ℕ). x ^ m) (split sigma.d z.d v.d w) ∙ mul-pow G w m)
    where
      split : (s z v w : ℕ) → v * (s * z * w) ≡ s * z * v * w
      split s z v w = simp expand

  q-is : w * Q ≡ k * (D * D)
  q-is = go w k sigma.d z.d v.d
    where
      go : (w k s z v : ℕ) → w * (k * (s * z * v * (s * z * v) * w)) ≡ k * (v * (s * z * w) * (v * (s * z * w)))
      go w k s z v = simp expand

  module _ (b : ℕ) (powers : (m : ℕ) → 2 ^ m * r ^ m ≤ b * (w ^ m * factorial m)) where
    xi-halves : (c : ℕ) → k * b ≤ 24 * c → (m : ℕ) →
        Near (w * 2 ^ m) (exact_term sigma z xi_part 1 (suc (suc (suc m))))
        (exact_term sigma v xi_part 1 (suc (suc (suc m)))) c
    xi-halves c h m =
        let T = triples m in
        let M = 6 * suc (suc (suc (suc m))) in
        let f = factorial m in
        let i = halving w Q k (D * D) T (2 ^ m) (r ^ m) (G ^ m) b (w ^ m) f c 24 M q-is (powers m) h (four m) in
        xi-term (w * 2 ^ m) c (Q * (T * (r * G) ^ m)) (suc (suc (suc m)))
        (x-gap S S' Y Y' _ _ (r * G) Q first z-sum second v-sum y-near m)
        (one (w * 2 ^ m) D Q T (r ^ m * G ^ m) ((r * G) ^ m) c (D * D * (G ^ m * w ^ m)) (D ^ suc (suc m))
        (D ^ suc (suc (suc m))) (T * M * f) (factorial (suc (suc (suc m)) + 1))
        (mul-pow r G m) (d-power m) (pow-suc D (suc (suc m))) (fact_dxi m) i)
      where
        four : (m : ℕ) → 24 ≤ 6 * suc (suc (suc (suc m)))
        four m = omega arith

        one : (u D Q T A P c E E' F K L : ℕ) → P ≡ A → E' ≡ E → F ≡ E' * D → L ≡ K → u * (Q * (T * A)) ≤ c * (E * K) →
            u * (D * (Q * (T * P))) ≤ c * (F * L)
        one u D Q T A P c E E' F K L a b d e h = rw (d, e, a, b) (let x = mul-le-mul_left D h in
            simp expand (omega (arith, simp expand at x)))

    zeta-halves : (c : ℕ) → k * b ≤ 120 * c → (m : ℕ) →
        Near (w * 2 ^ m) (exact_term sigma z zeta_part 1 (suc (suc (suc (suc m)))))
        (exact_term sigma v zeta_part 1 (suc (suc (suc (suc m))))) c
    zeta-halves c h m =
        let T = fours m in
        let M = 24 * suc (suc (suc (suc (suc m)))) in
        let f = factorial m in
        let i = halving w Q k (D * D) T (2 ^ m) (r ^ m) (G ^ m) b (w ^ m) f c 120 M q-is (powers m) h (five m) in
        zeta-term (w * 2 ^ m) c (Q * (T * (r * G) ^ m)) (suc (suc (suc (suc m))))
        (z-gap S S' Y Y' _ _ (r * G) Q first z-sum second v-sum y-near m)
        (one (w * 2 ^ m) D Q T (r ^ m * G ^ m) ((r * G) ^ m) c (D * D * (G ^ m * w ^ m)) (D ^ suc (suc m))
        (D ^ suc (suc (suc (suc m)))) (T * M * f)
        (factorial (suc (suc (suc (suc m))) + 1)) (mul-pow r G m) (d-power m)
        (pow-suc D (suc (suc (suc m))) ∙ ap (λ (x : ℕ). x * D) (pow-suc D (suc (suc m)))) (fact_dzeta m) i)
      where
        five : (m : ℕ) → 120 ≤ 24 * suc (suc (suc (suc (suc m))))
        five m = omega arith

        one : (u D Q T A P c E E' F K L : ℕ) → P ≡ A → E' ≡ E → F ≡ E' * D * D → L ≡ K → u * (Q * (T * A)) ≤ c *
            (E * K) → u * (D * (D * (Q * (T * P)))) ≤ c * (F * L)
        one u D Q T A P c E E' F K L a b d e h = rw (d, e, a, b) (let x = mul-le-mul_left (D * D) h in
            simp expand (omega (arith, simp expand at x)))

    -- v₁ and v₂ of any length from 3 and 4 terms on
    pub v1-apart : (c : ℕ) → k * b ≤ 24 * c → (n : ℕ) → Near w (exact_total (exact_term sigma z xi_part 1) (3 + n))
        (exact_total (exact_term sigma v xi_part 1) (3 + n)) (2 * c)
    v1-apart c h = totals-near (exact_term sigma z xi_part 1) (exact_term sigma v xi_part 1) w c 3
        (three w (exact_term sigma z xi_part 1) (exact_term sigma v xi_part 1) (xi-none 0 (lit≤ tt))
        (xi-none 1 (lit≤ tt)) (xi-none 2 (lit≤ tt)))
        (λ m. subst (λ (j : ℕ). Near (w * 2 ^ m) (exact_term sigma z xi_part 1 j) (exact_term sigma v xi_part 1 j) c)
        (sym (plus_three m)) (xi-halves c h m))

    pub v2-apart : (c : ℕ) → k * b ≤ 120 * c → (n : ℕ) → Near w (exact_total (exact_term sigma z zeta_part 1) (4 + n))
        (exact_total (exact_term sigma v zeta_part 1) (4 + n)) (2 * c)
    v2-apart c h = totals-near (exact_term sigma z zeta_part 1) (exact_term sigma v zeta_part 1) w c 4
        (one-more w (exact_term sigma z zeta_part 1) (exact_term sigma v zeta_part 1) 3
        (three w (exact_term sigma z zeta_part 1) (exact_term sigma v zeta_part 1) (zeta-none 0 (lit≤ tt))
        (zeta-none 1 (lit≤ tt)) (zeta-none 2 (lit≤ tt))) (zeta-none 3 (lit≤ tt)))
        (λ m. subst (λ (j : ℕ). Near (w * 2 ^ m) (exact_term sigma z zeta_part 1 j) (exact_term sigma v zeta_part 1 j)
        c) (sym (plus_four m)) (zeta-halves c h m))

-- ---- 2^m r^m is at most b m! times the m-th power of the unit: four of them, and then by induction
pub powers-most : (w r b : ℕ) → r ≤ 2 * w → r ^ 0 ≤ b * (w ^ 0 * 1) → 2 * r ^ 1 ≤ b * (w ^ 1 * 1) →
    4 * r ^ 2 ≤ b * (w ^ 2 * 2) → 8 * r ^ 3 ≤ b * (w ^ 3 * 6) →
    (m : ℕ) → 2 ^ m * r ^ m ≤ b * (w ^ m * factorial m)
unfolding factorial
powers-most w r b h h0 h1 h2 h3 zero = rw pow-zero (le_trans (le_of_eq (one-mul (r ^ 0))) h0)
powers-most w r b h h0 h1 h2 h3 (suc zero) = h1
powers-most w r b h h0 h1 h2 h3 (suc (suc zero)) = h2
powers-most w r b h h0 h1 h2 h3 (suc (suc (suc zero))) = h3
powers-most w r b h h0 h1 h2 h3 (suc (suc (suc (suc m)))) =
    rw (pow-suc 2 (suc (suc (suc m))), pow-suc r (suc (suc (suc m))), pow-suc w (suc (suc (suc m))))
    (go (2 ^ suc (suc (suc m))) (r ^ suc (suc (suc m))) (w ^ suc (suc (suc m))) (factorial (suc (suc (suc m))))
    (suc (suc (suc (suc m)))) w r b
    (le_trans (mul-le-mul_left 2 h) (more w m)) (powers-most w r b h h0 h1 h2 h3 (suc (suc (suc m)))))
  where
    go : (p a u f n w r b : ℕ) → 2 * r ≤ n * w → p * a ≤ b * (u * f) → p * 2 * (a * r) ≤ b * (u * w * (n * f))
    go p a u f n w r b h i = let x = mul-le-mul i h in simp expand (omega (arith, simp expand at x))

    more : (w m : ℕ) → 2 * (2 * w) ≤ suc (suc (suc (suc m))) * w
    more w m = let x : 4 * w ≤ suc (suc (suc (suc m))) * w = mul-le-mul_right w (omega arith) in omega arith
