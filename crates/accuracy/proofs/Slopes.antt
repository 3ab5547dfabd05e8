-- The derivatives by theta² of the sequences of Powers.antt, and their sizes. Assumes nothing.
use mathlib.Core.Path.{◌≡◌, refl, sym, ap, ◌∙◌}
use Prim.Native.Nat.{ℕ, zero, suc, ◌+◌, ◌*◌, ◌^◌, ◌≤◌}
use native.Mathlib.Nat.{mul-add, mul_assoc, mul_comm, one-mul, suc-mul, mul-zero, mul-le-mul_left, pow-suc, pow-zero}
use native.Mathlib.Omega.{arith}
use Rattle.rounding.proofs.Differences.{expand}
use Rattle.accuracy.proofs.Powers.{State, state, s_size, x-size, pairs, twice_pairs}
use Rattle.rounding.proofs.Squares.{Size, size-product, size-sum, size_same}

-- a = x', b = z' by theta²; g is the derivative of h
pub record Slope : Type 0 where
  pub a : ℕ
  pub a' : ℕ
  pub b : ℕ
  pub b' : ℕ

abbrev pub slope_step : ℕ → ℕ → ℕ → State → Slope → Slope
slope_step s s' y c d =
    record {
      a = s * d.a + s' * d.a' + c.z' + y * d.b';
      a' = s * d.a' + s' * d.a + c.z + y * d.b;
      b = s * d.b + s' * d.b' + d.a;
      b' = s * d.b' + s' * d.b + d.a';
    }

unfoldable pub slope : ℕ → ℕ → ℕ → ℕ → Slope
slope s s' y zero = record { a = 0; a' = 0; b = 0; b' = 0 }
slope s s' y (suc j) = slope_step s s' y (state s s' y j) (slope s s' y j)

-- 2 g = - m x of the level before, with g = - z - y b; and 2 y a = m h of the level before - x
abbrev FirstIn : ℕ → ℕ → State → State → Slope → Type 0
FirstIn y m p c d = 2 * (c.z + y * d.b) + m * p.x' ≡ 2 * (c.z' + y * d.b') + m * p.x

abbrev Second : ℕ → ℕ → State → State → Slope → Type 0
Second y m p c d = 2 * (y * d.a) + c.x + m * p.h' ≡ 2 * (y * d.a') + c.x' + m * p.h

first_step : (s s' y m x x' h h' z z' a a' b b' : ℕ) → 2 * (z + y * b) + m * x' ≡ 2 * (z' + y * b') + m * x →
    2 * (y * a) +
    (s * x + s' * x' + h) + m * h' ≡ 2 * (y * a') + (s * x' + s' * x + h') + m * h
    → 2 * (s * z + s' * z' + (s * x + s' * x' + h) + y * (s * b + s' * b' + a)) + suc m * (s * x' + s' * x + h') ≡ 2 *
    (s * z' + s' * z + (s * x' + s' * x + h') + y * (s * b' + s' * b + a')) + suc m * (s * x + s' * x' + h)
first_step s s' y m x x' h h' z z' a a' b b' i k =
    rw (suc-mul m (s * x' + s' * x + h'), suc-mul m (s * x + s' * x' + h))
    (go s s' y m x x' h h' z z' a a' b b' (ap (λ (c : ℕ). s * c) i) (ap (λ (c : ℕ). s' * c) i) k)
  where
    go : (s s' y m x x' h h' z z' a a' b b' : ℕ) → s * (2 * (z + y * b) + m * x') ≡ s * (2 * (z' + y * b') + m * x) →
        s' * (2 * (z + y * b) + m * x') ≡ s' * (2 * (z' + y * b') + m * x)
        → 2 * (y * a) + (s * x + s' * x' + h) + m * h' ≡ 2 * (y * a') + (s * x' + s' * x + h') + m * h
        → 2 * (s * z + s' * z' + (s * x + s' * x' + h) + y * (s * b + s' * b' + a))
        + (m * (s * x' + s' * x + h') + (s * x' + s' * x + h')) ≡ 2 *
        (s * z' + s' * z + (s * x' + s' * x + h') + y * (s * b' + s' * b + a'))
        + (m * (s * x + s' * x' + h) + (s * x + s' * x' + h))
    go s s' y m x x' h h' z z' a a' b b' i j k = simp expand (omega (arith, simp expand at i, simp expand at j, k))

second-step : (s s' y m x x' h h' X X' a a' z z' b b' : ℕ) → 2 * (z + y * b) + m * x' ≡ 2 * (z' + y * b') + m * x →
    2 * (y * a) + X + m * h' ≡ 2 * (y * a') + X' + m * h
    → 2 * (y * (s * a + s' * a' + z' + y * b')) + (s * X + s' * X' + (s * h + s' * h' + y * x')) + suc m
    * (s * h' + s' * h + y * x)
    ≡ 2 * (y * (s * a' + s' * a + z + y * b)) + (s * X' + s' * X + (s * h' + s' * h + y * x)) + suc m
    * (s * h + s' * h' + y * x')
second-step s s' y m x x' h h' X X' a a' z z' b b' i k =
    rw (suc-mul m (s * h' + s' * h + y * x), suc-mul m (s * h + s' * h' + y * x'))
    (go s s' y m x x' h h' X X' a a' z z' b b' (ap (λ (c : ℕ). y * c) i) (ap (λ (c : ℕ). s * c) k)
    (ap (λ (c : ℕ). s' * c) k))
  where
    go : (s s' y m x x' h h' X X' a a' z z' b b' : ℕ) → y * (2 * (z + y * b) + m * x')
        ≡ y * (2 * (z' + y * b') + m * x) → s *
        (2 * (y * a) + X + m * h') ≡ s * (2 * (y * a') + X' + m * h) →
        s' * (2 * (y * a) + X + m * h') ≡ s' * (2 * (y * a') + X' + m * h)
        → 2 * (y * (s * a + s' * a' + z' + y * b')) + (s * X + s' * X' + (s * h + s' * h' + y * x'))
        + (m * (s * h' + s' * h + y * x) + (s * h' + s' * h + y * x))
        ≡ 2 * (y * (s * a' + s' * a + z + y * b)) + (s * X' + s' * X + (s * h' + s' * h + y * x))
        + (m * (s * h + s' * h' + y * x') + (s * h + s' * h' + y * x'))
    go s s' y m x x' h h' X X' a a' z z' b b' i j k =
        simp expand (omega (arith, simp expand at i, simp expand at j, simp expand at k))

module _ (s s' y : ℕ) where
  both : (j : ℕ) → FirstIn y (suc j) (state s s' y j) (state s s' y (suc j)) (slope s s' y (suc j))
      × Second y (suc j) (state s s' y j) (state s s' y (suc j)) (slope s s' y (suc j))
  unfolding state slope
  both zero = (omega arith, omega arith)
  both (suc j) =
      let p = state s s' y j in
      let c = state s s' y (suc j) in
      let d = slope s s' y (suc j) in
      let i = both j in (
        first_step s s' y (suc j) p.x p.x' p.h p.h' c.z c.z' d.a d.a' d.b d.b' i.0 i.1,
        second-step s s' y (suc j) p.x p.x' p.h p.h' c.x c.x' d.a d.a' c.z c.z' d.b d.b' i.0 i.1,
      )

-- ---- j (j - 1) (j - 2) / 6 from j = 3 on, and with one more factor / 24 from j = 4 on
unfoldable pub triples : ℕ → ℕ
unfolding pairs
triples zero = 1
triples (suc j) = triples j + pairs (suc j)

unfoldable pub fours : ℕ → ℕ
unfolding triples
fours zero = 1
fours (suc j) = fours j + triples (suc j)

half-size : (g g' m x x' b : ℕ) → 2 * g + m * x' ≡ 2 * g' + m * x → Size x x' b → Size (2 * g) (2 * g') (m * b)
half-size g g' m x x' b h k =
    let p = mul-le-mul_left m k.above in
    let q = mul-le-mul_left m k.below in
    record { above = omega (arith, simp mul-add at p); below = omega (arith, simp mul-add at q) }

halved : (g g' m c r : ℕ) → m ≡ 2 * c → Size (2 * g) (2 * g') (m * r) → Size g g' (c * r)
halved g g' m c r e h =
    let i : m * r ≡ 2 * (c * r) = ap (λ (k : ℕ). k * r) e ∙ mul_assoc 2 c r in
    let a = h.above in
    let b = h.below in
    record { above = omega arith; below = omega arith }

swap : (p n b : ℕ) → Size p n b → Size n p b
swap p n b h = record { above = h.below; below = h.above }

pub regroup_size : (p q x p' q' x' c : ℕ) → Size (p + (q + x)) (p' + (q' + x')) c → Size (p + q + x) (p' + q' + x') c
regroup_size p q x p' q' x' c h =
    let i = h.above in let k = h.below in record { above = omega arith; below = omega arith }

-- 6 and 24 times these
six_step : (t p a q : ℕ) → 6 * t ≡ a * q → 2 * p ≡ q → 6 * (t + p) ≡ suc (suc (suc a)) * q
six_step t p a q h k = rw (suc-mul (suc (suc a)) q, suc-mul (suc a) q, suc-mul a q) (omega arith)

four-step : (t p a q : ℕ) → 24 * t ≡ a * q → 6 * p ≡ q → 24 * (t + p) ≡ suc (suc (suc (suc a))) * q
four-step t p a q h k =
    rw (suc-mul (suc (suc (suc a))) q, suc-mul (suc (suc a)) q, suc-mul (suc a) q, suc-mul a q) (omega arith)

turn3 : (a b c : ℕ) → a * (b * c) ≡ b * (c * a)
turn3 a b c = simp expand

turn4 : (a b c d : ℕ) → a * (b * (c * d)) ≡ b * (c * (d * a))
turn4 a b c d = simp expand

pub six_triples : (j : ℕ) → 6 * triples j ≡ suc j * (suc (suc j) * suc (suc (suc j)))
unfolding triples
six_triples zero = refl
six_triples (suc j) =
    six_step (triples j) (pairs (suc j)) (suc j) (suc (suc j) * suc (suc (suc j))) (six_triples j) (twice_pairs (suc j))
    ∙ turn3 (suc (suc (suc (suc j)))) (suc (suc j)) (suc (suc (suc j)))

pub four_fours : (j : ℕ) → 24 * fours j ≡ suc j * (suc (suc j) * (suc (suc (suc j)) * suc (suc (suc (suc j)))))
unfolding fours
four_fours zero = refl
four_fours (suc j) =
    four-step (fours j) (triples (suc j)) (suc j) (suc (suc j) * (suc (suc (suc j)) * suc (suc (suc (suc j)))))
    (four_fours j) (six_triples (suc j))
    ∙ turn4 (suc (suc (suc (suc (suc j))))) (suc (suc j)) (suc (suc (suc j))) (suc (suc (suc (suc j))))

pub grow : (c d r k : ℕ) → r * (c * k) + d * (k * r) ≡ (c + d) * (k * r)
grow c d r k = simp expand (omega arith)

module _ (s s' y t r : ℕ) (e : s * s + s' * s' + y ≡ t + 2 * (s * s')) (b : t ≤ r * r) where
  -- g of level j + 2
  g_size : (j : ℕ) → (let c = state s s' y (suc (suc j)) in let d = slope s s' y (suc (suc j)) in
      Size (c.z' + y * d.b') (c.z + y * d.b) (pairs j * r ^ j))
  g_size j =
      let c = state s s' y (suc (suc j)) in
      let d = slope s s' y (suc (suc j)) in
      let p = state s s' y (suc j) in
      swap (c.z + y * d.b) (c.z' + y * d.b') (pairs j * r ^ j)
      (halved (c.z + y * d.b) (c.z' + y * d.b') (suc (suc j) * suc j) (pairs j) (r ^ j)
      (mul_comm (suc (suc j)) (suc j) ∙ sym (twice_pairs j))
      (size_same (2 * (c.z + y * d.b)) (2 * (c.z' + y * d.b')) (suc (suc j) * (suc j * r ^ j))
      (suc (suc j) * suc j * r ^ j) (sym (mul_assoc (suc (suc j)) (suc j) (r ^ j)))
      (half-size (c.z + y * d.b) (c.z' + y * d.b') (suc (suc j)) p.x p.x' (suc j * r ^ j) (both s s' y (suc j)).0
      (x-size s s' y t r e b j))))

  a_two : Size (slope s s' y 2).a (slope s s' y 2).a' 0
  unfolding state slope
  a_two = record { above = omega arith; below = omega arith }

  g_two : Size ((state s s' y 2).z' + y * (slope s s' y 2).b') ((state s s' y 2).z + y * (slope s s' y 2).b) 1
  unfolding pairs
  g_two =
      size_same ((state s s' y 2).z' + y * (slope s s' y 2).b') ((state s s' y 2).z + y * (slope s s' y 2).b)
      (1 * r ^ 0) 1 (one-mul (r ^ 0) ∙ pow-zero r) (g_size zero)

  pub a-size : (j : ℕ) → Size (slope s s' y (suc (suc (suc j)))).a (slope s s' y (suc (suc (suc j)))).a'
      (triples j * r ^ j)
  unfolding slope triples
  a-size zero =
      let c = state s s' y 2 in
      let d = slope s s' y 2 in
      rw pow-zero (regroup_size (s * d.a + s' * d.a') c.z' (y * d.b') (s * d.a' + s' * d.a) c.z (y * d.b) 1
      (size-sum (s * d.a + s' * d.a') (s * d.a' + s' * d.a) (c.z' + y * d.b') (c.z + y * d.b) 0 1
      (size_same (s * d.a + s' * d.a') (s * d.a' + s' * d.a) (r * 0) 0 (mul-zero r)
      (size-product s s' d.a d.a' r 0 (s_size s s' y t r e b) a_two)) g_two))
  a-size (suc j) =
      let c = state s s' y (suc (suc (suc j))) in
      let d = slope s s' y (suc (suc (suc j))) in
      rw pow-suc (regroup_size (s * d.a + s' * d.a') c.z' (y * d.b') (s * d.a' + s' * d.a) c.z (y * d.b)
      ((triples j + pairs (suc j)) * (r ^ j * r))
      (size_same (s * d.a + s' * d.a' + (c.z' + y * d.b')) (s * d.a' + s' * d.a + (c.z + y * d.b))
      (r * (triples j * r ^ j) + pairs (suc j) * (r ^ j * r)) ((triples j + pairs (suc j)) * (r ^ j * r))
      (grow (triples j) (pairs (suc j)) r (r ^ j))
      (size-sum (s * d.a + s' * d.a') (s * d.a' + s' * d.a) (c.z' + y * d.b') (c.z + y * d.b) (r * (triples j * r ^ j))
      (pairs (suc j) * (r ^ j * r))
      (size-product s s' d.a d.a' r (triples j * r ^ j) (s_size s s' y t r e b) (a-size j))
      (rw pow-suc at (g_size (suc j))))))

  b-three : Size (slope s s' y 3).b (slope s s' y 3).b' 0
  unfolding state slope
  b-three = record { above = omega arith; below = omega arith }

  a-three : Size (slope s s' y 3).a (slope s s' y 3).a' 1
  unfolding triples
  a-three = size_same (slope s s' y 3).a (slope s s' y 3).a' (1 * r ^ 0) 1 (one-mul (r ^ 0) ∙ pow-zero r) (a-size zero)

  pub b-size : (j : ℕ) → Size (slope s s' y (suc (suc (suc (suc j))))).b (slope s s' y (suc (suc (suc (suc j))))).b'
      (fours j * r ^ j)
  unfolding slope fours
  b-size zero =
      let d = slope s s' y 3 in
      rw pow-zero (size-sum (s * d.b + s' * d.b') (s * d.b' + s' * d.b) d.a d.a' 0 1
      (size_same (s * d.b + s' * d.b') (s * d.b' + s' * d.b) (r * 0) 0 (mul-zero r)
      (size-product s s' d.b d.b' r 0 (s_size s s' y t r e b) b-three)) a-three)
  b-size (suc j) =
      let d = slope s s' y (suc (suc (suc (suc j)))) in
      rw pow-suc
      (size_same (s * d.b + s' * d.b' + d.a) (s * d.b' + s' * d.b + d.a')
      (r * (fours j * r ^ j) + triples (suc j) * (r ^ j * r))
      ((fours j + triples (suc j)) * (r ^ j * r)) (grow (fours j) (triples (suc j)) r (r ^ j))
      (size-sum (s * d.b + s' * d.b') (s * d.b' + s' * d.b) d.a d.a' (r * (fours j * r ^ j))
      (triples (suc j) * (r ^ j * r))
      (size-product s s' d.b d.b' r (fours j * r ^ j) (s_size s s' y t r e b) (b-size j))
      (rw pow-suc at (a-size (suc j)))))
