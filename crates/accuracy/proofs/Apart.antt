-- How far the levels of the series at one z are from those at another, by the norm of Powers.antt. Assumes nothing.
use mathlib.Core.Path.{◌≡◌, sym, subst, subst₂}
use Prim.Native.Nat.{ℕ, zero, suc, ◌+◌, ◌-◌, ◌*◌, ◌^◌, ◌≤◌}
use native.Mathlib.Nat.{le_trans, le_of_eq, mul-zero, mul-le-mul, mul-le-mul_left, mul-mul-mul_comm, pow-suc}
use native.Mathlib.Omega.{arith}
use Rattle.rounding.proofs.Differences.{expand}
use Rattle.rounding.proofs.Squares.{Size, size-root, size-product, size-sum, twice-le}
use Rattle.accuracy.proofs.Powers.{state, norm_step, pairs, x-size}
use Rattle.accuracy.proofs.Slopes.{triples, fours}

-- (h - h')² + y (x - x')² is at most m²
record NormMost (y h h' x x' m : ℕ) : Type 0 where
  most : h * h + h' * h' + y * (x * x + x' * x') ≤ m * m + (2 * (h * h') + y * (2 * (x * x')))

norm-same : (y h h' x x' m i i' v v' : ℕ) → h ≡ i → h' ≡ i' → x ≡ v → x' ≡ v' → NormMost y h h' x x' m →
    NormMost y i i' v v' m
norm-same y h h' x x' m i i' v v' a b c d n =
    subst₂ (λ (p q : ℕ). NormMost y p q v v' m) a b (subst₂ (λ (p q : ℕ). NormMost y h h' p q m) c d n)

norm-less : (y h h' x x' m : ℕ) → NormMost y h h' x x' m → Size h h' m
norm-less y h h' x x' m n = size-root h h' m (go (mul-le-mul_left y (twice-le x x')) n.most)
  where
    go : y * (2 * (x * x')) ≤ y * (x * x + x' * x') →
        h * h + h' * h' + y * (x * x + x' * x') ≤ m * m + (2 * (h * h') + y * (2 * (x * x'))) →
        h * h + h' * h' ≤ m * m + 2 * (h * h')
    go a b = omega arith

-- times s + i θ
norm-times : (s s' y t r h h' x x' m : ℕ) → s * s + s' * s' + y ≡ t + 2 * (s * s') → t ≤ r * r →
    NormMost y h h' x x' m →
    NormMost y (s * h + s' * h' + y * x') (s * h' + s' * h + y * x) (s * x + s' * x' + h) (s * x' + s' * x + h') (r * m)
norm-times s s' y t r h h' x x' m e b n =
    let q = h * h + h' * h' + y * (x * x + x' * x') in
    let k = 2 * (h * h') + y * (2 * (x * x')) in
    let l : k ≤ q = under (twice-le h h') (mul-le-mul_left y (twice-le x x')) in
    let i = norm_step s s' y t h h' x x' (q - k) e (back q k l) in
    let j : t * (q - k) ≤ r * m * (r * m) = le_trans (mul-le-mul b (left q k (m * m) n.most))
    (le_of_eq (mul-mul-mul_comm r r m m)) in
    record { most = le_trans (le_of_eq i) (more (t * (q - k)) (r * m * (r * m)) _ j) }
  where
    under : 2 * (h * h') ≤ h * h + h' * h' → y * (2 * (x * x')) ≤ y * (x * x + x' * x') →
        2 * (h * h') + y * (2 * (x * x')) ≤ h * h + h' * h' + y * (x * x + x' * x')
    under a b = omega arith

    back : (q k : ℕ) → k ≤ q → q ≡ q - k + k
    back q k h = omega arith

    left : (q k m : ℕ) → q ≤ m + k → q - k ≤ m
    left q k m h = omega arith

    more : (a b c : ℕ) → a ≤ b → a + c ≤ b + c
    more a b c h = omega arith

-- with a number more
norm-more : (y a a' b b' m p n e : ℕ) → NormMost y a a' b b' m → Size p n e → NormMost y (a + n) (a' + p) b b' (m + e)
norm-more y a a' b b' m p n e h k =
    let s = norm-less y a a' b b' m h in
    let c = (size-product a a' n p m e s (record { above = k.below; below = k.above })).above in
    let d = (size-product p n p n e e k k).above in
    let i = h.most in
    record { most = simp expand (omega (arith, simp expand at i, c, d)) }

norm-shift : (y p n c b b' m : ℕ) → NormMost y (p + c) (n + c) b b' m → NormMost y p n b b' m
norm-shift y p n c b b' m h = let i = h.most in record { most = simp expand (omega (arith, simp expand at i)) }

module _ (s s' y v t i r q : ℕ) (e : s * s + s' * s' + y ≡ t + 2 * (s * s')) (b : t ≤ r * r)
    (e' : s * s + s' * s' + v ≡ i + 2 * (s * s')) (b' : i ≤ r * r) (near : Size y v q) where
  -- the differences of two levels
  abbrev Norm : ℕ → ℕ → Type 0
  Norm j m = let a = state s s' y j in let c = state s s' v j in NormMost y (a.h + c.h') (a.h' + c.h) (a.x + c.x')
      (a.x' + c.x) m

  regroup : (s s' ax ax' cx cx' ah ch' : ℕ) → s * (ax + cx') + s' * (ax' + cx) + (ah + ch') ≡ s * ax + s' * ax' + ah +
      (s * cx' + s' * cx + ch')
  regroup s s' ax ax' cx cx' ah ch' = simp expand (omega arith)

  norm-next : (j m : ℕ) → Norm (suc j) m → Norm (suc (suc j)) (r * m + q * (suc j * r ^ j))
  unfolding state
  norm-next j m h =
      let a = state s s' y (suc j) in
      let c = state s s' v (suc j) in
      let n = norm-times s s' y t r (a.h + c.h') (a.h' + c.h) (a.x + c.x') (a.x' + c.x) m e b h in
      let k = size-product y v c.x c.x' q (suc j * r ^ j) near (x-size s s' v i r e' b' j) in
      let l = norm-more y _ _ _ _ (r * m) (y * c.x + v * c.x') (y * c.x' + v * c.x) (q * (suc j * r ^ j)) n k in
      norm-shift y _ _ (y * (c.x + c.x')) _ _ (r * m + q * (suc j * r ^ j))
      (norm-same y _ _ _ _ (r * m + q * (suc j * r ^ j)) _ _ _ _
      (first s s' y v a.h a.h' c.h c.h' a.x' c.x c.x') (second s s' y v a.h a.h' c.h c.h' a.x c.x c.x')
      (regroup s s' a.x a.x' c.x c.x' a.h c.h') (regroup s s' a.x' a.x c.x' c.x a.h' c.h) l)
    where
      first : (s s' y v ah ah' ch ch' ax' cx cx' : ℕ) → s * (ah + ch') + s' * (ah' + ch) + y * (ax' + cx) +
          (y * cx' + v * cx) ≡
          s * ah + s' * ah' + y * ax' + (s * ch' + s' * ch + v * cx) + y * (cx + cx')
      first s s' y v ah ah' ch ch' ax' cx cx' = simp expand (omega arith)

      second : (s s' y v ah ah' ch ch' ax cx cx' : ℕ) → s * (ah' + ch) + s' * (ah + ch') + y * (ax + cx') +
          (y * cx + v * cx') ≡
          s * ah' + s' * ah + y * ax + (s * ch + s' * ch' + v * cx') + y * (cx + cx')
      second s s' y v ah ah' ch ch' ax cx cx' = simp expand (omega arith)

  norm-one : Norm 1 0
  unfolding state
  norm-one = record { most = simp expand (omega arith) }

  start-of : (r q k : ℕ) → r * 0 + q * (1 * k) ≡ q * (1 * k)
  start-of r q k = simp mul-zero (omega arith)

  next-of : (r q c d k l : ℕ) → l ≡ k * r → r * (q * (c * k)) + q * (d * l) ≡ q * ((c + d) * l)
  next-of r q c d k l e = subst (λ (l : ℕ). r * (q * (c * k)) + q * (d * l) ≡ q * ((c + d) * l)) (sym e) (go r q c d k)
    where
      go : (r q c d k : ℕ) → r * (q * (c * k)) + q * (d * (k * r)) ≡ q * ((c + d) * (k * r))
      go r q c d k = simp expand (omega arith)

  -- from level 2 on: q j (j - 1) / 2 r ^ (j - 2)
  norm-gap : (j : ℕ) → Norm (suc (suc j)) (q * (pairs j * r ^ j))
  unfolding pairs
  norm-gap zero = subst (λ (m : ℕ). Norm 2 m) (start-of r q (r ^ 0)) (norm-next 0 0 norm-one)
  norm-gap (suc j) =
      subst (λ (m : ℕ). Norm (suc (suc (suc j))) m) (next-of r q (pairs j) (suc (suc j)) (r ^ j) (r ^ suc j)
      (pow-suc r j))
      (norm-next (suc j) (q * (pairs j * r ^ j)) (norm-gap j))

  abbrev XGap : ℕ → ℕ → Type 0
  XGap j m = let a = state s s' y j in let c = state s s' v j in Size (a.x + c.x') (a.x' + c.x) m

  abbrev ZGap : ℕ → ℕ → Type 0
  ZGap j m = let a = state s s' y j in let c = state s s' v j in Size (a.z + c.z') (a.z' + c.z) m

  s-most : Size s s' r
  s-most = size-root s s' r (omega arith)

  size-like : (p n m p' n' : ℕ) → p ≡ p' → n ≡ n' → Size p n m → Size p' n' m
  size-like p n m p' n' a b h = subst₂ (λ (x z : ℕ). Size x z m) a b h

  -- a step of x from h, and of z from x
  x-next : (j m k : ℕ) → XGap j m → Norm j k → XGap (suc j) (r * m + k)
  unfolding state
  x-next j m k h n =
      let a = state s s' y j in
      let c = state s s' v j in
      size-like _ _ (r * m + k) _ _ (regroup s s' a.x a.x' c.x c.x' a.h c.h') (regroup s s' a.x' a.x c.x' c.x a.h' c.h)
      (size-sum _ _ _ _ (r * m) k (size-product s s' (a.x + c.x') (a.x' + c.x) r m s-most h) (norm-less y _ _ _ _ k n))

  z-next : (j m k : ℕ) → ZGap j m → XGap j k → ZGap (suc j) (r * m + k)
  unfolding state
  z-next j m k h n =
      let a = state s s' y j in
      let c = state s s' v j in
      size-like _ _ (r * m + k) _ _ (regroup s s' a.z a.z' c.z c.z' a.x c.x') (regroup s s' a.z' a.z c.z' c.z a.x' c.x)
      (size-sum _ _ _ _ (r * m) k (size-product s s' (a.z + c.z') (a.z' + c.z) r m s-most h) n)

  x-two : XGap 2 0
  unfolding state
  x-two = record { above = omega arith; below = omega arith }

  z-three : ZGap 3 0
  unfolding state
  z-three = record { above = omega arith; below = omega arith }

  pub x-gap : (j : ℕ) → XGap (suc (suc (suc j))) (q * (triples j * r ^ j))
  unfolding triples pairs
  x-gap zero = subst (λ (m : ℕ). XGap 3 m) (start-of r q (r ^ 0)) (x-next 2 0 _ x-two (norm-gap 0))
  x-gap (suc j) =
      subst (λ (m : ℕ). XGap (suc (suc (suc (suc j)))) m) (next-of r q (triples j) (pairs (suc j)) (r ^ j) (r ^ suc j)
      (pow-suc r j))
      (x-next (suc (suc (suc j))) _ _ (x-gap j) (norm-gap (suc j)))

  pub z-gap : (j : ℕ) → ZGap (suc (suc (suc (suc j)))) (q * (fours j * r ^ j))
  unfolding fours triples
  z-gap zero = subst (λ (m : ℕ). ZGap 4 m) (start-of r q (r ^ 0)) (z-next 3 0 _ z-three (x-gap 0))
  z-gap (suc j) =
      subst (λ (m : ℕ). ZGap (suc (suc (suc (suc (suc j))))) m) (next-of r q (fours j) (triples (suc j)) (r ^ j)
      (r ^ suc j) (pow-suc r j))
      (z-next (suc (suc (suc (suc j)))) _ _ (z-gap j) (x-gap (suc j)))
