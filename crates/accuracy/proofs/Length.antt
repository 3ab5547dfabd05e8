-- Lengths of quaternions of differences over a denominator: of a product, of a sum, of what has small numbers. Assumes
-- nothing.
use mathlib.Core.Path.{◌≡◌, sym, ap, ◌∙◌, subst₂}
use Prim.Native.Nat.{ℕ, ◌+◌, ◌*◌, ◌≤◌, ◌<◌}
use native.Mathlib.Nat.{le_trans, mul-add, mul_comm, mul-mul-mul_comm, zero-mul, add-zero, mul-pos, mul-le-mul}
use native.Mathlib.Nat.{mul-le-mul_left, mul-le-mul_right, le_of_mul-le-mul_right}
use native.Mathlib.Omega.{arith}
use Rattle.rounding.proofs.Differences.{expand, product}
use Rattle.rounding.proofs.Squares.{twice-le, root}
use Rattle.rounding.proofs.Ring.{Gap, ◌⊕◌, ◌⊗◌, whole}
use Rattle.accuracy.proofs.Euler.{Quad, ◌⊖◌, hamilton, squared, euler}

-- the length of a / e is at most b / w
pub record Long (w : ℕ) (a : Quad Gap) (e b : ℕ) : Type 0 where
  pub magnitude : w * w * (squared a).p ≤ w * w * (squared a).n + b * b * (e * e)

-- within a greater bound
pub long_wider : (w : ℕ) (a : Quad Gap) (e b c : ℕ) → b ≤ c → Long w a e b → Long w a e c
long_wider w a e b c l h =
    record { magnitude = le_trans h.magnitude (more _ _ _ (mul-le-mul_right (e * e) (mul-le-mul l l))) }
  where
    more : (n x y : ℕ) → x ≤ y → n + x ≤ n + y
    more n x y h = omega arith

-- ---- a square is not below 0
square-up : (a : Gap) → (a ⊗ a).n ≤ (a ⊗ a).p
square-up a = let h = twice-le a.p a.n in let k = mul_comm a.p a.n in omega arith

pub squared-up : (q : Quad Gap) → (squared q).n ≤ (squared q).p
squared-up q =
    let a = square-up q.w in
    let b = square-up q.x in
    let c = square-up q.y in
    let d = square-up q.z in
    four (q.w ⊗ q.w).p (q.w ⊗ q.w).n (q.x ⊗ q.x).p (q.x ⊗ q.x).n (q.y ⊗ q.y).p (q.y ⊗ q.y).n (q.z ⊗ q.z).p
    (q.z ⊗ q.z).n a b c d
  where
    four : (a a' b b' c c' d d' : ℕ) → a' ≤ a → b' ≤ b → c' ≤ c → d' ≤ d → a' + b' + c' + d' ≤ a + b + c + d
    four a a' b b' c c' d d' h i j k = omega arith

-- ---- a product
product_whole : (w p n q m a c : ℕ) → w * w * p * (w * w * q) + w * w * n * (w * w * m)
    ≤ w * w * p * (w * w * m) + w * w * n * (w * w * q) + a * c
    → w * w * (w * w * (p * q + n * m)) ≤ w * w * (w * w * (p * m + n * q)) + a * c
product_whole w p n q m a c h = simp expand (omega (arith, simp expand at h))

euler_whole : (v hp hn kp kn c : ℕ) → hp + kn ≡ hn + kp → v * kp ≤ v * kn + c → v * hp ≤ v * hn + c
euler_whole v hp hn kp kn c h k = let a = ap (λ (i : ℕ). v * i) h in omega (arith, simp mul-add at a)

factors : (w b c d e g : ℕ) → b * c ≤ d * w → b * b * (e * e) * (c * c * (g * g)) ≤ w * w * (d * d * (e * g * (e * g)))
factors w b c d e g h =
    let a : b * c * (b * c) ≤ d * w * (d * w) = mul-le-mul h h in
    let k = mul-le-mul_right (e * e * (g * g)) a in
    simp expand (omega (arith, simp expand at k))

cancel_w : (w p n c : ℕ) → 0 < w → w * w * (w * w * p) ≤ w * w * (w * w * n) + w * w * c → w * w * p ≤ w * w * n + c
cancel_w w p n c z h = le_of_mul-le-mul_right {k = w * w} (go (w * w) p n c h) (mul-pos z z)
  where
    go : (v p n c : ℕ) → v * (v * p) ≤ v * (v * n) + v * c → v * p * v ≤ (v * n + c) * v
    go v p n c h = simp expand (omega (arith, h))

pub long_product : (w : ℕ) (a c : Quad Gap) (e g b d h : ℕ) → 0 < w → Long w a e b → Long w c g d → b * d ≤ h * w →
    Long w (hamilton a c) (e * g) h
long_product w a c e g b d h z la lc l =
    let A = squared a in
    let C = squared c in
    let v = w * w in
    let au = mul-le-mul_left v (squared-up a) in
    let cu = mul-le-mul_left v (squared-up c) in
    let t = product (v * A.p) (v * A.n) (v * C.p) (v * C.n) (b * b * (e * e)) (d * d * (g * g)) la.magnitude
    (up (v * A.n) (v * A.p) (b * b * (e * e)) au) lc.magnitude (up (v * C.n) (v * C.p) (d * d * (g * g)) cu) in
    let u = product_whole w A.p A.n C.p C.n (b * b * (e * e)) (d * d * (g * g)) t in
    let k : v * (v * (squared (hamilton a c)).p) ≤ v * (v * (squared (hamilton a c)).n) + b * b * (e * e)
    * (d * d * (g * g)) =
    two_euler v (squared (hamilton a c)).p (squared (hamilton a c)).n (A ⊗ C).p (A ⊗ C).n
    (b * b * (e * e) * (d * d * (g * g))) (euler a c) u in
    record {
      magnitude = cancel_w w (squared (hamilton a c)).p (squared (hamilton a c)).n (h * h * (e * g * (e * g))) z
          (le_trans k (wider (v * (v * (squared (hamilton a c)).n)) (b * b * (e * e) * (d * d * (g * g)))
          (v * (h * h * (e * g * (e * g))))
          (factors w b d h e g l)));
    }
  where
    up : (n p c : ℕ) → n ≤ p → n ≤ p + c
    up n p c h = omega arith

    wider : (n c d : ℕ) → c ≤ d → n + c ≤ n + d
    wider n c d h = omega arith

    two_euler : (v hp hn kp kn c : ℕ) → hp + kn ≡ hn + kp → v * (v * kp) ≤ v * (v * kn) + c →
        v * (v * hp) ≤ v * (v * hn) + c
    two_euler v hp hn kp kn c h k =
        euler_whole v (v * hp) (v * hn) (v * kp) (v * kn) c (sym (mul-add v hp kn) ∙ ap (λ (i : ℕ). v * i) h
        ∙ mul-add v hn kp) k

-- ---- only the difference counts
unfoldable pub Level : Gap → Gap → Type 0
Level a b = a.p + b.n ≡ a.n + b.p

pub level_trans : (a b c : Gap) → Level a b → Level b c → Level a c
unfolding Level
level_trans a b c h k = omega arith

pub to_whole : (a : Gap) (v : ℕ) → a.p ≡ a.n + v → Level a (whole v)
unfolding Level
to_whole a v h = omega arith

pub level-add : (a a' b b' : Gap) → Level a a' → Level b b' → Level (a ⊕ b) (a' ⊕ b')
unfolding Level
level-add a a' b b' h k = omega arith

pub level-sub : (a a' b b' : Gap) → Level a a' → Level b b' → Level (a ⊖ b) (a' ⊖ b')
unfolding Level
level-sub a a' b b' h k = omega arith

mul-whole : (p n p' n' q m q' m' : ℕ) → p + n' ≡ n + p' → q + m' ≡ m + q' →
    p * q + n * m + (p' * m' + n' * q') ≡ p * m + n * q + (p' * q' + n' * m')
mul-whole p n p' n' q m q' m' h k =
    let a = ap (λ (i : ℕ). i * q) h in
    let b = ap (λ (i : ℕ). i * m) h in
    let c = ap (λ (i : ℕ). p' * i) k in
    let d = ap (λ (i : ℕ). n' * i) k in
    omega (arith, simp expand at a, simp expand at b, simp expand at c, simp expand at d)

pub level-mul : (a a' b b' : Gap) → Level a a' → Level b b' → Level (a ⊗ b) (a' ⊗ b')
unfolding Level
level-mul a a' b b' h k = mul-whole a.p a.n a'.p a'.n b.p b.n b'.p b'.n h k

square_shift : (p n q m : ℕ) → p + m ≡ n + q → p * p + n * n + (q * m + m * q) ≡ p * n + n * p + (q * q + m * m)
square_shift p n q m h =
    let a = ap (λ (i : ℕ). i * p) h in
    let b = ap (λ (i : ℕ). i * n) h in
    let c = ap (λ (i : ℕ). i * q) h in
    let d = ap (λ (i : ℕ). i * m) h in
    simp expand (omega (arith, simp expand at a, simp expand at b, simp expand at c, simp expand at d))

four_shift : (v c a a' b b' i i' j j' k k' l l' m m' n n' : ℕ) → a + b' ≡ a' + b → i + j' ≡ i' + j → k + l' ≡ k' + l →
    m + n' ≡ m' + n → v *
    (a + i + k + m) ≤ v * (a' + i' + k' + m') + c → v * (b + j + l + n) ≤ v * (b' + j' + l' + n') + c
four_shift v c a a' b b' i i' j j' k k' l l' m m' n n' h1 h2 h3 h4 h =
    translation v c (a + i + k + m) (a' + i' + k' + m') (b + j + l + n) (b' + j' + l' + n') (omega arith) h
  where
    translation : (v c x y u t : ℕ) → x + t ≡ y + u → v * x ≤ v * y + c → v * u ≤ v * t + c
    translation v c x y u t e h = let z = ap (λ (q : ℕ). v * q) e in omega (arith, simp mul-add at z)

pub long_shift : (w : ℕ) (a b : Quad Gap) (e h : ℕ) → Level a.w b.w → Level a.x b.x → Level a.y b.y → Level a.z b.z →
    Long w a e h → Long w b e h
unfolding Level
long_shift w a b e h i j k l g =
    record {
      magnitude = four_shift (w * w) (h * h * (e * e))
          (a.w ⊗ a.w).p (a.w ⊗ a.w).n (b.w ⊗ b.w).p (b.w ⊗ b.w).n (a.x ⊗ a.x).p (a.x ⊗ a.x).n (b.x ⊗ b.x).p
          (b.x ⊗ b.x).n
          (a.y ⊗ a.y).p (a.y ⊗ a.y).n (b.y ⊗ b.y).p (b.y ⊗ b.y).n (a.z ⊗ a.z).p (a.z ⊗ a.z).n (b.z ⊗ b.z).p
          (b.z ⊗ b.z).n
          (square_shift a.w.p a.w.n b.w.p b.w.n i) (square_shift a.x.p a.x.n b.x.p b.x.n j)
          (square_shift a.y.p a.y.n b.y.p b.y.n k) (square_shift a.z.p a.z.n b.z.p b.z.n l) g.magnitude;
    }

-- ---- over another denominator
abbrev pub scaled : ℕ → Quad Gap → Quad Gap
scaled k a = record { w = whole k ⊗ a.w; x = whole k ⊗ a.x; y = whole k ⊗ a.y; z = whole k ⊗ a.z }

scaled-p : (k p n : ℕ) → (k * p + 0 * n) * (k * p + 0 * n) + (k * n + 0 * p) * (k * n + 0 * p) ≡ k * k * (p * p + n * n)
scaled-p k p n = simp (zero-mul, add-zero, expand) (omega arith)

scaled-n : (k p n : ℕ) → (k * p + 0 * n) * (k * n + 0 * p) + (k * n + 0 * p) * (k * p + 0 * n) ≡ k * k * (p * n + n * p)
scaled-n k p n = simp (zero-mul, add-zero, expand) (omega arith)

scale-whole : (v k p n c e s t : ℕ) → s ≡ k * k * p → t ≡ k * k * n → v * p ≤ v * n + c * (e * e) →
    v * s ≤ v * t + c * (k * e * (k * e))
scale-whole v k p n c e s t hs ht h =
    rw (hs, ht) (let a = mul-le-mul_left (k * k) h in simp expand (omega (arith, simp expand at a)))

four-sum : (k a b c d a' b' c' d' : ℕ) → a' ≡ k * a → b' ≡ k * b → c' ≡ k * c → d' ≡ k * d →
    a' + b' + c' + d' ≡ k * (a + b + c + d)
four-sum k a b c d a' b' c' d' h i j l = rw (h, i, j, l) (simp mul-add)

pub long_scaled : (w k : ℕ) (a : Quad Gap) (e h : ℕ) → Long w a e h → Long w (scaled k a) (k * e) h
long_scaled w k a e h g =
    record {
      magnitude =
          scale-whole (w * w) k (squared a).p (squared a).n (h * h) e (squared (scaled k a)).p (squared (scaled k a)).n
          (four-sum (k * k) _ _ _ _ _ _ _ _ (scaled-p k a.w.p a.w.n) (scaled-p k a.x.p a.x.n) (scaled-p k a.y.p a.y.n)
          (scaled-p k a.z.p a.z.n))
          (four-sum (k * k) _ _ _ _ _ _ _ _ (scaled-n k a.w.p a.w.n) (scaled-n k a.x.p a.x.n) (scaled-n k a.y.p a.y.n)
          (scaled-n k a.z.p a.z.n))
          g.magnitude;
    }

-- ---- from the numbers to the length, and back
pub record Tall (w : ℕ) (a : Gap) (c : ℕ) : Type 0 where
  pub above : w * a.p ≤ w * a.n + c
  pub below : w * a.n ≤ w * a.p + c

tall_square : (w : ℕ) (a : Gap) (c : ℕ) → Tall w a c → w * w * (a ⊗ a).p ≤ w * w * (a ⊗ a).n + c * c
tall_square w a c h =
    let t = product (w * a.p) (w * a.n) (w * a.p) (w * a.n) c c h.above h.below h.above h.below in
    go w a.p a.n (c * c) t
  where
    go : (w p n c : ℕ) → w * p * (w * p) + w * n * (w * n) ≤ w * p * (w * n) + w * n * (w * p) + c →
        w * w * (p * p + n * n) ≤ w * w * (p * n + n * p) + c
    go w p n c h = simp expand (omega (arith, simp expand at h))

four_squares : (v s e a a' b b' c c' d d' : ℕ) → v * a ≤ v * a' + s * e * (s * e) → v * b ≤ v * b' + s * e * (s * e) →
    v * c ≤ v * c' + s * e * (s * e) → v * d ≤ v * d' + s * e * (s * e)
    → v * (a + b + c + d) ≤ v * (a' + b' + c' + d') + 2 * s * (2 * s) * (e * e)
four_squares v s e a a' b b' c c' d d' h i j k =
    let q : 2 * s * (2 * s) * (e * e) ≡ 4 * (s * e * (s * e)) = simp expand (omega arith) in
    rw q (simp mul-add (omega arith))

pub tall_long : (w : ℕ) (a : Quad Gap) (e s : ℕ) → Tall w a.w (s * e) → Tall w a.x (s * e) → Tall w a.y (s * e) →
    Tall w a.z (s * e) → Long w a e (2 * s)
tall_long w a e s h i j k =
    record {
      magnitude = four_squares (w * w) s e _ _ _ _ _ _ _ _ (tall_square w a.w (s * e) h)
          (tall_square w a.x (s * e) i) (tall_square w a.y (s * e) j) (tall_square w a.z (s * e) k);
    }

-- one number of a quaternion
root_gap : (w p n c : ℕ) → w * w * (p * p + n * n) ≤ w * w * (p * n + n * p) + c * c → w * p ≤ w * n + c
root_gap w p n c h = root (w * p) (w * n) c (go w p n (c * c) h)
  where
    go : (w p n c : ℕ) → w * w * (p * p + n * n) ≤ w * w * (p * n + n * p) + c →
        w * p * (w * p) + w * n * (w * n) ≤ c + 2 * (w * p * (w * n))
    go w p n c h = simp expand (omega (arith, simp expand at h))

gap_tall : (w : ℕ) (a : Gap) (c : ℕ) → w * w * (a ⊗ a).p ≤ w * w * (a ⊗ a).n + c * c → Tall w a c
gap_tall w a c h =
    record {
      above = root_gap w a.p a.n c h;
      below = root_gap w a.n a.p c
          (rotation (w * w) (a.p * a.p) (a.n * a.n) (a.p * a.n) (a.n * a.p) (c * c) h);
    }
  where
    rotation : (v p n x y c : ℕ) → v * (p + n) ≤ v * (x + y) + c → v * (n + p) ≤ v * (y + x) + c
    rotation v p n x y c h = simp mul-add (omega (arith, simp mul-add at h))

-- of four parts that are not below 0, each is at most the sum
first_of : (v a a' b b' c c' d d' s : ℕ) → b' ≤ b → c' ≤ c → d' ≤ d →
    v * (a + b + c + d) ≤ v * (a' + b' + c' + d') + s → v * a ≤ v * a' + s
first_of v a a' b b' c c' d d' s hb hc hd h =
    let x = mul-le-mul_left v hb in
    let y = mul-le-mul_left v hc in
    let z = mul-le-mul_left v hd in
    omega (arith, simp mul-add at h)

square_of : (b e : ℕ) → b * b * (e * e) ≡ b * e * (b * e)
square_of b e = mul-mul-mul_comm b b e e

turn4 : (v a b c d a' b' c' d' s : ℕ) → v * (a + b + c + d) ≤ v * (a' + b' + c' + d') + s →
    v * (b + a + c + d) ≤ v * (b' + a' + c' + d') + s
turn4 v a b c d a' b' c' d' s h = simp mul-add (omega (arith, simp mul-add at h))

turn4' : (v a b c d a' b' c' d' s : ℕ) → v * (a + b + c + d) ≤ v * (a' + b' + c' + d') + s →
    v * (c + a + b + d) ≤ v * (c' + a' + b' + d') + s
turn4' v a b c d a' b' c' d' s h = simp mul-add (omega (arith, simp mul-add at h))

turn4'' : (v a b c d a' b' c' d' s : ℕ) → v * (a + b + c + d) ≤ v * (a' + b' + c' + d') + s →
    v * (d + a + b + c) ≤ v * (d' + a' + b' + c') + s
turn4'' v a b c d a' b' c' d' s h = simp mul-add (omega (arith, simp mul-add at h))

pub long_w : (w : ℕ) (a : Quad Gap) (e b : ℕ) → Long w a e b → Tall w a.w (b * e)
long_w w a e b h =
    gap_tall w a.w (b * e)
    (rw (square_of b e) at (first_of (w * w) _ _ _ _ _ _ _ _ _ (square-up a.x) (square-up a.y)
    (square-up a.z) h.magnitude))

pub long_x : (w : ℕ) (a : Quad Gap) (e b : ℕ) → Long w a e b → Tall w a.x (b * e)
long_x w a e b h =
    gap_tall w a.x (b * e) (rw (square_of b e) at (first_of (w * w) _ _ _ _ _ _ _ _ _ (square-up a.w) (square-up a.y)
    (square-up a.z) (turn4 (w * w) _ _ _ _ _ _ _ _ _ h.magnitude)))

pub long_y : (w : ℕ) (a : Quad Gap) (e b : ℕ) → Long w a e b → Tall w a.y (b * e)
long_y w a e b h =
    gap_tall w a.y (b * e) (rw (square_of b e) at (first_of (w * w) _ _ _ _ _ _ _ _ _ (square-up a.w) (square-up a.x)
    (square-up a.z) (turn4' (w * w) _ _ _ _ _ _ _ _ _ h.magnitude)))

pub long_z : (w : ℕ) (a : Quad Gap) (e b : ℕ) → Long w a e b → Tall w a.z (b * e)
long_z w a e b h =
    gap_tall w a.z (b * e) (rw (square_of b e) at (first_of (w * w) _ _ _ _ _ _ _ _ _ (square-up a.w) (square-up a.x)
    (square-up a.y) (turn4'' (w * w) _ _ _ _ _ _ _ _ _ h.magnitude)))

-- ---- a sum: 2 a b u v ≤ b² u² + a² v²
mean : (a b p n q m : ℕ) → b * b * (p * n + n * p) + a * b * (2 * (p * q + n * m)) + a * a * (q * m + m * q)
    ≤ b * b * (p * p + n * n) + a * b * (2 * (p * m + n * q)) + a * a * (q * q + m * m)
mean a b p n q m = let t = twice-le (b * p + a * m) (b * n + a * q) in simp expand (omega (arith, simp expand at t))

add_means : (b c a xn zp yn xp zn yp xn' zp' yn' xp' zn' yp' : ℕ) →
    b * xn + c * zp + a * yn ≤ b * xp + c * zn + a * yp → b * xn' + c * zp' + a * yn' ≤ b * xp' + c * zn' + a * yp'
    → b * (xn + xn') + c * (zp + zp') + a * (yn + yn') ≤ b * (xp + xp') + c * (zn + zn') + a * (yp + yp')
add_means b c a xn zp yn xp zn yp xn' zp' yn' xp' zn' yp' h k = simp mul-add (omega arith)

-- with the sums over the four numbers: x of u, y of v, z of 2 u v
sum-whole : (v a b e xp xn yp yn zp zn : ℕ) → 0 < a → 0 < b → v * xp ≤ v * xn + a * a * (e * e) →
    v * yp ≤ v * yn + b * b * (e * e)
    → b * b * xn + a * b * zp + a * a * yn ≤ b * b * xp + a * b * zn + a * a * yp →
    v * (xp + zp + yp) ≤ v * (xn + zn + yn) + (a + b) * (a + b) * (e * e)
sum-whole v a b e xp xn yp yn zp zn ap bp h k m =
    let c : v * zp ≤ v * zn + 2 * (a * b * (e * e)) = le_of_mul-le-mul_right {k = a * b}
    (cancel v a b e xp xn yp yn zp zn (mul-le-mul_left (b * b) h) (mul-le-mul_left (a * a) k) (mul-le-mul_left v m))
    (mul-pos ap bp) in
    last v a b e xp xn yp yn zp zn h k c
  where
    cancel : (v a b e xp xn yp yn zp zn : ℕ) → b * b * (v * xp) ≤ b * b * (v * xn + a * a * (e * e)) →
        a * a * (v * yp) ≤ a * a * (v * yn + b * b * (e * e))
        → v * (b * b * xn + a * b * zp + a * a * yn) ≤ v * (b * b * xp + a * b * zn + a * a * yp) →
        v * zp * (a * b) ≤ (v * zn + 2 * (a * b * (e * e))) * (a * b)
    cancel v a b e xp xn yp yn zp zn h k m =
        simp expand (omega (arith, simp expand at h, simp expand at k, simp expand at m))

    last : (v a b e xp xn yp yn zp zn : ℕ) → v * xp ≤ v * xn + a * a * (e * e) → v * yp ≤ v * yn + b * b * (e * e) →
        v * zp ≤ v * zn + 2 *
        (a * b * (e * e)) → v * (xp + zp + yp) ≤ v * (xn + zn + yn) + (a + b) * (a + b) * (e * e)
    last v a b e xp xn yp yn zp zn h k c =
        simp expand (omega (arith, simp expand at h, simp expand at k, simp expand at c))

abbrev pub sum4 : Quad Gap → Quad Gap → Quad Gap
sum4 a b = record { w = a.w ⊕ b.w; x = a.x ⊕ b.x; y = a.y ⊕ b.y; z = a.z ⊕ b.z }

abbrev pub sub4 : Quad Gap → Quad Gap → Quad Gap
sub4 a b = record { w = a.w ⊖ b.w; x = a.x ⊖ b.x; y = a.y ⊖ b.y; z = a.z ⊖ b.z }

-- (u + v)², with u v taken twice
sum-square-p : (p n q m : ℕ) → (p + q) * (p + q) + (n + m) * (n + m)
    ≡ p * p + n * n + 2 * (p * q + n * m) + (q * q + m * m)
sum-square-p p n q m = simp expand (omega arith)

sum-square-n : (p n q m : ℕ) → (p + q) * (n + m) + (n + m) * (p + q)
    ≡ p * n + n * p + 2 * (p * m + n * q) + (q * m + m * q)
sum-square-n p n q m = simp expand (omega arith)

regroup : (a z b a' z' b' a'' z'' b'' c y d s t u v : ℕ) → s ≡ a + z + b → t ≡ a' + z' + b' → u ≡ a'' + z'' + b'' →
    v ≡ c + y + d → s + t + u + v
    ≡ a + a' + a'' + c + (z + z' + z'' + y) + (b + b' + b'' + d)
regroup a z b a' z' b' a'' z'' b'' c y d s t u v h i j k = omega arith

pub long_sum : (w : ℕ) (a b : Quad Gap) (e g h : ℕ) → 0 < g → 0 < h → Long w a e g → Long w b e h →
    Long w (sum4 a b) e (g + h)
long_sum w a b e g h gp hp la lb =
    let m : (x y : Gap) → h * h * (x ⊗ x).n + g * h * (2 * (x ⊗ y).p) + g * g * (y ⊗ y).n
    ≤ h * h * (x ⊗ x).p + g * h * (2 * (x ⊗ y).n) + g * g *
    (y ⊗ y).p = λ x y. mean g h x.p x.n y.p y.n in
    let mm =
    add_means (h * h) (g * h) (g * g) _ _ _ _ _ _ _ _ _ _ _ _
    (add_means (h * h) (g * h) (g * g) _ _ _ _ _ _ _ _ _ _ _ _
    (add_means (h * h) (g * h) (g * g) _ _ _ _ _ _ _ _ _ _ _ _ (m a.w b.w) (m a.x b.x)) (m a.y b.y)) (m a.z b.z) in
    let p : (squared (sum4 a b)).p
    ≡ (squared a).p + (2 * (a.w ⊗ b.w).p + 2 * (a.x ⊗ b.x).p + 2 * (a.y ⊗ b.y).p + 2 * (a.z ⊗ b.z).p)
    + (squared b).p =
    regroup _ _ _ _ _ _ _ _ _ _ _ _ _ _ _ _ (sum-square-p a.w.p a.w.n b.w.p b.w.n)
    (sum-square-p a.x.p a.x.n b.x.p b.x.n) (sum-square-p a.y.p a.y.n b.y.p b.y.n)
    (sum-square-p a.z.p a.z.n b.z.p b.z.n) in
    let n : (squared (sum4 a b)).n
    ≡ (squared a).n + (2 * (a.w ⊗ b.w).n + 2 * (a.x ⊗ b.x).n + 2 * (a.y ⊗ b.y).n + 2 * (a.z ⊗ b.z).n)
    + (squared b).n =
    regroup _ _ _ _ _ _ _ _ _ _ _ _ _ _ _ _ (sum-square-n a.w.p a.w.n b.w.p b.w.n)
    (sum-square-n a.x.p a.x.n b.x.p b.x.n) (sum-square-n a.y.p a.y.n b.y.p b.y.n)
    (sum-square-n a.z.p a.z.n b.z.p b.z.n) in
    record {
      magnitude = subst₂ (λ (x y : ℕ). w * w * x ≤ w * w * y + (g + h) * (g + h) * (e * e)) (sym p) (sym n)
          (sum-whole (w * w) g h e (squared a).p (squared a).n (squared b).p
          (squared b).n _ _ gp hp la.magnitude lb.magnitude mm);
    }
