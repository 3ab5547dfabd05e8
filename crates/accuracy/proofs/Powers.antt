-- Powers of sigma + i theta over whole numbers written as differences. Assumes nothing.
use mathlib.Core.Path.{◌≡◌, refl, sym, ap, ◌∙◌}
use Prim.Native.Nat.{ℕ, zero, suc, ◌+◌, ◌*◌, ◌^◌, ◌≤◌}
use native.Mathlib.Nat.{pow-le-pow_left, le_trans, le_of_eq, mul_comm, suc-mul, mul-le-mul_left, pow-suc, pow-zero}
use native.Mathlib.Omega.{arith}
use Rattle.std.proofs.lemmas.Nat.{mul-pow}
use Rattle.rounding.proofs.Differences.{expand}
use Rattle.rounding.proofs.Squares.{Size, size-root, size-product, size-sum, size_same, twice-le}

-- the product of two differences t = q - u and n = p - m
cross : (t u q n m p : ℕ) → q ≡ t + u → p ≡ n + m → q * p + u * m ≡ t * n + (q * m + u * p)
cross t u q n m p a b = rw (a, b) (simp expand (omega arith))

-- the square of (s - s') (h - h')
square_even : (s s' h h' : ℕ) → (s * h + s' * h') * (s * h + s' * h') + (s * h' + s' * h) * (s * h' + s' * h)
    ≡ (s * s + s' * s') * (h * h + h' * h') + 2 * (s * s') * (2 * (h * h'))
square_even s s' h h' = simp expand (omega arith)

square-odd : (s s' h h' : ℕ) → 2 * ((s * h + s' * h') * (s * h' + s' * h))
    ≡ (s * s + s' * s') * (2 * (h * h')) + 2 * (s * s') * (h * h + h' * h')
square-odd s s' h h' = simp expand (omega arith)

-- (s h) x = (s x) h
cross_even : (s s' h h' x x' : ℕ) → (s * h + s' * h') * x + (s * h' + s' * h) * x'
    ≡ (s * x + s' * x') * h + (s * x' + s' * x) * h'
cross_even s s' h h' x x' = simp expand (omega arith)

cross_odd : (s s' h h' x x' : ℕ) → (s * h + s' * h') * x' + (s * h' + s' * h) * x
    ≡ (s * x + s' * x') * h' + (s * x' + s' * x) * h
cross_odd s s' h h' x x' = simp expand (omega arith)

-- the squares of a - y x and b + h
even_sum : (y a a' b b' h h' x x' : ℕ)
    → (a + y * x') * (a + y * x') + (a' + y * x) * (a' + y * x) + y * ((b + h) * (b + h) + (b' + h') * (b' + h'))
    ≡ a * a + a' * a' + y * (y * (x * x + x' * x')) + y * (b * b + b' * b') + y * (h * h + h' * h') + y
    * (2 * (a * x' + a' * x) + 2 * (b * h + b' * h'))
even_sum y a a' b b' h h' x x' = simp expand (omega arith)

odd-sum : (y a a' b b' h h' x x' : ℕ)
    → 2 * ((a + y * x') * (a' + y * x)) + y * (2 * ((b + h) * (b' + h')))
    ≡ 2 * (a * a') + y * (y * (2 * (x * x'))) + y * (2 * (b * b')) + y * (2 * (h * h')) + y
    * (2 * (a * x + a' * x') + 2 * (b * h' + b' * h))
odd-sum y a a' b b' h h' x x' = simp expand (omega arith)

-- with the squares as numbers: q for the sums of squares, r for the double products
collected : (y k u qh rh qx rx t n c : ℕ) → k + y ≡ t + u → qh + y * qx ≡ n + (rh + y * rx)
    → k * qh + u * rh + y * (y * qx) + y * (k * qx + u * rx) + y * qh + c
    ≡ t * n + (k * rh + u * qh + y * (y * rx) + y * (k * rx + u * qx) + y * rh + c)
collected y k u qh rh qx rx t n c a b =
    let z : (k + y) * (qh + y * qx) + u * (rh + y * rx) ≡ t * n + ((k + y) * (rh + y * rx) + u * (qh + y * qx)) =
    cross t u (k + y) n (rh + y * rx) (qh + y * qx) a b in
    simp expand (omega (arith, simp expand at z))

swap_cross : (a b c d : ℕ) → a ≡ b → c ≡ d → 2 * c + 2 * b ≡ 2 * a + 2 * d
swap_cross a b c d h k = omega arith

-- (h - h')² + y (x - x')² = n, and (s - s')² + y = t: so for s h - y x and s x + h it is t n
pub norm_step : (s s' y t h h' x x' n : ℕ)
    → s * s + s' * s' + y ≡ t + 2 * (s * s')
    → h * h + h' * h' + y * (x * x + x' * x') ≡ n + (2 * (h * h') + y * (2 * (x * x')))
    → (s * h + s' * h' + y * x') * (s * h + s' * h' + y * x') + (s * h' + s' * h + y * x) * (s * h' + s' * h + y * x)
    + y * ((s * x + s' * x' + h) * (s * x + s' * x' + h) + (s * x' + s' * x + h') * (s * x' + s' * x + h'))
    ≡ t * n + (2 * ((s * h + s' * h' + y * x') * (s * h' + s' * h + y * x)) + y
    * (2 * ((s * x + s' * x' + h) * (s * x' + s' * x + h'))))
norm_step s s' y t h h' x x' n e g =
    let a = s * h + s' * h' in
    let a' = s * h' + s' * h in
    let b = s * x + s' * x' in
    let b' = s * x' + s' * x in
    let k = s * s + s' * s' in
    let u = 2 * (s * s') in
    let qh = h * h + h' * h' in
    let rh = 2 * (h * h') in
    let qx = x * x + x' * x' in
    let rx = 2 * (x * x') in
    let c = y * (2 * (a * x + a' * x') + 2 * (b * h' + b' * h)) in
    let c' : y * (2 * (a * x' + a' * x) + 2 * (b * h + b' * h')) ≡ c =
    ap (λ (i : ℕ). y * i) (swap_cross (a * x + a' * x') (b * h + b' * h') (a * x' + a' * x) (b * h' + b' * h)
    (cross_even s s' h h' x x') (cross_odd s s' h h' x x')) in
    even_sum y a a' b b' h h' x x'
    ∙ ap (λ (i : ℕ). a * a + a' * a' + y * (y * qx) + y * (b * b + b' * b') + y * qh + i) c'
    ∙ ap (λ (i : ℕ). i + y * (y * qx) + y * (b * b + b' * b') + y * qh + c) (square_even s s' h h')
    ∙ ap (λ (i : ℕ). k * qh + u * rh + y * (y * qx) + y * i + y * qh + c) (square_even s s' x x')
    ∙ collected y k u qh rh qx rx t n c e g
    ∙ ap (λ (i : ℕ). t * n + (i + y * (y * rx) + y * (k * rx + u * qx) + y * rh + c)) (sym (square-odd s s' h h'))
    ∙ ap (λ (i : ℕ). t * n + (2 * (a * a') + y * (y * rx) + y * i + y * rh + c)) (sym (square-odd s s' x x'))
    ∙ ap (λ (i : ℕ). t * n + i) (sym (odd-sum y a a' b b' h h' x x'))

-- ---- the sequences: h = Re, x = Im / theta, z = (p - h) / theta², p the power of s, each a difference
pub record State : Type 0 where
  pub h : ℕ
  pub h' : ℕ
  pub x : ℕ
  pub x' : ℕ
  pub z : ℕ
  pub z' : ℕ
  pub p : ℕ
  pub p' : ℕ

abbrev pub start : State
start = record { h = 1; h' = 0; x = 0; x' = 0; z = 0; z' = 0; p = 1; p' = 0 }

abbrev pub step : ℕ → ℕ → ℕ → State → State
step s s' y a =
    record {
      h = s * a.h + s' * a.h' + y * a.x';
      h' = s * a.h' + s' * a.h + y * a.x;
      x = s * a.x + s' * a.x' + a.h;
      x' = s * a.x' + s' * a.x + a.h';
      z = s * a.z + s' * a.z' + a.x;
      z' = s * a.z' + s' * a.z + a.x';
      p = s * a.p + s' * a.p';
      p' = s * a.p' + s' * a.p;
    }

unfoldable pub state : ℕ → ℕ → ℕ → ℕ → State
state s s' y zero = start
state s s' y (suc j) = step s s' y (state s s' y j)

drop-x : (q y m n t r : ℕ) → q + y * m ≡ t + (n + y * r) → r ≤ m → q ≤ t + n
drop-x q y m n t r h k = let l : y * r ≤ y * m = mul-le-mul_left y k in omega arith

-- j (j - 1) / 2, from j = 2 on
unfoldable pub pairs : ℕ → ℕ
pairs zero = 1
pairs (suc j) = pairs j + suc (suc j)

pub twice_pairs : (j : ℕ) → 2 * pairs j ≡ suc j * suc (suc j)
unfolding pairs
twice_pairs zero = refl
twice_pairs (suc j) = let i = twice_pairs j in simp expand (omega (
  arith,
  i,
  suc-mul j (suc (suc j)),
  suc-mul (suc j) (suc (suc (suc j))),
  mul_comm j
      (suc (suc (suc j))),
  mul_comm j (suc (suc j)),
  suc-mul j j,
  suc-mul (suc j) j,
  suc-mul (suc (suc j)) j,
))

x-step : (j r k : ℕ) → r * (suc j * k) + k * r ≡ suc (suc j) * (k * r)
x-step j r k = rw (suc-mul (suc j) (k * r)) (simp expand)

pub z-step : (c j r k : ℕ) → r * (c * k) + suc (suc j) * (k * r) ≡ (c + suc (suc j)) * (k * r)
z-step c j r k = simp expand (omega arith)

module _ (s s' y t r : ℕ) (e : s * s + s' * s' + y ≡ t + 2 * (s * s')) (b : t ≤ r * r) where
  norm : (j : ℕ) → (let a = state s s' y j in a.h * a.h + a.h' * a.h' + y * (a.x * a.x + a.x' * a.x')
      ≡ t ^ j + (2 * (a.h * a.h') + y * (2 * (a.x * a.x'))))
  unfolding state
  norm zero = simp (pow-zero) (omega arith)
  norm (suc j) =
      let a = state s s' y j in
      rw (pow-suc, mul_comm (t ^ j) t) (norm_step s s' y t a.h a.h' a.x a.x' (t ^ j) e (norm j))

  pub s_size : Size s s' r
  s_size = size-root s s' r (omega arith)

  pub h_size : (j : ℕ) → Size (state s s' y j).h (state s s' y j).h' (r ^ j)
  h_size j =
      let a = state s s' y j in
      let d : a.h * a.h + a.h' * a.h' ≤ t ^ j + 2 * (a.h * a.h') =
      drop-x (a.h * a.h + a.h' * a.h') y (a.x * a.x + a.x' * a.x')
      (2 * (a.h * a.h')) (t ^ j) (2 * (a.x * a.x')) (norm j) (twice-le a.x a.x') in
      let k : t ^ j ≤ r ^ j * r ^ j = le_trans (pow-le-pow_left b j) (le_of_eq (mul-pow r r j)) in
      size-root a.h a.h' (r ^ j) (omega arith)

  pub p-size : (j : ℕ) → Size (state s s' y j).p (state s s' y j).p' (r ^ j)
  unfolding state
  p-size zero = rw pow-zero (record { above = omega arith; below = omega arith })
  p-size (suc j) =
      let a = state s s' y j in
      rw (pow-suc, mul_comm (r ^ j) r) (size-product s s' a.p a.p' r (r ^ j) s_size (p-size j))

  pub x-size : (j : ℕ) → Size (state s s' y (suc j)).x (state s s' y (suc j)).x' (suc j * r ^ j)
  unfolding state
  x-size zero = rw pow-zero (record { above = omega arith; below = omega arith })
  x-size (suc j) =
      let a = state s s' y (suc j) in
      rw pow-suc (size_same (s * a.x + s' * a.x' + a.h) (s * a.x' + s' * a.x + a.h') (r * (suc j * r ^ j) + r ^ j * r)
      (suc (suc j) * (r ^ j * r)) (x-step j r (r ^ j))
      (size-sum (s * a.x + s' * a.x') (s * a.x' + s' * a.x) a.h a.h' (r * (suc j * r ^ j)) (r ^ j * r)
      (size-product s s' a.x a.x' r (suc j * r ^ j) s_size (x-size j))
      (rw pow-suc at (h_size (suc j)))))

  pub z-size : (j : ℕ) → Size (state s s' y (suc (suc j))).z (state s s' y (suc (suc j))).z' (pairs j * r ^ j)
  unfolding state pairs
  z-size zero = rw pow-zero (record { above = omega arith; below = omega arith })
  z-size (suc j) =
      let a = state s s' y (suc (suc j)) in
      rw pow-suc (size_same (s * a.z + s' * a.z' + a.x) (s * a.z' + s' * a.z + a.x')
      (r * (pairs j * r ^ j) + suc (suc j) * (r ^ j * r))
      ((pairs j + suc (suc j)) * (r ^ j * r)) (z-step (pairs j) j r (r ^ j))
      (size-sum (s * a.z + s' * a.z') (s * a.z' + s' * a.z) a.x a.x' (r * (pairs j * r ^ j)) (suc (suc j) * (r ^ j * r))
      (size-product s s' a.z a.z' r (pairs j * r ^ j) s_size (z-size j))
      (rw pow-suc at (x-size (suc j)))))

  -- h is p - y z
  pub h_is : (j : ℕ) → (let a = state s s' y j in a.p + a.h' + y * a.z' ≡ a.p' + a.h + y * a.z)
  unfolding state
  h_is zero = omega arith
  h_is (suc j) =
      let a = state s s' y j in
      let i = h_is j in
      let c = ap (λ (k : ℕ). s * k) i in
      let d = ap (λ (k : ℕ). s' * k) i in
      simp expand (omega (arith, simp expand at c, simp expand at d))
