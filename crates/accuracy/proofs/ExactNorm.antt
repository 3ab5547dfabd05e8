-- What the exponential's sums at the computed |φ|² differ from those at the exact one. Assumes nothing.
use mathlib.Core.Path.{◌≡◌, ap, ◌∙◌, subst}
use Prim.Native.Nat.{ℕ, zero, suc, ◌+◌, ◌*◌, ◌^◌, ◌≤◌, ◌<◌}
use native.Mathlib.Nat.{le_trans, mul_comm, mul-pos, mul-le-mul_left}
use native.Mathlib.Omega.{arith}
use lib.Ieee.{Float}
use Rattle.ieee.specs.Table.{factorial, Rational}
use Rattle.linalg.specs.Floats.{Vec3}
use Rattle.so3.specs.Floats.{Quat}
use Rattle.tables.specs.Tables.{cos_half_row, k_row, row_rule}
use Rattle.rounding.specs.Value.{Value, opposite, plus, minus, times, value_of, AtMost, Near, AbsoluteError}
use Rattle.rounding.specs.Leaves.{Bounded}
use Rattle.rounding.proofs.Differences.{expand}
use Rattle.rounding.proofs.Fractions.{near-plus, near-right, near_wider, near_trans, most-plus, most-opposite}
use Rattle.rounding.proofs.Fractions.{most-near, most_wider}
use Rattle.rounding.proofs.Forward.{error_trans}
use Rattle.rounding.proofs.Leaves.{leaf_forward, value-above, error-near}
use Rattle.accuracy.specs.Box.{exact_vec, VecIn, VecNear, QuatError}
use Rattle.accuracy.specs.Domain.{InDomain}
use Rattle.accuracy.specs.Norm.{exact_norm_sq}
use Rattle.accuracy.specs.Rows.{rule_value, exact_row, exact_rotation}
use Rattle.accuracy.specs.Exponential.{exact_poly, sum1, sum2}
use Rattle.accuracy.proofs.Norm.{norm-errorless, norm-above}
use Rattle.accuracy.proofs.HornerTail.{near_front, near_factor, near_convert, most_factor}
use Rattle.accuracy.proofs.Tail.{near-scale}
use Rattle.accuracy.proofs.Arms.{value-signed, near_turn}
use Rattle.accuracy.proofs.ApartSums.{v1-apart, v2-apart}
use Rattle.accuracy.proofs.Rows.{row-most, row-above, one-num, row_dens, cos_ratio, k_ratio}

-- ---- a row of 1 / den
pub times-comm : (x y : Value) → times x y ≡ times y x
times-comm x y =
    ap (λ (p : ℕ). record { p = p; n = x.p * y.n + x.n * y.p; d = x.d * y.d }) (first x.p x.n y.p y.n)
    ∙ ap (λ (n : ℕ). record { p = y.p * x.p + y.n * x.n; n = n; d = x.d * y.d }) (second x.p x.n y.p y.n)
    ∙ ap (λ (d : ℕ). record { p = y.p * x.p + y.n * x.n; n = y.p * x.n + y.n * x.p; d = d }) (mul_comm x.d y.d)
  where
    first : (p n q m : ℕ) → p * q + n * m ≡ q * p + m * n
    first p n q m = simp expand

    second : (p n q m : ℕ) → p * m + n * q ≡ q * n + m * p
    second p n q m = simp expand (omega arith)

module _ (w y k : ℕ) (rule : ℕ → Rational) (ones : (i : ℕ) → (rule i).num ≡ 1) (dens : (i : ℕ) → 0 < (rule i).den)
    (ratio : (i : ℕ) → (rule (suc i)).den * (y * 2) ≤ w * (rule (suc (suc i))).den) (z v : Value) (wp : 0 < w)
    (zd : 0 < z.d) (vd : 0 < v.d)
    (h : AtMost w z y) (h' : AtMost w v y) (near : Near w z v k) where
  -- from the next entry on they are within 4 k / den
  row-step : (U e g n i : ℕ) → U * (y * (k * 4)) ≤ e * (w * (w * (rule (suc (suc i))).den)) →
      U * (2 * k) ≤ g * ((rule (suc i)).den * w) →
      Near (w * (rule (suc (suc i))).den) (exact_row rule z (suc i) (suc n)) (exact_row rule v (suc i) (suc n))
      (k * 4) →
      Near U (exact_row rule z i (suc (suc n))) (exact_row rule v i (suc (suc n))) (e + g)
  unfolding exact_row
  row-step U e g n i a b s =
      let A = exact_row rule z (suc i) (suc n) in
      let B = exact_row rule v (suc i) (suc n) in
      let d = (rule (suc i)).den in
      let d' = (rule (suc (suc i))).den in
      let bd = row-above rule dens v vd n (suc i) in
      let one : Near U (times z A) (times z B) e = near_convert U (w * (w * d')) (times z A) (times z B) e
      (y * (k * 4)) (mul-pos wp (mul-pos wp (dens (suc (suc i))))) a
      (near_factor w (w * d') z A B y (k * 4) h s) in
      let two' : Near U (times B z) (times B v) g = near_convert U (d * w) (times B z) (times B v) g (2 * k)
      (mul-pos (dens (suc i)) wp) b
      (near_factor d w B z v 2 k (row-most w y rule ones dens ratio v wp h' n i) near) in
      let two : Near U (times z B) (times v B) g = subst (λ (x : Value). Near U x (times v B) g) (times-comm B z)
      (subst (λ (x : Value). Near U (times B z) x g) (times-comm B v) two') in
      near_front U (rule_value rule i) (times z A) (times v B) (e + g)
      (near_trans U (times z A) (times z B) (times v B) e g (mul-pos zd bd) one two)

  row-apart : (n i : ℕ) → Near (w * (rule (suc i)).den) (exact_row rule z i (suc n)) (exact_row rule v i (suc n))
      (k * 4)
  unfolding exact_row
  row-apart zero i = wide (w * (rule (suc i)).den) (k * 4) (rule_value rule i)
    where
      wide : (u e : ℕ) (x : Value) → Near u x x e
      wide u e x = record { above = omega arith; below = omega arith }
  row-apart (suc n) i =
      subst (λ (e : ℕ). Near (w * (rule (suc i)).den) (exact_row rule z i (suc (suc n)))
      (exact_row rule v i (suc (suc n))) e) (four k)
      (row-step (w * (rule (suc i)).den) (2 * k) (2 * k) n i (half w y k (rule (suc i)).den (rule (suc (suc i))).den
      (ratio i)) (same w k (rule (suc i)).den) (row-apart n (suc i)))
    where
      four : (k : ℕ) → 2 * k + 2 * k ≡ k * 4
      four k = omega arith

      half : (w y k d d' : ℕ) → d * (y * 2) ≤ w * d' → w * d * (y * (k * 4)) ≤ 2 * k * (w * (w * d'))
      half w y k d d' h = let x = mul-le-mul_left (2 * (k * w)) h in simp expand (omega (arith, simp expand at x))

      same : (w k d : ℕ) → w * d * (2 * k) ≤ 2 * k * (d * w)
      same w k d = simp expand (omega arith)

  -- a whole row of two entries or more
  pub row-near : (e g n : ℕ) → w * (y * (k * 4)) ≤ e * (w * (w * (rule 2).den)) → w * (2 * k) ≤ g * ((rule 1).den * w) →
      Near w (exact_row rule z 0 (suc (suc n))) (exact_row rule v 0 (suc (suc n))) (e + g)
  row-near e g n a b = row-step w e g n 0 a b (row-apart n 1)

-- ---- the translation: the coefficients of φ×ρ and φ×(φ×ρ) by g and h
module _ (w a b g h : ℕ) (phi rho : Vec3) (hp : VecIn w a phi) (hr : VecIn w b rho) (y0 y1 y2 v1 v2 : Value)
    (n1 : Near w y1 v1 g) (n2 : Near w y2 v2 h) where
  size-of : (x : Float) (m : ℕ) → Bounded w x m → AtMost w (value_of x) m
  size-of x m s = (leaf_forward w x m s).size

  -- a number of φ×ρ, and one of φ×(φ×ρ)
  once : (p q s t : Float) → Bounded w p a → Bounded w q b → Bounded w s a → Bounded w t b →
      AtMost (w * w) (minus (times (value_of p) (value_of q)) (times (value_of s) (value_of t))) (a * b + a * b)
  once p q s t hp hq hs ht =
      let x = times (value_of s) (value_of t) in
      most-plus (w * w) (times (value_of p) (value_of q)) (opposite x) (a * b) (a * b)
      (most_factor w w (value_of p) (value_of q) a b (size-of p a hp) (size-of q b hq))
      (most-opposite (w * w) x (a * b) (most_factor w w (value_of s) (value_of t) a b (size-of s a hs)
      (size-of t b ht)))

  abbrev B2 : ℕ
  B2 = a * (a * b + a * b) + a * (a * b + a * b)

  again : (p s : Float) (m l : Value) → Bounded w p a → Bounded w s a → AtMost (w * w) m (a * b + a * b) →
      AtMost (w * w) l (a * b + a * b) →
      AtMost (w * (w * w)) (minus (times (value_of p) m) (times (value_of s) l)) B2
  again p s m l hp hs hm hl =
      let x = times (value_of s) l in
      most-plus (w * (w * w)) (times (value_of p) m) (opposite x) (a * (a * b + a * b)) (a * (a * b + a * b))
      (most_factor w (w * w) (value_of p) m a (a * b + a * b) (size-of p a hp) hm)
      (most-opposite (w * (w * w)) x (a * (a * b + a * b)) (most_factor w (w * w) (value_of s) l a (a * b + a * b)
      (size-of s a hs) hl))

  coordinate : (x m l : Value) → AtMost (w * w) m (a * b + a * b) → AtMost (w * (w * w)) l B2 →
      Near (w * (w * w) * w) (plus (plus (times x y0) (times m y1)) (times l y2))
      (plus (plus (times x y0) (times m v1)) (times l v2))
      (w * ((a * b + a * b) * g) + B2 * h)
  coordinate x m l hm hl =
      let u = w * (w * w) * w in
      near-plus u (plus (times x y0) (times m y1)) (plus (times x y0) (times m v1)) (times l y2) (times l v2)
      (w * ((a * b + a * b) * g)) (B2 * h)
      (near_front u (times x y0) (times m y1) (times m v1) (w * ((a * b + a * b) * g))
      (subst (λ (i : ℕ). Near i (times m y1) (times m v1) (w * ((a * b + a * b) * g))) (units w)
      (near-scale (w * w * w) w (times m y1) (times m v1) ((a * b + a * b) * g)
      (near_factor (w * w) w m y1 v1 (a * b + a * b) g hm n1))))
      (near_factor (w * (w * w)) w l y2 v2 B2 h hl n2)
    where
      units : (w : ℕ) → w * w * w * w ≡ w * (w * w) * w
      units w = simp expand

  pub poly-near : (j : ℕ) → 0 < w → w * (w * ((a * b + a * b) * g) + B2 * h) ≤ j * (w * (w * w) * w) →
      VecNear w (exact_poly (exact_vec phi) y0 y1 y2 (exact_vec rho))
      (exact_poly (exact_vec phi) y0 v1 v2 (exact_vec rho)) j
  unfolding exact_poly
  poly-near j wp i =
      let mx = once phi.y rho.z phi.z rho.y hp.y hr.z hp.z hr.y in
      let my = once phi.z rho.x phi.x rho.z hp.z hr.x hp.x hr.z in
      let mz = once phi.x rho.y phi.y rho.x hp.x hr.y hp.y hr.x in
      let u = w * (w * w) * w in
      let up = mul-pos (mul-pos wp (mul-pos wp wp)) wp in
      let e = w * ((a * b + a * b) * g) + B2 * h in
      let one : (x m l : Value) → AtMost (w * w) m (a * b + a * b) → AtMost (w * (w * w)) l B2 →
      Near w (plus (plus (times x y0) (times m y1)) (times l y2)) (plus (plus (times x y0) (times m v1)) (times l v2))
      j =
      λ x m l hm hl. near_convert w u _ _ j e up i (coordinate x m l hm hl) in
      record {
        x = one (value_of rho.x) _ _ mx (again phi.y phi.z _ _ hp.y hp.z mz my);
        y = one (value_of rho.y) _ _ my (again phi.z phi.x _ _ hp.z hp.x mx mz);
        z = one (value_of rho.z) _ _ mz (again phi.x phi.y _ _ hp.x hp.y my mx);
      }

-- ---- where σ² + z is at most (r₀ / w)², the exact |φ|² is within k of z, and r is as much greater
module _ (w a r0 y r k p : ℕ) (phi : Vec3) (sigma z : Float) (wp : 0 < w) (d : InDomain w r0 y sigma z)
    (hp : VecIn w a phi)
    (hz : AbsoluteError w z (exact_norm_sq (exact_vec phi)) k) (room : r0 * r0 + k * w ≤ r * r)
    (powers : (m : ℕ) → 2 ^ m * r ^ m ≤ p * (w ^ m * factorial m)) where
  abbrev Z : Value
  Z = exact_norm_sq (exact_vec phi)

  z-near : Near w (value_of z) Z k
  z-near = error-near w z Z k hz

  abbrev square : Value
  square = times (value_of sigma) (value_of sigma)

  there : AtMost (w * w) (plus square (value_of z)) (r * r)
  there = most_wider (w * w) (plus square (value_of z)) (r0 * r0) (r * r) (le_trans (more (r0 * r0) (k * w)) room)
      d.delta
    where
      more : (x y : ℕ) → x ≤ x + y
      more x y = omega arith

  exact-there : AtMost (w * w) (plus square Z) (r * r)
  exact-there =
      most_wider (w * w) (plus square Z) (r0 * r0 + k * w) (r * r) room
      (most-near (w * w) (plus square Z) (plus square (value_of z)) (r0 * r0) (k * w)
      (mul-pos (mul-pos (value-above sigma) (value-above sigma)) (value-above z))
      (near_front (w * w) square Z (value_of z) (k * w)
      (near_turn (w * w) (value_of z) Z (k * w) (subst (λ (e : ℕ). Near (w * w) (value_of z) Z e) (mul_comm w k)
      (near-scale w w (value_of z) Z k z-near))))
      d.delta)

  pub sum1-near : (c : ℕ) → k * p ≤ 24 * c → (n : ℕ) → Near w (sum1 sigma (value_of z) (3 + n)) (sum1 sigma Z (3 + n))
      (2 * c)
  sum1-near c h n =
      v1-apart w r k (value_of sigma) (value_of z) Z wp (value-above sigma) (value-above z) (norm-above phi)
      (value-signed w sigma r0 d.sigma) d.nonnegative
      (norm-errorless w a phi hp) there exact-there z-near p powers c h n

  pub sum2-near : (c : ℕ) → k * p ≤ 120 * c → (n : ℕ) → Near w (sum2 sigma (value_of z) (4 + n))
      (sum2 sigma Z (4 + n)) (2 * c)
  sum2-near c h n =
      v2-apart w r k (value_of sigma) (value_of z) Z wp (value-above sigma) (value-above z) (norm-above phi)
      (value-signed w sigma r0 d.sigma) d.nonnegative
      (norm-errorless w a phi hp) there exact-there z-near p powers c h n

-- ---- the rotation: (cos(θ/2), sin(θ/2)/θ φ)
pub rotation-beside : (w a k y ec gc ek gk j e : ℕ) (phi : Vec3) (z : Float) (q : Quat) → 0 < w → y ≤ 24 * w →
    VecIn w a phi → AtMost w (value_of z) y →
    AtMost w (exact_norm_sq (exact_vec phi)) y → AbsoluteError w z (exact_norm_sq (exact_vec phi)) k →
    w * (y * (k * 4)) ≤ ec * (w * (w * (row_rule cos_half_row 2).den)) →
    w * (2 * k) ≤ gc * ((row_rule cos_half_row 1).den * w) →
    w * (y * (k * 4)) ≤ ek * (w * (w * (row_rule k_row 2).den)) → w * (2 * k) ≤ gk * ((row_rule k_row 1).den * w) →
    ec + gc ≤ j → (ek + gk) * a ≤ j * w →
    (n : ℕ) → QuatError w q (exact_rotation (value_of z) (exact_vec phi) (suc (suc n))) e →
    QuatError w q (exact_rotation (exact_norm_sq (exact_vec phi)) (exact_vec phi) (suc (suc n))) (e + j)
unfolding exact_rotation
rotation-beside w a k y ec gc ek gk j e phi z q wp yw hp zy vy hz c1 c2 k1 k2 lc lk n h =
    let V = exact_norm_sq (exact_vec phi) in
    let Z = value_of z in
    let zd = value-above z in
    let vd = norm-above phi in
    let near = error-near w z V k hz in
    let C = λ (x : Value). exact_row (row_rule cos_half_row) x 0 (suc (suc n)) in
    let K = λ (x : Value). exact_row (row_rule k_row) x 0 (suc (suc n)) in
    let cn : Near w (C Z) (C V) (ec + gc) = row-near w y k (row_rule cos_half_row) (one-num cos_half_row)
    (row_dens cos_half_row) (cos_ratio w y yw) Z V wp zd vd zy vy near ec gc n c1 c2 in
    let kn : Near w (K Z) (K V) (ek + gk) = row-near w y k (row_rule k_row) (one-num k_row) (row_dens k_row)
    (k_ratio w y yw) Z V wp zd vd zy vy near ek gk n k1 k2 in
    let ca = row-above (row_rule cos_half_row) (row_dens cos_half_row) Z zd (suc n) 0 in
    let ka = row-above (row_rule k_row) (row_dens k_row) Z zd (suc n) 0 in
    let kv = row-above (row_rule k_row) (row_dens k_row) V vd (suc n) 0 in
    let part : (x f : Float) → Bounded w f a → AbsoluteError w x (times (K Z) (value_of f)) e →
    AbsoluteError w x (times (K V) (value_of f)) (e + j) =
    λ x f s g. error_trans w x (times (K Z) (value_of f)) (times (K V) (value_of f)) e j (mul-pos ka (value-above f)) g
    (near-right w (K Z) (K V) (value_of f) (ek + gk) a j wp kv (value-above f) kn (leaf_forward w f a s).size lk) in
    record {
      w = error_trans w q.w (C Z) (C V) e j ca h.w (near_wider w (C Z) (C V) (ec + gc) j lc cn);
      x = part q.x phi.x hp.x h.x;
      y = part q.y phi.y hp.y h.y;
      z = part q.z phi.z hp.z h.z;
    }
