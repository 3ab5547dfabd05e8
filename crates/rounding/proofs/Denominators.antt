-- A value as a difference over a denominator of one's choice. Assumes nothing.
use mathlib.Core.Path.{◌≡◌, sym, ap}
use Prim.Native.Nat.{ℕ, ◌+◌, ◌*◌, ◌≤◌, ◌<◌}
use native.Mathlib.Nat.{mul-le-mul_right, le_of_mul-le-mul_right, eq_of_mul-eq-mul_right}
use native.Mathlib.Omega.{arith}
use Rattle.rounding.specs.Value.{Value, opposite, plus, times, AtMost}
use Rattle.rounding.proofs.Differences.{expand}

-- x = (p - n) / e
pub record Is (x : Value) (p n e : ℕ) : Type 0 where
  pub equal : x.p * e + n * x.d ≡ x.n * e + p * x.d

pub is_shift : (x : Value) (p n q m e : ℕ) → p + m ≡ n + q → Is x p n e → Is x q m e
is_shift x p n q m e h k =
    let a = k.equal in
    let b = ap (λ (i : ℕ). i * x.d) h in
    record { equal = omega (arith, simp expand at b) }

pub is-opposite : (x : Value) (p n e : ℕ) → Is x p n e → Is (opposite x) n p e
is-opposite x p n e h = let a = h.equal in record { equal = omega arith }

pub is-scaled : (x : Value) (p n e k : ℕ) → Is x p n e → Is x (k * p) (k * n) (k * e)
is-scaled x p n e k h =
    let a = ap (λ (i : ℕ). k * i) h.equal in record { equal = simp expand (omega (arith, simp expand at a)) }

pub is-divided : (x : Value) (p n e k : ℕ) → 0 < k → Is x (k * p) (k * n) (k * e) → Is x p n e
is-divided x p n e k z h =
    record {
      equal = eq_of_mul-eq-mul_right k z (x.p * e + n * x.d) (x.n * e + p * x.d) (let a = h.equal in
          simp expand (omega (arith, simp expand at a)));
    }

plus-whole : (xp xn xd yp yn yd p n q m e : ℕ) → xp * e + n * xd ≡ xn * e + p * xd → yp * e + m * yd ≡ yn * e + q * yd
    → (xp * yd + yp * xd) * e + (n + m) * (xd * yd) ≡ (xn * yd + yn * xd) * e + (p + q) * (xd * yd)
plus-whole xp xn xd yp yn yd p n q m e h k =
    let a = ap (λ (i : ℕ). i * yd) h in
    let b = ap (λ (i : ℕ). i * xd) k in
    simp expand (omega (arith, simp expand at a, simp expand at b))

pub is-plus : (x y : Value) (p n q m e : ℕ) → Is x p n e → Is y q m e → Is (plus x y) (p + q) (n + m) e
is-plus x y p n q m e h k = record { equal = plus-whole x.p x.n x.d y.p y.n y.d p n q m e h.equal k.equal }

times-first : (xp xn xd yp yn p n e g : ℕ) → xp * e + n * xd ≡ xn * e + p * xd
    → (xp * yp + xn * yn) * (e * g) + (n * xd * (yp * g) + p * xd * (yn * g))
    ≡ (xp * yn + xn * yp) * (e * g) + (p * xd * (yp * g) + n * xd * (yn * g))
times-first xp xn xd yp yn p n e g h =
    let a = ap (λ (i : ℕ). i * (yp * g)) h in
    let b = ap (λ (i : ℕ). i * (yn * g)) h in
    simp expand (omega (arith, simp expand at a, simp expand at b))

times-second : (xd yp yn yd p n q m g : ℕ) → yp * g + m * yd ≡ yn * g + q * yd
    → p * xd * (yp * g) + n * xd * (yn * g) + (p * m + n * q) * (xd * yd)
    ≡ n * xd * (yp * g) + p * xd * (yn * g) + (p * q + n * m) * (xd * yd)
times-second xd yp yn yd p n q m g h =
    let a = ap (λ (i : ℕ). p * xd * i) h in
    let b = ap (λ (i : ℕ). n * xd * i) h in
    simp expand (omega (arith, simp expand at a, simp expand at b))

chained : (a b c d e f : ℕ) → a + c ≡ b + d → d + e ≡ c + f → a + e ≡ b + f
chained a b c d e f h k = omega arith

pub is-times : (x y : Value) (p n q m e g : ℕ) → Is x p n e → Is y q m g →
    Is (times x y) (p * q + n * m) (p * m + n * q) (e * g)
is-times x y p n q m e g h k =
    record {
      equal = chained _ _ _ _ _ _ (times-first x.p x.n x.d y.p y.n p n e g h.equal)
          (times-second x.d y.p y.n y.d p n q m g k.equal);
    }

-- its size
pub side_most : (w b xp xn xd p n e : ℕ) → 0 < e → xp * e + n * xd ≡ xn * e + p * xd → w * p ≤ w * n + b * e →
    w * xp ≤ w * xn + b * xd
side_most w b xp xn xd p n e z h k =
    let a = ap (λ (i : ℕ). w * i) h in
    let c = mul-le-mul_right xd k in
    le_of_mul-le-mul_right (simp expand (omega (arith, simp expand at a, simp expand at c))) z

pub is-most : (w b : ℕ) (x : Value) (p n e : ℕ) → 0 < e → Is x p n e → w * p ≤ w * n + b * e → w * n ≤ w * p + b * e →
    AtMost w x b
is-most w b x p n e z h k l =
    record {
      above = side_most w b x.p x.n x.d p n e z h.equal k;
      below =
          side_most w b x.n x.p x.d n p e z (sym h.equal) l;
    }
