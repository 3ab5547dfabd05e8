-- The double is nearer to √z than any other: the doubles next to v * 2 ^ s are 2 ^ s away, or less below the least v,
-- and √m lies within 1/2 of v. Assumes nothing.
use mathlib.Core.Path.{◌≡◌, sym, ap, subst}
use mathlib.Core.Logic.{inl, inr}
use Prim.Native.Nat.{ℕ, ◌+◌, ◌-◌, ◌*◌, ◌^◌, ◌≤◌, ◌<◌}
use native.Mathlib.Nat.{mul-pos, mul-le-mul, mul-le-mul_right, mul-lt-mul_of_pos_right}
use native.Mathlib.Omega.{arith}
use mathlib.Core.Bool.{Bool, true, false}
use lib.Dec.{T}
use lib.IntN.{ℤ}
use lib.Pow.{pow_pos}
use lib.Ieee.{Float, nan, inf, fin, binary64, fits}
use lib.Ieee.Exact.{HasValue}
use Rattle.std.proofs.lemmas.Bool.{cases_lt}
use Rattle.ieee.specs.Patterns.{units_of}
use Rattle.ieee.proofs.Values.{unsigned}
use Rattle.ieee.proofs.Patterns.{units_are}
use Rattle.ieee.proofs.Spacing.{next-above, next-below}
use Rattle.root.specs.Root.{nearer}
use Rattle.root.specs.Theorem.{Largest, Nearer}
use Rattle.root.proofs.Assembly.{either}

-- ---- √m lies strictly within 1/2 of v, which is w + 1 here
pub half-below : (m r rest w : ℕ) → Largest m r → r * r + rest ≡ m → 1 ≤ r → w + 1 ≡ nearer r rest →
    (2 * w + 1) * (2 * w + 1) < 4 * m
half-below m r rest w l e p q = elim (either r rest (w + 1) q) [
  | inl h ↦ let o : r ≡ w + 1 = sym h.1 in omega (arith, l.low, ap (λ (x : ℕ). x * x) o)
  | inr h ↦ let o : r ≡ w = omega (arith, h.1) in omega (arith, h.0, e, ap (λ (x : ℕ). x * x) o)
]

pub half-above : (m r rest v : ℕ) → Largest m r → r * r + rest ≡ m → v ≡ nearer r rest →
    4 * m < (2 * v + 1) * (2 * v + 1)
half-above m r rest v l e q = elim (either r rest v q) [
  | inl h ↦ omega (arith, h.0, e, ap (λ (x : ℕ). x * x) h.1)
  | inr h ↦ omega (arith, l.high, ap (λ (x : ℕ). x * x) h.1)
]

-- ---- in multiples of P: the double is v * P = w * P + P, another b, and √z² is m * P²
module _ (m w P b : ℕ) (P_pos : 0 < P) where
  farther_above : 4 * m < (2 * (w + 1) + 1) * (2 * (w + 1) + 1) → (w + 1 + 1) * P ≤ b →
      4 * (m * (P * P)) < ((w + 1) * P + b) * ((w + 1) * P + b)
  farther_above h g =
      let s : (2 * (w + 1) + 1) * P ≤ (w + 1) * P + b = omega arith in
      omega (arith, mul-le-mul s s, mul-lt-mul_of_pos_right h (mul-pos P_pos P_pos))

  farther_below : (2 * w + 1) * (2 * w + 1) < 4 * m → b ≤ w * P →
      ((w + 1) * P + b) * ((w + 1) * P + b) < 4 * (m * (P * P))
  farther_below h g =
      let s : (w + 1) * P + b ≤ (2 * w + 1) * P = omega arith in
      omega (arith, mul-le-mul s s, mul-lt-mul_of_pos_right h (mul-pos P_pos P_pos))

  -- at the least v the next double is nearer, but then √m is not below v
  farther_least : (w + 1) * (w + 1) ≤ m → b < (w + 1) * P → ((w + 1) * P + b) * ((w + 1) * P + b) < 4 * (m * (P * P))
  farther_least h g =
      let s : (w + 1) * P + b + 1 ≤ 2 * ((w + 1) * P) = omega arith in
      omega (arith, mul-le-mul s s, mul-le-mul_right (P * P) h)

  farther_minus : (2 * w + 1) * (2 * w + 1) < 4 * m → ((w + 1) * P - b) * ((w + 1) * P - b) < 4 * (m * (P * P))
  farther_minus h =
      let s : (w + 1) * P - b ≤ (2 * w + 1) * P = omega arith in
      omega (arith, mul-le-mul s s, mul-lt-mul_of_pos_right h (mul-pos P_pos P_pos))

-- ---- in units, for any other double y
-- √m lies within 1/2 of w + 1
pub record Within (m w : ℕ) : Type 0 where
  pub full : 2 ^ 52 ≤ w + 1
  pub least : 2 ^ 104 ≤ m
  pub low : (2 * w + 1) * (2 * w + 1) < 4 * m
  pub high : 4 * m < (2 * (w + 1) + 1) * (2 * (w + 1) + 1)

module _ (n m h w : ℕ) (is : n * 2 ^ 1074 ≡ m * (2 ^ h * 2 ^ h)) (i : Within m w) where
  below-least : (b : ℕ) → b < 2 ^ 52 * 2 ^ h → ((w + 1) * 2 ^ h + b) * ((w + 1) * 2 ^ h + b) < 4 * (m * (2 ^ h * 2 ^ h))
  below-least b g = elim (cases_lt (2 ^ 52) (w + 1)) [
    | inl l ↦ farther_below m w (2 ^ h) b (pow_pos h) i.low (omega
        (arith, mul-le-mul_right {m = 2 ^ 52} {n = w} (2 ^ h) (omega arith)))
    | inr l ↦
        let v : w + 1 ≡ 2 ^ 52 = omega arith in
        farther_least m w (2 ^ h) b (pow_pos h) (subst (λ (x : ℕ). x * x ≤ m) (sym v) i.least)
        (subst (λ (x : ℕ). b < x * 2 ^ h) (sym v) g)
  ]

  at_units : (s : Bool) (k : ℕ) (e : ℤ) → T (fits binary64 (fin s k e)) → (t : Bool) →
      Nearer n ((w + 1) * 2 ^ h) t (units_of binary64 k e)
  at_units s k e f true = rw is (farther_minus m w (2 ^ h) (units_of binary64 k e) (pow_pos h) i.low)
  at_units s k e f false =
      let b = units_of binary64 k e in
      let u = unsigned binary64 s k e f in
      let one_less : w + 1 - 1 ≡ w = omega arith in (
        λ g. rw is (farther_above m w (2 ^ h) b (pow_pos h) i.high (next-above binary64 k e u (w + 1) h i.full g)),
        λ g. rw is (elim (next-below binary64 k e u (w + 1) h i.full g) [
          | inl l ↦ farther_below m w (2 ^ h) b (pow_pos h) i.low (subst (λ (x : ℕ). b ≤ x * 2 ^ h) one_less l)
          | inr l ↦ below-least b l
        ]),
      )

  pub double-nearer : (y : Float) (t : Bool) (b : ℕ) → T (fits binary64 y) → HasValue y t b (2 ^ 1074) →
      Nearer n ((w + 1) * 2 ^ h) t b
  double-nearer nan t b f v = absurd v
  double-nearer (inf s) t b f v = absurd v
  double-nearer (fin s k e) t b f v =
      subst (λ (x : ℕ). Nearer n ((w + 1) * 2 ^ h) t x) (sym (units_are binary64 s t k e b f v)) (at_units s k e f t)
