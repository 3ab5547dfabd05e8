-- Exact values: fractions of whole numbers, with a sign by a difference, their sums and products, and how far one is
-- from another.
use Rattle.std.specs.Prelude.{ℕ, ◌+◌, ◌-◌, ◌*◌, ◌≤◌, Bool, false, cond, ltb, Float}
use Rattle.std.specs.Float.{nan, inf, fin}
use Rattle.std.specs.Float.Ieee.{up, down}

-- (p - n) / d, for a d above 0
pub record Value : Type 0 where
  pub p : ℕ
  pub n : ℕ
  pub d : ℕ

abbrev pub opposite : Value → Value
opposite x = record { p = x.n; n = x.p; d = x.d }

abbrev pub plus : Value → Value → Value
plus x y = record { p = x.p * y.d + y.p * x.d; n = x.n * y.d + y.n * x.d; d = x.d * y.d }

abbrev pub minus : Value → Value → Value
minus x y = plus x (opposite y)

abbrev pub times : Value → Value → Value
times x y = record { p = x.p * y.p + x.n * y.n; n = x.p * y.n + x.n * y.p; d = x.d * y.d }

-- x - y is at most e / w
abbrev pub Exceeds : ℕ → Value → Value → ℕ → Type 0
Exceeds w x y e = w * (x.p * y.d + y.n * x.d) ≤ w * (x.n * y.d + y.p * x.d) + e * (x.d * y.d)

-- |x - y| is at most e / w
pub record Near (w : ℕ) (x y : Value) (e : ℕ) : Type 0 where
  pub above : Exceeds w x y e
  pub below : Exceeds w y x e

-- |x| is at most b / w
pub record AtMost (w : ℕ) (x : Value) (b : ℕ) : Type 0 where
  pub above : w * x.p ≤ w * x.n + b * x.d
  pub below : w * x.n ≤ w * x.p + b * x.d

-- ± a / c
abbrev pub signed : Bool → ℕ → ℕ → Value
signed s a c = record { p = cond s 0 a; n = cond s a 0; d = c }

-- a float's value; an infinity and a NaN have none, and are 0 here
unfoldable pub value_of : Float → Value
value_of nan = signed false 0 1
value_of (inf s) = signed false 0 1
value_of (fin s m e) = signed s (m * up e) (down e)

-- x is finite, and its value is within e / w of y
abbrev pub AbsoluteError : ℕ → Float → Value → ℕ → Type 0
AbsoluteError w nan y e = ⊥
AbsoluteError w (inf s) y e = ⊥
AbsoluteError w (fin s m k) y e = Near w (signed s (m * up k) (down k)) y e

-- 1 / y, for a y that is not 0
unfoldable pub inverse : Value → Value
inverse y = signed (ltb y.p y.n) y.d (y.p - y.n + (y.n - y.p))

abbrev pub ratio : Value → Value → Value
ratio x y = times x (inverse y)

-- |y| is at least l / w
pub record AtLeast (w : ℕ) (y : Value) (l : ℕ) : Type 0 where
  pub least : l * y.d ≤ w * (y.p - y.n + (y.n - y.p))
