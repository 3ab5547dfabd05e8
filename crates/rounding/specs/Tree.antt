-- Expression trees: what a format computes for one, its exact value, and a bound of the difference.
use Rattle.std.specs.Prelude.{ℕ, suc, ◌+◌, ◌-◌, ◌*◌, ◌/◌, ◌^◌, ◌<◌, Bool, true, false, ◌&&◌, ltb, Float}
use Rattle.std.specs.Float.{Format}
use Rattle.std.specs.Float.Ieee.{emax, neg, add, mul, div}
use Rattle.rounding.specs.Value.{Value, opposite, plus, times, ratio, AtMost, AtLeast, AbsoluteError}
use Rattle.rounding.specs.Roundoff.{rounding_error}

pub data Term : Type 0 where
  leaf : ℕ → Term
  opp : Term → Term
  sum : Term → Term → Term
  prod : Term → Term → Term
  -- a quotient, with a lower bound of the divisor's size, in the units of the bounds
  quot : ℕ → Term → Term → Term

-- a difference is the sum with the opposite, as in the formats
abbrev pub diff : Term → Term → Term
diff a b = sum a (opp b)

-- in the operations of the format f, with the floats x at the leaves
unfoldable pub computed : Format → (ℕ → Float) → Term → Float
computed f x (leaf i) = x i
computed f x (opp a) = neg (computed f x a)
computed f x (sum a b) = add f (computed f x a) (computed f x b)
computed f x (prod a b) = mul f (computed f x a) (computed f x b)
computed f x (quot l a b) = div f (computed f x a) (computed f x b)

-- exactly, with the values v at the leaves
unfoldable pub exact : (ℕ → Value) → Term → Value
exact v (leaf i) = v i
exact v (opp a) = opposite (exact v a)
exact v (sum a b) = plus (exact v a) (exact v b)
exact v (prod a b) = times (exact v a) (exact v b)
exact v (quot l a b) = ratio (exact v a) (exact v b)

-- In units of 1 / w: the exact value is at most `most` in size, and the computed one within `error` of it.
pub record Bound : Type 0 where
  pub magnitude : ℕ
  pub error : ℕ

-- what the computed value can reach
abbrev pub reach : Bound → ℕ
reach b = b.magnitude + b.error

-- a b / w, upward
abbrev pub upward : ℕ → ℕ → ℕ
upward w a = suc (a / w)

-- the size of what a sum and a product round
abbrev pub sum_reach : Bound → Bound → ℕ
sum_reach a b = reach a + reach b

abbrev pub prod_reach : ℕ → Bound → Bound → ℕ
prod_reach w a b = upward w (reach a * reach b)

abbrev pub sum_bound : Format → ℕ → Bound → Bound → Bound
sum_bound f w a b =
    record { magnitude = a.magnitude + b.magnitude; error = a.error + b.error + rounding_error f w (sum_reach a b) }

abbrev pub prod_bound : Format → ℕ → Bound → Bound → Bound
prod_bound f w a b =
    record {
      magnitude = upward w (a.magnitude * b.magnitude);
      error =
          upward w (reach a * b.error + a.error * b.magnitude) + rounding_error f w (prod_reach w a b);
    }

-- 1 / y for a y of at least l, computed within e: its size and its error
abbrev pub inverse_bound : ℕ → ℕ → ℕ → Bound
inverse_bound w l e = record { magnitude = upward l (w * w); error = upward (l * (l - e)) (e * (w * w)) }

abbrev pub quot_bound : Format → ℕ → Bound → Bound → Bound
quot_bound f w a i =
    record {
      magnitude = upward w (a.magnitude * i.magnitude);
      error =
          upward w (reach a * i.error + a.error * i.magnitude) + rounding_error f w (prod_reach w a i);
    }

unfoldable pub bound : Format → ℕ → (ℕ → Bound) → Term → Bound
bound f w b (leaf i) = b i
bound f w b (opp a) = bound f w b a
bound f w b (sum a c) = sum_bound f w (bound f w b a) (bound f w b c)
bound f w b (prod a c) = prod_bound f w (bound f w b a) (bound f w b c)
bound f w b (quot l a c) = quot_bound f w (bound f w b a) (inverse_bound w l (bound f w b c).error)

-- a number of x units, rounded, stays below the format's overflow
abbrev pub in_range : Format → ℕ → ℕ → Bool
in_range f w x = ltb (x + rounding_error f w x) (2 ^ suc (emax f) * w)

-- no sum and no product of the tree can overflow, and there is no quotient in it
unfoldable pub no_overflow : Format → ℕ → (ℕ → Bound) → Term → Bool
unfolding bound
no_overflow f w b (leaf i) = true
no_overflow f w b (opp a) = no_overflow f w b a
no_overflow f w b (sum a c) =
    no_overflow f w b a && (no_overflow f w b c && in_range f w (sum_reach (bound f w b a) (bound f w b c)))
no_overflow f w b (prod a c) =
    no_overflow f w b a && (no_overflow f w b c && in_range f w (prod_reach w (bound f w b a) (bound f w b c)))
no_overflow f w b (quot l a c) = false

-- no sum, product or quotient of the tree can overflow, and no computed divisor can be 0
unfoldable pub well_defined : Format → ℕ → (ℕ → Bound) → Term → Bool
unfolding bound
well_defined f w b (leaf i) = true
well_defined f w b (opp a) = well_defined f w b a
well_defined f w b (sum a c) =
    well_defined f w b a && (well_defined f w b c && in_range f w (sum_reach (bound f w b a) (bound f w b c)))
well_defined f w b (prod a c) =
    well_defined f w b a && (well_defined f w b c && in_range f w (prod_reach w (bound f w b a) (bound f w b c)))
well_defined f w b (quot l a c) =
    well_defined f w b a
    && (well_defined f w b c && (ltb (bound f w b c).error l
    && in_range f w (prod_reach w (bound f w b a) (inverse_bound w l (bound f w b c).error))))

-- each exact divisor is at least its lower bound
unfoldable pub DivisorsAtLeast : ℕ → (ℕ → Value) → Term → Type 0
unfolding exact
DivisorsAtLeast w v (leaf i) = Unit {0}
DivisorsAtLeast w v (opp a) = DivisorsAtLeast w v a
DivisorsAtLeast w v (sum a b) = DivisorsAtLeast w v a × DivisorsAtLeast w v b
DivisorsAtLeast w v (prod a b) = DivisorsAtLeast w v a × DivisorsAtLeast w v b
DivisorsAtLeast w v (quot l a b) = DivisorsAtLeast w v a × (DivisorsAtLeast w v b × AtLeast w (exact v b) l)

-- the float x is finite, within its error of y, and y at most its size
pub record ForwardError (w : ℕ) (x : Float) (y : Value) (b : Bound) : Type 0 where
  pub close : AbsoluteError w x y b.error
  pub size : AtMost w y b.magnitude
  pub above : 0 < y.d
