-- The nearest arm over values and not over their patterns: neighbouring values by the order of IEEE 754, moves from
-- each to the next, and the least number of moves to another arm. `NeighboursTheorem` says that the next pattern is
-- that of the next value, and `NearestArmTheorem` says the same of the public function; proved as `neighbours_theorem`
-- and `nearest-arm_theorem` in proofs/Neighbours.antt.
use Rattle.std.specs.Prelude.{◌≡◌, true, false, ℕ, ◌+◌, ◌≤◌, ◌<◌, T, Float}
use Rattle.std.specs.Float.{Format}
use Rattle.std.specs.Float.Ieee.{of_bits, to_bits, fits, lt}
use Rattle.ieee.specs.Finite.{is_finite}
use Rattle.ieee.specs.Numbers.{f0}
use Rattle.ieee.specs.Patterns.{patterns}
use Rattle.ieee.specs.Signs.{unsigned_zero, not_minus_zero}
use Rattle.linalg.specs.Answer.{answers}
use Rattle.nearest.specs.Nearest.{Way, down, up, Near, step, none, arm_of, preferred, nearest_of}

-- the values of the format to which z may move: finite and not below zero; -0 counts as +0, so +0 represents both
pub record Permitted (f : Format) (x : Float) : Type 0 where
  pub value : T (fits f x)
  pub finite : is_finite x ≡ true
  pub sign : lt x f0 ≡ false
  pub zero : T (not_minus_zero x)

-- y is above x, and no value of the format lies strictly between them
pub record Next (f : Format) (x y : Float) : Type 0 where
  pub above : T (lt x y)
  pub between : (v : Float) → T (fits f v) → T (lt x v) → T (lt v y) → ⊥

-- ---- the patterns below `patterns f` are those of the permitted values, and the next pattern is that of the next
-- value
pub record NeighboursTheorem (f : Format) : Type 0 where
  pub permitted : (p : ℕ) → p < patterns f → Permitted f (of_bits f p)
  pub all : (x : Float) → Permitted f x → (to_bits f x < patterns f) × (of_bits f (to_bits f x) ≡ x)
  pub next : (p : ℕ) → p + 1 < patterns f → Next f (of_bits f p) (of_bits f (p + 1))
  pub only : (p q : ℕ) → p < patterns f → q < patterns f → Next f (of_bits f p) (of_bits f q) → q ≡ p + 1

-- ---- moves
-- y is the neighbour of x in the direction d
abbrev pub Beside : Format → Way → Float → Float → Type 0
Beside f down x y = Next f y x
Beside f up x y = Next f x y

-- n moves in the direction d lead from x to y: the values on the way, each permitted and each the neighbour of the one
-- before it
pub record Moves (f : Format) (d : Way) (n : ℕ) (x y : Float) : Type 0 where
  pub way : ℕ → Float
  pub from : way 0 ≡ x
  pub to : way n ≡ y
  pub each : (i : ℕ) → i < n → Permitted f (way (i + 1)) × Beside f d (way i) (way (i + 1))

-- ---- the least count, at σ and the value z
-- y has another arm than z
abbrev pub Changed : Format → Float → Float → Float → Type 0
Changed f sigma z y = arm_of f sigma y ≡ arm_of f sigma z → ⊥

-- n moves in the direction d lead to another arm, which is a; fewer moves do not, in either direction; and if n moves
-- in the direction `first` do too, d is `first`
pub record LeastMoves (f : Format) (first : Way) (sigma z : Float) (n : ℕ) (d : Way) (a : ℕ) : Type 0 where
  pub there : Float
  pub moves : Moves f d n z there
  pub changed : Changed f sigma z there
  pub arm : a ≡ arm_of f sigma there
  pub least : (e : Way) (m : ℕ) (y : Float) → Moves f e m z y → Changed f sigma z y → n ≤ m
  pub tie : (y : Float) → Moves f first n z y → Changed f sigma z y → d ≡ first

-- "none" is right if every permitted z has the same arm
abbrev pub IsNearest : Format → Way → Float → Float → Near → Type 0
IsNearest f first sigma z (step n d a) = LeastMoves f first sigma z n d a
IsNearest f first sigma z none = (x y : Float) → Permitted f x → Permitted f y → arm_of f sigma x ≡ arm_of f sigma y

-- what the public function returns is the nearest arm, and nothing else is; so it returns "none" exactly where that is
-- right
pub record NearestAnswered (f : Format) (sigma z : Float) : Type 0 where
  pub near : Near
  pub answered : nearest_of f preferred sigma z ≡ answers near
  pub is : IsNearest f preferred sigma (unsigned_zero z) near
  pub only : (r : Near) → IsNearest f preferred sigma (unsigned_zero z) r → r ≡ near

-- for every finite σ and every finite z of the format that is not below zero
abbrev pub NearestArmTheorem : Format → Type 0
NearestArmTheorem f =
    (sigma z : Float) → T (fits f z) → is_finite sigma ≡ true → is_finite z ≡ true → lt z f0 ≡ false
    → NearestAnswered f sigma z
