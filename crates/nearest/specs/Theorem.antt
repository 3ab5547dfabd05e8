-- The nearest arm in the request's words, without an order of trying: `NearestTheorem` below, proved as
-- `nearest_theorem` in proofs/Theorem.antt; and how the two rules for a tie differ, `UpwardFirst`, proved as
-- `upward-first` in proofs/Ties.antt.
use Rattle.std.specs.Prelude.{◌≡◌, true, false, cond, ℕ, ◌+◌, ◌≤◌, ◌<◌, T, Float}
use Rattle.std.specs.Float.{Format}
use Rattle.std.specs.Float.Ieee.{to_bits, fits, lt}
use Rattle.ieee.specs.Finite.{is_finite}
use Rattle.ieee.specs.Numbers.{f0}
use Rattle.ieee.specs.Patterns.{patterns}
use Rattle.ieee.specs.Signs.{unsigned_zero}
use Rattle.nearest.specs.Nearest.{Way, down, up, Near, step, none, place, changes, nearest_from}

-- n is the least count that changes the arm, in the direction d, which is `first` if that direction does as well; and a
-- is the arm there
pub record Least (arm : ℕ → ℕ) (end : ℕ) (first : Way) (p n : ℕ) (d : Way) (a : ℕ) : Type 0 where
  pub changing : T (changes arm end p d n)
  pub least : (e : Way) (m : ℕ) → T (changes arm end p e m) → n ≤ m
  pub tie : T (changes arm end p first n) → d ≡ first
  pub there : a ≡ arm (place d p n)

-- every pattern below `end` has the same arm
abbrev pub OneArm : (ℕ → ℕ) → ℕ → Type 0
OneArm arm end = (q r : ℕ) → q < end → r < end → arm q ≡ arm r

abbrev pub NearIs : (ℕ → ℕ) → ℕ → Way → ℕ → Near → Type 0
NearIs arm end first p (step n d a) = Least arm end first p n d a
NearIs arm end first p none = OneArm arm end

-- the definition returns the nearest arm, and nothing else is the nearest arm
pub record Asked (arm : ℕ → ℕ) (end : ℕ) (first : Way) (p : ℕ) : Type 0 where
  pub is : NearIs arm end first p (nearest_from arm end first p)
  pub only : (r : Near) → NearIs arm end first p r → r ≡ nearest_from arm end first p

-- for any function as the arm, from every pattern below the end; and the patterns from which the definition starts are
-- below it
pub record NearestTheorem : Type 0 where
  pub asked : (arm : ℕ → ℕ) (end : ℕ) (first : Way) (p : ℕ) → p < end → Asked arm end first p
  pub starts : (f : Format) (z : Float) → T (fits f z) → lt z f0 ≡ false → is_finite z ≡ true →
      to_bits f (unsigned_zero z) < patterns f

-- ---- upward first: an answer that leads down leads up instead if as many steps do that too, which is a tie; every
-- other answer is the same
abbrev pub up_at_tie : (ℕ → ℕ) → ℕ → ℕ → Near → Near
up_at_tie arm end p (step n down a) = cond (changes arm end p up n) (step n up (arm (p + n))) (step n down a)
up_at_tie arm end p (step n up a) = step n up a
up_at_tie arm end p none = none

abbrev pub UpwardFirst : Type 0
UpwardFirst = (arm : ℕ → ℕ) (end p : ℕ) → nearest_from arm end up p ≡ up_at_tie arm end p (nearest_from arm end down p)
