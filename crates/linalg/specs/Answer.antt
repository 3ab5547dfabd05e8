-- The answer of a function that can refuse: the numbers, or the number of a refusal in the scope's table.
use Rattle.std.specs.Prelude.{ℕ, cond, Float, Result, Ok, Err}
use Rattle.std.specs.Float.Ieee.{lt}
use Rattle.ieee.specs.Numbers.{f0}
use Rattle.linalg.specs.declared.refusal.Refusal.{Refusal}
use Rattle.linalg.specs.declared.refusal.Refusal.TheVariants as refusal

pub data Answer (A : Type 0) : Type 0 where
  answers : A → Answer A
  refuses : ℕ → Answer A

-- continue with the numbers, or pass the refusal on
abbrev pub and_then : {A B : Type 0} → Answer A → (A → Answer B) → Answer B
and_then (answers a) k = k a
and_then (refuses n) k = refuses n

-- refusal 1 if a squared angle z is below zero, which -0 and NaN are not
abbrev pub unless_below_zero : {A : Type 0} → Float → Answer A → Answer A
unless_below_zero z a = cond (lt z f0) (refuses 1) a

-- ---- the refusals of the code by their numbers, and its results as answers
abbrev pub number : Refusal → ℕ
number refusal.NegativeAngle = 1
number refusal.ZeroScale = 2
number refusal.NoSuchEntry = 3
number refusal.TooManyTerms = 4
number refusal.BadLength = 5
number refusal.UnknownMark = 6
number refusal.CutInput = 7
number refusal.NotFinite = 8
number refusal.FramesDiffer = 9
number refusal.SameTake = 10
number refusal.NoRoom = 11
number refusal.NeverKept = 12
number refusal.ListLength = 100

-- the answer that a result means; h maps the numbers of the code to those of the definitions
abbrev pub view : {A B : Type 0} → (A → B) → Result A Refusal → Answer B
view h (Ok a) = answers (h a)
view h (Err r) = refuses (number r)

-- the same if the numbers are floats already
abbrev pub answer : {A : Type 0} → Result A Refusal → Answer A
answer r = view (λ a. a) r
