-- The return value of a call that writes numbers to lists, and the lists afterwards: 0 and the numbers, or the number
-- of a refusal and the lists as before. A list of the wrong length is refused.
use Rattle.std.specs.Prelude.{ℕ, cond, ◌&&◌, List, [], ◌∷◌, ◌++◌, eqb, length, pos, Float}
use Rattle.std.specs.Float.{Format}
use Rattle.std.specs.Float.Ieee.{of_int}
use Rattle.ieee.specs.Numbers.{f0, f1}
use Rattle.linalg.specs.Answer.{Answer, answers, refuses, and_then}
use Rattle.coeffs.specs.Floats.{Armed}
use Rattle.pairs.specs.Floats.{ArmedPair}
use Rattle.frames.specs.Floats.{Pose}
use Rattle.layout.specs.Layout.{pose_count, pose_numbers, scaled_numbers, scaled_pair_numbers, armed_scaled}
use Rattle.layout.specs.Lists.{wrong_length, PoseLists, pose_lists, frames_count}

-- ---- the return value, and `out` afterwards
unfoldable pub status : {A : Type 0} → Answer A → ℕ
status (answers l) = 0
status (refuses n) = n

unfoldable pub written : {A : Type 0} → Answer A → A → A
written (answers l) out = l
written (refuses n) out = out

-- numbers for an `out` that must have exactly their length
unfoldable pub fitting : List Float → List Float → Answer (List Float)
fitting out l = cond (eqb (length out) (length l)) (answers l) (refuses wrong_length)

-- ---- poses with their frames
abbrev pub framed_numbers : Pose → PoseLists
framed_numbers x = pose_lists (pose_numbers x.sim3) (x.from ∷ x.to ∷ [])

-- the result's lists after a call
abbrev pub framed_written : (PoseLists → Answer PoseLists) → PoseLists → PoseLists
framed_written call out = written (call out) out

-- a pose for lists that must have exactly the lengths of its numbers and of its frames
unfoldable pub framed_fitting : PoseLists → Pose → Answer PoseLists
framed_fitting out x =
    cond (eqb (length out.numbers) pose_count && eqb (length out.frames) frames_count) (answers (framed_numbers x))
    (refuses wrong_length)

-- if the frames do not match, that is refused, whatever lengths the lists have
unfoldable pub joined_fitting : PoseLists → Answer Pose → Answer PoseLists
joined_fitting out a = and_then a (framed_fitting out)

-- ---- the coefficients with their arms
-- the arm of one sign, and 1 if v₀ and w₀ of the closed arm come from series, else 0
unfoldable pub arm_numbers : Format → Armed → List Float
arm_numbers f a = of_int f (pos a.arm) ∷ cond a.ends f1 f0 ∷ []

-- these before the numbers of that sign; and those of both signs before the scaled pair, as in AR's answer
unfoldable pub armed_numbers : Format → Armed → List Float
armed_numbers f a = arm_numbers f a ++ scaled_numbers a.s

unfoldable pub armed_pair_numbers : Format → ArmedPair → List Float
armed_pair_numbers f p = arm_numbers f p.pos ++ (arm_numbers f p.neg ++ scaled_pair_numbers (armed_scaled p))
