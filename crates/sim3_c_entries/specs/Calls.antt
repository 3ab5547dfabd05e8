-- The result of each function: 0 and the numbers in `out`, or the number of a refusal and `out` as it was (Written.antt
-- of crate `to_lists`). A list of the wrong length is refused with the lists' number.
use Rattle.std.specs.Prelude.{ℕ, cond, ◌&&◌, List, [], ◌∷◌, eqb, length, Float}
use Rattle.std.specs.Float.{Format}
use Rattle.linalg.specs.Answer.{Answer, answers, refuses, and_then}
use Rattle.linalg.specs.Vector.{vec_numbers}
use Rattle.pairs.specs.Entries.{pair_answer, armed_pair_answer}
use Rattle.pairs.specs.Floats.{ArmedPair}
use Rattle.sim3.specs.Pose.{pose_act}
use Rattle.frames.specs.Pose.{framed_exp, framed_inverse}
use Rattle.frames.specs.Joins.{framed_mul}
use Rattle.jacobian.specs.Jac.{jac_inverse_answer}
use Rattle.side_jacobians.specs.Pair.{block_pair}
use Rattle.layout.specs.Layout.{scaled_pair_count, block_numbers, block_pair_numbers, scaled_pair_numbers, armed_scaled}
use Rattle.layout.specs.Lists.{wrong_length, PoseLists}
use Rattle.from_lists.specs.Lists.{vec_from, mat_from, pose_from, tangent_from, values_from, block_from}
use Rattle.from_lists.specs.Lists.{frames_from, framed_from}
use Rattle.to_lists.specs.Written.{fitting, framed_fitting, joined_fitting}

-- ---- poses with their frames
unfoldable pub exp_call : Format → List Float → List Float → List ℕ → PoseLists → Answer PoseLists
exp_call f tau values frames out =
    and_then (tangent_from tau) (λ t. and_then (values_from values)
    (λ v. and_then (frames_from frames) (λ k. framed_fitting out (framed_exp f t v k.from k.to))))

unfoldable pub mul_call : Format → PoseLists → PoseLists → Float → PoseLists → Answer PoseLists
mul_call f x y up out =
    and_then (framed_from x) (λ a. and_then (framed_from y) (λ b. joined_fitting out (framed_mul f a b up)))

unfoldable pub inverse_call : Format → PoseLists → Float → PoseLists → Answer PoseLists
inverse_call f x down out = and_then (framed_from x) (λ a. framed_fitting out (framed_inverse f a down))

-- ---- the pairs
unfoldable pub scaled_pair_call : Format → Float → Float → List Float → List Float → Answer (List Float)
scaled_pair_call f sigma z values out =
    and_then (values_from values) (λ v. and_then (pair_answer f sigma z v) (λ p. fitting out (scaled_pair_numbers p)))

unfoldable pub block_pair_call : Format → List Float → List Float → List Float → List Float → List Float →
    Answer (List Float)
block_pair_call f tau values jl jlInv out =
    and_then (tangent_from tau) (λ t. and_then (values_from values)
    (λ v. and_then (mat_from jl) (λ j. and_then (mat_from jlInv)
    (λ i. fitting out (block_pair_numbers (block_pair f t v j i))))))

-- ---- blocks
unfoldable pub block_inverse_call : Format → List Float → List Float → Answer (List Float)
block_inverse_call f j out =
    and_then (block_from j) (λ b. and_then (jac_inverse_answer f b) (λ i. fitting out (block_numbers i)))

-- ---- one point
unfoldable pub act_call : Format → List Float → Float → List Float → List Float → Answer (List Float)
act_call f x up p out =
    and_then (pose_from x) (λ a. and_then (vec_from p) (λ v. fitting out (vec_numbers (pose_act f a up v))))

-- ---- the scaled pair to a list of numbers, and its arms to four bytes
pub record ArmLists : Type 0 where
  pub arms : List ℕ
  pub numbers : List Float

abbrev pub arm_lists : List ℕ → List Float → ArmLists
arm_lists arms numbers = record { arms = arms; numbers = numbers }

-- the arm of each sign, and 1 if v₀ and w₀ of the closed arm come from their own series, else 0
abbrev pub arm_bytes : ArmedPair → List ℕ
arm_bytes p = p.pos.arm ∷ cond p.pos.ends 1 0 ∷ p.neg.arm ∷ cond p.neg.ends 1 0 ∷ []

unfoldable pub arms_fitting : ArmLists → ArmedPair → Answer ArmLists
arms_fitting out p =
    cond (eqb (length out.arms) 4 && eqb (length out.numbers) scaled_pair_count)
    (answers (arm_lists (arm_bytes p) (scaled_pair_numbers (armed_scaled p))))
    (refuses wrong_length)

unfoldable pub arms_call : Format → Float → Float → List Float → ArmLists → Answer ArmLists
arms_call f sigma z values out =
    and_then (values_from values) (λ v. and_then (armed_pair_answer f sigma z v) (arms_fitting out))
