-- Worked records: the scope's AC record, a product and its frames, the scope's examples of the refusals 1 and 2, and
-- the arms at a NaN, by computing. Assumes nothing.
use Prim.Native.Nat.{ℕ}
use mathlib.Core.Path.{◌≡◌, refl}
use mathlib.Core.Bool.{true, false}
use mathlib.Core.List.{List, [], ◌∷◌, ◌++◌}
use lib.Ieee.{Float, binary64, nan, of_bits, to_bits, add, sub, mul, lt, le}
use Rattle.ieee.specs.Finite.{is_finite}
use Rattle.linalg.specs.Vector.{vec_scale, vec_cross, vec_add, vec_numbers}
use Rattle.ieee.specs.Numbers.{f0}
use Rattle.arms.specs.Limits.{coeffs_delta}
use Rattle.arms.specs.Arm.{coeffs_arm, arm_ends}
use Rattle.coeffs.specs.Group.{coeffs_armed}
use Rattle.coeffs.specs.Entries.{scaled_answer, armed_answer}
use Rattle.pairs.specs.Entries.{beside, pair_answer, beside_armed, armed_pair_answer}
use Rattle.arms.specs.Floats.{Values}
use Rattle.so3.specs.So3.{so3_act}
use Rattle.so3.specs.Quat.{quat_mul}
use Rattle.sim3.specs.Pose.{pose_act, pose_mul}
use Rattle.frames.specs.Joins.{framed_mul}
use Rattle.jacobian.specs.Jac.{jac_inverse_answer}
use Rattle.layout.specs.Layout.{vec_in, quat_in, pose_in, block_in, quat_numbers, pose_numbers}
use Rattle.wire.specs.Wire.{word_of, word_at, word_bytes, number_of, number_at, number_bytes, item_bytes, items_bytes}
use Rattle.wire.specs.Wire.{all_finite, numbers}
use Rattle.record_result.specs.declared.Disposition.TheVariants.{Answered, Refused}
use Rattle.record_result.specs.declared.Operation.TheVariants.{Co, Ac, Mu, Ji, Ar}
use Rattle.record_result.specs.RecordResult.{mark_bytes, no_bytes, reply_of}
use Rattle.replies.specs.Table.{co_of, ac_of, mu_of, ji_of, ar_of, answer_of, operation_reply}
use Rattle.record_result.specs.Framed.{framed_in, framed_items}

-- the bytes of numbers, from their bit patterns
unfoldable words_bytes : List ℕ → List ℕ
words_bytes [] = []
words_bytes (n ∷ l) = word_bytes 8 n ++ words_bytes l

abbrev one : ℕ
one = 0x3ff0000000000000

-- pose 1 0 0 0, 1 2 3, 0
eight : List ℕ
eight = one ∷ 0 ∷ 0 ∷ 0 ∷ one ∷ 0x4000000000000000 ∷ 0x4008000000000000 ∷ 0 ∷ []

-- up 1, point 4 5 6
up_point : List ℕ
up_point = one ∷ 0x4010000000000000 ∷ 0x4014000000000000 ∷ 0x4018000000000000 ∷ []

frames : ℕ → ℕ → List ℕ
frames from to = word_bytes 2 from ++ word_bytes 2 to

ac_example :
    operation_reply binary64 Ac (0x41 ∷ 0x43 ∷ (words_bytes eight ++ (frames 0 0 ++ words_bytes up_point)))
    ≡ record {
      disposition = Answered;
      bytes =
          0x41 ∷ 0x43 ∷ 0 ∷ 0 ∷ 0 ∷ 0 ∷ 0 ∷ 0 ∷ 0x14 ∷ 0x40 ∷ 0 ∷ 0 ∷ 0 ∷ 0 ∷ 0 ∷ 0 ∷ 0x1c ∷ 0x40 ∷ 0 ∷ 0 ∷ 0 ∷ 0 ∷ 0
          ∷ 0 ∷ 0x22 ∷ 0x40 ∷ [];
    }
unfolding words_bytes eight up_point frames operation_reply reply_of answer_of ac_of mark_bytes pose_in quat_in vec_in
    vec_numbers number_at number_of number_bytes
    item_bytes items_bytes all_finite is_finite numbers word_of word_bytes of_bits to_bits add sub mul vec_scale
    vec_cross vec_add so3_act pose_act
ac_example = refl

-- that pose from 5 to 7 times the same pose from 3 to 5, up 1: t is doubled, and the product goes from 3 to 7
mu_example :
    operation_reply binary64 Mu
    (0x4d ∷ 0x55 ∷ (words_bytes eight
    ++ (frames 5 7 ++ (words_bytes eight ++ (frames 3 5 ++ words_bytes (one ∷ []))))))
    ≡ record {
      disposition = Answered;
      bytes =
          0x4d ∷ 0x55 ∷ (words_bytes (one ∷ 0 ∷ 0 ∷ 0 ∷ 0x4000000000000000 ∷ 0x4010000000000000 ∷ 0x4018000000000000 ∷ 0
          ∷ []) ++ (3 ∷ 0 ∷ 7 ∷ 0 ∷ []));
    }
unfolding words_bytes eight frames operation_reply reply_of answer_of mu_of framed_in framed_items framed_mul mark_bytes
    pose_in quat_in vec_in pose_numbers
    quat_numbers vec_numbers number_at number_of number_bytes item_bytes items_bytes all_finite is_finite numbers
    word_at word_of word_bytes of_bits to_bits add sub
    mul vec_scale vec_cross vec_add so3_act quat_mul pose_act pose_mul
mu_example = refl

-- in the other order it is refused
mu_apart : operation_reply binary64 Mu
    (0x4d ∷ 0x55 ∷ (words_bytes eight ++ (frames 3 5 ++ (words_bytes eight ++ (frames 5 7 ++ words_bytes (one ∷ []))))))
    ≡ record { disposition = Refused; bytes = no_bytes 9 }
unfolding words_bytes eight frames operation_reply reply_of answer_of mu_of framed_in framed_mul word_at word_of
    word_bytes
mu_apart = refl

-- σ = 0, z = -1, whatever the values are
co_example : (values : List ℕ) → operation_reply binary64 Co
    (0x43 ∷ 0x4f ∷ (words_bytes (0 ∷ 0xbff0000000000000 ∷ []) ++ values))
    ≡ record { disposition = Refused; bytes = no_bytes 1 }
unfolding words_bytes operation_reply reply_of answer_of co_of number_at number_of word_of word_bytes of_bits lt
    scaled_answer beside pair_answer
co_example values = refl

ar_example : (values : List ℕ) → operation_reply binary64 Ar
    (0x41 ∷ 0x52 ∷ (words_bytes (0 ∷ 0xbff0000000000000 ∷ []) ++ values))
    ≡ record { disposition = Refused; bytes = no_bytes 1 }
unfolding words_bytes operation_reply reply_of answer_of ar_of number_at number_of word_of word_bytes of_bits lt
    armed_answer beside_armed armed_pair_answer
ar_example values = refl

-- a NaN takes the closed arm: with z alone a NaN, v₀ and w₀ come from series at σ = 0; with σ a NaN they do not,
-- whatever z is
z_nan : (v : Values) → ((coeffs_armed binary64 f0 nan v).arm ≡ 5) × ((coeffs_armed binary64 f0 nan v).ends ≡ true)
unfolding coeffs_armed coeffs_arm arm_ends coeffs_delta of_bits add mul lt
z_nan v = (refl, refl)

sigma_nan : (z : Float) (v : Values) → ((coeffs_armed binary64 nan z v).arm ≡ 5)
    × ((coeffs_armed binary64 nan z v).ends ≡ false)
unfolding coeffs_armed coeffs_arm arm_ends coeffs_delta of_bits add mul lt
sigma_nan z v = (refl, refl)

-- identity blocks, e = 0
eye : List ℕ
eye = one ∷ 0 ∷ 0 ∷ 0 ∷ one ∷ 0 ∷ 0 ∷ 0 ∷ one ∷ []

nothing : List ℕ
nothing = 0 ∷ 0 ∷ 0 ∷ 0 ∷ 0 ∷ 0 ∷ 0 ∷ 0 ∷ 0 ∷ []

ji_example : operation_reply binary64 Ji (0x4a ∷ 0x49 ∷ words_bytes (eye ++ (nothing ++ (eye ++ (0 ∷ 0 ∷ 0 ∷ 0 ∷ [])))))
    ≡ record { disposition = Refused; bytes = no_bytes 2 }
unfolding words_bytes eye nothing operation_reply reply_of answer_of ji_of block_in number_at number_of word_of
    word_bytes of_bits le jac_inverse_answer
ji_example = refl
