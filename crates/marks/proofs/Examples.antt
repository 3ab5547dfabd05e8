-- The replies on retaken sheets, byte by byte, computed from the definitions: a new sheet, an equal, an older and a
-- higher take, a 513th sheet, and queries. Assumes nothing.
use Prim.Native.Nat.{ℕ}
use mathlib.Core.Path.{◌≡◌, refl}
use mathlib.Core.List.{List, [], ◌∷◌, ◌++◌}
use lib.Ieee.{of_bits, to_bits}
use Rattle.ieee.specs.Finite.{is_finite}
use Rattle.linalg.specs.Vector.{vec_numbers}
use Rattle.running.specs.Running.{running_none}
use Rattle.layout.specs.Layout.{vec_in, quat_in, pose_in, quat_numbers, pose_numbers}
use Rattle.wire.specs.Wire.{word_of, word_at, word_bytes, number_of, number_at, number_bytes, item_bytes, items_bytes}
use Rattle.wire.specs.Wire.{all_finite, numbers}
use Rattle.record_result.specs.declared.Disposition.TheVariants as disposition
use Rattle.record_result.specs.RecordResult.{mark_bytes, no_bytes, reply_of, took, record_head}
use Rattle.record_result.specs.Framed.{framed_in, framed_items}
use Rattle.sheets.specs.Sheets.{none, keeping, shelve_on, shelve, ask_on, ask}
use Rattle.sheets.specs.Store.{shot_in}
use Rattle.job_state.specs.State.{State, state_none}
use Rattle.job_state.specs.Records.{head_by_rule, next_by}
use Rattle.job_state.specs.Retakes.{sh_of, sh_reply, sq_reply, sh_step, sq_step}
use Rattle.marks.specs.Marks.{look_up, mark_of, head_at, next_at, head_of, next_of}

-- a double by its two most significant bytes, the others 0
double : ℕ → ℕ → List ℕ
double a b = 0 ∷ 0 ∷ 0 ∷ 0 ∷ 0 ∷ 0 ∷ a ∷ b ∷ []

-- quaternion 1 0 0 0, translation 2 0 0, σ by its bytes, from 7 to 9
posed : List ℕ → List ℕ
posed s =
    double 0xf0 0x3f
    ++ (double 0 0 ++ (double 0 0
    ++ (double 0 0 ++ (double 0x00 0x40 ++ (double 0 0 ++ (double 0 0 ++ (s ++ (7 ∷ 0 ∷ 9 ∷ 0 ∷ []))))))))

-- for the sheet 5, with a take
sh : ℕ → List ℕ → List ℕ
sh t s = 0x53 ∷ 0x48 ∷ 5 ∷ 0 ∷ t ∷ 0 ∷ posed s

sq : ℕ → List ℕ
sq n = 0x53 ∷ 0x51 ∷ n ∷ 0 ∷ []

-- after a first shot, of take 3
one : State
one = next_of state_none (sh 3 (double 0 0))

-- with the most sheets kept, whichever they are
full : State
full = record { running = running_none; sheets = record { count = 512; at = λ n. none } }

new : head_of state_none (sh 3 (double 0 0)) ≡ took disposition.Answered 74 (0x53 ∷ 0x48 ∷ 1 ∷ 0 ∷ 0 ∷ [])
unfolding of_bits to_bits is_finite vec_in quat_in pose_in vec_numbers quat_numbers pose_numbers word_of word_at
    word_bytes number_of number_at number_bytes item_bytes items_bytes all_finite numbers
    mark_bytes no_bytes reply_of record_head framed_in framed_items keeping shelve_on shelve ask_on ask shot_in sh_of
    sh_reply sq_reply sh_step sq_step look_up mark_of head_by_rule next_by head_at next_at
    head_of next_of double posed sh sq one full
new = refl

equal : head_of one (sh 3 (double 0 0)) ≡ took disposition.Refused 74 (0x4e ∷ 0x4f ∷ 10 ∷ [])
unfolding of_bits to_bits is_finite vec_in quat_in pose_in vec_numbers quat_numbers pose_numbers word_of word_at
    word_bytes number_of number_at number_bytes item_bytes items_bytes all_finite numbers
    mark_bytes no_bytes reply_of record_head framed_in framed_items keeping shelve_on shelve ask_on ask shot_in sh_of
    sh_reply sq_reply sh_step sq_step look_up mark_of head_by_rule next_by head_at next_at
    head_of next_of double posed sh sq one full
equal = refl

older : head_of one (sh 2 (double 0 0)) ≡ took disposition.Answered 74 (0x53 ∷ 0x48 ∷ 3 ∷ 3 ∷ 0 ∷ [])
unfolding of_bits to_bits is_finite vec_in quat_in pose_in vec_numbers quat_numbers pose_numbers word_of word_at
    word_bytes number_of number_at number_bytes item_bytes items_bytes all_finite numbers
    mark_bytes no_bytes reply_of record_head framed_in framed_items keeping shelve_on shelve ask_on ask shot_in sh_of
    sh_reply sq_reply sh_step sq_step look_up mark_of head_by_rule next_by head_at next_at
    head_of next_of double posed sh sq one full
older = refl

higher : head_of one (sh 4 (double 0 0)) ≡ took disposition.Answered 74 (0x53 ∷ 0x48 ∷ 2 ∷ 3 ∷ 0 ∷ [])
unfolding of_bits to_bits is_finite vec_in quat_in pose_in vec_numbers quat_numbers pose_numbers word_of word_at
    word_bytes number_of number_at number_bytes item_bytes items_bytes all_finite numbers
    mark_bytes no_bytes reply_of record_head framed_in framed_items keeping shelve_on shelve ask_on ask shot_in sh_of
    sh_reply sq_reply sh_step sq_step look_up mark_of head_by_rule next_by head_at next_at
    head_of next_of double posed sh sq one full
higher = refl

too_many : head_of full (sh 3 (double 0 0)) ≡ took disposition.Refused 74 (0x4e ∷ 0x4f ∷ 11 ∷ [])
unfolding of_bits to_bits is_finite vec_in quat_in pose_in vec_numbers quat_numbers pose_numbers word_of word_at
    word_bytes number_of number_at number_bytes item_bytes items_bytes all_finite numbers
    mark_bytes no_bytes reply_of record_head framed_in framed_items keeping shelve_on shelve ask_on ask shot_in sh_of
    sh_reply sq_reply sh_step sq_step look_up mark_of head_by_rule next_by head_at next_at
    head_of next_of double posed sh sq one full
too_many = refl

asked : head_of one (sq 5) ≡ took disposition.Answered 4 (0x53 ∷ 0x51 ∷ 3 ∷ 0 ∷ posed (double 0 0))
unfolding of_bits to_bits is_finite vec_in quat_in pose_in vec_numbers quat_numbers pose_numbers word_of word_at
    word_bytes number_of number_at number_bytes item_bytes items_bytes all_finite numbers
    mark_bytes no_bytes reply_of record_head framed_in framed_items keeping shelve_on shelve ask_on ask shot_in sh_of
    sh_reply sq_reply sh_step sq_step look_up mark_of head_by_rule next_by head_at next_at
    head_of next_of double posed sh sq one full
asked = refl

never-kept : head_of one (sq 6) ≡ took disposition.Refused 4 (0x4e ∷ 0x4f ∷ 12 ∷ [])
unfolding of_bits to_bits is_finite vec_in quat_in pose_in vec_numbers quat_numbers pose_numbers word_of word_at
    word_bytes number_of number_at number_bytes item_bytes items_bytes all_finite numbers
    mark_bytes no_bytes reply_of record_head framed_in framed_items keeping shelve_on shelve ask_on ask shot_in sh_of
    sh_reply sq_reply sh_step sq_step look_up mark_of head_by_rule next_by head_at next_at
    head_of next_of double posed sh sq one full
never-kept = refl

older_not_kept : head_of (next_of one (sh 2 (double 0xf0 0x3f))) (sq 5)
    ≡ took disposition.Answered 4 (0x53 ∷ 0x51 ∷ 3 ∷ 0 ∷ posed (double 0 0))
unfolding of_bits to_bits is_finite vec_in quat_in pose_in vec_numbers quat_numbers pose_numbers word_of word_at
    word_bytes number_of number_at number_bytes item_bytes items_bytes all_finite numbers
    mark_bytes no_bytes reply_of record_head framed_in framed_items keeping shelve_on shelve ask_on ask shot_in sh_of
    sh_reply sq_reply sh_step sq_step look_up mark_of head_by_rule next_by head_at next_at
    head_of next_of double posed sh sq one full
older_not_kept = refl

nan_asked : head_of (next_of one (sh 4 (double 0xf1 0xff))) (sq 5)
    ≡ took disposition.Unusable 4 (0x53 ∷ 0x51 ∷ 4 ∷ 0 ∷ posed (double 0xf8 0x7f))
unfolding of_bits to_bits is_finite vec_in quat_in pose_in vec_numbers quat_numbers pose_numbers word_of word_at
    word_bytes number_of number_at number_bytes item_bytes items_bytes all_finite numbers
    mark_bytes no_bytes reply_of record_head framed_in framed_items keeping shelve_on shelve ask_on ask shot_in sh_of
    sh_reply sq_reply sh_step sq_step look_up mark_of head_by_rule next_by head_at next_at
    head_of next_of double posed sh sq one full
nan_asked = refl
