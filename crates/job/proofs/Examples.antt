-- The whole output for one AC record at either width, for a product whose frames do not match, for a running join and
-- for each other way in which a job stops, and the length of a record of each mark, all computed from the definition.
-- Assumes nothing.
use Prim.Native.Nat.{ℕ, ◌+◌, ◌-◌}
use mathlib.Core.Path.{◌≡◌, refl}
use mathlib.Core.Bool.{Bool, true, false, ◌&&◌}
use lib.Dec.{eqb}
use lib.ListN.{set, replicate}
use mathlib.Core.List.{List, [], ◌∷◌, ◌++◌}
use lib.Ieee.{of_bits, to_bits, add, sub, mul}
use Rattle.ieee.specs.Finite.{is_finite}
use Rattle.linalg.specs.Vector.{vec_scale, vec_cross, vec_add, vec_numbers}
use Rattle.so3.specs.So3.{so3_act}
use Rattle.sim3.specs.Pose.{pose_act}
use Rattle.layout.specs.Layout.{vec_in, quat_in, pose_in, quat_numbers, pose_numbers}
use Rattle.running.specs.Running.{product_on, join_on}
use Rattle.job_state.specs.Records.{head_by_rule, next_by}
use Rattle.job_state.specs.Chain.{ch_of, ch_reply, rn_reply, ch_step, rn_step}
use Rattle.wire.specs.Wire.{word_of, word_at, word_bytes, number_of, number_at, number_bytes, item_bytes, items_bytes}
use Rattle.wire.specs.Wire.{all_finite, numbers, count_bytes}
use Rattle.record_result.specs.RecordResult.{mark_bytes, no_bytes, reply_of, InputHead, took, ended, unknown, cut}
use Rattle.record_result.specs.RecordResult.{record_head}
use Rattle.frames.specs.Joins.{framed_mul}
use Rattle.replies.specs.Table.{ac_of, mu_of, answer_of, operation_reply}
use Rattle.record_result.specs.Framed.{framed_in, framed_items}
use Rattle.job_state.specs.State.{state_none}
use Rattle.marks.specs.Marks.{look_up, mark_of, head_at, next_at, head_of, next_of}
use Rattle.marks.specs.Rows.{row_count, row_known, row_at}
use Rattle.job.specs.Counts.{counts_more, totals_more, by_mark_more, by_mark_bytes}
use Rattle.job.specs.Job.{trailer, job_on, job_from, job_of, job_limit}

-- a double by its two most significant bytes, the others 0
double : ℕ → ℕ → List ℕ
double a b = 0 ∷ 0 ∷ 0 ∷ 0 ∷ 0 ∷ 0 ∷ a ∷ b ∷ []

zero : List ℕ
zero = double 0x00 0x00

one : List ℕ
one = double 0xf0 0x3f

-- ZZ, four counts below 256 and those by mark
words : List ℕ → List ℕ
words [] = []
words (x ∷ l) = x ∷ 0 ∷ 0 ∷ 0 ∷ words l

counts : ℕ → ℕ → ℕ → ℕ → List ℕ → List ℕ
counts a b c d by_mark = 0x5a ∷ 0x5a ∷ words (a ∷ b ∷ c ∷ d ∷ by_mark)

-- twenty counts of which one is 1
nowhere : List ℕ
nowhere = replicate row_count 0

only : ℕ → List ℕ
only r = set nowhere r 1

-- two frames below 256
frames : ℕ → ℕ → List ℕ
frames from to = from ∷ 0 ∷ to ∷ 0 ∷ []

-- pose 1 0 0 0, 1 2 3, 0, frames 0 0, up 1, point 4 5 6
record_in : List ℕ
record_in =
    0x41
    ∷ 0x43
    ∷ (one
    ++ (zero
    ++ (zero
    ++ (zero ++ (one ++ (double 0x00 0x40 ++ (double 0x08 0x40
    ++ (zero ++ (frames 0 0 ++ (one ++ (double 0x10 0x40 ++ (double 0x14 0x40 ++ double 0x18 0x40))))))))))))

answered : job_of job_limit record_in ≡ 0x41 ∷ 0x43 ∷ (double 0x14 0x40
    ++ (double 0x1c 0x40 ++ (double 0x22 0x40 ++ counts 1 1 0 0 (only 3))))
unfolding of_bits to_bits add sub mul vec_scale vec_cross vec_add so3_act pose_act vec_in quat_in pose_in vec_numbers
    word_of word_bytes number_of number_at number_bytes item_bytes items_bytes
    all_finite is_finite numbers count_bytes look_up mark_of mark_bytes reply_of ac_of answer_of operation_reply
    counts_more totals_more by_mark_more record_head head_by_rule head_at head_of row_at
    row_known by_mark_bytes trailer job_on job_from double zero one words counts nowhere only frames record_in
answered = refl

-- the same record on singles, each by its two most significant bytes
single : ℕ → ℕ → List ℕ
single a b = 0 ∷ 0 ∷ a ∷ b ∷ []

nought : List ℕ
nought = single 0x00 0x00

unit : List ℕ
unit = single 0x80 0x3f

small_in : List ℕ
small_in =
    0x61
    ∷ 0x63
    ∷ (unit
    ++ (nought
    ++ (nought
    ++ (nought ++ (unit ++ (single 0x00 0x40 ++ (single 0x40 0x40
    ++ (nought ++ (frames 0 0 ++ (unit ++ (single 0x80 0x40 ++ (single 0xa0 0x40 ++ single 0xc0 0x40))))))))))))

small : job_of job_limit small_in ≡ 0x61 ∷ 0x63 ∷ (single 0xa0 0x40
    ++ (single 0xe0 0x40 ++ (single 0x10 0x41 ++ counts 1 1 0 0 (only 10))))
unfolding of_bits to_bits add sub mul vec_scale vec_cross vec_add so3_act pose_act vec_in quat_in pose_in vec_numbers
    word_of word_bytes number_of number_at number_bytes item_bytes items_bytes
    all_finite is_finite numbers count_bytes look_up mark_of mark_bytes reply_of ac_of answer_of operation_reply
    counts_more totals_more by_mark_more record_head head_by_rule head_at head_of row_at
    row_known by_mark_bytes trailer job_on job_from single nought unit words counts nowhere only frames small_in
small = refl

-- the same with an infinite point: the record is answered and counted as unusable
unfinite_in : List ℕ
unfinite_in =
    0x41
    ∷ 0x43
    ∷ (one
    ++ (zero
    ++ (zero
    ++ (zero ++ (zero ++ (zero
    ++ (zero ++ (zero ++ (frames 0 0 ++ (one ++ (zero ++ (zero ++ double 0xf0 0x7f))))))))))))

unfinite : job_of job_limit unfinite_in ≡ 0x41 ∷ 0x43 ∷ (double 0xf8 0x7f
    ++ (double 0xf8 0x7f ++ (double 0xf8 0x7f ++ counts 1 0 0 1 (only 3))))
unfolding of_bits to_bits add sub mul vec_scale vec_cross vec_add so3_act pose_act vec_in quat_in pose_in vec_numbers
    word_of word_bytes number_of number_at number_bytes item_bytes items_bytes
    all_finite is_finite numbers count_bytes look_up mark_of mark_bytes reply_of ac_of answer_of operation_reply
    counts_more totals_more by_mark_more record_head head_by_rule head_at head_of row_at
    row_known by_mark_bytes trailer job_on job_from double zero one words counts nowhere only frames unfinite_in
unfinite = refl

-- an empty input
empty : job_of job_limit [] ≡ counts 0 0 0 0 nowhere
unfolding word_bytes count_bytes mark_bytes head_of by_mark_bytes trailer job_on job_from words counts nowhere only
empty = refl

-- half a mark
half : job_of job_limit (0x41 ∷ []) ≡ 0x4e ∷ 0x4f ∷ 7 ∷ counts 1 0 1 0 (only 19)
unfolding word_bytes count_bytes mark_bytes no_bytes counts_more totals_more by_mark_more head_of row_at by_mark_bytes
    trailer job_on job_from words counts nowhere only
half = refl

-- a record cut after its mark
cut_short : job_of job_limit (0x41 ∷ 0x43 ∷ 0 ∷ []) ≡ 0x4e ∷ 0x4f ∷ 7 ∷ counts 1 0 1 0 (only 3)
unfolding word_bytes count_bytes look_up mark_of mark_bytes no_bytes counts_more totals_more by_mark_more record_head
    head_by_rule head_at head_of row_at row_known
    by_mark_bytes trailer job_on job_from words counts nowhere only
cut_short = refl

-- SH and SQ cut after their letters
sh-cut : job_of job_limit (0x53 ∷ 0x48 ∷ []) ≡ 0x4e ∷ 0x4f ∷ 7 ∷ counts 1 0 1 0 (only 17)
unfolding word_bytes count_bytes look_up mark_of mark_bytes no_bytes counts_more totals_more by_mark_more record_head
    head_by_rule head_at head_of row_at row_known
    by_mark_bytes trailer job_on job_from words counts nowhere only
sh-cut = refl

sq-cut : job_of job_limit (0x53 ∷ 0x51 ∷ []) ≡ 0x4e ∷ 0x4f ∷ 7 ∷ counts 1 0 1 0 (only 18)
unfolding word_bytes count_bytes look_up mark_of mark_bytes no_bytes counts_more totals_more by_mark_more record_head
    head_by_rule head_at head_of row_at row_known
    by_mark_bytes trailer job_on job_from words counts nowhere only
sq-cut = refl

-- a mark that is not in the table, with nothing after it
unlisted : job_of job_limit (0x51 ∷ 0x51 ∷ []) ≡ 0x4e ∷ 0x4f ∷ 6 ∷ counts 1 0 1 0 (only 19)
unfolding word_bytes count_bytes look_up mark_of mark_bytes no_bytes counts_more totals_more by_mark_more record_head
    head_by_rule head_at head_of row_at row_known
    by_mark_bytes trailer job_on job_from words counts nowhere only
unlisted = refl

-- AR in small letters, and a capital with a small letter
small_ar : job_of job_limit (0x61 ∷ 0x72 ∷ []) ≡ 0x4e ∷ 0x4f ∷ 6 ∷ counts 1 0 1 0 (only 19)
unfolding word_bytes count_bytes look_up mark_of mark_bytes no_bytes counts_more totals_more by_mark_more record_head
    head_by_rule head_at head_of row_at row_known
    by_mark_bytes trailer job_on job_from words counts nowhere only
small_ar = refl

mixed : job_of job_limit (0x41 ∷ 0x63 ∷ []) ≡ 0x4e ∷ 0x4f ∷ 6 ∷ counts 1 0 1 0 (only 19)
unfolding word_bytes count_bytes look_up mark_of mark_bytes no_bytes counts_more totals_more by_mark_more record_head
    head_by_rule head_at head_of row_at row_known
    by_mark_bytes trailer job_on job_from words counts nowhere only
mixed = refl

-- a product of poses from 3 to 5 and from 3 to 7: the whole record is refused, since 3 is not 7; without its last byte
-- it is a cut record
mu_in : ℕ → List ℕ
mu_in n = 0x4d ∷ 0x55 ∷ (replicate 64 0 ++ (frames 3 5 ++ (replicate 64 0 ++ (frames 3 7 ++ replicate n 0))))

apart : job_of job_limit (mu_in 8) ≡ 0x4e ∷ 0x4f ∷ 9 ∷ counts 1 0 1 0 (only 4)
unfolding word_of word_at word_bytes count_bytes look_up mark_of mark_bytes no_bytes reply_of framed_in framed_mul mu_of
    answer_of operation_reply counts_more totals_more by_mark_more record_head head_by_rule
    head_at head_of row_at row_known by_mark_bytes trailer job_on job_from words counts nowhere only frames mu_in
apart = refl

apart-cut : job_of job_limit (mu_in 7) ≡ 0x4e ∷ 0x4f ∷ 7 ∷ counts 1 0 1 0 (only 4)
unfolding word_bytes count_bytes look_up mark_of mark_bytes no_bytes counts_more totals_more by_mark_more record_head
    head_by_rule head_at head_of row_at row_known
    by_mark_bytes trailer job_on job_from words counts nowhere only frames mu_in
apart-cut = refl

-- the running join: the reply to the first pose, from 3 to 5, is that pose; one from 3 to 7 does not match it; the
-- reply to RN is n
ch_in : ℕ → ℕ → List ℕ
ch_in from to = 0x43 ∷ 0x48 ∷ (replicate 64 0 ++ (frames from to ++ replicate 8 0))

joined :
    job_of job_limit (ch_in 3 5 ++ (ch_in 3 7 ++ (0x52 ∷ 0x4e ∷ 2 ∷ 1 ∷ [])))
    ≡ 0x43 ∷ 0x48 ∷ (replicate 64 0
    ++ (frames 3 5 ++ (0x4e ∷ 0x4f ∷ 9 ∷ 0x52 ∷ 0x4e ∷ 2 ∷ 1 ∷ counts 3 2 1 0 (set (set nowhere 15 2) 16 1))))
unfolding of_bits to_bits vec_in quat_in pose_in vec_numbers quat_numbers pose_numbers word_of word_at word_bytes
    number_of number_at number_bytes item_bytes items_bytes all_finite is_finite numbers
    count_bytes look_up mark_of mark_bytes no_bytes reply_of framed_in framed_items framed_mul product_on join_on ch_of
    ch_reply rn_reply counts_more totals_more by_mark_more record_head head_by_rule
    next_by ch_step rn_step head_at next_at head_of row_at row_known next_of by_mark_bytes trailer job_on job_from words
    counts nowhere only frames ch_in
joined = refl

-- at the limit the job reads no mark
at_limit_lem : job_of 0 (0x51 ∷ 0x51 ∷ []) ≡ counts 0 0 0 0 nowhere
unfolding word_bytes count_bytes mark_bytes by_mark_bytes trailer job_from words counts nowhere only
at_limit_lem = refl

-- ---- each record is whole with this many bytes after its mark, and cut with one fewer
record Row : Type 0 where
  first : ℕ
  second : ℕ
  bytes : ℕ

-- how many bytes a whole record at the head takes, its mark included
taken : InputHead → ℕ
taken (took how k b) = k
taken ended = 0
taken unknown = 0
taken cut = 0

is_cut : InputHead → Bool
is_cut (took how k b) = false
is_cut ended = false
is_cut unknown = false
is_cut cut = true

table : List Row
table =
    record { first = 0x45; second = 0x58; bytes = 140 }
    ∷ record { first = 0x43; second = 0x4f; bytes = 96 }
    ∷ record { first = 0x50; second = 0x41; bytes = 280 }
    ∷ record { first = 0x41; second = 0x43; bytes = 100 }
    ∷ record { first = 0x4d; second = 0x55; bytes = 144 }
    ∷ record { first = 0x49; second = 0x4e; bytes = 76 }
    ∷ record { first = 0x4a; second = 0x49; bytes = 248 }
    ∷ record { first = 0x41; second = 0x52; bytes = 96 }
    ∷ record { first = 0x65; second = 0x78; bytes = 72 }
    ∷ record { first = 0x63; second = 0x6f; bytes = 48 }
    ∷ record { first = 0x70; second = 0x61; bytes = 140 }
    ∷ record { first = 0x61; second = 0x63; bytes = 52 }
    ∷ record { first = 0x6d; second = 0x75; bytes = 76 }
    ∷ record { first = 0x69; second = 0x6e; bytes = 40 }
    ∷ record { first = 0x6a; second = 0x69; bytes = 124 }
    ∷ record { first = 0x43; second = 0x48; bytes = 76 }
    ∷ record { first = 0x52; second = 0x4e; bytes = 2 }
    ∷ record { first = 0x53; second = 0x48; bytes = 72 }
    ∷ record { first = 0x53; second = 0x51; bytes = 2 }
    ∷ []

found : Row → ℕ → InputHead
found r n = head_of state_none (r.first ∷ r.second ∷ replicate n 0)

right : List Row → Bool
right [] = true
right (r ∷ rs) = eqb (taken (found r r.bytes)) (2 + r.bytes) && (is_cut (found r (r.bytes - 1)) && right rs)

lengths : right table ≡ true
unfolding right table found taken is_cut head_of head_at head_by_rule record_head mark_of look_up
lengths = refl
