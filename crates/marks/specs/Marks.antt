-- The table of marks, and the head of the input by it.
use Rattle.std.specs.Prelude.{ℕ, ◌+◌, ◌*◌, cond, List, [], ◌∷◌, eqb, Option, None, Some}
use Rattle.std.specs.Float.{Format, binary32, binary64}
use Rattle.linalg.specs.Answer.{Answer, answers, refuses}
use Rattle.record_result.specs.declared.Operation.{Operation}
use Rattle.record_result.specs.declared.Operation.TheVariants.{Ex, Co, Pa, Ac, Mu, In, Ji, Ar}
use Rattle.record_result.specs.RecordResult.{unknown_mark, InputHead, ended, unknown, cut}
use Rattle.replies.specs.Table.{width_of, operation_reply}
use Rattle.job_state.specs.State.{State}
use Rattle.job_state.specs.declared.JobState.{JobState}
use Rattle.job_state.specs.Records.{RecordRule, head_by_rule, next_by, behind_by, Reader}
use Rattle.job_state.specs.Chain.{ch_letters, rn_letters, ch_rule, rn_rule}
use Rattle.job_state.specs.Retakes.{sh_letters, sq_letters, sh_rule, sq_rule}
use Rattle.marks.specs.declared.Mark.{Mark}
use Rattle.marks.specs.declared.Mark.TheVariants.{Double, Single, Ch, Rn, Sh, Sq}

-- ---- the table: a row holds the two letters as one number, the first times 256 plus the second, and their rule
pub record Row : Type 0 where
  pub letters : ℕ
  pub rule : RecordRule

abbrev pub row : ℕ → RecordRule → Row
row k a = record { letters = k; rule = a }

-- an operation of the engine, which leaves the state as it is; on doubles, and on singles
abbrev pub operation_rule : Format → Operation → RecordRule
operation_rule f e =
    record {
      bytes = 2 + width_of f e;
      step = λ st r. record { state = st; reply = operation_reply f e r };
      after =
          λ m r. m;
    }

abbrev pub double : Operation → RecordRule
double e = operation_rule binary64 e

abbrev pub single : Operation → RecordRule
single e = operation_rule binary32 e

-- a row for each mark, in the order of the counts by mark
abbrev pub table : List Row
table =
    row 0x4558 (double Ex)
    ∷ row 0x434f (double Co)
    ∷ row 0x5041 (double Pa)
    ∷ row 0x4143 (double Ac)
    ∷ row 0x4d55 (double Mu)
    ∷ row 0x494e (double In)
    ∷ row 0x4a49 (double Ji)
    ∷ row 0x6578 (single Ex)
    ∷ row 0x636f (single Co)
    ∷ row 0x7061 (single Pa)
    ∷ row 0x6163 (single Ac)
    ∷ row 0x6d75 (single Mu)
    ∷ row 0x696e (single In)
    ∷ row 0x6a69 (single Ji)
    ∷ row 0x4152 (double Ar)
    ∷ row ch_letters ch_rule
    ∷ row rn_letters rn_rule
    ∷ row sh_letters sh_rule
    ∷ row sq_letters sq_rule
    ∷ []

-- ---- the letters k in a table whose first row has the place n: the place of their row, and its rule
pub record Listed : Type 0 where
  pub place : ℕ
  pub rule : RecordRule

abbrev pub listed : ℕ → RecordRule → Listed
listed n a = record { place = n; rule = a }

unfoldable pub look_up : ℕ → ℕ → List Row → Answer Listed
look_up k n [] = refuses unknown_mark
look_up k n (r ∷ t) = cond (eqb k r.letters) (answers (listed n r.rule)) (look_up k (n + 1) t)

unfoldable pub mark_of : ℕ → ℕ → Answer Listed
mark_of a b = look_up (a * 256 + b) 0 table

-- the rule of each case of `Mark`; and the view of a mark with its place, or of none
abbrev pub mark_rule : Mark → RecordRule
mark_rule (Double e) = double e
mark_rule (Single e) = single e
mark_rule Ch = ch_rule
mark_rule Rn = rn_rule
mark_rule Sh = sh_rule
mark_rule Sq = sq_rule

abbrev pub look_up_view : Option (Mark × ℕ) → Answer Listed
look_up_view (Some p) = answers (listed p.1 (mark_rule p.0))
look_up_view None = refuses unknown_mark

-- the length of the longest record: PA's mark and its numbers
abbrev pub longest_record : ℕ
longest_record = 2 + width_of binary64 Pa

-- ---- the head of the input s, where st is the state; and the state after it, which is st if no whole record is there
unfoldable pub head_at : Answer Listed → State → List ℕ → InputHead
head_at (answers l) st s = head_by_rule l.rule st s
head_at (refuses k) st s = unknown

unfoldable pub next_at : Answer Listed → State → List ℕ → State
next_at (answers l) st s = next_by l.rule st s
next_at (refuses k) st s = st

unfoldable pub head_of : State → List ℕ → InputHead
head_of st [] = ended
head_of st (a ∷ []) = cut
head_of st (a ∷ b ∷ rest) = head_at (mark_of a b) st (a ∷ b ∷ rest)

unfoldable pub next_of : State → List ℕ → State
next_of st [] = st
next_of st (a ∷ []) = st
next_of st (a ∷ b ∷ rest) = next_at (mark_of a b) st (a ∷ b ∷ rest)

-- the state that the code keeps after it, which is m itself if no whole record is there
unfoldable pub behind_at : Answer Listed → JobState → List ℕ → JobState
behind_at (answers l) m s = behind_by l.rule m s
behind_at (refuses k) m s = m

unfoldable pub behind_of : JobState → List ℕ → JobState
behind_of m [] = m
behind_of m (a ∷ []) = m
behind_of m (a ∷ b ∷ rest) = behind_at (mark_of a b) m (a ∷ b ∷ rest)

-- the reader that goes by the table
abbrev pub by_table : Reader
by_table = record { head = head_of; next = next_of; behind = behind_of }
