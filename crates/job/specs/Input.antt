-- The records of an input, the state after each of them, and the reply to each. Proved as `input` in proofs/Input.antt,
-- for any bytes.
use Rattle.std.specs.Prelude.{ℕ, zero, suc, ◌≡◌, List, [], ◌∷◌, ◌++◌, take, drop}
use Rattle.record_result.specs.RecordResult.{unknown_mark, cut_record, no_bytes, InputHead, took, ended, unknown, cut}
use Rattle.job_state.specs.State.{State, state_none}
use Rattle.marks.specs.Marks.{head_of, next_of}
use Rattle.marks.specs.History.{kept_after, KeptAfter}
use Rattle.marks.specs.Answers.{reply_to, reply_after, RecordAnswered}
use Rattle.job.specs.Job.{trailer, job_of, counts_of}

-- ---- the whole records of an input in their order, at most n, up to an unknown mark, a cut record or the end. Where a
-- record ends does not depend on the state.
unfoldable pub records_on : InputHead → List ℕ → (ℕ → List (List ℕ)) → List (List ℕ)
records_on (took d k bytes) xs go = take k xs ∷ go k
records_on ended xs go = []
records_on unknown xs go = []
records_on cut xs go = []

unfoldable pub input_records : ℕ → List ℕ → List (List ℕ)
input_records zero xs = []
input_records (suc n) xs = records_on (head_of state_none xs) xs (λ k. input_records n (drop k xs))

-- the refusal after them, if an unknown mark or a cut record ends the job
unfoldable pub end_on : InputHead → (ℕ → List ℕ) → List ℕ
end_on (took d k bytes) go = go k
end_on ended go = []
end_on unknown go = no_bytes unknown_mark
end_on cut go = no_bytes cut_record

unfoldable pub input_end : ℕ → List ℕ → List ℕ
input_end zero xs = []
input_end (suc n) xs = end_on (head_of state_none xs) (λ k. input_end n (drop k xs))

-- the replies to records, one after another, where st is the state before the first
unfoldable pub replies_to : State → List (List ℕ) → List ℕ
replies_to st [] = []
replies_to st (r ∷ rs) = reply_to st r ++ replies_to (next_of st r) rs

-- ---- a job of at most `limit` records on the input xs
pub record InputTheorem (limit : ℕ) (xs : List ℕ) : Type 0 where
  -- it writes the replies to the records of its input, the refusal after them, if there is one, and the counts
  pub written :
      job_of limit xs
      ≡ replies_to state_none (input_records limit xs) ++ (input_end limit xs ++ trailer (counts_of limit xs))
  -- the reply to each record follows the replies to the records before it, and is its reply in the state after those
  -- records
  pub placed :
      (before : List (List ℕ)) (r : List ℕ) (rest : List (List ℕ)) → input_records limit xs ≡ before ++ (r ∷ rest) →
      replies_to state_none (input_records limit xs)
      ≡ replies_to state_none before
      ++ (reply_after before r ++ replies_to (kept_after state_none (before ++ (r ∷ []))) rest)
  -- after any first part of the records the state is that of their plain history
  pub kept : (before rest : List (List ℕ)) → input_records limit xs ≡ before ++ rest → KeptAfter before
  -- and the replies to CH, RN, SH and SQ follow from that history
  pub answered :
      (before : List (List ℕ)) (r : List ℕ) (rest : List (List ℕ)) → input_records limit xs ≡ before ++ (r ∷ rest) →
      RecordAnswered before r
