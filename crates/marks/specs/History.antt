-- The records so far, what each means for the running join and for the retaken sheets, and the state after them. Proved
-- as `kept-after` in proofs/Past.antt, for any records of bytes.
use Rattle.std.specs.Prelude.{None, ℕ, ◌+◌, ◌*◌, ◌≤◌, ◌≡◌, cond, List, [], ◌∷◌, length, take, drop, eqb, ltb}
use Rattle.std.specs.Float.{binary64}
use Rattle.running.specs.Running.{Start}
use Rattle.running.specs.History.{Event, join, renew, ran}
use Rattle.sheets.specs.Sheets.{Kept, none, kept_below, sheet_numbers, no_sheets, most}
use Rattle.sheets.specs.Store.{shot_in}
use Rattle.sheets.specs.History.{Sent, accepted, highest, Highest}
use Rattle.wire.specs.Wire.{word_at, number_at}
use Rattle.record_result.specs.Framed.{framed_width, framed_in}
use Rattle.job_state.specs.State.{State, state_none}
use Rattle.job_state.specs.Chain.{ch_letters, rn_letters, ch_size, rn_size}
use Rattle.job_state.specs.Retakes.{sh_letters, sh_size}
use Rattle.marks.specs.Marks.{next_of}

-- the state after these records, each with its mark
unfoldable pub kept_after : State → List (List ℕ) → State
kept_after st [] = st
kept_after st (r ∷ rs) = kept_after (next_of st r) rs

-- a whole CH and a whole RN, added in front of h, where k are the record's letters; other records mean nothing for the
-- running join
unfoldable pub join_in : List ℕ → List Event → List Event
join_in r h =
    let b = drop 2 (take ch_size r) in
    cond (ltb (length r) ch_size) h (join (framed_in binary64 b) (number_at binary64 (drop (framed_width binary64) b) 0)
    ∷ h)

unfoldable pub renew_in : List ℕ → List Event → List Event
renew_in r h = cond (ltb (length r) rn_size) h (renew (word_at 2 (drop 2 (take rn_size r)) 0) ∷ h)

unfoldable pub event_on : ℕ → List ℕ → List Event → List Event
event_on k r h = cond (eqb k ch_letters) (join_in r h) (cond (eqb k rn_letters) (renew_in r h) h)

unfoldable pub event_in : List ℕ → List Event → List Event
event_in [] h = h
event_in (a ∷ []) h = h
event_in (a ∷ b ∷ s) h = event_on (a * 256 + b) (a ∷ b ∷ s) h

unfoldable pub events_of : List (List ℕ) → List Event
events_of [] = []
events_of (r ∷ rs) = event_in r (events_of rs)

-- the running pose after these records, by the plain history of the CH and RN among them
unfoldable pub pose_after : List (List ℕ) → Start
pose_after rs = ran binary64 None 0 0 (events_of rs)

-- a whole SH, added in front of h, where k are the record's letters; other records bring no shot
unfoldable pub shot_is : List ℕ → List Sent → List Sent
shot_is r h =
    let b = drop 2 (take sh_size r) in
    cond (ltb (length r) sh_size) h (record { sheet = word_at 2 b 0; shot = shot_in b } ∷ h)

unfoldable pub shot_on : ℕ → List ℕ → List Sent → List Sent
shot_on k r h = cond (eqb k sh_letters) (shot_is r h) h

unfoldable pub shot_from : List ℕ → List Sent → List Sent
shot_from [] h = h
shot_from (a ∷ []) h = h
shot_from (a ∷ b ∷ s) h = shot_on (a * 256 + b) (a ∷ b ∷ s) h

unfoldable pub shots_of : List (List ℕ) → List Sent
shots_of [] = []
shots_of (r ∷ rs) = shot_from r (shots_of rs)

-- the accepted SH among these records; the highest take among those of the sheet n; and for how many sheets there is
-- one
unfoldable pub accepted_of : List (List ℕ) → List Sent
accepted_of rs = accepted no_sheets (shots_of rs)

unfoldable pub sheet_after : List (List ℕ) → ℕ → Kept
sheet_after rs n = highest n none (accepted_of rs)

unfoldable pub sheet_count : List (List ℕ) → ℕ
sheet_count rs = kept_below (sheet_after rs) sheet_numbers

-- ---- the state after the records rs
pub record KeptAfter (rs : List (List ℕ)) : Type 0 where
  -- the running pose is that of the plain history of CH and RN
  pub pose : (kept_after state_none rs).running.pose ≡ pose_after rs
  -- for each sheet the highest take among its accepted SH is kept
  pub sheet : (n : ℕ) → (kept_after state_none rs).sheets.at n ≡ sheet_after rs n
  -- it is one of them, and none of them is higher; if there is none, nothing is kept
  pub highest : (n : ℕ) → Highest n (accepted_of rs) (sheet_after rs n)
  -- the count is that of the sheets for which a shot is kept
  pub count : (kept_after state_none rs).sheets.count ≡ sheet_count rs
  -- it is at most 512
  pub few : sheet_count rs ≤ most
