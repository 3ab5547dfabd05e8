-- The sheets for which a shot is kept, and the replies to a further shot and to a query.
use Rattle.std.specs.Prelude.{ℕ, zero, suc, ◌+◌, cond, ltb, eqb}
use Rattle.linalg.specs.Answer.{Answer, answers, refuses}
use Rattle.sheets.specs.declared.Shot.{Shot}

-- for a sheet: nothing, or a shot
pub data Kept : Type 0 where
  none : Kept
  kept : Shot → Kept

-- for how many sheets one is kept, and what is kept for each, by its number
pub record Sheets : Type 0 where
  pub count : ℕ
  pub at : ℕ → Kept

-- for how many sheets with a number below n one is kept
abbrev pub one : Kept → ℕ
one none = 0
one (kept x) = 1

unfoldable pub kept_below : (ℕ → Kept) → ℕ → ℕ
kept_below at zero = 0
kept_below at (suc n) = kept_below at n + one (at n)

-- a sheet's number has 16 bits
abbrev pub sheet_numbers : ℕ
sheet_numbers = 65536

abbrev pub no_sheets : Sheets
no_sheets = record { count = 0; at = λ n. none }

-- the most sheets
abbrev pub most : ℕ
most = 512

-- the refusals: the take is the one kept; its sheet would be one too many; nothing is kept for the sheet of the query
abbrev pub same_take : ℕ
same_take = 10

abbrev pub no_room : ℕ
no_room = 11

abbrev pub never_kept : ℕ
never_kept = 12

-- the reply to a shot: 1 if its sheet is new, 2 if it replaces, 3 if it is older and not kept; and the take kept
-- before, 0 for a new sheet
pub record Shelved : Type 0 where
  pub how : ℕ
  pub before : ℕ

abbrev pub shelved : ℕ → ℕ → Answer Shelved
shelved how before = answers (record { how = how; before = before })

-- the shot x for the sheet n, and for others what is kept
unfoldable pub keeping : ℕ → Shot → (ℕ → Kept) → ℕ → Kept
keeping n x at k = cond (eqb k n) (kept x) (at k)

-- ---- a shot x of the sheet n: the reply to it, and the sheets after it. A refused shot and an older one change
-- nothing.
pub record Shelf : Type 0 where
  pub answer : Answer Shelved
  pub sheets : Sheets

unfoldable pub shelve_on : Kept → Sheets → ℕ → Shot → Shelf
shelve_on none s n x =
    cond (ltb s.count most)
    (record { answer = shelved 1 0; sheets = record { count = s.count + 1; at = keeping n x s.at } })
    (record { answer = refuses no_room; sheets = s })
shelve_on (kept old) s n x =
    cond (eqb x.take old.take)
    (record { answer = refuses same_take; sheets = s })
    (cond (ltb old.take x.take)
    (record { answer = shelved 2 old.take; sheets = record { count = s.count; at = keeping n x s.at } })
    (record { answer = shelved 3 old.take; sheets = s }))

unfoldable pub shelve : Sheets → ℕ → Shot → Shelf
shelve s n x = shelve_on (s.at n) s n x

-- ---- a query for a sheet
unfoldable pub ask_on : Kept → Answer Shot
ask_on none = refuses never_kept
ask_on (kept x) = answers x

unfoldable pub ask : Sheets → ℕ → Answer Shot
ask s n = ask_on (s.at n)
