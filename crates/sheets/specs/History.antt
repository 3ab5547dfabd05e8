-- Any shots, one after the other: for each sheet the highest take among those accepted is kept, and a query returns it;
-- the count is that of the sheets for which one is kept, and never more than 512. Proved as `history` in
-- proofs/Past.antt, `highest-is` in proofs/Highest.antt and `counted` in proofs/Counted.antt.
use Rattle.std.specs.Prelude.{ℕ, ◌<◌, ◌≤◌, ◌≡◌, ◌⊎◌, cond, List, [], ◌∷◌, ltb, eqb}
use Rattle.linalg.specs.Answer.{Answer, answers, refuses}
use Rattle.sheets.specs.Sheets.{Kept, none, kept, Sheets, kept_below, sheet_numbers, no_sheets, most, Shelved, shelve}
use Rattle.sheets.specs.Sheets.{ask_on, ask}
use Rattle.sheets.specs.declared.Shot.{Shot}

-- a shot, with the number of its sheet
pub record Sent : Type 0 where
  pub sheet : ℕ
  pub shot : Shot

-- the sheets after these shots
unfoldable pub after : Sheets → List Sent → Sheets
after s [] = s
after s (x ∷ h) = after (shelve s x.sheet x.shot).sheets h

-- the shots that are not refused
unfoldable pub unless_refused : Answer Shelved → Sent → List Sent → List Sent
unless_refused (answers a) x l = x ∷ l
unless_refused (refuses k) x l = l

unfoldable pub accepted : Sheets → List Sent → List Sent
accepted s [] = []
accepted s (x ∷ h) = let r = shelve s x.sheet x.shot in unless_refused r.answer x (accepted r.sheets h)

-- the one with the higher take
unfoldable pub higher : Kept → Shot → Kept
higher none x = kept x
higher (kept y) x = cond (ltb y.take x.take) (kept x) (kept y)

-- the shot of the sheet n with the highest take, among k and these
unfoldable pub highest : ℕ → Kept → List Sent → Kept
highest n k [] = k
highest n k (x ∷ h) = highest n (cond (eqb n x.sheet) (higher k x.shot) k) h

abbrev pub HistoryTheorem : Type 0
HistoryTheorem =
    (h : List Sent) (n : ℕ) → let best = highest n none (accepted no_sheets h) in
    ((after no_sheets h).at n ≡ best) × (ask (after no_sheets h) n ≡ ask_on best)

-- the same without a fold: x is one of these
unfoldable pub Among : Sent → List Sent → Type 0
Among x [] = ⊥
Among x (y ∷ h) = (x ≡ y) ⊎ Among x h

abbrev pub sent : ℕ → Shot → Sent
sent n x = record { sheet = n; shot = x }

-- nothing, and none of these is of the sheet n; or a shot of that sheet that is one of these, and no shot of that sheet
-- has a higher take
abbrev pub Highest : ℕ → List Sent → Kept → Type 0
Highest n h none = (x : Shot) → Among (sent n x) h → ⊥
Highest n h (kept y) = Among (sent n y) h × ((x : Shot) → Among (sent n x) h → x.take ≤ y.take)

abbrev pub HighestTheorem : Type 0
HighestTheorem = (h : List Sent) (n : ℕ) → Highest n h (highest n none h)

-- every sheet number has 16 bits
unfoldable pub Small : List Sent → Type 0
Small [] = Unit {0}
Small (x ∷ h) = (x.sheet < sheet_numbers) × Small h

abbrev pub CountTheorem : Type 0
CountTheorem =
    (h : List Sent) → Small h → let s = after no_sheets h in
    (s.count ≡ kept_below s.at sheet_numbers) × (s.count ≤ most)
