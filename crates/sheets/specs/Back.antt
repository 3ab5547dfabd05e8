-- A query returns what was sent: a shot that is kept, and the same bytes of its pose, except that every NaN comes back
-- as the one NaN. Proved as `asked` and `sent_back` in proofs/Back.antt.
use Rattle.std.specs.Prelude.{ℕ, zero, suc, ◌<◌, ◌≡◌, Bool, true, false, cond, List, [], ◌∷◌, ◌++◌, length, take, drop}
use Rattle.std.specs.Prelude.{ltb}
use Rattle.std.specs.Float.{nan, binary64}
use Rattle.std.specs.Float.Ieee.{is_nan}
use Rattle.linalg.specs.Answer.{Answer, answers, refuses}
use Rattle.layout.specs.Layout.{pose_count}
use Rattle.wire.specs.Wire.{width, number_of, number_bytes, items_bytes}
use Rattle.record_result.specs.Framed.{framed_width, framed_in, framed_items}
use Rattle.sheets.specs.Sheets.{Sheets, Shelved, shelve, ask}
use Rattle.sheets.specs.declared.Shot.{Shot}

-- ---- whether a shot is kept: its sheet is new, or it replaces
abbrev pub keeps : Answer Shelved → Bool
keeps (answers a) = ltb a.how 3
keeps (refuses k) = false

abbrev pub AskedTheorem : Type 0
AskedTheorem =
    (s : Sheets) (n : ℕ) (x : Shot) → keeps (shelve s n x).answer ≡ true → ask (shelve s n x).sheets n ≡ answers x

-- ---- bytes
unfoldable pub Bytes : List ℕ → Type 0
Bytes [] = Unit {0}
Bytes (x ∷ b) = (x < 256) × Bytes b

-- a number's bytes, with those of the one NaN for every NaN
unfoldable pub one_nan : List ℕ → List ℕ
one_nan b = cond (is_nan (number_of binary64 b)) (number_bytes binary64 nan) b

-- k numbers so, and the rest as it is
unfoldable pub nans_one : ℕ → List ℕ → List ℕ
nans_one zero b = b
nans_one (suc k) b = one_nan (take (width binary64) b) ++ nans_one k (drop (width binary64) b)

abbrev pub SentBackTheorem : Type 0
SentBackTheorem =
    (b : List ℕ) → Bytes b → length b ≡ framed_width binary64 →
    items_bytes binary64 (framed_items (framed_in binary64 b)) ≡ nans_one pose_count b
