-- The sheets between calls: bytes that the caller lends, as in crate `sheets`. The return value of a call and its lists
-- afterwards are defined as in Written.antt of crate `to_lists`.
use Rattle.std.specs.Prelude.{ℕ, cond, ◌&&◌, List, [], ◌∷◌, Bool, eqb, length, Float}
use Rattle.linalg.specs.Answer.{Answer, answers, refuses, and_then}
use Rattle.frames.specs.Floats.{Pose}
use Rattle.sheets.specs.Sheets.{Sheets, Shelved, shelve, ask}
use Rattle.sheets.specs.Store.{size, sheets_of, put_bytes, fresh_bytes}
use Rattle.sheets.specs.declared.Shot.{Shot}
use Rattle.layout.specs.Layout.{pose_count}
use Rattle.layout.specs.Lists.{wrong_length, PoseLists, pose_lists, frames_count}
use Rattle.from_lists.specs.Lists.{framed_from}
use Rattle.to_lists.specs.Written.{written, framed_numbers}

abbrev pub shot : ℕ → Pose → Shot
shot t x = record { take = t; pose = x }

-- whether the bytes are as many as a store has
unfoldable pub holds : List ℕ → Bool
holds m = eqb (length m) size

-- ---- a new store
unfoldable pub fresh_call : List ℕ → Answer (List ℕ)
fresh_call m = cond (holds m) (answers (fresh_bytes m)) (refuses wrong_length)

-- ---- a shot x of the sheet n, and a query for it: the result, and the store and the sheets afterwards
unfoldable pub put_answer : List ℕ → ℕ → Shot → Answer Shelved
put_answer m n x = cond (holds m) (shelve (sheets_of m) n x).answer (refuses wrong_length)

unfoldable pub put_store : List ℕ → ℕ → Shot → List ℕ
put_store m n x = cond (holds m) (put_bytes m n x) m

unfoldable pub put_sheets : List ℕ → ℕ → Shot → Sheets
put_sheets m n x = cond (holds m) (shelve (sheets_of m) n x).sheets (sheets_of m)

unfoldable pub get_answer : List ℕ → ℕ → Answer Shot
get_answer m n = cond (holds m) (ask (sheets_of m) n) (refuses wrong_length)

-- ---- on lists: 1, 2 or 3 and the take kept before; and what is kept afterwards
unfoldable pub two_fitting : List ℕ → ℕ → ℕ → Answer (List ℕ)
two_fitting out how before = cond (eqb (length out) 2) (answers (how ∷ before ∷ [])) (refuses wrong_length)

unfoldable pub shelved_fitting : List ℕ → Answer Shelved → Answer (List ℕ)
shelved_fitting out a = and_then a (λ s. two_fitting out s.how s.before)

unfoldable pub put_call : List ℕ → ℕ → ℕ → PoseLists → List ℕ → Answer (List ℕ)
put_call m n t x out =
    and_then (framed_from x) (λ a. cond (eqb (length out) 2)
    (shelved_fitting out (put_answer m n (shot t a))) (refuses wrong_length))

-- the store's bytes afterwards: as they were if a list has a wrong length, or if they are not a store
unfoldable pub store_after : List ℕ → ℕ → ℕ → Answer Pose → List ℕ → List ℕ
store_after m n t (answers a) out = cond (eqb (length out) 2) (put_store m n (shot t a)) m
store_after m n t (refuses k) out = m

unfoldable pub kept_after : List ℕ → ℕ → ℕ → Answer Pose → List ℕ → Sheets
kept_after m n t (answers a) out = cond (eqb (length out) 2) (put_sheets m n (shot t a)) (sheets_of m)
kept_after m n t (refuses k) out = sheets_of m

-- ---- what is kept for a sheet: its take, and the pose with its frames
pub record ShotLists : Type 0 where
  pub take : List ℕ
  pub pose : PoseLists

abbrev pub shot_lists : List ℕ → List Float → List ℕ → ShotLists
shot_lists take numbers frames = record { take = take; pose = pose_lists numbers frames }

unfoldable pub shot_fitting : ShotLists → Shot → Answer ShotLists
shot_fitting out s =
    cond (eqb (length out.take) 1 && eqb (length out.pose.numbers) pose_count
    && eqb (length out.pose.frames) frames_count)
    (answers (record { take = s.take ∷ []; pose = framed_numbers s.pose }))
    (refuses wrong_length)

unfoldable pub get_call : List ℕ → ℕ → ShotLists → Answer ShotLists
get_call m n out = and_then (get_answer m n) (shot_fitting out)

abbrev pub shot_written : (ShotLists → Answer ShotLists) → ShotLists → ShotLists
shot_written call out = written (call out) out
