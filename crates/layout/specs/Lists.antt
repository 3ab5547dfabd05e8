-- What the lists of a call have in common, whether they are read or written: the refusal of a list of the wrong length,
-- and a pose with its frames in two lists.
use Rattle.std.specs.Prelude.{ℕ, List, Float}

-- the refusal of a list of the wrong length
abbrev pub wrong_length : ℕ
wrong_length = 100

-- ---- a pose with its frames, in two lists: its eight numbers; from, then to
pub record PoseLists : Type 0 where
  pub numbers : List Float
  pub frames : List ℕ

abbrev pub pose_lists : List Float → List ℕ → PoseLists
pose_lists numbers frames = record { numbers = numbers; frames = frames }

abbrev pub frames_count : ℕ
frames_count = 2
