-- A number that a program can hold, that is, one with machine values, is a number of its format.
use Rattle.std.specs.Prelude.{T, List, Float}
use Rattle.std.specs.Float.{Format}
use Rattle.std.specs.Float.Ieee.{fits}
use mir.Val.{Val}
use denote.RattleType.{RattleType}
use denote.Laws.{Is}

-- R: the type; float: the number that a value of it is
abbrev pub HeldFits : (R : RattleType) → Format → (R.Denot → Float) → Type 0
HeldFits R f float = (x : R.Denot) → (v : List Val) × Is R x v → T (fits f (float x))
