-- How AR's answer follows from CO's, for any bytes after the mark, in either format.
use Rattle.std.specs.Prelude.{ℕ, ◌≡◌, List, take, drop}
use Rattle.std.specs.Float.{Format}
use Rattle.linalg.specs.Answer.{answers, and_then}
use Rattle.wire.specs.Wire.{Item}
use Rattle.replies.specs.Table.{co_of, ar_of}

pub record ArAsCo (f : Format) (b : List ℕ) : Type 0 where
  -- after the four bytes come CO's numbers; and if one is refused, the other is too, with the same number
  pub same_numbers : co_of f b ≡ and_then (ar_of f b) (λ l. answers (drop 4 l))
  -- the two bytes of σ equal the two of −σ
  pub same_arms : (l : List Item) → ar_of f b ≡ answers l → take 2 l ≡ take 2 (drop 2 l)
