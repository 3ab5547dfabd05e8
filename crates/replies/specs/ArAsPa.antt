-- The flags in AR's answer are those by which PA scales if its tangent has the same σ and z (02, K1), for any bytes
-- after either mark, in either format.
use Rattle.std.specs.Prelude.{ℕ, ◌≡◌, cond, List, [], ◌∷◌, take, drop}
use Rattle.std.specs.Float.{Format}
use Rattle.ieee.specs.Numbers.{f0, f1}
use Rattle.linalg.specs.Answer.{answers}
use Rattle.linalg.specs.Vector.{vec_norm_sq}
use Rattle.pairs.specs.Floats.{ArmedPair}
use Rattle.side_jacobians.specs.Pair.{block_pair_scaled}
use Rattle.layout.specs.Layout.{tangent_in, values_in, mat_in, block_pair_numbers}
use Rattle.wire.specs.Wire.{number_at, numbers}
use Rattle.replies.specs.Table.{gives, armed_items, ar_of, pa_of}

-- a and b are the bytes after the marks of an AR record and of a PA record
pub record ArAsPa (f : Format) (a b : List ℕ) : Type 0 where
  -- AR is not refused; after the four bytes the tenth number is the flag at σ, and the twentieth that at −σ, each as 1
  -- or 0
  pub armed : ArmedPair
  pub answered : ar_of f a ≡ answers (armed_items armed)
  pub flag : take 1 (drop 13 (armed_items armed)) ≡ numbers (cond armed.pos.s.scaled f1 f0 ∷ [])
  pub flag_minus : take 1 (drop 23 (armed_items armed)) ≡ numbers (cond armed.neg.s.scaled f1 f0 ∷ [])
  -- PA's blocks are those of its tangent, values and matrices, scaled by these flags
  pub scales :
      pa_of f b
      ≡ gives
      (block_pair_numbers
      (block_pair_scaled f (tangent_in (number_at f b) 0) (values_in (number_at f b) 7) (mat_in (number_at f b) 17)
      (mat_in (number_at f b) 26)
      armed.pos.s.scaled armed.neg.s.scaled))

-- if σ is the tangent's, and z its rounded |φ|²
abbrev pub ArAsPaTheorem : Type 0
ArAsPaTheorem =
    (f : Format) (a b : List ℕ) →
    number_at f a 0 ≡ (tangent_in (number_at f b) 0).sigma →
    number_at f a 1 ≡ vec_norm_sq f (tangent_in (number_at f b) 0).phi →
    ArAsPa f a b
