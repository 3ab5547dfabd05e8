-- Definitions for the contracts of private functions.
use Rattle.std.specs.Prelude.{ℕ, ◌<◌, ◌*◌, ◌≡◌, List, Float, length, get_or}
use Rattle.std.specs.Float.{Format}
use Rattle.std.specs.Float.Ieee.{to_bits}
use Rattle.wire.specs.Wire.{width, word_at, number_at}

-- ---- a closure that reads a number from its bits, and one that writes it to them; pre and post are its precondition
-- and postcondition
-- it reads each of the first n numbers of the bytes
pub record Reads {W X : Type 0} (f : Format) (bits : W → ℕ) (float : X → Float) (pre : W → Type 0) (post : W → X →
    Type 0) (b : List ℕ) (n : ℕ) : Type 0 where
  pub may : (w : W) (i : ℕ) → i < n → bits w ≡ word_at (width f) b (i * width f) → pre w
  pub gives : (w : W) (x : X) (i : ℕ) → i < n → bits w ≡ word_at (width f) b (i * width f) → post w x →
      float x ≡ number_at f b i

-- it writes each number of the list
pub record Writes {W X : Type 0} (f : Format) (bits : W → ℕ) (float : X → Float) (pre : X → Type 0) (post : X → W →
    Type 0) (l : List X) : Type 0 where
  pub may : (y : X) (i : ℕ) → i < length l → y ≡ get_or l i y → pre y
  pub gives : (y : X) (w : W) (i : ℕ) → i < length l → y ≡ get_or l i y → post y w → bits w ≡ to_bits f (float y)
