-- Definitions for private contracts only: a double above 0 by its digits and a power of two.
use Rattle.std.specs.Prelude.{◌≡◌, ℕ, ◌*◌, ◌^◌, ◌≤◌, ◌<◌}

-- n units are c × 2 ^ y / 2 ^ 52, where c has 53 binary digits
pub record ScaledTo (n c y : ℕ) : Type 0 where
  pub value : n * 2 ^ 52 ≡ c * 2 ^ y
  pub low : 2 ^ 52 ≤ c
  pub high : c < 2 ^ 53
  pub few : y ≤ 2097
