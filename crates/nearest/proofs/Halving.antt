-- The search by halving: the arm at one pattern between the two ends of what is left decides all patterns on one side
-- of it. Assumes nothing.
use Prim.Native.Nat.{ℕ, ◌+◌, ◌≤◌, ◌<◌, zero-le}
use native.Mathlib.Nat.{le_refl, le_trans}
use native.Mathlib.Omega.{arith}
use Rattle.nearest.specs.Private.{Parts}

-- what is known when the patterns `from` to `to` - 1 are left
pub record Left (arm : ℕ → ℕ) (end a from to : ℕ) : Type 0 where
  pub ordered : from ≤ to
  pub within : to ≤ end
  pub before : (q : ℕ) → q < from → arm q ≤ a
  pub after : (q : ℕ) → to ≤ q → q < end → a < arm q

module _ (arm : ℕ → ℕ) (end a : ℕ) where
  pub all_left : Left arm end a 0 end
  all_left =
      record {
        ordered = zero-le;
        within = le_refl end;
        before = λ q h. absurd (omega arith);
        after =
            λ q h k. absurd (omega arith);
      }

  pub none_left : {from to : ℕ} → Left arm end a from to → to ≤ from → Parts arm end a from
  none_left {from} {to} s h =
      record { within = omega arith; before = s.before; after = λ q l k. s.after q (omega arith) k }

  module _ (rising : (p q : ℕ) → p ≤ q → q < end → arm p ≤ arm q) where
    pub go_up : {from to : ℕ} (m : ℕ) → Left arm end a from to → m < to → arm m ≤ a → Left arm end a (m + 1) to
    go_up {from} {to} m s h k =
        record {
          ordered = omega arith;
          within = s.within;
          before = λ q l. le_trans (rising q m (omega arith) (omega arith)) k;
          after = s.after;
        }

    pub go_down : {from to : ℕ} (m : ℕ) → Left arm end a from to → from ≤ m → m < to → a < arm m → Left arm end a from m
    go_down {from} {to} m s g h k =
        record {
          ordered = g;
          within = omega arith;
          before = s.before;
          after = λ q l j. le_trans k (rising m q l j);
        }
