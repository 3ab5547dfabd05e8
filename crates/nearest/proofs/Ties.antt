-- Upward first and downward first differ at a tie only: count by count both try the same two steps, and the order
-- matters only where both change the arm. Assumes nothing.
use mathlib.Core.Path.{◌≡◌, refl}
use Prim.Native.Nat.{ℕ, zero, suc, ◌+◌, ◌-◌}
use mathlib.Core.Bool.{Bool, true, false, cond}
use Rattle.nearest.specs.Nearest.{down, up, Near, step, changes, least_from}
use Rattle.nearest.specs.Theorem.{up_at_tie, UpwardFirst}

module _ (arm : ℕ → ℕ) (end p : ℕ) where
  -- at the count n, where d and u say whether steps down and up change the arm, and r and s are the results of further
  -- counts
  at_count : (n : ℕ) (d u : Bool) (r s : Near) → changes arm end p up n ≡ u → r ≡ up_at_tie arm end p s
      → cond u (step n up (arm (p + n))) (cond d (step n down (arm (p - n))) r)
      ≡ up_at_tie arm end p (cond d (step n down (arm (p - n))) (cond u (step n up (arm (p + n))) s))
  at_count n true true r s e k = rw e refl
  at_count n true false r s e k = rw e refl
  at_count n false true r s e k = refl
  at_count n false false r s e k = k

  counts : (left n : ℕ) → least_from arm end up p left n ≡ up_at_tie arm end p (least_from arm end down p left n)
  unfolding least_from
  counts zero n = refl
  counts (suc left) n = at_count n (changes arm end p down n) (changes arm end p up n) _ _ refl (counts left (n + 1))

pub upward-first : UpwardFirst
upward-first arm end p = counts arm end p end 1
