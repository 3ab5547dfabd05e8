-- The place of a record among the counts by mark: as the code's branches find it, below the number of places, and the
-- same whatever follows. Assumes nothing.
use Prim.Native.Nat.{ℕ, ◌+◌, ◌*◌, ◌≤◌, ◌<◌}
use mathlib.Core.Path.{◌≡◌, refl, sym, ap, ◌∙◌}
use mathlib.Core.Bool.{true}
use mathlib.Core.List.{List, [], ◌∷◌, ◌++◌}
use native.Mathlib.Omega.{arith}
use lib.ListN.{length, get_or}
use Rattle.std.proofs.lemmas.Bool.{false≢true}
use Rattle.linalg.specs.Answer.{Answer, answers, refuses}
use Rattle.record_result.specs.RecordResult.{unknown_mark, InputHead}
use Rattle.record_result.proofs.Record.{settled}
use Rattle.job_state.specs.State.{State}
use Rattle.marks.specs.Marks.{Listed, mark_of, head_of}
use Rattle.marks.specs.Rows.{row_count, unlisted, row_known, row_at}
use Rattle.marks.proofs.Table.{Good, good}

-- ---- below the number of places
known_few : (k : ℕ) (v : Answer Listed) → Good k v → row_known v < row_count
unfolding row_known
known_few k (answers l) g = g.0
known_few k (refuses n) g = omega arith

pub row-few : (s : List ℕ) → row_at s < row_count
unfolding row_at mark_of
row-few [] = omega arith
row-few (a ∷ []) = omega arith
row-few (a ∷ b ∷ s) = known_few (a * 256 + b) (mark_of a b) (good (a * 256 + b))

-- ---- by the length and the mark
pub row-short : (s : List ℕ) → length s < 2 → unlisted ≡ row_at s
unfolding row_at
row-short [] h = refl
row-short (a ∷ []) h = refl
row-short (a ∷ b ∷ s) h = absurd (omega arith)

two : (s : List ℕ) → 2 ≤ length s → row_at s ≡ row_known (mark_of (get_or s 0 0) (get_or s 1 0))
unfolding row_at
two [] h = absurd (omega arith)
two (a ∷ []) h = absurd (omega arith)
two (a ∷ b ∷ s) h = refl

pub row-unknown : (s : List ℕ) → 2 ≤ length s → mark_of (get_or s 0 0) (get_or s 1 0) ≡ refuses unknown_mark →
    unlisted ≡ row_at s
unfolding row_known
row-unknown s l e = sym (two s l ∙ ap row_known e)

pub row_mark : (s : List ℕ) (l : Listed) → 2 ≤ length s → mark_of (get_or s 0 0) (get_or s 1 0) ≡ answers l →
    l.place ≡ row_at s
unfolding row_known
row_mark s l n e = sym (two s n ∙ ap row_known e)

-- ---- whatever follows
pub row_more : (z : State) (s ys : List ℕ) (f : InputHead) → head_of z s ≡ f → settled f ≡ true →
    row_at (s ++ ys) ≡ row_at s
unfolding head_of row_at
row_more z [] ys f q k = absurd (false≢true (rw (← q) at k))
row_more z (x ∷ []) ys f q k = absurd (false≢true (rw (← q) at k))
row_more z (x ∷ y ∷ s) ys f q k = refl
