-- Whether a list has the length of a scaled pair, from the result of `put`. Assumes nothing.
use Rattle.std.proofs.Common.{◌≡◌, ◌<◌, ℕ, List, refl, subst, length, arith}
use Rattle.std.specs.Prelude.{Bool, true, false, cond, eqb, Float}
use Rattle.linalg.specs.Answer.{answers, refuses, number}
use Rattle.linalg.specs.declared.refusal.Refusal.{Refusal}
use Rattle.linalg.specs.declared.refusal.Refusal.TheVariants.{NegativeAngle, ZeroScale, NoSuchEntry, TooManyTerms}
use Rattle.linalg.specs.declared.refusal.Refusal.TheVariants.{BadLength, UnknownMark, CutInput, NotFinite, FramesDiffer}
use Rattle.linalg.specs.declared.refusal.Refusal.TheVariants.{SameTake, NoRoom, NeverKept, ListLength}
use Rattle.layout.proofs.Numbers.{scaled-pair-count}
use Rattle.to_lists.specs.Written.{status, written, fitting}

-- a scaled pair has twenty numbers
pub ruleset sizes = (scaled-pair-count)

above_zero : (e : Refusal) → 0 < number e
above_zero NegativeAngle = omega arith
above_zero ZeroScale = omega arith
above_zero NoSuchEntry = omega arith
above_zero TooManyTerms = omega arith
above_zero BadLength = omega arith
above_zero UnknownMark = omega arith
above_zero CutInput = omega arith
above_zero NotFinite = omega arith
above_zero FramesDiffer = omega arith
above_zero SameTake = omega arith
above_zero NoRoom = omega arith
above_zero NeverKept = omega arith
above_zero ListLength = omega arith

by : (b : Bool) (o l : List Float) (e : Refusal) → number e ≡ status (cond b (answers l) (refuses 100)) →
    (b ≡ false) × (written (cond b (answers l) (refuses 100)) o ≡ o)
unfolding status written
by true o l e h = absurd (omega (arith, h, above_zero e))
by false o l e h = (refl, refl)

pub fits-not : (o l : List Float) (n : ℕ) (e : Refusal) → length l ≡ n → number e ≡ status (fitting o l) →
    (eqb (length o) n ≡ false) × (written (fitting o l) o ≡ o)
unfolding fitting
fits-not o l n e k h =
    subst (λ m. (eqb (length o) m ≡ false) × (written (fitting o l) o ≡ o)) k (by (eqb (length o) (length l)) o l e h)
