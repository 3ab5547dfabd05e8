-- The result of a read, from anywhere, and from the tape.
use Rattle.std.specs.Prelude.{ℕ, ◌+◌, ◌≤◌, min, ◌≡◌, Bool, true, false, not, List, ◌++◌, eqb, Option, Result, Ok, Err}
use Rattle.std.specs.Prelude.{length, take, drop}
use Rattle.std.specs.Bool.{then_some}
use Rattle.std.specs.Option.{is_none, unwrap_or}
use Rattle.sim3_job.specs.declared.Filled.{Filled}
use Rattle.sim3_job.specs.declared.Next.{Next}
use Rattle.sim3_job.specs.declared.Next.TheVariants.{Read, Again, Ended}
use Rattle.sim3_job.specs.declared.RunError.{RunError}
use Rattle.sim3_job.specs.declared.RunError.TheVariants.{Unread}

-- whether a read comes next, and whether the input has ended
abbrev pub reads : Next → Bool
reads Read = true
reads Again = false
reads Ended = false

abbrev pub over : Next → Bool
over Read = false
over Again = false
over Ended = true

-- how many bytes were read, and whether the input has ended
abbrev pub count_of : Filled → ℕ
count_of f = unwrap_or f.count 0

abbrev pub ended : Filled → Bool
ended f = is_none f.count

-- the result of reading k bytes; 0 is the end of the input
abbrev pub given_of : ℕ → Option ℕ
given_of k = then_some (not (eqb k 0)) k

-- the bytes lie within the buffer and the place within the tape, and a read returns no bytes only at the end
abbrev pub Within : Result Filled RunError → ℕ → ℕ → Bool → ℕ → Type 0
Within (Ok f) have most asked end =
    (have + count_of f ≤ most) × (f.at ≤ end) × (asked ≡ true → ended f ≡ eqb (count_of f) 0)
Within (Err e) have most asked end = Unit {0}

-- from the tape: after the bytes at hand come the next ones of the tape, which continues after them; the input has
-- ended only if nothing follows
abbrev pub FromTape : Result Filled RunError → List ℕ → ℕ → ℕ → List ℕ → List ℕ → Bool → Type 0
FromTape (Ok f) tape at have buf buf₁ last =
    (f.at ≡ at + count_of f) × (take (have + count_of f) buf₁ ≡ take have buf ++ take (count_of f) (drop at tape))
    × (ended f ≡ true → (last ≡ true → at ≡ length tape) → f.at ≡ length tape)
FromTape (Err e) tape at have buf buf₁ last = ⊥

-- the result of std's read, with room for `most` bytes: an error, or how many were read, 0 at the end
unfoldable pub filled_of : {E : Type 0} → Result ℕ E → ℕ → ℕ → Result Filled RunError
filled_of (Ok k) most at = Ok (record { count = given_of (min k most); at = at })
filled_of (Err e) most at = Err Unread
