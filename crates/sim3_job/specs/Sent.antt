-- The result of a write, to anywhere, and to the sink.
use Rattle.std.specs.Prelude.{ℕ, ◌+◌, ◌≤◌, ◌<◌, ◌≡◌, List, ◌++◌, Result, Ok, Err, length, take}
use Rattle.sim3_job.specs.declared.RunError.{RunError}
use Rattle.sim3_job.specs.declared.RunError.TheVariants.{Unread, Unwritten}

-- the place in the sink lies within it
abbrev pub WithinSink : Result ℕ RunError → ℕ → Type 0
WithinSink (Ok next) most = next ≤ most
WithinSink (Err e) most = Unit {0}

-- to the sink: all the bytes follow those already there; or there is no room for them, and nothing changes
abbrev pub ToSink : Result ℕ RunError → List ℕ → List ℕ → List ℕ → ℕ → Type 0
ToSink (Ok next) bytes sink sink₁ sent = take next sink₁ ≡ take sent sink ++ bytes
ToSink (Err Unread) bytes sink sink₁ sent = ⊥
ToSink (Err Unwritten) bytes sink sink₁ sent = (sink₁ ≡ sink) × (length sink < sent + length bytes)

-- the result of std's write of all the bytes: an error, or the place in the sink, which stays where it is
unfoldable pub sent_of : {A E : Type 0} → Result A E → ℕ → Result ℕ RunError
sent_of (Ok u) sent = Ok sent
sent_of (Err e) sent = Err Unwritten
