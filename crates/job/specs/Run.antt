-- A program that reads its input in pieces and feeds them to the job.
use Rattle.std.specs.Prelude.{ℕ, ◌-◌, ◌≡◌, Bool, true, false, List, [], ◌++◌, drop}
use Rattle.job.specs.Job.{Standing, standing_none, job_from, job_of}
use Rattle.job.specs.Feed.{feed_of, goes_on}

-- the output from the standing s on, where xs is still to be read
abbrev pub job_with : ℕ → Standing → List ℕ → List ℕ
job_with limit s xs = job_from (limit - s.counts.totals.begun) s xs

-- Any run from the standing s, with the bytes `kept` in hand and the bytes `coming` still unread, that writes `out`: it
-- reads some bytes, or feeds what it has, with any room, and continues with what was not used, until a reason ends it.
-- `last` is set only where nothing more is coming.
pub data Run (limit : ℕ) : Standing → List ℕ → List ℕ → List ℕ → Type 0 where
  reads : {s : Standing} {kept coming out : List ℕ} (p : List ℕ) → Run limit s (kept ++ p) coming out →
      Run limit s kept (p ++ coming) out
  feeds :
      {s : Standing} {kept coming out : List ℕ} (last : Bool) (room : ℕ) → (last ≡ true → coming ≡ []) →
      goes_on (feed_of limit s kept last room).reason ≡ true →
      Run limit (feed_of limit s kept last room).standing
      (drop (feed_of limit s kept last room).used kept) coming out →
      Run limit s kept coming ((feed_of limit s kept last room).bytes ++ out)
  stops :
      {s : Standing} {kept coming : List ℕ} (last : Bool) (room : ℕ) → (last ≡ true → coming ≡ []) →
      goes_on (feed_of limit s kept last room).reason ≡ false →
      Run limit s kept coming (feed_of limit s kept last room).bytes

-- the stream theorem: however a program reads and feeds, it writes what the job writes for the whole input
abbrev pub StreamTheorem : Type 0
StreamTheorem = (limit : ℕ) (xs out : List ℕ) → Run limit standing_none [] xs out → out ≡ job_of limit xs
