-- Where a call waits for more input, it leaves fewer bytes than the longest record has, so a reader's buffer has room.
-- Assumes nothing.
use Prim.Native.Nat.{ℕ, ◌-◌, ◌<◌}
use mathlib.Core.Path.{◌≡◌, refl}
use mathlib.Core.Bool.{Bool, true, false}
use mathlib.Core.List.{List}
use native.Mathlib.Omega.{arith}
use lib.ListN.{length, length-drop}
use Rattle.marks.proofs.Heads.{cut-few, ended-none}
use Rattle.job.specs.declared.Reason.{Reason}
use Rattle.job.specs.declared.Reason.TheVariants.{More}
use Rattle.job.specs.Counts.{counts_sound}
use Rattle.job.specs.Job.{Standing}
use Rattle.record_result.specs.RecordResult.{InputHead}
use Rattle.marks.specs.Marks.{head_of}
use Rattle.job.specs.Feed.{Part, records_of, feed_of, record_room}
use Rattle.job.proofs.Turns.{Stops, at_end_lem, at_pause, at-unknown, at_cut, at_part, records_by}
use Rattle.job.proofs.Pieces.{feed_bad, feed_good}

-- ---- for the loop, and for a call
abbrev Few : ℕ → Standing → List ℕ → ℕ → Part → Type 0
Few n j xs room p = p.reason ≡ More → length xs - p.used < record_room

stop_few : (last : Bool) (j : Standing) (xs : List ℕ) (f : InputHead) (r : Reason) (e : Standing) →
    head_of j.state xs ≡ f → Stops last j xs f r e → r ≡ More → length xs - 0 < record_room
stop_few last j xs f r e q (at_end_lem l) u = absurd (cc)
stop_few last j xs f r e q (at_pause l) u = omega (arith, ended-none j.state xs q)
stop_few last j xs f r e q at-unknown u = absurd (cc)
stop_few last j xs f r e q (at_cut l) u = absurd (cc)
stop_few last j xs f r e q (at_part l) u = omega (arith, cut-few j.state xs q)

records_few : (n : ℕ) (j : Standing) (xs : List ℕ) (last : Bool) (room : ℕ) →
    Few n j xs room (records_of n j xs last room)
records_few n j xs last room =
    records_by last Few
    (λ n j xs room h u. absurd (cc))
    (λ j xs room h u. absurd (cc))
    (λ n j xs room h f r e q s u. stop_few last j xs f r e q s u)
    (λ n j xs room h how k b q p i u. let l = simp length-drop at (i u) in omega arith)
    n j xs room

pub feed_few :
    (limit : ℕ) (j : Standing) (xs : List ℕ) (last : Bool) (room : ℕ) →
    (feed_of limit j xs last room).reason ≡ More →
    length xs - (feed_of limit j xs last room).used < record_room
feed_few limit j xs last room = by (counts_sound limit j.counts) refl
  where
    by : (t : Bool) → counts_sound limit j.counts ≡ t → (feed_of limit j xs last room).reason ≡ More →
        length xs - (feed_of limit j xs last room).used < record_room
    by true t e =
        let g = feed_good limit j xs last room t in rw g
        (records_few (limit - j.counts.totals.begun) j xs last room (rw g at e))
    by false t e = let g = rw (feed_bad limit j xs last room t) at e in absurd (cc)
