-- Each call with sound counts makes progress: it begins a record, or uses nothing and waits for more, or ends the job.
-- Assumes nothing.
use Prim.Native.Nat.{ℕ, ◌+◌, ◌-◌, ◌≤◌, ◌<◌}
use mathlib.Core.Path.{◌≡◌, refl}
use mathlib.Core.Bool.{Bool, true, false}
use mathlib.Core.List.{List}
use native.Mathlib.Omega.{arith}
use Rattle.record_result.specs.declared.Disposition.TheVariants.{Refused}
use Rattle.job.specs.declared.Reason.{Reason}
use Rattle.job.specs.declared.Reason.TheVariants.{More, Room, Bad}
use Rattle.job.specs.Counts.{counts_sound}
use Rattle.marks.specs.Rows.{row_at}
use Rattle.job.specs.Job.{Standing, moved}
use Rattle.record_result.specs.RecordResult.{longest, InputHead}
use Rattle.job.specs.Feed.{Part, halt, records_of, feed_of}
use Rattle.job.proofs.Turns.{Stops, at_end_lem, at_pause, at-unknown, at_cut, at_part, records_by, counted_begun}
use Rattle.job.proofs.Pieces.{feed_good}

-- what a call with sound counts does: it does not reject them; it waits only where more input may come; if it begins no
-- record, it uses nothing; and if the output has room for an answer, it stops for lack of room only after a record
pub record Progress (last : Bool) (j : Standing) (room : ℕ) (p : Part) : Type 0 where
  pub more : p.reason ≡ More → last ≡ false
  pub grows : j.counts.totals.begun ≤ p.standing.counts.totals.begun
  pub still : p.standing.counts.totals.begun ≡ j.counts.totals.begun → p.used ≡ 0
  pub roomy : longest ≤ room → p.reason ≡ Room → j.counts.totals.begun < p.standing.counts.totals.begun
  pub fair : p.reason ≡ Bad → ⊥

stop_goes :
    (last : Bool) (j : Standing) (xs : List ℕ) (room : ℕ) (f : InputHead) (r : Reason) (e : Standing) →
    Stops last j xs f r e → Progress last j room (halt r e)
stop_goes last j xs room f r e (at_end_lem l) =
    record {
      more = λ u. absurd (cc);
      grows = omega arith;
      still = λ u. refl;
      roomy = λ h u. absurd (cc);
      fair =
          λ u. absurd (cc);
    }
stop_goes last j xs room f r e (at_pause l) =
    record {
      more = λ u. l;
      grows = omega arith;
      still = λ u. refl;
      roomy = λ h u. absurd (cc);
      fair =
          λ u. absurd (cc);
    }
stop_goes last j xs room f r e at-unknown =
    record {
      more = λ u. absurd (cc);
      grows = rw (counted_begun Refused (row_at xs) j.counts) (omega arith);
      still =
          λ u. refl;
      roomy = λ h u. absurd (cc);
      fair = λ u. absurd (cc);
    }
stop_goes last j xs room f r e (at_cut l) =
    record {
      more = λ u. absurd (cc);
      grows = rw (counted_begun Refused (row_at xs) j.counts) (omega arith);
      still =
          λ u. refl;
      roomy = λ h u. absurd (cc);
      fair = λ u. absurd (cc);
    }
stop_goes last j xs room f r e (at_part l) =
    record {
      more = λ u. l;
      grows = omega arith;
      still = λ u. refl;
      roomy = λ h u. absurd (cc);
      fair =
          λ u. absurd (cc);
    }

records_progress : (last : Bool) (n : ℕ) (j : Standing) (xs : List ℕ) (room : ℕ) →
    Progress last j room (records_of n j xs last room)
records_progress last n j xs room =
    records_by last (λ n j xs room p. Progress last j room p)
    (λ n j xs room h. record {
      more = λ u. absurd (cc);
      grows = omega arith;
      still = λ u. refl;
      roomy =
          λ k u. absurd (omega arith);
      fair = λ u. absurd (cc);
    })
    (λ j xs room h. record {
      more = λ u. absurd (cc);
      grows = omega arith;
      still = λ u. refl;
      roomy =
          λ k u. absurd (cc);
      fair = λ u. absurd (cc);
    })
    (λ n j xs room h f r e q s. stop_goes last j xs room f r e s)
    (λ n j xs room h how k b q p i.
    let b₁ : (moved how xs j).counts.totals.begun ≡ j.counts.totals.begun + 1 =
    counted_begun how (row_at xs) j.counts in
    let g : (moved how xs j).counts.totals.begun ≤ p.standing.counts.totals.begun = i.grows in
    record {
      more = i.more;
      grows = omega arith;
      still = λ u. absurd (omega arith);
      roomy = λ k u. omega arith;
      fair =
          i.fair;
    })
    n j xs room

pub feed_progress :
    (limit : ℕ) (j : Standing) (xs : List ℕ) (last : Bool) (room : ℕ) → counts_sound limit j.counts ≡ true →
    Progress last j room (feed_of limit j xs last room)
feed_progress limit j xs last room s =
    let m = records_progress last (limit - j.counts.totals.begun) j xs room in
    rw (feed_good limit j xs last room s) (record {
      more = m.more;
      grows = m.grows;
      still = m.still;
      roomy =
          m.roomy;
      fair = m.fair;
    })
