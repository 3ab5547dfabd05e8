-- `job::close` meets its contract: for each reason it writes the run of bytes of `closing`.
use mathlib.Core.Logic.{inl, inr}
use mathlib.Core.Path.{refl}
use Rattle.job.specs.Feed.{closing_of}
use Rattle.job.proofs.close.Goals as goal

pub returns-in-Full : goal.returns-in-Full
unfolding closing_of
returns-in-Full c =
    elim c.in-Full.is [
      | inl e ↦ rw e (record { value = c.put_trailer.ensures.value; out_after = c.put_trailer.ensures.out_after })
      | inr e ↦ rw e (record { value = c.put_trailer.ensures.value; out_after = c.put_trailer.ensures.out_after })
    ]

pub returns-in-Unknown : goal.returns-in-Unknown
unfolding closing_of
returns-in-Unknown c =
    rw c.in-Unknown.is (record { value = c.put_refused.ensures.value; out_after = c.put_refused.ensures.out_after })

pub returns-in-Cut : goal.returns-in-Cut
unfolding closing_of
returns-in-Cut c =
    rw c.in-Cut.is (record {
      value = c.put_refused-in-Cut.ensures.value;
      out_after =
          c.put_refused-in-Cut.ensures.out_after;
    })

pub returns-in-More : goal.returns-in-More
unfolding closing_of
returns-in-More c =
    elim c.in-More.is [
      | inl e ↦ rw e (record { value = refl; out_after = refl })
      | inr s ↦ elim s [
        | inl e ↦ rw e (record { value = refl; out_after = refl })
        | inr e ↦
            rw e (record { value = refl; out_after = refl })
      ]
    ]
