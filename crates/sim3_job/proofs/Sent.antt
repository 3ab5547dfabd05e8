-- After a write to standard output the place in the sink lies within it, as before. Assumes nothing.
use Prim.Native.Nat.{ℕ, ◌≤◌}
use mathlib.Core.Path.{◌≡◌, sym, subst}
use Rattle.std.specs.Prelude.{Result, Ok, Err}
use Rattle.sim3_job.specs.declared.RunError.{RunError}
use Rattle.sim3_job.specs.Sent.{WithinSink, sent_of}

at-sent : {A E : Type 0} (w : Result A E) (sent most : ℕ) → sent ≤ most → WithinSink (sent_of w sent) most
unfolding sent_of
at-sent (Ok u) sent most h = h
at-sent (Err e) sent most h = tt

pub sent_within : {A E : Type 0} (w : Result A E) (r : Result ℕ RunError) (sent most : ℕ) → r ≡ sent_of w sent →
    sent ≤ most → WithinSink r most
sent_within w r sent most e h = subst (λ (x : Result ℕ RunError). WithinSink x most) (sym e) (at-sent w sent most h)
