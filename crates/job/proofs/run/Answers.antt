-- `job::run` meets its contract: one call with all the input is the whole job, unless it ran out of room. Assumes
-- nothing.
use native.Mathlib.Omega.{arith}
use mathlib.Core.Path.{◌≡◌, sym, ap, ◌∙◌}
use Rattle.job_state.specs.State.{state_none, state_of}
use Rattle.job.specs.Job.{job_limit}
use Rattle.job.specs.Feed.{FedView, view_is_over}
use Rattle.job.proofs.Whole.{whole}
use Rattle.job.proofs.Input.{input}
use Rattle.job.proofs.run.Goals as goal

pub returns : goal.returns
returns c =
    let z : state_of c.fresh-state.result ≡ state_none = c.fresh-state.ensures in
    let f = rw (c.no_counts.ensures, z) at c.feed.ensures.result_value in
    let w = rw (c.no_counts.ensures, z) at c.feed.ensures.out_after in
    let n = input job_limit c.args.input.now (λ i. omega (arith, c.type_inv.input i)) in
    record {
      result_value = f;
      out_after = w;
      job_value =
          (λ e. w
          ∙ rw (whole job_limit c.args.input.now _ (sym (ap (λ (t : FedView). view_is_over t.reason) f)
          ∙ e)));
      input_theorem = n;
    }
