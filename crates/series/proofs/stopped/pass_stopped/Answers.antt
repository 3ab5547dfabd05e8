use Rattle.std.proofs.Common.{rules, ◌+◌, ◌∙◌}
use Rattle.series.specs.Floats.{as_horner}
use Rattle.series.specs.Pass.{pass_stopped, horner_stopped}
use Rattle.series.proofs.Guard.{terms_refused, terms_accepted}
use Rattle.series.proofs.PartialSums.{whole, stopped_at}
use Rattle.series.proofs.stopped.pass_stopped.Goals as goal

pub returns-in_err-k : goal.returns-in_err-k
unfolding pass_stopped
returns-in_err-k g c =
    let x = g.T.Real.float in
    let f = g.T.Real.format in
    search (
      rules,
      terms_refused 28 c.args.k c.args.k _ (whole f (x c.args.sigma) c.args.stop c.args.k)
          c.in_err-k.ensures,
    )

pub returns : goal.returns
unfolding pass_stopped
returns g c =
    let x = g.T.Real.float in
    let f = g.T.Real.format in
    let s = x c.args.sigma in
    let stop = c.args.stop in
    terms_accepted 28 c.args.k (whole f s stop) _ _ c.in_ok-k.ensures
    (λ i. record {
      series =
          stopped_at f s _ _ stop (as_horner x c.horner_stopped-series.result) c.entries_read.ensures.0
          c.horner_stopped-series.ensures i;
      series_alone = c.alone-series_alone.ensures i;
      closed = c.horner_small_stopped-closed.ensures i;
      closed_alone =
          (c.alone-closed_alone.ensures
          ∙ (λ j. horner_stopped f s (c.w0_terms.ensures j + 1) (c.w0_terms-2.ensures j) stop)) i;
    })
