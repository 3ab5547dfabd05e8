-- `job::put_refused` meets its contract: the stores of the refusal and of the counts are one run.
use borrow.Author.Rules.{rules}
use native.Mathlib.Omega.{arith}
use Prim.Native.Nat.{ℕ, ◌+◌}
use mathlib.Core.Path.{◌≡◌, sym, ap, ◌∙◌}
use lib.ListN.{length}
use Rattle.linalg.specs.Answer.{number}
use Rattle.marks.specs.Rows.{row_count}
use Rattle.job.proofs.Ending.{trailer-length, refused-length, refused_run}
use Rattle.job.proofs.put_refused.Goals as goal

pub overflow_add-result : goal.overflow_add-result
overflow_add-result c =
    let w : length c.args.c.by_mark ≡ row_count = search rules in
    omega (arith, c.put_trailer.ensures.value, trailer-length c.args.c w)

pub returns : goal.returns
returns c =
    let a = c.args in
    let w : length c.args.c.by_mark ≡ row_count = search rules in
    let n = ap (λ (n : ℕ). 3 + n) (c.put_trailer.ensures.value ∙ trailer-length a.c w) in
    record {
      value = n ∙ sym (refused-length (number a.refusal) a.c w);
      out_after = cc (refused_run (number a.refusal) a.c a.out.now a.at);
    }
