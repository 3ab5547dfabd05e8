-- `job::put_trailer` meets its contract: its stores are the run of the mark, the four counts and those by mark.
use borrow.Author.Rules.{rules}
use mathlib.Core.Path.{◌≡◌, sym}
use lib.ListN.{length}
use Rattle.marks.specs.Rows.{row_count}
use Rattle.job.proofs.Ending.{trailer_run, trailer-length}
use Rattle.job.proofs.put_trailer.Goals as goal

pub returns : goal.returns
returns c =
    let a = c.args in
    -- there are as many counts by mark as the array has elements
    let w : length c.args.c.by_mark ≡ row_count = search rules in
    record {
      value = sym (trailer-length a.c w);
      out_after = cc (trailer_run a.c a.out.now a.at);
    }
