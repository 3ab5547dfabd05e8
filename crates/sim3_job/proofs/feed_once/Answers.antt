-- `sim3_job::feed_once` meets its contract: it is what `feed` ensures, with the bytes left over moved to the front.
use native.Mathlib.Omega.{arith}
use Prim.Native.Nat.{ℕ, ◌-◌, ◌≤◌, ◌<◌}
use mathlib.Core.Path.{◌≡◌, sym, ap, ◌∙◌}
use native.Mathlib.Nat.{zero-add}
use lib.Seq.{length-take-le, paste, take-paste}
use lib.ListN.{length, take, drop, length-take, length-drop}
use Rattle.std.proofs.lemmas.Slice.{between_is}
use Rattle.job.specs.declared.Fed.{Fed}
use Rattle.job.specs.declared.Reason.TheVariants.{More}
use Rattle.job.specs.Job.{standing, job_limit}
use Rattle.job.specs.Feed.{fed_of, record_room}
use Rattle.job_state.specs.State.{state_of}
use Rattle.job.proofs.Few.{feed_few}
use Rattle.job.proofs.Pieces.{view_back}
use Rattle.sim3_job.proofs.Nearer.{not_bad}
use Rattle.sim3_job.proofs.feed_once.Goals as goal

pub returns : goal.returns
returns c =
    let a = c.args in
    let f = c.feed-f in
    let xs = take a.have a.buf.now in
    let room = length a.out.now in
    let view = view_back f.result (fed_of a.c a.state.now xs a.last room) f.ensures.result_value in
    let used : f.result.used ≤ a.have = omega (arith, simp length-take at f.ensures.in_bounds.0) in
    let few : f.result.reason ≡ More → a.have - f.result.used < record_room = λ e.
    let z : length xs - (fed_of a.c a.state.now xs a.last room).used < record_room =
    feed_few job_limit (standing a.c (state_of a.state.now)) _ a.last room (rw view at e) in
    let u : f.result.used ≡ (fed_of a.c a.state.now xs a.last room).used = ap (λ (x : Fed). x.used) view in
    let n : length xs ≡ a.have = length-take-le _ _ c.requires.have_in_bounds in
    omega (arith, z, u, n) in
    let bad = not_bad (standing a.c (state_of a.state.now)) _ a.last room f.result c.requires.c_value view in
    let n = a.have - f.result.used in
    let rest = drop f.result.used a.buf.now in
    let front =
    ap (λ (k : ℕ). take k (paste a.buf.now 0 rest n)) (sym (zero-add n))
    ∙ take-paste a.buf.now 0 rest n (omega (arith, c.requires.have_in_bounds))
    (omega (arith, length-drop f.result.used a.buf.now, c.requires.have_in_bounds)) in
    let left = ap (take n) c.copy_within.ensures.after ∙ front ∙ between_is a.buf.now f.result.used a.have in
    record {
      value = view;
      out_after = f.ensures.out_after;
      state_after = f.ensures.state_after;
      used_le_have = (used, f.ensures.in_bounds.1);
      used_bound = few;
      fact = bad;
      buf_after = left;
    }
