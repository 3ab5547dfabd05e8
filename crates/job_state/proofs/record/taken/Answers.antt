-- `job_state::record::taken` meets its contract: by its two tests. Assumes nothing.
use native.Mathlib.Omega.{arith}
use Prim.Native.Nat.{ℕ, ◌+◌, ◌-◌}
use mathlib.Core.Path.{◌≡◌, sym, ap, ◌∙◌}
use lib.ListN.{take, drop}
use Rattle.std.proofs.lemmas.List.{drop-take}
use Rattle.job_state.proofs.record.taken.Goals as goal

pub returns : goal.returns
returns c =
    let k = c.args.size in
    let s = c.args.s.now in
    let e : 2 + (k - 2) ≡ k = omega (arith, c.requires) in
    record {
      whole = c.if-s-size.false;
      room = c.if-out-lt-LONGEST.false;
      bytes = sym (drop-take 2 (k - 2) s) ∙ ap (λ (n : ℕ). drop 2 (take n s)) e;
    }
