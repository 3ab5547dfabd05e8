-- `nearest::arm_at` meets its contract: it is the arm at the definition's sum, and the arms start at 1. Assumes
-- nothing.
use mathlib.Core.Path.{◌≡◌, sym, subst}
use Prim.Native.Nat.{ℕ, ◌≤◌}
use Rattle.arms.specs.Limits.{coeffs_delta}
use Rattle.arms.specs.Arm.{arm_number}
use Rattle.nearest.specs.Nearest.{arm_at}
use Rattle.nearest.proofs.Rising.{arm_from}
use Rattle.nearest.proofs.arm_at.Goals as goal

pub returns : goal.returns
returns g c =
    let r = g.T.Real in
    let real = g.met.T.Real in
    let a = c.args in
    let e : arm_number c.at.result ≡ arm_at r.format (r.float a.sigma) a.p =
    unfold arm_at coeffs_delta in
    simp (
      c.at.ensures,
      real.add_law _ _ _ c.add.ensures,
      real.mul_law _ _ _ c.mul.ensures,
      c.value.ensures
          c.requires,
    ) in
    (e, subst (λ (n : ℕ). 1 ≤ n) (sym e) (arm_from r.format (r.float a.sigma) a.p))
