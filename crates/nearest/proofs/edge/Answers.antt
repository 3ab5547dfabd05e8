-- `nearest::edge` meets its contract: the invariant is what is known when the patterns from `from` to `to` are left,
-- and the measure is how many there are. Assumes nothing.
use mathlib.Core.Path.{subst, sym, ◌∙◌}
use Prim.Native.Nat.{ℕ, ◌≤◌, ◌<◌}
use native.Mathlib.Omega.{arith}
use Rattle.ieee.specs.Patterns.{patterns}
use Rattle.nearest.specs.Nearest.{arm_at}
use Rattle.nearest.proofs.Rising.{arm_rising}
use Rattle.nearest.proofs.Halving.{Left, all_left, none_left, go_up, go_down}
use Rattle.nearest.proofs.edge.Goals as goal

pub loop-from-init : goal.loop-from-init
loop-from-init g c =
    let r = g.T.Real in
    let arm = arm_at r.format (r.float c.args.sigma) in
    subst (λ (n : ℕ). Left arm (patterns r.format) c.args.a 0 n) (sym c.end-to.ensures)
    (all_left arm (patterns r.format) c.args.a)

pub arm_at-requires : goal.arm_at-requires
arm_at-requires g c = let w = c.loop-from.invariant.within in omega arith

pub loop-from-preserved-then-number-a : goal.loop-from-preserved-then-number-a
loop-from-preserved-then-number-a g c =
    let r = g.T.Real in
    let a = c.args in
    let here : arm_at r.format (r.float a.sigma) _ ≤ a.a = subst (λ (n : ℕ). n ≤ a.a)
    (c.number.ensures ∙ c.arm_at.ensures.0) c.if-number-a.true in
    go_up (arm_at r.format (r.float a.sigma)) (patterns r.format) a.a
    (arm_rising r.format (r.float a.sigma)) _ c.loop-from.invariant (omega arith) here

pub loop-from-preserved : goal.loop-from-preserved
loop-from-preserved g c =
    let r = g.T.Real in
    let a = c.args in
    let here : a.a < arm_at r.format (r.float a.sigma) _ = subst (λ (n : ℕ). a.a < n)
    (c.number.ensures ∙ c.arm_at.ensures.0) c.if-number-a.false in
    go_down (arm_at r.format (r.float a.sigma)) (patterns r.format) a.a
    (arm_rising r.format (r.float a.sigma)) _ c.loop-from.invariant (omega arith) (omega arith) here

pub returns : goal.returns
returns g c =
    let r = g.T.Real in none_left (arm_at r.format (r.float _))
    (patterns r.format) _ c.loop-from.invariant c.loop-from-test.false
