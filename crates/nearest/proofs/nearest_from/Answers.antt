-- `nearest::nearest_from` meets its contract: `low` and `high` are the ends of p's arm, and its tests decide which of
-- them is nearer. Assumes nothing.
use mathlib.Core.Path.{◌≡◌, refl, sym, subst, ◌∙◌}
use Prim.Native.Nat.{ℕ, ◌+◌, ◌-◌, ◌≤◌, ◌<◌}
use native.Mathlib.Omega.{arith}
use Rattle.ieee.specs.Patterns.{patterns}
use Rattle.nearest.specs.Nearest.{step, down, up, nearest_from, preferred, arm_at}
use Rattle.nearest.proofs.Sides.{Ends, Ahead, nowhere, downward, upward}
use Rattle.nearest.proofs.nearest_from.Goals as goal

-- the steps to either end of p's arm, where it is the nearer one
up_is : {arm : ℕ → ℕ} {end p a low high : ℕ} → Ends arm end p a low high → high < end →
    (0 < low → Ahead preferred up (high - p) (p - low + 1))
    → step (high - p) up (arm (p + (high - p))) ≡ nearest_from arm end preferred p
up_is s h k = upward s preferred _ h refl k _ refl

down_is : {arm : ℕ → ℕ} {end p a low high : ℕ} → Ends arm end p a low high → 0 < low →
    (high < end → Ahead preferred down (p - low + 1) (high - p))
    → step (p - low + 1) down (arm (p - (p - low + 1))) ≡ nearest_from arm end preferred p
down_is s h k = downward s preferred _ h refl k _ refl

-- `high` is no further than the infinity's pattern
apart : {high e n : ℕ} → high ≤ n → e ≡ n → (high ≡ e → ⊥) → high < n
apart w d h = omega arith

pub returns-then-high-end : goal.returns-then-high-end
returns-then-high-end g c =
    let r = g.T.Real in
    let arm = arm_at r.format (r.float c.args.sigma) in
    let known = c.number-a.ensures ∙ c.arm_at.ensures.0 in
    let some = subst (λ (n : ℕ). 1 ≤ n) (sym c.number-a.ensures) c.arm_at.ensures.1 in
    let s : Ends arm (patterns r.format) c.args.p c.number-a.result c.edge-low.result c.edge-high.result =
    record {
      known = known;
      inside = c.requires;
      some = some;
      lower = c.edge-low.ensures;
      upper =
          c.edge-high.ensures;
    } in
    nowhere s preferred c.if-low-eq0.true (c.if-high-end.true ∙ c.end-end.ensures)

pub returns-then-low-eq0 : goal.returns-then-low-eq0
returns-then-low-eq0 g c =
    let r = g.T.Real in
    let arm = arm_at r.format (r.float c.args.sigma) in
    let known = c.number-a.ensures ∙ c.arm_at.ensures.0 in
    let some = subst (λ (n : ℕ). 1 ≤ n) (sym c.number-a.ensures) c.arm_at.ensures.1 in
    let s : Ends arm (patterns r.format) c.args.p c.number-a.result c.edge-low.result c.edge-high.result =
    record {
      known = known;
      inside = c.requires;
      some = some;
      lower = c.edge-low.ensures;
      upper =
          c.edge-high.ensures;
    } in
    let z = c.if-low-eq0.true in
    c.moved.ensures ∙ up_is s (apart c.edge-high.ensures.within c.end-end.ensures c.if-high-end.false)
    (λ l. absurd (omega arith))

pub returns-then-high-end-2 : goal.returns-then-high-end-2
returns-then-high-end-2 g c =
    let r = g.T.Real in
    let arm = arm_at r.format (r.float c.args.sigma) in
    let known = c.number-a.ensures ∙ c.arm_at.ensures.0 in
    let some = subst (λ (n : ℕ). 1 ≤ n) (sym c.number-a.ensures) c.arm_at.ensures.1 in
    let s : Ends arm (patterns r.format) c.args.p c.number-a.result c.edge-low.result c.edge-high.result =
    record {
      known = known;
      inside = c.requires;
      some = some;
      lower = c.edge-low.ensures;
      upper =
          c.edge-high.ensures;
    } in
    let z = c.if-low-eq0.false in
    let e = c.if-high-end-2.true in
    let d = c.end-end.ensures in
    c.moved-then-high-end-2.ensures ∙ down_is s (omega arith) (λ h. absurd (omega arith))

pub returns-then-high-p : goal.returns-then-high-p
returns-then-high-p g c =
    let r = g.T.Real in
    let arm = arm_at r.format (r.float c.args.sigma) in
    let known = c.number-a.ensures ∙ c.arm_at.ensures.0 in
    let some = subst (λ (n : ℕ). 1 ≤ n) (sym c.number-a.ensures) c.arm_at.ensures.1 in
    let s : Ends arm (patterns r.format) c.args.p c.number-a.result c.edge-low.result c.edge-high.result =
    record {
      known = known;
      inside = c.requires;
      some = some;
      lower = c.edge-low.ensures;
      upper =
          c.edge-high.ensures;
    } in
    c.moved-then-high-p.ensures ∙ up_is s (apart c.edge-high.ensures.within c.end-end.ensures c.if-high-end-2.false)
    (λ l. c.if-high-p.true)

pub returns-else-high-p : goal.returns-else-high-p
returns-else-high-p g c =
    let r = g.T.Real in
    let arm = arm_at r.format (r.float c.args.sigma) in
    let known = c.number-a.ensures ∙ c.arm_at.ensures.0 in
    let some = subst (λ (n : ℕ). 1 ≤ n) (sym c.number-a.ensures) c.arm_at.ensures.1 in
    let s : Ends arm (patterns r.format) c.args.p c.number-a.result c.edge-low.result c.edge-high.result =
    record {
      known = known;
      inside = c.requires;
      some = some;
      lower = c.edge-low.ensures;
      upper =
          c.edge-high.ensures;
    } in
    let z = c.if-low-eq0.false in
    c.moved-else-high-p.ensures ∙ down_is s (omega arith) (λ h. c.if-high-p.false)
