-- `root::whole_root` meets its contract: after the seed, each `widen` has the root of a longer beginning of the digits.
-- Assumes nothing.
use mathlib.Core.Path.{◌≡◌, ap, ◌∙◌}
use Prim.Native.Nat.{ℕ, ◌+◌, ◌-◌, ◌*◌, ◌/◌, ◌%◌, ◌^◌, ◌≤◌, ◌<◌}
use native.Mathlib.Omega.{arith}
use Rattle.root.proofs.Squares.{bracket, first_two, next_two}
use Rattle.root.proofs.whole_root.Goals as goal
use Rattle.root.proofs.whole_root.Goals.{After-widen-p, After-widen-q}

-- after the first step: the root of the upper 28 digits
one :
    (c : After-widen-p) →
    let p = c.widen-p.result in
    (p.root * p.root + p.remainder ≡ c.args.c / 0x400_0000) × (p.remainder ≤ 2 * p.root) × (2 ^ 13 ≤ p.root)
    × (p.root < 2 ^ 14)
one c =
    let p = c.widen-p.result in
    let e = c.widen-p.ensures.0 ∙ first_two c.args.c c.seed-s.result (omega arith) in
    let b = bracket p.root p.remainder (c.args.c / 0x400_0000) (2 ^ 13) (2 ^ 14) e c.widen-p.ensures.1 (omega arith)
    (omega arith) in
    (e, c.widen-p.ensures.1, b.0, b.1)

-- after the second: the root of c
two :
    (c : After-widen-q) →
    let p = c.widen-q.result in
    (p.root * p.root + p.remainder ≡ c.args.c) × (p.remainder ≤ 2 * p.root) × (2 ^ 26 ≤ p.root) × (p.root < 2 ^ 27)
two c =
    let o = one c.before in
    let p = c.widen-q.result in
    let a = c.args.c in
    let e = c.widen-q.ensures.0 ∙ ap (λ (x : ℕ). x * (0x2000 * 0x2000) + a / 0x2000 % 0x2000 * 0x2000 + a % 0x2000) o.0
    ∙ next_two a in
    let b = bracket p.root p.remainder a (2 ^ 26) (2 ^ 27) e c.widen-q.ensures.1 (omega arith) (omega arith) in
    (e, c.widen-q.ensures.1, b.0, b.1)

pub widen-p-requires : goal.widen-p-requires
widen-p-requires c =
    let h = c.args.c / 0x100_0000_0000 in
    let s = c.seed-s.result in
    let low = bracket s (h - s * s) h (2 ^ 6) (2 ^ 7) (omega arith) (omega arith) (omega arith) (omega arith) in
    omega arith

pub widen-q-requires : goal.widen-q-requires
widen-q-requires c = let o = one c in omega arith

pub widen-requires : goal.widen-requires
widen-requires c = let o = two c in omega arith

pub returns : goal.returns
returns c =
    let o = two (goal.at.returns c).After-widen-q in (
      c.widen.ensures.0 ∙ ap (λ (x : ℕ). x * (0x400_0000 * 0x400_0000) + 0 * 0x400_0000 + 0) o.0
          ∙ omega arith,
      c.widen.ensures.1,
    )
