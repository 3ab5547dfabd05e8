-- `root::root` meets its contract: each return is the definition's case for its tests (`Cases`). Assumes nothing.
use borrow.Author.Rules.{rules}
use mathlib.Core.Path.{sym, ◌∙◌, subst}
use Prim.Native.Nat.{ℕ, ◌<◌, ◌≤◌}
use lib.Dec.{T}
use lib.Ieee.{binary64, of_bits, fits, to_bits}
use Rattle.ieee.specs.Patterns.{patterns}
use Rattle.root.proofs.Cases.{below, from, zeros, other, good}
use Rattle.root.proofs.root.Goals as goal

pub returns-then-z : goal.returns-then-z
unfolding of_bits
returns-then-z c = below c.args.z c.if-z.true

pub returns-then-z-2 : goal.returns-then-z-2
unfolding of_bits
returns-then-z-2 c = zeros c.args.z c.if-z-2.true ∙ from c.args.z c.if-z.false

pub returns-then-b-ge-INFINITY : goal.returns-then-b-ge-INFINITY
unfolding of_bits
returns-then-b-ge-INFINITY c =
    let z = c.args.z in
    let t : T (fits binary64 z) = search rules in
    let b : patterns binary64 ≤ to_bits binary64 z =
    subst (λ (x : ℕ). patterns binary64 ≤ x) c.pattern-b.ensures c.if-b-ge-INFINITY.true in
    other z t c.if-z.false c.if-z-2.false b ∙ from z c.if-z.false

pub positive-requires : goal.positive-requires
unfolding of_bits
positive-requires c =
    let z = c.args.z in
    let t : T (fits binary64 z) = search rules in
    let b : to_bits binary64 z < patterns binary64 =
    subst (λ (x : ℕ). x < patterns binary64) c.pattern-b.ensures c.if-b-ge-INFINITY.false in (
      subst (λ (x : ℕ). 0 < x) (sym c.pattern-b.ensures) (good z t c.if-z.false c.if-z-2.false b).0,
      c.if-b-ge-INFINITY.false,
    )

pub returns : goal.returns
unfolding of_bits
returns c =
    let z = c.args.z in
    let t : T (fits binary64 z) = search rules in
    let b : to_bits binary64 z < patterns binary64 =
    subst (λ (x : ℕ). x < patterns binary64) c.pattern-b.ensures c.if-b-ge-INFINITY.false in
    let g = (good z t c.if-z.false c.if-z-2.false b).1 in
    cc (c.positive.ensures, c.pattern-b.ensures, g, from z c.if-z.false)
