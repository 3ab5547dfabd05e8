-- Sums, differences and products of one kind of thing, trees or exact values: a formula over them is written once, and
-- is the tree of a computation and its exact value.
use Rattle.rounding.specs.Value.{Value, opposite, plus, minus, times}
use Rattle.rounding.specs.Tree.{Term, opp, sum, prod, diff}

pub record Arithmetic (A : Type 0) : Type 0 where
  pub ◌⊕◌ : A → A → A
  pub ◌⊖◌ : A → A → A
  pub ◌⊗◌ : A → A → A
  pub negated : A → A

abbrev pub trees : Arithmetic Term
trees = record { ◌⊕◌ = sum; ◌⊖◌ = diff; ◌⊗◌ = prod; negated = opp }

abbrev pub exactly : Arithmetic Value
exactly = record { ◌⊕◌ = plus; ◌⊖◌ = minus; ◌⊗◌ = times; negated = opposite }
