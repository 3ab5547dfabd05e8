-- AR's numbers are CO's on the same bytes, and its arm at σ is its arm at −σ: the armed pair is the pair, with the arm
-- at σ for both signs. Assumes nothing.
use Prim.Native.Nat.{ℕ}
use mathlib.Core.Path.{◌≡◌, refl, sym, ap, ◌∙◌}
use mathlib.Core.Bool.{Bool}
use mathlib.Core.List.{List}
use lib.ListN.{take, drop}
use lib.Ieee.{Format}
use Rattle.linalg.specs.Answer.{Answer, answers, refuses, and_then}
use Rattle.linalg.proofs.Answers.{never, answers-is}
use Rattle.pairs.specs.Entries.{pair_answer}
use Rattle.arms.specs.Limits.{coeffs_delta}
use Rattle.arms.specs.Arm.{coeffs_arm, arm_ends}
use Rattle.pairs.specs.Floats.{ScaledPair}
use Rattle.pairs.proofs.Even.{view_both, armed-pair-view}
use Rattle.layout.specs.Layout.{values_in, scaled_pair_numbers}
use Rattle.wire.specs.Wire.{Item, number_at}
use Rattle.replies.specs.Table.{gives, arm_items, armed_items, co_of, ar_of}
use Rattle.replies.specs.ArAsCo.{ArAsCo}

-- the answer that follows from the pair's, with this arm and these ends
abbrev with_arms : ℕ → Bool → Answer ScaledPair → Answer (List Item)
with_arms arm ends r = and_then (and_then r (λ p. answers (view_both arm ends p))) (λ p. answers (armed_items p))

numbers_of : (arm : ℕ) (ends : Bool) (r : Answer ScaledPair) →
    and_then r (λ p. gives (scaled_pair_numbers p)) ≡ and_then (with_arms arm ends r) (λ l. answers (drop 4 l))
unfolding armed_items arm_items scaled_pair_numbers
numbers_of arm ends (answers p) = refl
numbers_of arm ends (refuses n) = refl

arms_of : (arm : ℕ) (ends : Bool) (r : Answer ScaledPair) (l : List Item) → with_arms arm ends r ≡ answers l →
    take 2 l ≡ take 2 (drop 2 l)
unfolding armed_items arm_items
arms_of arm ends (answers p) l e =
    let q : armed_items (view_both arm ends p) ≡ l = answers-is (armed_items (view_both arm ends p)) l e in
    ap (take 2) (sym q) ∙ ap (λ (x : List Item). take 2 (drop 2 x)) q
arms_of arm ends (refuses n) l e = never l n (sym e)

module _ (f : Format) (b : List ℕ) where
  abbrev arm : ℕ
  arm = coeffs_arm f (coeffs_delta f (number_at f b 0) (number_at f b 1))

  abbrev ends : Bool
  ends = arm_ends f (number_at f b 0) arm

  abbrev pair : Answer ScaledPair
  pair = pair_answer f (number_at f b 0) (number_at f b 1) (values_in (number_at f b) 2)

  ar_view : ar_of f b ≡ with_arms arm ends pair
  unfolding ar_of
  ar_view =
      ap (λ a. and_then a (λ p. answers (armed_items p))) (armed-pair-view f (number_at f b 0) (number_at f b 1)
      (values_in (number_at f b) 2))

  pub ar_as_co : ArAsCo f b
  unfolding co_of
  ar_as_co =
      record {
        same_numbers = numbers_of arm ends pair ∙ ap (λ a. and_then a (λ l. answers (drop 4 l))) (sym ar_view);
        same_arms = λ l e. arms_of arm ends pair l (sym ar_view ∙ e);
      }
