-- From the two ends of p's arm to the nearest other arm: below `low` and from `high` on the arm is another, and between
-- them it is p's. Assumes nothing.
use mathlib.Core.Path.{◌≡◌, refl, sym, ◌∙◌}
use mathlib.Core.Logic.{inl, inr}
use Prim.Native.Nat.{ℕ, ◌+◌, ◌-◌, ◌≤◌, ◌<◌}
use native.Mathlib.Omega.{arith}
use lib.Dec.{T}
use Rattle.std.proofs.lemmas.Bool.{cases_lt}
use Rattle.nearest.specs.Nearest.{Way, down, up, changes, step, none, nearest_from}
use Rattle.nearest.specs.Theorem.{Least}
use Rattle.nearest.specs.Private.{Parts}
use Rattle.nearest.proofs.Steps.{down-changes, up-changes, down-permitted, up-permitted, another}
use Rattle.nearest.proofs.Tried.{nearest-is}
use Rattle.nearest.proofs.Only.{only_one}

-- p has the arm a, and low and high split the patterns below and above it
pub record Ends (arm : ℕ → ℕ) (end p a low high : ℕ) : Type 0 where
  pub known : a ≡ arm p
  pub inside : p < end
  pub some : 1 ≤ a
  pub lower : Parts arm end (a - 1) low
  pub upper : Parts arm end a high

-- n steps in the direction d come before m steps in the other: fewer, or as many if d is tried first
abbrev pub Ahead : Way → Way → ℕ → ℕ → Type 0
Ahead down down n m = n ≤ m
Ahead down up n m = n < m
Ahead up down n m = n < m
Ahead up up n m = n ≤ m

weak : (first d : Way) (n m : ℕ) → Ahead first d n m → n ≤ m
weak down down n m k = k
weak down up n m k = omega arith
weak up down n m k = omega arith
weak up up n m k = k

module _ {arm : ℕ → ℕ} {end p a low high : ℕ} (s : Ends arm end p a low high) where
  -- p lies between the ends
  pub from_low : low ≤ p
  from_low = elim (cases_lt p low) [
    | inl h ↦ let k = s.known in let n = s.some in let x : arm p ≤ a - 1 = s.lower.before p h in absurd (omega arith)
    | inr h ↦ h
  ]

  pub to_high : p < high
  to_high = elim (cases_lt p high) [
    | inl h ↦ h
    | inr h ↦ let k = s.known in let x : a < arm p = s.upper.after p h s.inside in absurd (omega arith)
  ]

  between : (q : ℕ) → low ≤ q → q < high → arm q ≡ a
  between q h k =
      let x : arm q ≤ a = s.upper.before q k in
      let w : high ≤ end = s.upper.within in
      let y : a - 1 < arm q = s.lower.after q h (omega arith) in
      omega arith

  -- a change leads below `low`, or to `high` or further
  down-least : (n : ℕ) → T (changes arm end p down n) → p - low + 1 ≤ n
  down-least n c =
      let inside : n ≤ p = down-permitted arm end p n c in
      let m = from_low in
      elim (cases_lt (p - n) low) [
        | inl h ↦ omega arith
        | inr h ↦ let t = to_high in absurd (another arm end p down n c (between (p - n) h (omega arith) ∙ s.known))
      ]

  up_least : (n : ℕ) → T (changes arm end p up n) → high - p ≤ n
  up_least n c =
      let m = from_low in
      elim (cases_lt (p + n) high) [
        | inl h ↦ absurd (another arm end p up n c (between (p + n) (omega arith) h ∙ s.known))
        | inr h ↦ omega arith
      ]

  up-only : (n : ℕ) → T (changes arm end p up n) → high < end
  up-only n c =
      let inside : p + n < end = up-permitted arm end p n c in
      let x = up_least n c in
      omega arith

  down-only : (n : ℕ) → T (changes arm end p down n) → 0 < low
  down-only n c =
      let inside : n ≤ p = down-permitted arm end p n c in
      let x = down-least n c in
      let m = from_low in
      omega arith

  -- ---- the least count leads down
  low-changes : (n : ℕ) → 0 < low → n ≡ p - low + 1 → T (changes arm end p down n)
  low-changes n h e =
      let m = from_low in
      down-changes arm end p n (omega arith)
      (λ t. let k = s.known in let o = s.some in let x : arm (p - n) ≤ a - 1 = s.lower.before (p - n) (omega arith) in
      absurd (omega arith))

  least-down : (first : Way) (n : ℕ) → 0 < low → n ≡ p - low + 1 → (high < end → Ahead first down n (high - p)) →
      (b : ℕ) → b ≡ arm (p - n) → Least arm end first p n down b
  least-down first n l e h b t = record { changing = low-changes n l e; least = least; tie = tie first h; there = t }
    where
      least : (d : Way) (m : ℕ) → T (changes arm end p d m) → n ≤ m
      least down m c = let x = down-least m c in omega arith
      least up m c = let x = up_least m c in let y = weak first down n (high - p) (h (up-only m c)) in omega arith

      tie : (d : Way) → (high < end → Ahead d down n (high - p)) → T (changes arm end p d n) → down ≡ d
      tie down k c = refl
      tie up k c = let x = up_least n c in let y : n < high - p = k (up-only n c) in absurd (omega arith)

  -- ---- or up
  high-changes : (n : ℕ) → high < end → n ≡ high - p → T (changes arm end p up n)
  high-changes n h e =
      let m = to_high in
      up-changes arm end p n (omega arith) (λ t. let k = s.known in let x : a < arm (p + n) =
      s.upper.after (p + n) (omega arith) (omega arith) in absurd (omega arith))

  least-up : (first : Way) (n : ℕ) → high < end → n ≡ high - p → (0 < low → Ahead first up n (p - low + 1)) → (b : ℕ) →
      b ≡ arm (p + n) → Least arm end first p n up b
  least-up first n h e l b t = record { changing = high-changes n h e; least = least; tie = tie first l; there = t }
    where
      least : (d : Way) (m : ℕ) → T (changes arm end p d m) → n ≤ m
      least up m c = let x = up_least m c in omega arith
      least down m c =
          let x = down-least m c in let y = weak first up n (p - low + 1) (l (down-only m c)) in omega arith

      tie : (d : Way) → (0 < low → Ahead d up n (p - low + 1)) → T (changes arm end p d n) → up ≡ d
      tie up k c = refl
      tie down k c = let x = down-least n c in let y : n < p - low + 1 = k (down-only n c) in absurd (omega arith)

  -- ---- so the definition returns that
  pub downward : (first : Way) (n : ℕ) → 0 < low → n ≡ p - low + 1 → (high < end → Ahead first down n (high - p)) →
      (b : ℕ) → b ≡ arm (p - n) → step n down b ≡ nearest_from arm end first p
  downward first n l e h b t =
      only_one arm end first p s.inside (step n down b) _ (least-down first n l e h b t)
      (nearest-is arm end first p s.inside)

  pub upward : (first : Way) (n : ℕ) → high < end → n ≡ high - p → (0 < low → Ahead first up n (p - low + 1)) →
      (b : ℕ) → b ≡ arm (p + n) → step n up b ≡ nearest_from arm end first p
  upward first n h e l b t =
      only_one arm end first p s.inside (step n up b) _ (least-up first n h e l b t)
      (nearest-is arm end first p s.inside)

  pub nowhere : (first : Way) → low ≡ 0 → high ≡ end → none ≡ nearest_from arm end first p
  nowhere first l h =
      only_one arm end first p s.inside none _ (λ q r Q R. between q (omega arith) (omega arith)
      ∙ sym (between r (omega arith) (omega arith))) (nearest-is arm end first p s.inside)
