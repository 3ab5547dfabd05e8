-- The answer is unique: the least count is one number, the tie rule decides the direction, and if a step leads to
-- another arm, there is more than one arm. Assumes nothing.
use mathlib.Core.Path.{◌≡◌, refl, sym, ◌∙◌, subst}
use mathlib.Core.Logic.{◌⊎◌, inl, inr}
use Prim.Native.Nat.{ℕ, ◌+◌, ◌-◌, ◌<◌}
use native.Mathlib.Omega.{arith}
use lib.Dec.{T}
use Rattle.nearest.specs.Nearest.{Way, down, up, Near, step, none, place, changes}
use Rattle.nearest.specs.Theorem.{Least, OneArm, NearIs}
use Rattle.nearest.proofs.Steps.{down-permitted, up-permitted, another}

-- of two different directions one is `first`
one-first : (first d e : Way) → (d ≡ e) ⊎ ((d ≡ first) ⊎ (e ≡ first))
one-first down down e = inr (inl refl)
one-first down up down = inr (inr refl)
one-first down up up = inl refl
one-first up up e = inr (inl refl)
one-first up down up = inr (inr refl)
one-first up down down = inl refl

module _ (arm : ℕ → ℕ) (end : ℕ) (first : Way) (p : ℕ) (inside : p < end) where
  same_step : (n m : ℕ) (d e : Way) (a b : ℕ) → Least arm end first p n d a → Least arm end first p m e b →
      step n d a ≡ step m e b
  same_step n m d e a b x y = λ i. step (count i) (way i) (there i)
    where
      count : n ≡ m
      count = let l = x.least e m y.changing in let k = y.least d n x.changing in omega arith

      way : d ≡ e
      way = elim (one-first first d e) [
        | inl s ↦ s
        | inr h ↦ elim h [
          | inl s ↦ s ∙ sym
              (y.tie (subst (λ (k : ℕ). T (changes arm end p first k)) count
              (subst (λ (w : Way). T (changes arm end p w n)) s x.changing)))
          | inr s ↦ x.tie (subst (λ (k : ℕ). T (changes arm end p first k)) (sym count)
              (subst (λ (w : Way). T (changes arm end p w m)) s y.changing)) ∙ sym s
        ]
      ]

      there : a ≡ b
      there = x.there ∙ (λ i. arm (place (way i) p (count i))) ∙ sym y.there

  not_both : (d : Way) (n : ℕ) → T (changes arm end p d n) → OneArm arm end → ⊥
  not_both down n t o =
      let h = down-permitted arm end p n t in another arm end p down n t (o (p - n) p (omega arith) inside)
  not_both up n t o = another arm end p up n t (o (p + n) p (up-permitted arm end p n t) inside)

  pub only_one : (r s : Near) → NearIs arm end first p r → NearIs arm end first p s → r ≡ s
  only_one (step n d a) (step m e b) x y = same_step n m d e a b x y
  only_one (step n d a) none x y = absurd (not_both d n x.changing y)
  only_one none (step m e b) x y = absurd (not_both e m y.changing x)
  only_one none none x y = refl
