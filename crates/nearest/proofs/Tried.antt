-- Trying one count after the other finds the least count, in the direction that is tried first if both change the arm;
-- and if none is found, every pattern has the arm of p. Assumes nothing.
use mathlib.Core.Path.{◌≡◌, refl, sym, ap, ◌∙◌, subst}
use mathlib.Core.Logic.{◌⊎◌, inl, inr}
use Prim.Native.Nat.{ℕ, zero, suc, ◌+◌, ◌-◌, ◌≤◌, ◌<◌}
use native.Mathlib.Omega.{arith}
use mathlib.Core.Bool.{Bool, true, false, cond}
use lib.Dec.{T, eqb, eqb→eq, eqb_refl}
use Rattle.std.proofs.lemmas.Bool.{cases_lt}
use Rattle.nearest.specs.Nearest.{Way, down, up, step, other, place, changes, least_from, nearest_from}
use Rattle.nearest.specs.Theorem.{NearIs}
use Rattle.nearest.proofs.Steps.{down-changes, up-changes, down-permitted, up-permitted, another}

module _ (arm : ℕ → ℕ) (end : ℕ) (first : Way) (p : ℕ) (inside : p < end) where
  -- no fewer than n steps change the arm
  abbrev Above : ℕ → Type 0
  Above n = (e : Way) (m : ℕ) → T (changes arm end p e m) → n ≤ m

  either : (e d : Way) → (e ≡ d) ⊎ (e ≡ other d)
  either down down = inl refl
  either down up = inr refl
  either up down = inr refl
  either up up = inl refl

  below_end : (e : Way) (m : ℕ) → T (changes arm end p e m) → m ≤ end
  below_end down m t = let h = down-permitted arm end p m t in omega arith
  below_end up m t = let h = up-permitted arm end p m t in omega arith

  -- ---- none: a pattern with another arm would be some steps away
  decide : (a b : ℕ) → (a ≡ b) ⊎ (a ≡ b → ⊥)
  decide a b = go (eqb a b) (eqb→eq a b) (λ e. subst (λ (x : ℕ). T (eqb a x)) e (eqb_refl a))
    where
      go : (t : Bool) → (T t → a ≡ b) → (a ≡ b → T t) → (a ≡ b) ⊎ (a ≡ b → ⊥)
      go true x y = inl (x tt)
      go false x y = inr y

  like_p : ((e : Way) (m : ℕ) → T (changes arm end p e m) → ⊥) → (q : ℕ) → q < end → arm q ≡ arm p
  like_p never q h = elim (decide (arm q) (arm p)) [
    | inl e ↦ e
    | inr apart ↦ elim (cases_lt q p) [
      | inl l ↦
          let back : p - (p - q) ≡ q = omega arith in
          absurd (never down (p - q) (down-changes arm end p (p - q) (omega arith)
          (λ e. apart (sym (ap arm back) ∙ e))))
      | inr l ↦
          let back : p + (q - p) ≡ q = omega arith in
          absurd (never up (q - p) (up-changes arm end p (q - p) (rw back h) (λ e. apart (sym (ap arm back) ∙ e))))
    ]
  ]

  -- ---- found: at the first count that changes the arm
  further : (n : ℕ) → Above n → changes arm end p first n ≡ false → changes arm end p (other first) n ≡ false →
      Above (n + 1)
  further n h a b e m t = elim (cases_lt n m) [
    | inl l ↦ omega arith
    | inr l ↦
        let is : m ≡ n = let k = h e m t in omega arith in
        let here : T (changes arm end p e n) = subst (λ (x : ℕ). T (changes arm end p e x)) is t in
        absurd (elim (either e first) [
          | inl s ↦ subst T a (subst (λ (d : Way). T (changes arm end p d n)) s here)
          | inr s ↦ subst T b (subst (λ (d : Way). T (changes arm end p d n)) s here)
        ])
  ]

  tried : (left n : ℕ) → Above n → end < left + n → NearIs arm end first p (least_from arm end first p left n)
  unfolding least_from
  tried zero n h k = λ q r Q R. like_p never q Q ∙ sym (like_p never r R)
    where
      never : (e : Way) (m : ℕ) → T (changes arm end p e m) → ⊥
      never e m t = let a = h e m t in let b = below_end e m t in absurd (omega arith)
  tried (suc left) n h k =
      go (changes arm end p first n) (changes arm end p (other first) n) refl refl
      (λ x y. tried left (n + 1) (further n h x y) (omega arith))
    where
      go : (a b : Bool) → changes arm end p first n ≡ a → changes arm end p (other first) n ≡ b
          → (changes arm end p first n ≡ false → changes arm end p (other first) n ≡ false →
          NearIs arm end first p (least_from arm end first p left (n + 1)))
          → NearIs arm end first p (cond a (step n first (arm (place first p n)))
          (cond b (step n (other first) (arm (place (other first) p n))) (least_from arm end first p left (n + 1))))
      go true b x y on = record { changing = subst T (sym x) tt; least = h; tie = λ t. refl; there = refl }
      go false true x y on =
          record { changing = subst T (sym y) tt; least = h; tie = λ t. absurd (subst T x t); there = refl }
      go false false x y on = on x y

  some : Above 1
  some e zero t = absurd (nowhere e t)
    where
      nowhere : (e : Way) → T (changes arm end p e 0) → ⊥
      nowhere e t = another arm end p e 0 t (stays e)
        where
          stays : (e : Way) → arm (place e p 0) ≡ arm p
          stays down = ap arm (omega arith)
          stays up = ap arm (omega arith)
  some e (suc m) t = omega arith

  pub nearest-is : NearIs arm end first p (nearest_from arm end first p)
  nearest-is = tried end 1 some (omega arith)
