-- The fold returns the highest take: one of the shots of the sheet, and none of them is higher; or nothing if there is
-- none. Assumes nothing.
use Prim.Native.Nat.{ℕ, ◌≤◌}
use mathlib.Core.Path.{◌≡◌, refl, sym, ap, ◌∙◌}
use mathlib.Core.Logic.{◌⊎◌, inl, inr}
use mathlib.Core.Bool.{Bool, true, false, cond}
use mathlib.Core.List.{List, [], ◌∷◌}
use native.Mathlib.Omega.{arith}
use borrow.Author.Tests.{eq-eqb, eqb-true, ltb-true, ltb-false}
use lib.Dec.{ltb, eqb}
use Rattle.std.proofs.lemmas.Bool.{false≢true}
use Rattle.sheets.specs.Sheets.{Kept, none, kept}
use Rattle.sheets.specs.History.{Sent, sent, Among, Highest, higher, highest, HighestTheorem}
use Rattle.sheets.specs.declared.Shot.{Shot}

-- the highest among k and the shots h: as `Highest`, with k as one more of them
From : ℕ → List Sent → Kept → Kept → Type 0
From n h none r = Highest n h r
From n h (kept k) none = ⊥
From n h (kept k) (kept y) =
    ((y ≡ k) ⊎ Among (sent n y) h) × ((k.take ≤ y.take) × ((x : Shot) → Among (sent n x) h → x.take ≤ y.take))

-- ---- a shot of another sheet changes nothing
module _ (n : ℕ) (x : Sent) (h : List Sent) (d : eqb n x.sheet ≡ false) where
  not_own : (y : Shot) → sent n y ≡ x → ⊥
  not_own y e = absurd (false≢true (sym d ∙ eq-eqb n x.sheet (ap (λ (s : Sent). s.sheet) e)))

  skip : (y : Shot) → Among (sent n y) (x ∷ h) → Among (sent n y) h
  unfolding Among
  skip y (inl e) = absurd (not_own y e)
  skip y (inr a) = a

  past : (k r : Kept) → From n h k r → From n (x ∷ h) k r
  unfolding From Among
  past none none f = λ y a. f y (skip y a)
  past none (kept r) f = (inr f.0, λ y a. f.1 y (skip y a))
  past (kept k) none f = f
  past (kept k) (kept r) f = (keep f.0, (f.1.0, λ y a. f.1.1 y (skip y a)))
    where
      keep : (r ≡ k) ⊎ Among (sent n r) h → (r ≡ k) ⊎ Among (sent n r) (x ∷ h)
      keep (inl e) = inl e
      keep (inr a) = inr (inr a)

-- ---- a shot of the sheet is the highest so far, or the one before it is
module _ (n : ℕ) (x : Sent) (h : List Sent) (s : n ≡ x.sheet) where
  is-first : (y : Shot) → y ≡ x.shot → sent n y ≡ x
  is-first y e = λ i. sent (s i) (e i)

  low :
      (y z : Shot) → x.shot.take ≤ y.take → ((w : Shot) → Among (sent n w) h → w.take ≤ y.take) →
      Among (sent n z) (x ∷ h) → z.take ≤ y.take
  unfolding Among
  low y z l f (inl e) = let t : z.take ≡ x.shot.take = ap (λ (w : Sent). w.shot.take) e in omega arith
  low y z l f (inr a) = f z a

  first_or : (y : Shot) → (y ≡ x.shot) ⊎ Among (sent n y) h → Among (sent n y) (x ∷ h)
  unfolding Among
  first_or y (inl e) = inl (is-first y e)
  first_or y (inr a) = inr a

  later_or : (k y : Shot) → (y ≡ k) ⊎ Among (sent n y) h → (y ≡ k) ⊎ Among (sent n y) (x ∷ h)
  unfolding Among
  later_or k y (inl e) = inl e
  later_or k y (inr a) = inr (inr a)

  own_by :
      (k : Shot) (t : Bool) (r : Kept) → ltb k.take x.shot.take ≡ t →
      From n h (cond t (kept x.shot) (kept k)) r → From n (x ∷ h) (kept k) r
  unfolding From
  own_by k true none t f = f
  own_by k true (kept y) t f =
      let l = ltb-true k.take x.shot.take t in
      (inr (first_or y f.0), (omega (arith, f.1.0), λ z a. low y z f.1.0 f.1.1 a))
  own_by k false none t f = f
  own_by k false (kept y) t f =
      let l = ltb-false k.take x.shot.take t in
      (later_or k y f.0, (f.1.0, λ z a. low y z (omega (arith, f.1.0)) f.1.1 a))

  own : (k r : Kept) → From n h (higher k x.shot) r → From n (x ∷ h) k r
  unfolding From higher
  own none none f = absurd f
  own none (kept y) f = (first_or y f.0, λ z a. low y z f.1.0 f.1.1 a)
  own (kept k) r f = own_by k (ltb k.take x.shot.take) r refl f

-- ---- any shots
from : (h : List Sent) (n : ℕ) (k : Kept) → From n h k (highest n k h)
unfolding From highest Among
from [] n none = λ x a. a
from [] n (kept k) = (inl refl, (omega arith, λ x a. absurd a))
from (x ∷ h) n k = by (eqb n x.sheet) refl (from h n)
  where
    by :
        (t : Bool) → eqb n x.sheet ≡ t → ((k : Kept) → From n h k (highest n k h)) →
        From n (x ∷ h) k (highest n (cond t (higher k x.shot) k) h)
    by true t go = own n x h (eqb-true n x.sheet t) k (highest n (higher k x.shot) h) (go (higher k x.shot))
    by false t go = past n x h t k (highest n k h) (go k)

pub highest-is : HighestTheorem
unfolding From
highest-is h n = from h n none
