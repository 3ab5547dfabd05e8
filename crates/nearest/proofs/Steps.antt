-- What it means that n steps change the arm: they are permitted, and the arm there is another. Assumes nothing.
use mathlib.Core.Path.{◌≡◌, subst}
use Prim.Native.Nat.{ℕ, ◌+◌, ◌-◌, ◌≤◌, ◌<◌}
use mathlib.Core.Bool.{not}
use lib.Dec.{T, leb, ltb, eqb, leb→le, le→leb, ltb→lt, lt→ltb, eqb→eq, eqb_refl, T_not, not_T}
use lib.Ieee.Fits.{and_i, and_l, and_r}
use Rattle.nearest.specs.Nearest.{Way, down, up, place, permitted, changes}

module _ (arm : ℕ → ℕ) (end p : ℕ) where
  pub down-changes : (n : ℕ) → n ≤ p → (arm (p - n) ≡ arm p → ⊥) → T (changes arm end p down n)
  unfolding changes
  down-changes n h k =
      and_i (leb n p) (not (eqb (arm (p - n)) (arm p))) (le→leb n p h)
      (not_T (eqb (arm (p - n)) (arm p)) (λ t. k (eqb→eq (arm (p - n)) (arm p) t)))

  pub up-changes : (n : ℕ) → p + n < end → (arm (p + n) ≡ arm p → ⊥) → T (changes arm end p up n)
  unfolding changes
  up-changes n h k =
      and_i (ltb (p + n) end) (not (eqb (arm (p + n)) (arm p))) (lt→ltb (p + n) end h)
      (not_T (eqb (arm (p + n)) (arm p)) (λ t. k (eqb→eq (arm (p + n)) (arm p) t)))

  pub down-permitted : (n : ℕ) → T (changes arm end p down n) → n ≤ p
  unfolding changes
  down-permitted n t = leb→le n p (and_l (leb n p) (not (eqb (arm (p - n)) (arm p))) t)

  pub up-permitted : (n : ℕ) → T (changes arm end p up n) → p + n < end
  unfolding changes
  up-permitted n t = ltb→lt (p + n) end (and_l (ltb (p + n) end) (not (eqb (arm (p + n)) (arm p))) t)

  pub another : (d : Way) (n : ℕ) → T (changes arm end p d n) → arm (place d p n) ≡ arm p → ⊥
  unfolding changes
  another d n t e =
      T_not (eqb (arm (place d p n)) (arm p)) (and_r (permitted end d p n) (not (eqb (arm (place d p n)) (arm p))) t)
      (subst (λ (a : ℕ). T (eqb (arm (place d p n)) a)) e (eqb_refl (arm (place d p n))))
