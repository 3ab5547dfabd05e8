-- After any shots the count is that of the sheets for which one is kept, and never above 512. Assumes nothing.
use Prim.Native.Nat.{ℕ, zero, suc, ◌+◌, ◌<◌, ◌≤◌}
use mathlib.Core.Path.{◌≡◌, refl, ap}
use mathlib.Core.Bool.{Bool, true, false}
use mathlib.Core.List.{List, [], ◌∷◌}
use native.Mathlib.Omega.{arith}
use borrow.Author.Tests.{eq-eqb, ne_eqb, eqb-true, eqb-false, ltb-true}
use lib.Dec.{ltb, eqb}
use Rattle.sheets.specs.Sheets.{Kept, none, kept, Sheets, one, kept_below, no_sheets, most, keeping, shelve_on, shelve}
use Rattle.sheets.specs.History.{Sent, after, Small, CountTheorem}
use Rattle.sheets.specs.declared.Shot.{Shot}

-- ---- one more sheet
module _ (at : ℕ → Kept) (n : ℕ) (x : Shot) where
  other : (k : ℕ) → (k ≡ n → ⊥) → keeping n x at k ≡ at k
  unfolding keeping
  other k d = rw (ne_eqb k n d)

  own : one (keeping n x at n) ≡ 1
  unfolding keeping
  own = rw (eq-eqb n n refl)

  below : (k : ℕ) → k ≤ n → kept_below (keeping n x at) k ≡ kept_below at k
  unfolding kept_below
  below zero h = refl
  below (suc k) h = rw (below k (omega arith), other k (λ e. absurd (omega arith))) refl

  above_by :
      (k : ℕ) → n < suc k → (t : Bool) → eqb k n ≡ t → (n < k →
      kept_below (keeping n x at) k + one (at n) ≡ kept_below at k + 1) →
      kept_below (keeping n x at) (suc k) + one (at n) ≡ kept_below at (suc k) + 1
  unfolding kept_below
  above_by k h true t go =
      let e : k ≡ n = eqb-true _ _ t in
      rw (e, below n (omega arith), own) (omega arith)
  above_by k h false t go =
      let d = eqb-false _ _ t in
      rw (other k d) (omega (arith, go (omega arith)))

  pub above : (k : ℕ) → n < k → kept_below (keeping n x at) k + one (at n) ≡ kept_below at k + 1
  above zero h = absurd (omega arith)
  above (suc k) h = above_by k h (eqb k n) refl (above k)

-- ---- one shot
abbrev Counted : Sheets → Type 0
Counted s = (s.count ≡ kept_below s.at 65536) × (s.count ≤ most)

module _ (s : Sheets) (n : ℕ) (x : Shot) (h : n < 65536) (c : Counted s) where
  new_by : (t : Bool) → ltb s.count most ≡ t → s.at n ≡ none → Counted (shelve_on none s n x).sheets
  unfolding shelve_on
  new_by true t e =
      let l = ltb-true s.count most t in
      let a = above s.at n x 65536 h in
      let z : one (s.at n) ≡ 0 = ap one e in
      rw t (omega (arith, c.0, a, z), omega arith)
  new_by false t e = rw t c

  old_by : (o : Shot) (q t : Bool) → eqb x.take o.take ≡ q → ltb o.take x.take ≡ t → s.at n ≡ kept o →
      Counted (shelve_on (kept o) s n x).sheets
  unfolding shelve_on
  old_by o true t q u e = rw q c
  old_by o false true q t e =
      let a = above s.at n x 65536 h in
      let z : one (s.at n) ≡ 1 = ap one e in
      rw (q, t) (omega (arith, c.0, a, z), c.1)
  old_by o false false q t e = rw (q, t) c

  step_by : (k : Kept) → s.at n ≡ k → Counted (shelve_on k s n x).sheets
  step_by none e = new_by (ltb s.count most) refl e
  step_by (kept o) e = old_by o (eqb x.take o.take) (ltb o.take x.take) refl refl e

  step : Counted (shelve s n x).sheets
  unfolding shelve
  step = step_by (s.at n) refl

-- ---- any shots
going : (h : List Sent) (s : Sheets) → Small h → Counted s → Counted (after s h)
unfolding after Small
going [] s m c = c
going (x ∷ h) s m c = going h (shelve s x.sheet x.shot).sheets m.1 (step s x.sheet x.shot m.0 c)

pub empty : (k : ℕ) → kept_below no_sheets.at k ≡ 0
unfolding kept_below
empty zero = refl
empty (suc k) = rw (empty k) refl

pub counted : CountTheorem
counted h m = going h no_sheets m (omega (arith, empty 65536), omega arith)
