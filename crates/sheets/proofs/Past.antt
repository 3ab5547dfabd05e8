-- After any shots the one kept for a sheet is that of the highest take among those accepted. Assumes nothing.
use Prim.Native.Nat.{ℕ}
use mathlib.Core.Path.{◌≡◌, refl, ap, ◌∙◌}
use mathlib.Core.Bool.{Bool, true, false, cond}
use mathlib.Core.List.{List, [], ◌∷◌}
use borrow.Author.Tests.{eqb-true}
use lib.Dec.{ltb, eqb}
use Rattle.linalg.specs.Answer.{Answer, answers, refuses}
use Rattle.sheets.specs.Sheets.{Kept, none, kept, Sheets, no_sheets, most, keeping, Shelved, shelve_on, shelve, ask_on}
use Rattle.sheets.specs.Sheets.{ask}
use Rattle.sheets.specs.History.{Sent, after, unless_refused, accepted, higher, highest, HistoryTheorem}
use Rattle.sheets.specs.declared.Shot.{Shot}

-- how one shot changes what is kept for the sheet k
module _ (s : Sheets) (n : ℕ) (x : Shot) (k : ℕ) where
  Moved : Answer Shelved → Kept
  Moved (answers a) = cond (eqb k n) (higher (s.at k) x) (s.at k)
  Moved (refuses e) = s.at k

  -- a shot of that sheet
  own : (o : Kept) → s.at n ≡ o → eqb k n ≡ true → s.at k ≡ o
  own o e d = ap s.at (eqb-true _ _ d) ∙ e

  Step : Kept → Type 0
  Step o = (shelve_on o s n x).sheets.at k ≡ Moved (shelve_on o s n x).answer

  new_by : s.at n ≡ none → (t e : Bool) → ltb s.count most ≡ t → eqb k n ≡ e → Step none
  unfolding Step Moved shelve_on keeping higher
  new_by h true true t e = rw (t, e, own none h e)
  new_by h true false t e = rw (t, e)
  new_by h false e t d = rw t

  old_by :
      (o : Shot) → s.at n ≡ kept o → (q t e : Bool) → eqb x.take o.take ≡ q → ltb o.take x.take ≡ t → eqb k n ≡ e →
      Step (kept o)
  unfolding Step Moved shelve_on keeping higher
  old_by o h true t e q u d = rw q
  old_by o h false true true q t e = rw (q, t, e, own (kept o) h e, t)
  old_by o h false true false q t e = rw (q, t, e)
  old_by o h false false true q t e = rw (q, t, e, own (kept o) h e, t)
  old_by o h false false false q t e = rw (q, t, e)

  step_by : (o : Kept) → s.at n ≡ o → Step o
  step_by none h = new_by h (ltb s.count most) (eqb k n) refl refl
  step_by (kept o) h = old_by o h (eqb x.take o.take) (ltb o.take x.take) (eqb k n) refl refl refl

  step : (shelve s n x).sheets.at k ≡ Moved (shelve s n x).answer
  unfolding shelve Step
  step = step_by (s.at n) refl

-- any further shots
on :
    (r : Answer Shelved) (s : Sheets) (x : Sent) (n : ℕ) (l : List Sent) →
    highest n (Moved s x.sheet x.shot n r) l ≡ highest n (s.at n) (unless_refused r x l)
unfolding Moved unless_refused highest
on (answers a) s x n l = refl
on (refuses e) s x n l = refl

past : (h : List Sent) (s : Sheets) (n : ℕ) → (after s h).at n ≡ highest n (s.at n) (accepted s h)
unfolding after accepted highest
past [] s n = refl
past (x ∷ h) s n =
    let r = shelve s x.sheet x.shot in
    past h r.sheets n
    ∙ ap (λ (k : Kept). highest n k (accepted r.sheets h)) (step s x.sheet x.shot n)
    ∙ on r.answer s x n (accepted r.sheets h)

pub history : HistoryTheorem
unfolding ask
history h n = let e = past h no_sheets n in (e, ap ask_on e)
