-- The counts by mark: their sum, adding one to one of them, and the stores that write them. Assumes nothing.
use Prim.Native.Nat.{ℕ, zero, suc, ◌+◌, ◌*◌, ◌-◌, ◌≤◌, ◌<◌}
use mathlib.Core.Path.{◌≡◌, refl, sym, ap, ◌∙◌}
use mathlib.Core.Bool.{false}
use mathlib.Core.List.{List, [], ◌∷◌, ◌++◌, append-nil, append_assoc}
use native.Mathlib.Omega.{arith}
use lib.Dec.{eqb}
use lib.ListN.{length, take, set, get_or, replicate, length-append, length-set}
use lib.Seq.{sets, length-take-le}
use Rattle.std.proofs.lemmas.List.{take_more}
use Rattle.std.proofs.lemmas.Bool.Decides.{nat_tests}
use Rattle.wire.specs.Wire.{count_bytes}
use Rattle.wire.proofs.Bytes.{count-length}
use Rattle.layout.proofs.Runs.{sets_split}
use Rattle.marks.specs.Rows.{row_count}
use Rattle.job.specs.declared.Counts.{Counts}
use Rattle.job.specs.Counts.{by_mark_more, total, by_mark_bytes}
use Rattle.job.specs.Job.{job_limit}
use Rattle.job.specs.Private.{Sound}

-- ---- the sum
pub none-total : total (replicate row_count 0) ≡ 0
unfolding total
none-total = refl

set-total : (l : List ℕ) (r : ℕ) → r < length l → total (set l r (get_or l r 0 + 1)) ≡ total l + 1
unfolding total
set-total [] r h = absurd (omega arith)
set-total (x ∷ l) zero h = omega arith
set-total (x ∷ l) (suc r) h = let i = set-total l r (omega arith) in omega arith

-- adding one to one of them adds one to their sum
pub by_mark-add : (r n : ℕ) (l : List ℕ) → r < row_count → (length l ≡ row_count) × (total l ≡ n) →
    (length (by_mark_more r l) ≡ row_count) × (total (by_mark_more r l) ≡ n + 1)
unfolding by_mark_more
by_mark-add r n l h e = (length-set l r _ ∙ e.0, set-total l r (omega (arith, e.0)) ∙ ap (λ (x : ℕ). x + 1) e.1)

-- none exceeds their sum
row_within : (l : List ℕ) (r : ℕ) → get_or l r 0 ≤ total l
unfolding total
row_within [] zero = omega arith
row_within [] (suc r) = omega arith
row_within (x ∷ l) zero = omega arith
row_within (x ∷ l) (suc r) = let i = row_within l r in omega arith

pub row_small : (c : Counts) (r : ℕ) → Sound job_limit c → get_or c.by_mark r 0 ≤ job_limit
row_small c r s = omega (arith, s.few, row_within c.by_mark r, s.each.1)

total-append : (a b : List ℕ) → total (a ++ b) ≡ total a + total b
unfolding total
total-append [] b = omega arith
total-append (x ∷ a) b = let i = total-append a b in omega arith

total_more : (l : List ℕ) (i : ℕ) → i < length l → total (take (i + 1) l) ≡ total (take i l) + get_or l i 0
unfolding total
total_more l i h = let e = total-append (take i l) (get_or l i 0 ∷ []) in ap total (take_more l i 0 h) ∙ omega arith

total-least : (l : List ℕ) (i : ℕ) → total (take i l) ≤ total l
unfolding total
total-least l zero = omega arith
total-least [] (suc i) = omega arith
total-least (x ∷ l) (suc i) = let k = total-least l i in omega arith

-- ---- subtracted from n one by one
pub taken_none : (l : List ℕ) (n : ℕ) → total (take 0 l) + n ≡ n
unfolding total
taken_none l n = omega arith

pub taken_short : (l : List ℕ) (i left n : ℕ) → i < length l → total (take i l) + left ≡ n → left < get_or l i 0 →
    false ≡ eqb (total l) n
taken_short l i left n h e less =
    let a = total_more l i h in
    let b = total-least l (i + 1) in
    grind (arith, nat_tests)

pub taken_more : (l : List ℕ) (i left n : ℕ) → i < length l → total (take i l) + left ≡ n → get_or l i 0 ≤ left →
    total (take (i + 1) l) + (left - get_or l i 0) ≡ n
taken_more l i left n h e more = let a = total_more l i h in omega arith

-- ---- their bytes
pub by_mark-length : (l : List ℕ) → length (by_mark_bytes l) ≡ 4 * length l
unfolding by_mark_bytes
by_mark-length [] = refl
by_mark-length (x ∷ l) =
    let i = by_mark-length l in let c = count-length x in length-append (count_bytes x) (by_mark_bytes l) ∙ omega arith

bytes-append : (a b : List ℕ) → by_mark_bytes (a ++ b) ≡ by_mark_bytes a ++ by_mark_bytes b
unfolding by_mark_bytes
bytes-append [] b = refl
bytes-append (x ∷ a) b =
    ap (λ (l : List ℕ). count_bytes x ++ l) (bytes-append a b)
    ∙ sym (append_assoc (count_bytes x) (by_mark_bytes a) (by_mark_bytes b))

pub stored_none : (l out : List ℕ) (at : ℕ) → out ≡ sets out at (by_mark_bytes (take 0 l))
unfolding by_mark_bytes
stored_none l out at = refl

pub stored_more :
    (l out : List ℕ) (at i : ℕ) → i < length l →
    sets (sets out at (by_mark_bytes (take i l))) (at + 4 * i) (count_bytes (get_or l i 0))
    ≡ sets out at (by_mark_bytes (take (i + 1) l))
unfolding by_mark_bytes
stored_more l out at i h =
    let n : length (by_mark_bytes (take i l)) ≡ 4 * i = by_mark-length (take i l)
    ∙ ap (λ (k : ℕ). 4 * k) (length-take-le i l (omega arith)) in
    sym
    (ap (λ (x : List ℕ). sets out at (by_mark_bytes x)) (take_more l i 0 h)
    ∙ ap (sets out at) (bytes-append (take i l) (get_or l i 0 ∷ [])
    ∙ ap (λ (x : List ℕ). by_mark_bytes (take i l) ++ x) (append-nil (count_bytes (get_or l i 0))))
    ∙ sets_split (by_mark_bytes (take i l)) (count_bytes (get_or l i 0)) out at
    ∙ ap (λ (k : ℕ). sets (sets out at (by_mark_bytes (take i l))) (at + k) (count_bytes (get_or l i 0))) n)
