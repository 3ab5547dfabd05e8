-- `Values::from_numbers` meets its contract: it reads ten numbers from the front. Assumes nothing.
use Rattle.std.proofs.Common.{◌≡◌, ℕ, ◌+◌, ◌<◌, List, ◌∷◌, length, get_or, drop, sym, ap, ◌∙◌, arith}
use Rattle.std.proofs.lemmas.List.{drop_all, drop_more}
use Rattle.from_lists.specs.Numbers.{values_numbers}
use Rattle.from_lists.proofs.ValuesFromNumbers.from_numbers.Goals as goal

-- a list from place i on is its item there and then the list from the next place on
item : {A : Type 0} (l : List A) (i : ℕ) (r : A) → i < length l → r ≡ get_or l i r → drop i l ≡ r ∷ drop (i + 1) l
item l i r h e = drop_more l i r h ∙ ap (λ x. x ∷ drop (i + 1) l) (sym e)

pub returns : goal.returns
unfolding values_numbers
returns g c =
    let l = c.args.l.now in
    let i0 = item l 0 _ (omega arith) c.index-l-0.is in
    let i1 = item l 1 _ (omega arith) c.index-l-1.is in
    let i2 = item l 2 _ (omega arith) c.index-l-2.is in
    let i3 = item l 3 _ (omega arith) c.index-l-3.is in
    let i4 = item l 4 _ (omega arith) c.index-l-4.is in
    let i5 = item l 5 _ (omega arith) c.index-l-5.is in
    let i6 = item l 6 _ (omega arith) c.index-l-6.is in
    let i7 = item l 7 _ (omega arith) c.index-l-7.is in
    let i8 = item l 8 _ (omega arith) c.index-l-8.is in
    let i9 = item l 9 _ (omega arith) c.index-l-9.is in
    rw (g.met.T.Real.floats_law, i0, i1, i2, i3, i4, i5, i6, i7, i8, i9, drop_all 10 l (omega arith))
