-- One computed test: at each width, in each row, every entry is the exact rational of the row's rule, rounded once.
-- What follows for the constants of the code. Assumes nothing.
use mathlib.Core.Path.{◌≡◌, refl, sym, ap, ◌∙◌, subst}
use mathlib.Core.Logic.{inl, inr}
use mathlib.Core.Bool.{Bool, true, ◌&&◌}
use mathlib.Core.List.{List, [], ◌∷◌}
use Rattle.std.proofs.lemmas.Bool.{cases_lt}
use Rattle.std.specs.Prelude.{Option, Some, None}
use Rattle.std.specs.Option.{option_copied}
use Rattle.std.specs.Slice.{IsItemAt}
use Rattle.std.proofs.Common.{Bor}
use Rattle.std.proofs.lemmas.Option.{slice_get_past, slice_get-get_or}
use Rattle.std.specs.List.{slice_get}
use Prim.Native.Nat.{ℕ, zero, suc, ◌+◌, ◌≤◌, ◌<◌}
use native.Mathlib.Omega.{arith}
use lib.Dec.{T, eqb, eqb→eq}
use lib.ListN.{length, get_or}
use borrow.Author.Tests.{lt-ltb, le-ltb}
use lib.Ieee.{Float, Format, binary32, binary64, round, to_bits, fits}
use lib.Ieee.Fits.{and_l, and_r, round-fits}
use Rattle.ieee.specs.Signs.{not_minus_zero}
use Rattle.ieee.specs.Table.{factorial, Rational, rounded, entries}
use Rattle.ieee.proofs.Table.{floats, right, floats_are}
use Rattle.ieee.proofs.Clear.{round_clear_false}
use Rattle.tables.specs.Tables.{Row, cos_half_row, k_row, a_row, b_row, d_row, row_rule, row_table, recip_rule, Table}
use Rattle.tables.specs.Tables.{circle_table, recip_row, table_rule, table_length, recip_fact, recip_table}
use Rattle.tables.specs.Patterns.{patterns}
use Rattle.tables.specs.Every.{EveryEntry}

-- ---- the test, over width, row and index: 2 (5 · 16 + 33) = 226 entries
each_width : (Format → Bool) → Bool
each_width p = p binary32 && p binary64

each_table : (Table → Bool) → Bool
each_table p =
    p (circle_table cos_half_row) && (p (circle_table k_row)
    && (p (circle_table a_row) && (p (circle_table b_row) && (p (circle_table d_row) && p recip_row))))

-- each table has its length, and each of its entries is its rule's
holds : Format → Table → Bool
holds f t = eqb (length (patterns f t)) (table_length t) && right f (table_rule t) 0 (patterns f t)

every_entry : Bool
every_entry = each_width (λ f. each_table (holds f))

passes : every_entry ≡ true
unfolding every_entry each_width each_table holds right patterns row_rule recip_rule rounded factorial round to_bits
passes = refl

-- ---- so it holds of each table at each width
at_width : (p : Format → Bool) → T (each_width p) → (f : Format) → T (p f)
unfolding each_width
at_width p t binary32 = and_l (p binary32) (p binary64) t
at_width p t binary64 = and_r (p binary32) (p binary64) t

at_table : (p : Table → Bool) → T (each_table p) → (t : Table) → T (p t)
unfolding each_table
at_table p h (circle_table cos_half_row) = search (and_l)
at_table p h (circle_table k_row) = search (and_l, and_r)
at_table p h (circle_table a_row) = search (and_l, and_r)
at_table p h (circle_table b_row) = search (and_l, and_r)
at_table p h (circle_table d_row) = search (and_l, and_r)
at_table p h recip_row = search (and_r)

table-holds : (f : Format) (t : Table) → T (holds f t)
unfolding every_entry
table-holds f t = at_table (holds f) (at_width (λ f. each_table (holds f)) (subst T (sym passes) tt) f) t

table-right : (f : Format) (t : Table) → T (right f (table_rule t) 0 (patterns f t))
unfolding holds
table-right f t =
    and_r (eqb (length (patterns f t)) (table_length t)) (right f (table_rule t) 0 (patterns f t)) (table-holds f t)

table-length : (f : Format) (t : Table) → length (patterns f t) ≡ table_length t
unfolding holds
table-length f t =
    eqb→eq _ _ (and_l (eqb (length (patterns f t)) (table_length t)) (right f (table_rule t) 0 (patterns f t))
    (table-holds f t))

-- ---- the statement of the definitions
pattern_at :
    (f : Format) (rule : ℕ → Rational) (i : ℕ) (bs : List ℕ) → T (right f rule i bs) → (n k : ℕ) → k < length bs →
    n ≡ i + k →
    get_or bs k 0 ≡ to_bits f (rounded f (rule n))
unfolding right
pattern_at f rule i [] t n k h e = absurd (omega arith)
pattern_at f rule i (b ∷ bs) t n zero h e =
    let q : i ≡ n = omega arith in
    sym (eqb→eq _ b (and_l (eqb (to_bits f (rounded f (rule i))) b) (right f rule (suc i) bs) t))
    ∙ ap (λ (j : ℕ). to_bits f (rounded f (rule j))) q
pattern_at f rule i (b ∷ bs) t n (suc k) h e =
    pattern_at f rule (suc i) bs (and_r (eqb (to_bits f (rounded f (rule i))) b) (right f rule (suc i) bs) t) n k
    (omega arith) (omega arith)

pub every-entry : EveryEntry
every-entry =
    record {
      entry =
          λ f t i h. pattern_at f (table_rule t) 0 (patterns f t) (table-right f t) i i (rw (table-length f t) h)
          (omega arith);
      whole = table-length;
      count = unfold patterns in refl;
    }

-- ---- the constants of a row are its table
pub table_is : (f : Format) (row : Row) → floats f (patterns f (circle_table row)) ≡ row_table f row
unfolding row_table
table_is f row =
    floats_are f (row_rule row) 0 (patterns f (circle_table row)) (table-right f (circle_table row))
    ∙ ap (entries f (row_rule row) 0) (table-length f (circle_table row))

-- what a list lends at an index is its element there
pub item_is : {X : Type 0} (xs : List X) (i : ℕ) (r : Option (Bor X)) → IsItemAt xs i r →
    option_copied r ≡ slice_get xs i
item_is xs i None h = sym (slice_get_past xs i (h.3))
item_is xs i (Some x) h = sym (slice_get-get_or xs i x.now h.3.0 ∙ ap Some (sym h.1))

-- ---- to index 32 there is one
pub recip_exists : (f : Format) (n : ℕ) → n ≤ 32 → recip_table f n ≡ Some (recip_fact f n)
unfolding recip_table
recip_exists f n h = rw (lt-ltb n 33 (omega arith)) refl

pub recip_past : (f : Format) (n : ℕ) → 32 < n → recip_table f n ≡ None
unfolding recip_table
recip_past f n h = rw (le-ltb n 33 h) refl

-- ---- what the list of the reciprocals has at an index
entry_got : (f : Format) (rule : ℕ → Rational) (i m n : ℕ) → n < m →
    slice_get (entries f rule i m) n ≡ Some (rounded f (rule (i + n)))
unfolding entries
entry_got f rule i zero n h = absurd (omega arith)
entry_got f rule i (suc m) zero h = let e : i ≡ i + 0 = omega arith in ap (λ (k : ℕ). Some (rounded f (rule k))) e
entry_got f rule i (suc m) (suc n) h =
    let e : suc i + n ≡ i + suc n = omega arith in entry_got f rule (suc i) m n (omega arith)
    ∙ ap (λ (k : ℕ). Some (rounded f (rule k))) e

length-entries : (f : Format) (rule : ℕ → Rational) (i m : ℕ) → length (entries f rule i m) ≡ m
unfolding entries
length-entries f rule i zero = refl
length-entries f rule i (suc m) = ap suc (length-entries f rule (suc i) m)

pub recip_got : (f : Format) (n : ℕ) → slice_get (floats f (patterns f recip_row)) n ≡ recip_table f n
unfolding recip_fact
recip_got f n =
    ap (λ (l : List Float). slice_get l n) (floats_are f recip_rule 0 (patterns f recip_row) (table-right f recip_row)
    ∙ ap (entries f recip_rule 0) (table-length f recip_row))
    ∙ elim (cases_lt n 33) [
      | inl h ↦ (let e : 0 + n ≡ n = omega arith in entry_got f recip_rule 0 33 n h
          ∙ ap (λ (k : ℕ). Some (rounded f (recip_rule k))) e ∙ sym (recip_exists f n (omega arith)))
      | inr h ↦ slice_get_past (entries f recip_rule 0 33) n (rw (length-entries f recip_rule 0 33) h)
          ∙ sym (recip_past f n h)
    ]

pub recip_fits : (f : Format) (n : ℕ) → T (fits f (recip_fact f n))
unfolding recip_fact rounded
recip_fits f n = round-fits f _ _ _

pub recip_clear : (f : Format) (n : ℕ) → T (not_minus_zero (recip_fact f n))
unfolding recip_fact rounded recip_rule
recip_clear f n = round_clear_false f _ _
