-- A table of constants and its rule: one computed test over its patterns, and the lemmas that turn it into the rule at
-- each entry. Assumes nothing.
use mathlib.Core.Path.{◌≡◌, refl, sym, ap, ◌∙◌}
use mathlib.Core.List.{List, [], ◌∷◌}
use mathlib.Core.Bool.{Bool, true, ◌&&◌}
use Prim.Native.Nat.{ℕ, zero, suc, ◌+◌, ◌<◌}
use native.Mathlib.Omega.{arith}
use lib.Dec.{T, eqb, eqb→eq}
use lib.ListN.{length, get_or}
use lib.Ieee.{Float, Format, of_bits, to_bits}
use lib.Ieee.Fits.{and_l, and_r, round-fits}
use lib.Ieee.Bits.{of_bits-to_bits}
use Rattle.ieee.specs.Table.{Rational, rounded, entries}

-- ---- one constant: the pattern b is the rational's, at the index that equals k
pub entry-is : (f : Format) (rule : ℕ → Rational) (b n k : ℕ) → n ≡ k → to_bits f (rounded f (rule k)) ≡ b →
    of_bits f b ≡ rounded f (rule n)
unfolding rounded
entry-is f rule b n k e t =
    ap (of_bits f) (sym t) ∙ of_bits-to_bits f (rounded f (rule k))
    (round-fits f (rule k).negative (rule k).num (rule k).den) ∙ ap (λ (i : ℕ). rounded f (rule i)) (sym e)

-- ---- a list of patterns
unfoldable pub floats : Format → List ℕ → List Float
floats f [] = []
floats f (b ∷ bs) = of_bits f b ∷ floats f bs

-- the test: from index i on, each pattern is that of the rule's rational, rounded once
unfoldable pub right : Format → (ℕ → Rational) → ℕ → List ℕ → Bool
right f rule i [] = true
right f rule i (b ∷ bs) = eqb (to_bits f (rounded f (rule i))) b && right f rule (suc i) bs

-- what passes the test is the table
pub floats_are : (f : Format) (rule : ℕ → Rational) (i : ℕ) (bs : List ℕ) → T (right f rule i bs) →
    floats f bs ≡ entries f rule i (length bs)
unfolding floats right entries
floats_are f rule i [] t = refl
floats_are f rule i (b ∷ bs) t =
    let p = entry-is f rule b i i refl
    (eqb→eq _ b (and_l (eqb (to_bits f (rounded f (rule i))) b) (right f rule (suc i) bs) t)) in
    let q = floats_are f rule (suc i) bs (and_r (eqb (to_bits f (rounded f (rule i))) b) (right f rule (suc i) bs) t) in
    λ j. p j ∷ q j

-- and its entry k is the rule's
pub entry_at :
    (f : Format) (rule : ℕ → Rational) (i : ℕ) (bs : List ℕ) → T (right f rule i bs) → (n k : ℕ) → k < length bs →
    n ≡ i + k → of_bits f (get_or bs k 0) ≡ rounded f (rule n)
unfolding right
entry_at f rule i [] t n k h e = absurd (omega arith)
entry_at f rule i (b ∷ bs) t n zero h e =
    entry-is f rule b n i (omega arith)
    (eqb→eq _ b (and_l (eqb (to_bits f (rounded f (rule i))) b) (right f rule (suc i) bs) t))
entry_at f rule i (b ∷ bs) t n (suc k) h e =
    entry_at f rule (suc i) bs (and_r (eqb (to_bits f (rounded f (rule i))) b) (right f rule (suc i) bs) t) n k
    (omega arith) (omega arith)
