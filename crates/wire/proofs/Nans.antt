-- The search for a NaN among numbers, as the code does it. Assumes nothing.
use Prim.Native.Nat.{ℕ, zero, suc, ◌+◌, ◌*◌, ◌/◌, ◌%◌, ◌<◌}
use mathlib.Core.Path.{◌≡◌, sym, ap, ◌∙◌}
use mathlib.Core.Bool.{Bool, true, false, not, cond, ◌&&◌}
use mathlib.Core.List.{List}
use native.Mathlib.Numerals.{add-one}
use native.Mathlib.Omega.{arith}
use borrow.Author.Tests.{ne_eqb, not-true}
use borrow.Author.Count.{below_more}
use lib.Bits.{bit_or, or_zero_r, or_add_and, and_le_l, or_shr}
use lib.Dec.{T, eqb, ltb}
use lib.ListN.{length}
use lib.Ieee.{Format, binary32, binary64, of_bits, nan_bits, is_nan}
use lib.Ieee.Bits.{nan_bits_is, nan_bits_above}
use Rattle.std.proofs.lemmas.Bool.{and_parts}
use Rattle.std.proofs.lemmas.Bool.Decides.{nat_tests}
use Rattle.wire.specs.Wire.{width, word_at, number_of, number_at, none_nan, no_nan}
use Rattle.wire.specs.Number.{sign_bit, high_bit_zero}
use Rattle.wire.proofs.Bytes.{mul-width-div}

-- all bits of the fraction
abbrev pub fraction : Format → ℕ
fraction binary32 = 0x007f_ffff
fraction binary64 = 0x000f_ffff_ffff_ffff

-- the infinity's pattern; without its sign, a NaN's pattern is above that
abbrev infinite : Format → ℕ
infinite binary32 = 0x7f80_0000
infinite binary64 = 0x7ff0_0000_0000_0000

nan_above : (f : Format) (w : ℕ) → is_nan (of_bits f w) ≡ ltb (infinite f) (w % sign_bit f)
nan_above binary32 w = sym (nan_bits_is binary32 w) ∙ nan_bits_above binary32 w
nan_above binary64 w = sym (nan_bits_is binary64 w) ∙ nan_bits_above binary64 w

-- adding all bits of the fraction to such a pattern carries into the sign bit, and to no other pattern
carried : (f : Format) (m : ℕ) → m < sign_bit f → (m + fraction f) / sign_bit f ≡ cond (ltb (infinite f) m) 1 0
carried binary32 m h = grind (arith, nat_tests)
carried binary64 m h = grind (arith, nat_tests)

unsigned : (f : Format) (w : ℕ) → w % sign_bit f < sign_bit f
unsigned binary32 w = omega arith
unsigned binary64 w = omega arith

nan_adds : (f : Format) (w : ℕ) → (w % sign_bit f + fraction f) / sign_bit f ≡ cond (is_nan (of_bits f w)) 1 0
nan_adds f w = carried f (w % sign_bit f) (unsigned f w) ∙ ap (λ (t : Bool). cond t 1 0) (sym (nan_above f w))

-- ---- one more number; the sign bit of the combined word is tested
halved : (f : Format) (n : ℕ) → high_bit_zero f n ≡ eqb (n / sign_bit f) 0
halved binary32 n = grind (arith, nat_tests)
halved binary64 n = grind (arith, nat_tests)

or_halved : (f : Format) (a b : ℕ) → bit_or a b / sign_bit f ≡ bit_or (a / sign_bit f) (b / sign_bit f)
or_halved binary32 a b = or_shr a b 31
or_halved binary64 a b = or_shr a b 63

marked : (n : ℕ) → bit_or n 1 ≡ 0 → ⊥
marked n h = let e = or_add_and n 1 in let g = and_le_l n 1 in omega arith

put_in : (a s : Bool) (n : ℕ) → eqb n 0 ≡ a → eqb (bit_or n (cond s 1 0)) 0 ≡ a && not s
put_in true true n e = ne_eqb _ _ (marked n)
put_in true false n e = rw (or_zero_r n) e
put_in false true n e = ne_eqb _ _ (marked n)
put_in false false n e = rw (or_zero_r n) e

pub one_seen :
    (f : Format) (n w : ℕ) → high_bit_zero f (bit_or n (w % sign_bit f + fraction f))
    ≡ high_bit_zero f n && not (is_nan (of_bits f w))
one_seen f n w =
    let t = w % sign_bit f + fraction f in
    rw (halved f (bit_or n t), or_halved f n t, nan_adds f w)
    (put_in (high_bit_zero f n) (is_nan (of_bits f w)) (n / sign_bit f) (sym (halved f n)))

pub one_more :
    (f : Format) (b : List ℕ) (i w : ℕ) (t s : Bool) → w ≡ word_at (width f) b (i * width f) → t ≡ none_nan f b i →
    s ≡ t && not (is_nan (of_bits f w)) →
    s ≡ none_nan f b (i + 1)
unfolding none_nan number_at number_of word_at
one_more f b i w t s e h g = rw (add-one i, ← h, ← e) g

-- ---- where none is a NaN, no single one is
none_nan_lem : (f : Format) (b : List ℕ) (n k : ℕ) → none_nan f b n ≡ true → k < n → is_nan (number_at f b k) ≡ false
unfolding none_nan
none_nan_lem f b zero k e h = absurd (omega arith)
none_nan_lem f b (suc n) k e h =
    let p = and_parts (none_nan f b n) (not (is_nan (number_at f b n))) e in
    below_more (λ i. is_nan (number_at f b i) ≡ false) n (λ i. none_nan_lem f b n i p.0) (not-true _ p.1) k
    (omega arith)

-- the numbers of a part from the front, of which none is a NaN: each is its bits
pub not_nan : (f : Format) (b : List ℕ) (n w i : ℕ) → length b ≡ n * width f → no_nan f b ≡ true → i < n →
    w ≡ word_at (width f) b (i * width f) → is_nan (of_bits f w) ≡ false
unfolding no_nan number_at number_of word_at
not_nan f b n w i h e g q =
    let counted : length b / width f ≡ n = ap (λ (k : ℕ). k / width f) h ∙ mul-width-div f n in
    rw q (none_nan_lem f b n i (rw counted at e) g)

pub bits : (f : Format) (w : ℕ) → is_nan (of_bits f w) ≡ false → T (not (nan_bits f w))
bits f w h = rw (nan_bits_is f w ∙ h) tt
