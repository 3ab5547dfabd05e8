-- How many bytes a value has, and that what is written reads back. Assumes nothing.
use Prim.Native.Nat.{ℕ, zero, suc, ◌+◌, ◌*◌, ◌^◌, ◌/◌, ◌<◌, ◌≤◌}
use mathlib.Core.Path.{◌≡◌, refl, sym, ap, ◌∙◌}
use mathlib.Core.Bool.{◌&&◌, and_assoc}
use mathlib.Core.List.{List, [], ◌∷◌, ◌++◌, append_assoc}
use native.Mathlib.Nat.{div-add-mod, div-div-eq-div-mul, pow-zero, pow-suc}
use native.Mathlib.Omega.{arith}
use lib.ListN.{length, take, drop, get_or, length-append}
use lib.Seq.{drop-cons, take_all}
use lib.Dec.{T}
use lib.Ieee.{Float, Format, nan, binary32, binary64, fits, to_bits}
use lib.Ieee.Bits.{of_bits-to_bits, to_bits-lt}
use Rattle.std.specs.Int.{w16, w32, w64, from_le_bytes, to_le_bytes}
use Rattle.ieee.specs.Finite.{is_finite}
use Rattle.wire.specs.Wire.{word_of, word_bytes, width, number_of, number_bytes, numbers_bytes, Item, item_bytes}
use Rattle.wire.specs.Wire.{items_bytes, all_finite, numbers, count_bytes}

-- ---- lengths
pub word-length : (k n : ℕ) → length (word_bytes k n) ≡ k
unfolding word_bytes
word-length zero n = refl
word-length (suc k) n = ap suc (word-length k (n / 256))

pub number-length : (f : Format) (x : Float) → length (number_bytes f x) ≡ width f
unfolding number_bytes
number-length f x = word-length (width f) _

pub count-length : (n : ℕ) → length (count_bytes n) ≡ 4
unfolding count_bytes
count-length n = word-length 4 n

one_more : (f : Format) (n : ℕ) → width f + n * width f ≡ suc n * width f
one_more binary32 n = omega arith
one_more binary64 n = omega arith

pub mul-width-div : (f : Format) (n : ℕ) → n * width f / width f ≡ n
mul-width-div binary32 n = omega arith
mul-width-div binary64 n = omega arith

pub numbers-length : (f : Format) (l : List Float) → length (numbers_bytes f l) ≡ length l * width f
unfolding numbers_bytes
numbers-length f [] = omega arith
numbers-length f (x ∷ l) =
    length-append (number_bytes f x) (numbers_bytes f l) ∙ rw (number-length f x, numbers-length f l)
    (one_more f (length l))

pub numbers-append : (f : Format) (l m : List Float) → numbers_bytes f (l ++ m) ≡ numbers_bytes f l ++ numbers_bytes f m
unfolding numbers_bytes
numbers-append f [] m = refl
numbers-append f (x ∷ l) m =
    rw (numbers-append f l m) (sym (append_assoc (number_bytes f x) (numbers_bytes f l) (numbers_bytes f m)))

-- ---- items, and those that are numbers alone
pub items_append : (f : Format) (l m : List Item) → items_bytes f (l ++ m) ≡ items_bytes f l ++ items_bytes f m
unfolding items_bytes
items_append f [] m = refl
items_append f (x ∷ l) m =
    rw (items_append f l m) (sym (append_assoc (item_bytes f x) (items_bytes f l) (items_bytes f m)))

pub items_numbers : (f : Format) (l : List Float) → items_bytes f (numbers l) ≡ numbers_bytes f l
unfolding item_bytes items_bytes numbers numbers_bytes
items_numbers f [] = refl
items_numbers f (x ∷ l) = ap (λ (b : List ℕ). number_bytes f x ++ b) (items_numbers f l)

pub finite-append : (l m : List Float) → all_finite (numbers (l ++ m))
    ≡ all_finite (numbers l) && all_finite (numbers m)
unfolding all_finite numbers
finite-append [] m = refl
finite-append (x ∷ l) m =
    rw (finite-append l m) (sym (and_assoc (is_finite x) (all_finite (numbers l)) (all_finite (numbers m))))

-- ---- the bytes of a list one by one, as code reads them
abbrev pub bytes_at : List ℕ → ℕ → ℕ → List ℕ
bytes_at b at zero = []
bytes_at b at (suc k) = get_or b at 0 ∷ bytes_at b (suc at) k

pub bytes-at : (b : List ℕ) (at k : ℕ) → at + k ≤ length b → take k (drop at b) ≡ bytes_at b at k
bytes-at b at zero h = refl
bytes-at b at (suc k) h =
    rw (drop-cons b at 0 (omega arith)) (ap (λ (l : List ℕ). get_or b at 0 ∷ l) (bytes-at b (suc at) k (omega arith)))

pub bytes-all : (b : List ℕ) (k : ℕ) → length b ≡ k → b ≡ bytes_at b 0 k
bytes-all b k h = sym (take_all k b (omega arith)) ∙ bytes-at b 0 k (omega arith)

-- ---- the bytes of a word
pub word-four : (b : List ℕ) → length b ≡ 4 → word_of b ≡ get_or b 0 0 + 0x100 * get_or b 1 0 + 0x1_0000 * get_or b 2 0
    + 0x100_0000 * get_or b 3 0
unfolding word_of
word-four b h = ap word_of (bytes-all b 4 h) ∙ omega arith

pub word-eight :
    (b : List ℕ) → length b ≡ 8 →
    word_of b
    ≡ get_or b 0 0
    + 0x100 * get_or b 1 0
    + 0x1_0000 * get_or b 2 0
    + 0x100_0000 * get_or b 3 0
    + 0x1_0000_0000 * get_or b 4 0
    + 0x100_0000_0000 * get_or b 5 0
    + 0x1_0000_0000_0000 * get_or b 6 0
    + 0x100_0000_0000_0000 * get_or b 7 0
unfolding word_of
word-eight b h = ap word_of (bytes-all b 8 h) ∙ omega arith

-- as std reads and writes them
pub read_two : (a b : ℕ) → from_le_bytes w16 (a ∷ b ∷ []) ≡ word_of (a ∷ b ∷ [])
unfolding word_of
read_two a b = omega arith

pub read_four : (b : List ℕ) → length b ≡ 4 → from_le_bytes w32
    (get_or b 0 0 ∷ get_or b 1 0 ∷ get_or b 2 0 ∷ get_or b 3 0 ∷ []) ≡ word_of b
read_four b h = omega (arith, word-four b h)

pub read_eight :
    (b : List ℕ) → length b ≡ 8 →
    from_le_bytes
    w64
    (get_or b 0 0 ∷ get_or b 1 0 ∷ get_or b 2 0 ∷ get_or b 3 0 ∷ get_or b 4 0 ∷ get_or b 5 0 ∷ get_or b 6 0
    ∷ get_or b 7 0 ∷ [])
    ≡ word_of b
read_eight b h = omega (arith, word-eight b h)

pub written_two : (n : ℕ) → to_le_bytes w16 n ≡ word_bytes 2 n
unfolding word_bytes
written_two n = refl

pub written_four : (n : ℕ) → to_le_bytes w32 n ≡ word_bytes 4 n
unfolding word_bytes
written_four n = simp div-div-eq-div-mul

pub written_eight : (n : ℕ) → to_le_bytes w64 n ≡ word_bytes 8 n
unfolding word_bytes
written_eight n = simp div-div-eq-div-mul

-- ---- what is written for NaN, and that what is written reads back
pub nan_double : number_bytes binary64 nan ≡ 0 ∷ 0 ∷ 0 ∷ 0 ∷ 0 ∷ 0 ∷ 0xf8 ∷ 0x7f ∷ []
unfolding number_bytes word_bytes to_bits
nan_double = refl

pub nan_single : number_bytes binary32 nan ≡ 0 ∷ 0 ∷ 0xc0 ∷ 0x7f ∷ []
unfolding number_bytes word_bytes to_bits
nan_single = refl

pub word_back : (k n : ℕ) → n < 256 ^ k → word_of (word_bytes k n) ≡ n
unfolding word_of word_bytes
word_back zero n h = omega (arith, pow-zero 256)
word_back (suc k) n h =
    let less : n / 256 < 256 ^ k = omega (arith, pow-suc 256 k) in
    rw (word_back k (n / 256) less) (omega (arith, div-add-mod n 256))

bits_less : (f : Format) (x : Float) → T (fits f x) → to_bits f x < 256 ^ width f
bits_less binary32 x h = to_bits-lt binary32 x h
bits_less binary64 x h = to_bits-lt binary64 x h

pub number_back : (f : Format) (x : Float) → T (fits f x) → number_of f (number_bytes f x) ≡ x
unfolding number_of number_bytes
number_back f x h = rw (word_back (width f) (to_bits f x) (bits_less f x h)) (of_bits-to_bits f x h)
