-- Whole numbers, and numbers of a format, as bytes, least significant first. A byte is a number below 256.
use Rattle.std.specs.Prelude.{ℕ, zero, suc, ◌+◌, ◌*◌, ◌/◌, ◌%◌, List, [], ◌∷◌, ◌++◌, length, take, drop, Bool, true}
use Rattle.std.specs.Prelude.{not, cond, ◌&&◌, ltb, Float}
use Rattle.std.specs.Float.{Format, binary32, binary64}
use Rattle.std.specs.Float.Ieee.{of_bits, to_bits, is_nan}
use Rattle.ieee.specs.Finite.{is_finite}

-- the number that the bytes make
unfoldable pub word_of : List ℕ → ℕ
word_of [] = 0
word_of (x ∷ b) = x + 256 * word_of b

-- the k least significant bytes of a number
unfoldable pub word_bytes : ℕ → ℕ → List ℕ
word_bytes zero n = []
word_bytes (suc k) n = n % 256 ∷ word_bytes k (n / 256)

-- the number that k bytes make, from a place on
unfoldable pub word_at : ℕ → List ℕ → ℕ → ℕ
word_at k b at = word_of (take k (drop at b))

-- how many bytes a number of the format has
abbrev pub width : Format → ℕ
width binary32 = 4
width binary64 = 8

-- the number of the format that its bytes make: every NaN pattern is the one nan
unfoldable pub number_of : Format → List ℕ → Float
number_of f b = of_bits f (word_of b)

-- the i-th number of the bytes
unfoldable pub number_at : Format → List ℕ → ℕ → Float
number_at f b i = number_of f (take (width f) (drop (i * width f) b))

-- whether none of the first n numbers of the bytes is nan; and none of all
unfoldable pub none_nan : Format → List ℕ → ℕ → Bool
none_nan f b zero = true
none_nan f b (suc n) = none_nan f b n && not (is_nan (number_at f b n))

unfoldable pub no_nan : Format → List ℕ → Bool
no_nan f b = none_nan f b (length b / width f)

-- to_bits gives 7ff8000000000000 for nan, and 7fc00000 in single precision
unfoldable pub number_bytes : Format → Float → List ℕ
number_bytes f x = word_bytes (width f) (to_bits f x)

unfoldable pub numbers_bytes : Format → List Float → List ℕ
numbers_bytes f [] = []
numbers_bytes f (x ∷ l) = number_bytes f x ++ numbers_bytes f l

-- ---- the items of an answer: numbers of the format, and whole numbers of so many bytes each
pub data Item : Type 0 where
  number : Float → Item
  word : ℕ → ℕ → Item

unfoldable pub item_bytes : Format → Item → List ℕ
item_bytes f (number x) = number_bytes f x
item_bytes f (word k n) = word_bytes k n

unfoldable pub items_bytes : Format → List Item → List ℕ
items_bytes f [] = []
items_bytes f (i ∷ l) = item_bytes f i ++ items_bytes f l

-- whether every number among them is finite; a whole number always is
abbrev pub item_finite : Item → Bool
item_finite (number x) = is_finite x
item_finite (word k n) = true

unfoldable pub all_finite : List Item → Bool
all_finite [] = true
all_finite (i ∷ l) = item_finite i && all_finite l

-- items that are numbers only
unfoldable pub numbers : List Float → List Item
numbers [] = []
numbers (x ∷ l) = number x ∷ numbers l

-- a count of 32 bits
unfoldable pub count_bytes : ℕ → List ℕ
count_bytes n = word_bytes 4 n

-- ---- lists, to and from bytes: up to the end of the bytes or of the list, whichever comes first
abbrev pub fewer : ℕ → ℕ → ℕ
fewer a b = cond (ltb a b) a b

-- the first n of a sequence
unfoldable pub firsts : {A : Type 0} → (ℕ → A) → ℕ → List A
firsts at zero = []
firsts at (suc n) = firsts at n ++ (at n ∷ [])

-- the first n numbers of the bytes; the first n whole numbers of k bytes
abbrev pub numbers_at : Format → List ℕ → ℕ → List Float
numbers_at f b n = firsts (number_at f b) n

abbrev pub words_at : ℕ → List ℕ → ℕ → List ℕ
words_at k b n = firsts (λ i. word_at k b (i * k)) n

-- the bytes of whole numbers, k each
unfoldable pub words_bytes : ℕ → List ℕ → List ℕ
words_bytes k [] = []
words_bytes k (n ∷ l) = word_bytes k n ++ words_bytes k l
