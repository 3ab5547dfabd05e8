-- The stores by which bytes become a list, and a list bytes; whether all numbers of a list are finite. Assumes nothing.
use Prim.Native.Nat.{ℕ, zero, suc, min, ◌+◌, ◌-◌, ◌*◌, ◌^◌, ◌/◌, ◌≤◌, ◌<◌}
use mathlib.Core.Path.{◌≡◌, refl, sym, ap, ◌∙◌}
use mathlib.Core.Bool.{Bool, beq, true, false, not, cond, ◌&&◌, and-true}
use mathlib.Core.List.{List, [], ◌∷◌, ◌++◌, map, append-nil, append_assoc}
use native.Mathlib.Nat.{min-le_left, min-le_right, add-zero, add-suc, suc-add, suc-mul, add_comm, zero-mul}
use native.Mathlib.Numerals.{add-one}
use native.Mathlib.Omega.{arith}
use lib.Dec.{ltb}
use lib.ListN.{length, take, drop, set, get_or, get_or-map, length-append}
use Rattle.std.proofs.lemmas.Bool.{and_parts}
use Rattle.std.proofs.lemmas.Bool.Decides.{nat_tests}
use Rattle.std.proofs.lemmas.List.{length-map, drop-map, take-map, map-append, map-set, take_more, take_more_set}
use Rattle.std.proofs.lemmas.List.{drop_all}
use lib.Seq.{sets, sets-eq, take_all, length-take-le}
use lib.Ieee.{Float, nan, inf, fin, Format, binary32, binary64, to_bits, low, emax, prec, odd, units, round, sum, neg}
use lib.Ieee.{add, sub, eq}
use Rattle.ieee.specs.Finite.{is_finite}
use Rattle.ieee.proofs.Finite.{equals_itself}
use Rattle.wire.specs.Wire.{width, word_bytes, number_at, number_bytes, numbers_bytes, numbers, all_finite, fewer}
use Rattle.wire.specs.Wire.{firsts, numbers_at, words_bytes}
use Rattle.wire.proofs.Bytes.{word-length, mul-width-div, numbers-length, numbers-append, finite-append}
use Rattle.wire.proofs.Places.{part_read}

sets_split : {A : Type 0} (a b l : List A) (i : ℕ) → sets l i (a ++ b) ≡ sets (sets l i a) (i + length a) b
sets_split [] b l i = rw add-zero
sets_split (x ∷ a) b l i = rw (add-suc, ← suc-add i (length a)) (sets_split a b (set l i x) (suc i))

-- ---- read: one more of a sequence
pub firsts-length : {A : Type 0} (at : ℕ → A) (n : ℕ) → length (firsts at n) ≡ n
unfolding firsts
firsts-length at zero = refl
firsts-length at (suc n) = let i = firsts-length at n in length-append (firsts at n) (at n ∷ []) ∙ omega arith

one_behind : {A : Type 0} (a l : List A) (x : A) (i : ℕ) → length a ≡ i →
    set (sets l 0 a) i x ≡ sets l 0 (a ++ (x ∷ []))
one_behind a l x i e =
    let k : 0 + length a ≡ i = omega (arith, e) in
    sym (sets_split a (x ∷ []) l 0 ∙ ap (λ (j : ℕ). set (sets l 0 a) j x) k)

pub decoded_more : {A : Type 0} (at : ℕ → A) (l : List A) (i : ℕ) →
    set (sets l 0 (firsts at i)) i (at i) ≡ sets l 0 (firsts at (i + 1))
unfolding firsts
decoded_more at l i = rw (add-one i) (one_behind (firsts at i) l (at i) i (firsts-length at i))

-- ---- the numbers of a type, as the floats that they are
pub read_more :
    {X : Type 0} (float : X → Float) (at : ℕ → Float) (l : List X) (x : X) (i : ℕ) → i < length l →
    take i (map float l) ≡ firsts at i → float x ≡ at i →
    take (i + 1) (map float (set l i x)) ≡ firsts at (i + 1)
unfolding firsts
read_more float at l x i h e q =
    ap (take (i + 1)) (map-set float l i x) ∙ take_more_set (map float l) i (float x) (simp length-map (omega arith))
    ∙ rw (e, q, add-one) refl

-- those at the front of a list
pub read_front : {X : Type 0} (float : X → Float) (l k : List X) (v : List Float) (n : ℕ) → map float k ≡ v →
    length k ≡ n → n ≤ length l → map float (k ++ drop n l) ≡ sets (map float l) 0 v
read_front float l k v n h e g =
    let m : length v ≡ n = sym (ap length h) ∙ length-map k float ∙ e in
    let j : 0 + length v ≡ n = omega (arith, m) in
    map-append float k (drop n l)
    ∙ rw (h, ← (drop-map float n l))
    (sym (sets-eq v (map float l) 0 (simp length-map (omega (arith, m))) ∙ ap (λ (i : ℕ). v ++ drop i (map float l)) j))

-- ---- written: one more element, each of w bytes
stored_more :
    {A : Type 0} (g : List A → List ℕ) (w : ℕ) → ((l : List A) → length (g l) ≡ length l * w) →
    ((l m : List A) → g (l ++ m) ≡ g l ++ g m) →
    (l : List A) (d : A) (out : List ℕ) (i : ℕ) → i < length l →
    sets (sets out 0 (g (take i l))) (i * w) (g (get_or l i d ∷ [])) ≡ sets out 0 (g (take (i + 1) l))
stored_more g w lengths appends l d out i h =
    let m : length (g (take i l)) ≡ i * w = lengths (take i l)
    ∙ ap (λ (k : ℕ). k * w) (length-take-le i l (omega arith)) in
    let n : 0 + length (g (take i l)) ≡ i * w = omega (arith, m) in
    sym
    (ap (λ x. sets out 0 (g x)) (take_more l i d h)
    ∙ ap (sets out 0) (appends (take i l) (get_or l i d ∷ []))
    ∙ sets_split (g (take i l)) (g (get_or l i d ∷ [])) out 0
    ∙ ap (λ (k : ℕ). sets (sets out 0 (g (take i l))) k (g (get_or l i d ∷ []))) n)

pub encoded_more :
    (f : Format) (l : List Float) (d : Float) (out : List ℕ) (i : ℕ) → i < length l →
    sets (sets out 0 (numbers_bytes f (take i l))) (i * width f) (number_bytes f (get_or l i d))
    ≡ sets out 0 (numbers_bytes f (take (i + 1) l))
unfolding numbers_bytes
encoded_more f l d out i h =
    ap (sets (sets out 0 (numbers_bytes f (take i l))) (i * width f)) (sym (append-nil (number_bytes f (get_or l i d))))
    ∙ stored_more (numbers_bytes f) (width f) (numbers-length f) (numbers-append f) l d out i h

-- of numbers of a type, of which y is the i-th
of_one : {X : Type 0} (float : X → Float) (l : List X) (y : X) (i : ℕ) → y ≡ get_or l i y →
    get_or (map float l) i (float y) ≡ float y
of_one float l y i e = get_or-map float l i y ∙ ap float (sym e)

pub written_more :
    {X : Type 0} (f : Format) (float : X → Float) (l : List X) (y : X) (out o p : List ℕ) (i k n : ℕ) → i < length l →
    y ≡ get_or l i y →
    o ≡ sets out 0 (numbers_bytes f (take i (map float l))) → n ≡ to_bits f (float y) → k ≡ width f →
    p ≡ sets o (i * k) (word_bytes (width f) n) →
    p ≡ sets out 0 (numbers_bytes f (take (i + 1) (map float l)))
unfolding number_bytes
written_more f float l y out o p i k n h e q b w s =
    let c = sets out 0 (numbers_bytes f (take i (map float l))) in
    s
    ∙ rw (q, b, w)
    (ap (λ (x : Float). sets c (i * width f) (number_bytes f x)) (sym (of_one float l y i e))
    ∙ encoded_more f (map float l) (float y) out i (simp length-map (omega arith)))

-- whole numbers of k bytes
pub words-length : (k : ℕ) (l : List ℕ) → length (words_bytes k l) ≡ length l * k
unfolding words_bytes
words-length k [] = omega arith
words-length k (n ∷ l) =
    let i = words-length k l in
    let j = word-length k n in
    length-append (word_bytes k n) (words_bytes k l) ∙ rw (i, j, suc-mul (length l) k) (add_comm k (length l * k))

words_append : (k : ℕ) (l m : List ℕ) → words_bytes k (l ++ m) ≡ words_bytes k l ++ words_bytes k m
unfolding words_bytes
words_append k [] m = refl
words_append k (n ∷ l) m =
    rw (words_append k l m) (sym (append_assoc (word_bytes k n) (words_bytes k l) (words_bytes k m)))

pub words_more :
    (k : ℕ) (l : List ℕ) (d : ℕ) (out : List ℕ) (i : ℕ) → i < length l →
    sets (sets out 0 (words_bytes k (take i l))) (i * k) (word_bytes k (get_or l i d))
    ≡ sets out 0 (words_bytes k (take (i + 1) l))
unfolding words_bytes
words_more k l d out i h =
    ap (sets (sets out 0 (words_bytes k (take i l))) (i * k)) (sym (append-nil (word_bytes k (get_or l i d))))
    ∙ stored_more (words_bytes k) k (words-length k) (words_append k) l d out i h

-- ---- whether all are finite
all_one : (a : List Float) (x : Float) → all_finite (numbers (a ++ (x ∷ []))) ≡ all_finite (numbers a) && is_finite x
unfolding all_finite numbers
all_one a x = finite-append a (x ∷ []) ∙ ap (λ (t : Bool). all_finite (numbers a) && t) (and-true (is_finite x))

-- a result of rounding equals itself
one_of : (t : Bool) (x y : Float) → eq x x ≡ true → eq y y ≡ true → eq (cond t x y) (cond t x y) ≡ true
one_of true x y h k = h
one_of false x y h k = k

endless : (s : Bool) → eq (inf s) (inf s) ≡ true
unfolding eq
endless true = refl
endless false = refl

odd_itself : (d : ℕ) (s : Bool) (q k l : ℕ) → eq (odd d s q k l) (odd d s q k l) ≡ true
unfolding odd
odd_itself d s zero k l = equals_itself s _ _
odd_itself d s (suc q) k l = equals_itself s _ _

units_itself : (f : Format) (s : Bool) (q k : ℕ) → eq (units f s q k) (units f s q k) ≡ true
unfolding units
units_itself f s q k =
    one_of (ltb (q * 2 ^ k) (2 ^ (low f + suc (emax f)))) (odd (suc (prec f)) s q k (low f)) (inf s)
    (odd_itself (suc (prec f)) s q k (low f)) (endless s)

round_itself : (f : Format) (s : Bool) (a c : ℕ) → eq (round f s a c) (round f s a c) ≡ true
unfolding round
round_itself f s a c = units_itself f s _ _

sum_itself : (f : Format) (s : Bool) (a : ℕ) (t : Bool) (b c : ℕ) → eq (sum f s a t b c) (sum f s a t b c) ≡ true
unfolding sum
sum_itself f s a t b c =
    one_of (beq s t) (round f s (a + b) c) (cond (ltb a b) (round f t (b - a) c) (round f (s && ltb b a) (a - b) c))
    (round_itself f s (a + b) c)
    (one_of (ltb a b) (round f t (b - a) c) (round f (s && ltb b a) (a - b) c) (round_itself f t (b - a) c)
    (round_itself f (s && ltb b a) (a - b) c))

-- minus itself
view : (f : Format) (x : Float) → eq (sub f x x) (sub f x x) ≡ is_finite x
unfolding sub add neg is_finite eq
view f nan = refl
view f (inf true) = refl
view f (inf false) = refl
view f (fin s m e) = sum_itself f s _ (not s) _ _

pub finite-none : (l : List Float) → true ≡ all_finite (numbers (take 0 l))
unfolding all_finite numbers
finite-none l = refl

pub finite_more :
    (f : Format) (l : List Float) (d : Float) (i : ℕ) (t : Bool) → i < length l → t ≡ all_finite (numbers (take i l)) →
    t && eq (sub f (get_or l i d) (get_or l i d)) (sub f (get_or l i d) (get_or l i d))
    ≡ all_finite (numbers (take (i + 1) l))
finite_more f l d i t h e = rw (view f (get_or l i d), e, take_more l i d h) (sym (all_one (take i l) (get_or l i d)))

pub finite_next :
    {X : Type 0} (f : Format) (float : X → Float) (l : List X) (y : X) (z : Float) (i : ℕ) (t r : Bool) → i < length l →
    y ≡ get_or l i y →
    z ≡ sub f (float y) (float y) → r ≡ eq z z → t ≡ all_finite (numbers (take i (map float l))) →
    t && r ≡ all_finite (numbers (take (i + 1) (map float l)))
finite_next f float l y z i t r h e q w s =
    rw (w, q) (rw (of_one float l y i e) at (finite_more f (map float l) (float y) i t
    (simp length-map (omega arith)) s))

at_finite : (l : List Float) (d : Float) (i : ℕ) → all_finite (numbers l) ≡ true → i < length l →
    is_finite (get_or l i d) ≡ true
unfolding all_finite numbers
at_finite [] d i e h = absurd (omega arith)
at_finite (x ∷ l) d zero e h = (and_parts (is_finite x) (all_finite (numbers l)) e).0
at_finite (x ∷ l) d (suc i) e h = at_finite l d i (and_parts (is_finite x) (all_finite (numbers l)) e).1 (omega arith)

pub one-finite : {X : Type 0} (float : X → Float) (l : List X) (y : X) (i : ℕ) →
    all_finite (numbers (map float l)) ≡ true → i < length l → y ≡ get_or l i y → is_finite (float y) ≡ true
one-finite float l y i e h q =
    rw (of_one float l y i q) at (at_finite (map float l) (float y) i e (simp length-map (omega arith)))

-- ---- read from bytes that hold exactly the numbers for a list
front_read : (f : Format) (b : List ℕ) (n k : ℕ) → n * width f ≤ length b → k < n →
    number_at f (take (n * width f) b) k ≡ number_at f b k
front_read f b n k h g =
    let i : 0 + n ≡ n = omega arith in
    let z : 0 + k ≡ k = omega arith in
    rw (zero-mul (width f), z) at (part_read f b 0 n k (rw i h) g)

numbers_front : (f : Format) (b : List ℕ) (n m : ℕ) → n * width f ≤ length b → m ≤ n →
    numbers_at f (take (n * width f) b) m ≡ numbers_at f b m
unfolding firsts
numbers_front f b n zero h g = refl
numbers_front f b n (suc m) h g = rw (numbers_front f b n m h (omega arith), front_read f b n m h (omega arith))

pub one_of_two : {A : Type 0} (t : Bool) (x : A) → cond t x x ≡ x
one_of_two true x = refl
one_of_two false x = refl

pub all_stored : {A : Type 0} (l a : List A) → length l ≡ length a → sets l 0 a ≡ a
all_stored l a h = sets-eq a l 0 (omega (arith, h)) ∙ rw (drop_all (0 + length a) l (omega (arith, h))) (append-nil a)

-- from bytes that hold exactly the numbers for a list
pub decoded :
    (f : Format) (b : List ℕ) (l : List Float) (n : ℕ) → n * width f ≤ length b → length l ≡ n →
    sets l 0 (numbers_at f (take (n * width f) b) (fewer (length (take (n * width f) b) / width f) (length l)))
    ≡ numbers_at f b n
decoded f b l n h e =
    let k : fewer (length (take (n * width f) b) / width f) (length l) ≡ n =
    rw (length-take-le (n * width f) b h, mul-width-div f n, e) (one_of_two (ltb n n) n) in
    rw (k, numbers_front f b n n h (omega arith)) (all_stored l (numbers_at f b n)
    (e ∙ sym (firsts-length (number_at f b) n)))

-- ---- as many as fit both
pub min_fewer : (a b : ℕ) → min a b ≡ fewer a b
min_fewer a b = grind (arith, nat_tests)

-- of bytes to a list's front, and of a list's front to bytes
fits_in : (f : Format) (n m : ℕ) → n ≤ m / width f → n * width f ≤ m
fits_in binary32 n m h = omega arith
fits_in binary64 n m h = omega arith

pub in_bytes : (f : Format) (m n k w : ℕ) → w ≡ width f → n ≡ min (m / w) k → n * width f ≤ m
in_bytes f m n k w e h = fits_in f n m (rw (h, e) (min-le_left (m / width f) k))

pub decoded_whole :
    {X : Type 0} (f : Format) (float : X → Float) (b : List ℕ) (l k : List X) (n w v : ℕ) → w ≡ width f → v ≡ width f →
    n ≡ min (length b / w) (length l) →
    length k ≡ length (take n l) → map float k ≡ numbers_at f (take (n * v) b) (length (take n l)) →
    map float (k ++ drop n l) ≡ sets (map float l) 0 (numbers_at f b (fewer (length b / width f) (length l)))
decoded_whole f float b l k n w v p q h e r =
    let m : n ≡ fewer (length b / width f) (length l) = h ∙ rw p (min_fewer (length b / width f) (length l)) in
    let most : n ≤ length l = rw h (min-le_right (length b / w) (length l)) in
    let t : length (take n l) ≡ n = length-take-le n l most in
    let s = numbers_front f b n n (in_bytes f (length b) n (length l) w p h) (omega arith) in
    rw (← m) (read_front float l k (numbers_at f b n) n (rw (q, t) at r ∙ s) (e ∙ t) most)

pub taken_whole :
    {X : Type 0} (f : Format) (float : X → Float) (l : List X) (m n w : ℕ) → w ≡ width f → n ≡ min (length l) (m / w) →
    map float (take n l) ≡ take (fewer (length l) (m / width f)) (map float l)
taken_whole f float l m n w e h =
    sym (take-map float n l) ∙ ap (λ (k : ℕ). take k (map float l)) (h ∙ rw e (min_fewer (length l) (m / width f)))

pub front_stored : {A : Type 0} (l v : List A) (n : ℕ) → length v ≡ n → n ≤ length l →
    sets (take n l) 0 v ++ drop n l ≡ sets l 0 v
front_stored l v n e h =
    let j : 0 + length v ≡ n = omega (arith, e) in
    rw (all_stored (take n l) v (length-take-le n l h ∙ sym e))
    (sym (sets-eq v l 0 (omega (arith, e)) ∙ ap (λ (i : ℕ). v ++ drop i l) j))

-- ---- a list that is written whole
pub encoded : {A : Type 0} (y : List A) (p : List ℕ) (w n : ℕ) → length y ≡ n → length p / w ≡ n →
    take (fewer (length y) (length p / w)) y ≡ y
encoded y p w n h e = rw (h, e, one_of_two (ltb n n) n) (take_all n y (omega (arith, h)))
