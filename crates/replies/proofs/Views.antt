-- The results and the bytes of the operations, from a call's status and lists, as an answer's items; in either format.
-- Assumes nothing.
use Prim.Native.Nat.{ℕ, suc, ◌+◌, ◌-◌, ◌*◌, ◌/◌, ◌%◌, ◌≤◌, ◌<◌}
use mathlib.Core.Path.{◌≡◌, refl, sym, ap, ◌∙◌}
use mathlib.Core.Bool.{Bool, true, ◌&&◌, and-true, and_assoc}
use mathlib.Core.List.{List, [], ◌∷◌, ◌++◌, map}
use native.Mathlib.Omega.{arith}
use borrow.Author.Tests.{eq-eqb, ne_eqb}
use lib.Dec.{T}
use lib.ListN.{length, take, drop, get_or, get_or-map, length-append, length-drop}
use lib.Seq.{sets, length-sets, length-take-le}
use lib.Ieee.{Float, Format}
use Rattle.std.specs.Prelude.{Result, Ok, Err}
use Rattle.std.proofs.lemmas.List.{length-map, drop-map, take-map}
use Rattle.linalg.specs.Answer.{Answer, answers, refuses, and_then, number, answer}
use Rattle.linalg.specs.declared.refusal.Refusal.{Refusal}
use Rattle.linalg.specs.declared.refusal.Refusal.TheVariants as refusal
use Rattle.pairs.specs.Floats.{ArmedPair}
use Rattle.frames.specs.Floats.{Pose}
use Rattle.layout.specs.Layout.{pose_count, scaled_pair_count, scaled_pair_numbers, armed_scaled}
use Rattle.layout.proofs.Runs.{sets-part, run_behind}
use Rattle.layout.specs.Lists.{PoseLists, frames_count}
use Rattle.to_lists.specs.Written.{status, written, fitting, framed_numbers, framed_fitting}
use Rattle.sim3_c_entries.specs.Calls.{ArmLists, arm_lists, arm_bytes, arms_fitting}
use Rattle.wire.specs.Wire.{width, Item, word_bytes, item_bytes, items_bytes, item_finite, all_finite, numbers}
use Rattle.wire.specs.Wire.{numbers_bytes, words_bytes, fewer}
use Rattle.wire.proofs.Bytes.{mul-width-div, items_append, items_numbers, numbers-length}
use Rattle.wire.proofs.Lists.{words-length, encoded}
use Rattle.wire.proofs.Places.{part_stored}
use Rattle.record_result.specs.RecordResult.{wrote_as, written_answer, answer_bytes}
use Rattle.record_result.specs.declared.Wrote.{Wrote}
use Rattle.replies.specs.Table.{arm_items, armed_items}
use Rattle.record_result.specs.Framed.{framed_width, framed_items}
use Rattle.replies.specs.Private.{status_view, words, framed_both, armed_both}

-- ---- whole numbers as items
pub items_words : (f : Format) (k : ℕ) (l : List ℕ) → items_bytes f (words k l) ≡ words_bytes k l
unfolding item_bytes items_bytes words words_bytes
items_words f k [] = refl
items_words f k (n ∷ l) = ap (λ (b : List ℕ). word_bytes k n ++ b) (items_words f k l)

words-finite : (k : ℕ) (l : List ℕ) → all_finite (words k l) ≡ true
unfolding all_finite words
words-finite k [] = refl
words-finite k (n ∷ l) = words-finite k l

all_append : (l m : List Item) → all_finite (l ++ m) ≡ all_finite l && all_finite m
unfolding all_finite
all_append [] m = refl
all_append (i ∷ l) m = rw (all_append l m) (sym (and_assoc (item_finite i) (all_finite l) (all_finite m)))

-- whole numbers are always finite, after numbers or before them
pub behind_finite : (y : List Float) (k : ℕ) (l : List ℕ) → all_finite (numbers y ++ words k l) ≡ all_finite (numbers y)
behind_finite y k l = all_append (numbers y) (words k l) ∙ rw (words-finite k l) (and-true (all_finite (numbers y)))

pub before-finite : (y : List Float) (k : ℕ) (l : List ℕ) → all_finite (words k l ++ numbers y) ≡ all_finite (numbers y)
before-finite y k l = all_append (words k l) (numbers y) ∙ rw (words-finite k l) refl

-- ---- the numbers of a list at the front of an output
-- n numbers of y in a part that has exactly their bytes
pub part-whole : (f : Format) (y : List Float) (p : List ℕ) (n : ℕ) → length y ≡ n → length p ≡ n * width f →
    take (fewer (length y) (length p / width f)) y ≡ y
part-whole f y p n h e = encoded y p (width f) n h (rw e (mul-width-div f n))

pub ending :
    (f : Format) (out q : List ℕ) (y : List Float) (t : Bool) (r : Wrote) →
    let e = length y * width f in
    let p = take (e - 0) (drop 0 out) in
    e ≤ length out → t ≡ all_finite (numbers (take (fewer (length y) (length p / width f)) y)) →
    q ≡ sets p 0 (numbers_bytes f (take (fewer (length y) (length p / width f)) y)) → r ≡ wrote_as t e →
    (answers r ≡ written_answer f (answers (numbers y))) × (take 0 out ++ (q ++ drop (e - 0) (drop 0 out))
    ≡ sets out 0 (answer_bytes f (answers (numbers y))))
unfolding written_answer answer_bytes
ending f out q y t r room s d g =
    let e = length y * width f in
    let z : e - 0 ≡ e = omega arith in
    let n : length (take e out) ≡ e = length-take-le e out room in
    let w = part-whole f y (take e out) (length y) refl n in
    let i = items_numbers f y in
    let l = numbers-length f y in
    let finite : t ≡ all_finite (numbers y) = rw (z, w) at s in
    let stored : q ≡ sets (take e out) 0 (numbers_bytes f y) = rw (z, w) at d in (
      rw (i, l, ← finite) (ap answers g),
      rw (z, i, stored) (sets-part out (numbers_bytes f y) 0 e (omega (arith, room))
          (omega (arith, l))),
    )

-- ---- the result of a call on the structures that its lists hold: the engine's answer
abbrev pub call : {S : Type 0} → Answer S → (S → List Float) → List Float → Answer (List Float)
call a num y = and_then a (λ s. fitting y (num s))

-- a refusal's number fits in one byte, and is not 0
abbrev pub Small : {S : Type 0} → Answer S → Type 0
Small (answers s) = T true
Small (refuses k) = (0 < k) × (k < 256)

fits_in : (y l : List Float) → length y ≡ length l → fitting y l ≡ answers l
unfolding fitting
fits_in y l e = rw (eq-eqb (length y) (length l) e)

pub view-zero : (n : ℕ) (l : List Item) → n ≡ 0 → status_view n l ≡ answers l
view-zero n l e = rw (eq-eqb n 0 e)

pub view-number : (n k : ℕ) (l : List Item) → n ≡ k → 0 < k → k < 256 → status_view n l ≡ refuses k
view-number n k l e h g =
    let q : n % 256 ≡ k = omega (arith, e, g) in
    let d : n ≡ 0 → ⊥ = λ z. omega (arith, e, h, z) in
    rw (ne_eqb n 0 d) (ap refuses q)

-- the view of a refused call has the refusal's number
pub told_refused : (r : Refusal) (l : List Item) → status_view (number r) l ≡ refuses (number r)
told_refused refusal.NegativeAngle l = refl
told_refused refusal.ZeroScale l = refl
told_refused refusal.NoSuchEntry l = refl
told_refused refusal.TooManyTerms l = refl
told_refused refusal.BadLength l = refl
told_refused refusal.UnknownMark l = refl
told_refused refusal.CutInput l = refl
told_refused refusal.NotFinite l = refl
told_refused refusal.FramesDiffer l = refl
told_refused refusal.SameTake l = refl
told_refused refusal.NoRoom l = refl
told_refused refusal.NeverKept l = refl
told_refused refusal.ListLength l = refl

pub view_done : (called : Result (Unit {0}) Refusal) (l : List Item) → called ≡ Ok tt →
    status_view (status (answer called)) l ≡ answers l
unfolding status
view_done called l e = rw e refl

pub view_not : (called : Result (Unit {0}) Refusal) (r : Refusal) (l : List Item) → called ≡ Err r →
    status_view (status (answer called)) l ≡ refuses (number r)
unfolding status
view_not called r l e = rw e (told_refused r l)

-- ---- the numbers of a type, as the floats that they are
module _ {X : Type 0} (floats : List X → List Float) (float : X → Float) (law : (l : List X) →
    floats l ≡ map float l) where
  pub floats-length : (l : List X) → length (floats l) ≡ length l
  floats-length l = ap length (law l) ∙ length-map l float

  pub floats-part : (x : List X) (v : List Float) (a n : ℕ) → floats x ≡ v →
      floats (take n (drop a x)) ≡ take n (drop a v)
  floats-part x v a n e =
      law (take n (drop a x))
      ∙ sym (take-map float n (drop a x))
      ∙ ap (take n) (sym (drop-map float a x))
      ∙ ap (λ (l : List Float). take n (drop a l)) (sym (law x) ∙ e)

  pub floats-one : (x : List X) (v : List Float) (i : ℕ) (y : X) → floats x ≡ v → y ≡ get_or x i y →
      float y ≡ get_or v i (float y)
  floats-one x v i y e h = sym (rw (sym (law x) ∙ e) at (get_or-map float x i y ∙ ap float (sym h)))

pub view_call :
    {S : Type 0} (a : Answer S) (num : S → List Float) (y z : List Float) (n : ℕ) → n ≡ status (call a num y) →
    z ≡ written (call a num y) y → Small a →
    ((s : S) → length y ≡ length (num s)) → status_view n (numbers z) ≡ and_then a (λ s. answers (numbers (num s)))
unfolding status written
view_call (answers s) num y z n e q small fits =
    let h = fits_in y (num s) (fits s) in
    view-zero n (numbers z) (e ∙ ap status h) ∙ ap (λ (x : List Float). answers (numbers x))
    (q ∙ ap (λ (x : Answer (List Float)). written x y) h)
view_call (refuses k) num y z n e q small fits = let s = small in view-number n k (numbers z) e s.0 s.1

-- ---- a pose and its frames, at the front of an output
pub ending_framed :
    (f : Format) (out q u : List ℕ) (y : List Float) (k : List ℕ) (t : Bool) (r : Wrote) →
    let a = pose_count * width f in
    let p = take a (drop 0 out) in
    let m = take 0 out ++ (q ++ drop a (drop 0 out)) in
    let s = take 4 (drop a m) in
    length y ≡ pose_count → length k ≡ 2 → framed_width f ≤ length out →
    t ≡ all_finite (numbers (take (fewer (length y) (length p / width f)) y)) →
    q ≡ sets p 0 (numbers_bytes f (take (fewer (length y) (length p / width f)) y)) →
    u ≡ sets s 0 (words_bytes 2 (take (fewer (length k) (length s / 2)) k)) →
    r ≡ wrote_as t (framed_width f) →
    (answers r ≡ written_answer f (answers (framed_both y k)))
    × (take a m ++ (u ++ drop 4 (drop a m)) ≡ sets out 0 (answer_bytes f (answers (framed_both y k))))
unfolding written_answer answer_bytes
ending_framed f out q u y k t r h g room finite d e view =
    let a = pose_count * width f in
    let m = take 0 out ++ (q ++ drop a (drop 0 out)) in
    let s = take 4 (drop a m) in
    let A = numbers_bytes f y in
    let B = words_bytes 2 k in
    let p : length (take a out) ≡ a = length-take-le a out (omega (arith, room)) in
    let w = part-whole f y (take a out) pose_count h p in
    let l : length A ≡ a = numbers-length f y ∙ ap (λ (n : ℕ). n * width f) h in
    let j : length B ≡ 4 = words-length 2 k ∙ ap (λ (n : ℕ). n * 2) g in
    let first : m ≡ sets out 0 A = rw (d, w) (sets-part out A 0 a (omega (arith, room)) (omega (arith, l))) in
    let same : length m ≡ length out = ap length first ∙ length-sets out 0 A in
    let n : length s ≡ 4 = length-take-le 4 (drop a m) (rw (length-drop a m) (omega (arith, same, room))) in
    let v : take (fewer (length k) (length s / 2)) k ≡ k = encoded k s 2 2 g (rw n refl) in
    let second : take a m ++ (u ++ drop 4 (drop a m)) ≡ sets m a B =
    rw (e, v) (sets-part m B a 4 (omega (arith, same, room)) (omega (arith, j))) in
    let bytes : items_bytes f (framed_both y k) ≡ A ++ B = items_append f (numbers y) (words 2 k)
    ∙ rw (items_numbers f y, items_words f 2 k) refl in
    let size : length (items_bytes f (framed_both y k)) ≡ framed_width f =
    ap length bytes ∙ length-append A B ∙ omega (arith, l, j) in
    let all : t ≡ all_finite (framed_both y k) = rw w at finite ∙ sym (behind_finite y 2 k) in (
      rw (size, ← all) (ap answers view),
      second ∙ ap (λ (x : List ℕ). sets x a B) first
          ∙ run_behind A B out 0 a (omega (arith, l)) ∙ ap (sets out 0) (sym bytes),
    )

framed_fits : (o : PoseLists) (x : Pose) → length o.numbers ≡ pose_count → length o.frames ≡ frames_count →
    framed_fitting o x ≡ answers (framed_numbers x)
unfolding framed_fitting
framed_fits o x h g = rw (eq-eqb (length o.numbers) pose_count h, eq-eqb (length o.frames) frames_count g)

framed_items_lem : (x : Pose) → framed_both (framed_numbers x).numbers (framed_numbers x).frames ≡ framed_items x
unfolding framed_items words
framed_items_lem x = refl

pub view-framed :
    (a : Answer Pose) (o w : PoseLists) (n : ℕ) → n ≡ status (and_then a (framed_fitting o)) →
    w ≡ written (and_then a (framed_fitting o)) o → Small a →
    length o.numbers ≡ pose_count → length o.frames ≡ frames_count →
    status_view n (framed_both w.numbers w.frames) ≡ and_then a (λ x. answers (framed_items x))
unfolding status written
view-framed (answers x) o w n e q small h g =
    let i = framed_fits o x h g in
    view-zero n _ (e ∙ ap status i)
    ∙ ap (λ (l : PoseLists). answers (framed_both l.numbers l.frames))
    (q ∙ ap (λ (b : Answer PoseLists). written b o) i)
    ∙ ap answers (framed_items_lem x)
view-framed (refuses k) o w n e q small h g = let s = small in view-number n k _ e s.0 s.1

-- ---- the arms, and then the scaled pair
bytes_kept : (a : List ℕ) → ((i : ℕ) → get_or a i 0 < 256) → words_bytes 1 a ≡ a
unfolding words_bytes word_bytes
bytes_kept [] h = refl
bytes_kept (n ∷ a) h =
    let e : n % 256 ≡ n = omega (arith, h 0) in
    rw (e, bytes_kept a (λ i. h (suc i)))

pub ending_armed :
    (f : Format) (out m q : List ℕ) (a : List ℕ) (y : List Float) (t : Bool) (r : Wrote) →
    let e = scaled_pair_count * width f in
    let p = take e (drop 4 m) in
    length a ≡ 4 → length y ≡ scaled_pair_count → 4 + scaled_pair_count * width f ≤ length out →
    ((i : ℕ) → get_or a i 0 < 256) → m ≡ take 0 out ++ (a ++ drop 4 (drop 0 out)) →
    t ≡ all_finite (numbers (take (fewer (length y) (length p / width f)) y)) →
    q ≡ sets p 0 (numbers_bytes f (take (fewer (length y) (length p / width f)) y)) →
    r ≡ wrote_as t (4 + e) →
    (answers r ≡ written_answer f (answers (armed_both a y)))
    × (take 4 m ++ (q ++ drop e (drop 4 m)) ≡ sets out 0 (answer_bytes f (answers (armed_both a y))))
unfolding written_answer answer_bytes
ending_armed f out m q a y t r h g room small lent finite d view =
    let e = scaled_pair_count * width f in
    let A = words_bytes 1 a in
    let B = numbers_bytes f y in
    let l : length A ≡ 4 = words-length 1 a ∙ ap (λ (n : ℕ). n * 1) h in
    let first : m ≡ sets out 0 A = lent ∙ part_stored out a A 0 4 (sym (bytes_kept a small)) l (omega (arith, room)) in
    let same : length m ≡ length out = ap length first ∙ length-sets out 0 A in
    let p : length (take e (drop 4 m)) ≡ e = length-take-le e (drop 4 m)
    (rw (length-drop 4 m) (omega (arith, same, room))) in
    let w = part-whole f y (take e (drop 4 m)) scaled_pair_count g p in
    let j : length B ≡ e = numbers-length f y ∙ ap (λ (n : ℕ). n * width f) g in
    let second : take 4 m ++ (q ++ drop e (drop 4 m)) ≡ sets m 4 B =
    rw (d, w) (sets-part m B 4 e (omega (arith, same, room)) (omega (arith, j))) in
    let bytes : items_bytes f (armed_both a y) ≡ A ++ B = items_append f (words 1 a) (numbers y)
    ∙ rw (items_numbers f y, items_words f 1 a) refl in
    let size : length (items_bytes f (armed_both a y)) ≡ 4 + e =
    ap length bytes ∙ length-append A B ∙ omega (arith, l, j) in
    let all : t ≡ all_finite (armed_both a y) = rw w at finite ∙ sym (before-finite y 1 a) in (
      rw (size, ← all) (ap answers view),
      second ∙ ap (λ (x : List ℕ). sets x 4 B) first
          ∙ run_behind A B out 0 4 (omega (arith, l)) ∙ ap (sets out 0) (sym bytes),
    )

arms-fit : (o : ArmLists) (p : ArmedPair) → length o.arms ≡ 4 → length o.numbers ≡ scaled_pair_count →
    arms_fitting o p ≡ answers (arm_lists (arm_bytes p) (scaled_pair_numbers (armed_scaled p)))
unfolding arms_fitting
arms-fit o p h g = rw (eq-eqb (length o.arms) 4 h, eq-eqb (length o.numbers) scaled_pair_count g)

arm_items_lem : (p : ArmedPair) → armed_both (arm_bytes p) (scaled_pair_numbers (armed_scaled p)) ≡ armed_items p
unfolding armed_items arm_items words
arm_items_lem p = refl

pub view-armed :
    (a : Answer ArmedPair) (o w : ArmLists) (n : ℕ) → n ≡ status (and_then a (arms_fitting o)) →
    w ≡ written (and_then a (arms_fitting o)) o → Small a →
    length o.arms ≡ 4 → length o.numbers ≡ scaled_pair_count →
    status_view n (armed_both w.arms w.numbers) ≡ and_then a (λ p. answers (armed_items p))
unfolding status written
view-armed (answers p) o w n e q small h g =
    let i = arms-fit o p h g in
    view-zero n _ (e ∙ ap status i)
    ∙ ap (λ (l : ArmLists). answers (armed_both l.arms l.numbers)) (q ∙ ap (λ (b : Answer ArmLists). written b o) i)
    ∙ ap answers (arm_items_lem p)
view-armed (refuses k) o w n e q small h g = let s = small in view-number n k _ e s.0 s.1
