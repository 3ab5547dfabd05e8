-- A query returns a shot that is kept; and reading a pose's bytes and writing them again changes nothing, except that
-- every NaN is written as the one NaN. Assumes nothing.
use Prim.Native.Nat.{ℕ, zero, suc, ◌+◌, ◌*◌, ◌^◌, ◌/◌, ◌%◌, ◌<◌, ◌≤◌}
use mathlib.Core.Path.{◌≡◌, refl, sym, ap, ◌∙◌}
use mathlib.Core.Bool.{Bool, true, false, not}
use mathlib.Core.List.{List, [], ◌∷◌, ◌++◌, append-nil, append_assoc}
use native.Mathlib.Nat.{pow-zero, pow-suc}
use native.Mathlib.Omega.{arith}
use borrow.Author.Tests.{eq-eqb}
use lib.ListN.{length, take, drop, length-drop, take-append-drop}
use lib.Seq.{drop-drop, length-take-le, take_all}
use lib.Dec.{T, ltb, eqb}
use lib.Ieee.{Float, is_nan, binary64, of_bits}
use lib.Ieee.Bits.{to_bits-of_bits}
use Rattle.std.proofs.lemmas.Bool.{false≢true}
use Rattle.ieee.proofs.Nan.{the_nan}
use Rattle.linalg.specs.Answer.{answers}
use Rattle.linalg.specs.Vector.{vec_numbers}
use Rattle.frames.specs.Floats.{Pose}
use Rattle.layout.specs.Layout.{vec_in, quat_in, pose_in, quat_numbers, pose_numbers}
use Rattle.wire.specs.Wire.{word, word_of, word_at, word_bytes, number_of, number_at, number_bytes, numbers_bytes}
use Rattle.wire.specs.Wire.{item_bytes, items_bytes, numbers}
use Rattle.wire.proofs.Bytes.{items_append, items_numbers}
use Rattle.record_result.specs.Framed.{framed_in, framed_items}
use Rattle.sheets.specs.Back.{keeps, AskedTheorem, Bytes, one_nan, nans_one, SentBackTheorem}
use Rattle.sheets.specs.Sheets.{Kept, none, kept, Sheets, most, keeping, shelve_on, shelve, ask_on, ask}
use Rattle.sheets.specs.declared.Shot.{Shot}

-- ---- a shot that is kept
module _ (s : Sheets) (n : ℕ) (x : Shot) where
  abbrev Asked : Kept → Type 0
  Asked k = keeps (shelve_on k s n x).answer ≡ true → ask (shelve_on k s n x).sheets n ≡ answers x

  asked-new : (t : Bool) → ltb s.count most ≡ t → Asked none
  unfolding shelve_on ask ask_on keeping
  asked-new true t h = rw (t, eq-eqb n n refl) refl
  asked-new false t h = absurd (false≢true (rw t at h))

  asked_old : (o : Shot) (q t : Bool) → eqb x.take o.take ≡ q → ltb o.take x.take ≡ t → Asked (kept o)
  unfolding shelve_on ask ask_on keeping
  asked_old o true t q u h = absurd (false≢true (rw q at h))
  asked_old o false true q t h = rw (q, t, eq-eqb n n refl) refl
  asked_old o false false q t h = absurd (false≢true (rw (q, t) at h))

  asked_by : (k : Kept) → Asked k
  asked_by none = asked-new (ltb s.count most) refl
  asked_by (kept o) = asked_old o (eqb x.take o.take) (ltb o.take x.take) refl refl

pub asked : AskedTheorem
unfolding shelve
asked s n x h = asked_by s n x (s.at n) h

-- ---- bytes, and parts of them
pub bytes_take : (k : ℕ) (b : List ℕ) → Bytes b → Bytes (take k b)
unfolding Bytes
bytes_take zero b h = tt
bytes_take (suc k) [] h = tt
bytes_take (suc k) (x ∷ b) h = (h.0, bytes_take k b h.1)

pub bytes_drop : (k : ℕ) (b : List ℕ) → Bytes b → Bytes (drop k b)
unfolding Bytes
bytes_drop zero b h = h
bytes_drop (suc k) [] h = tt
bytes_drop (suc k) (x ∷ b) h = bytes_drop k b h.1

-- ---- writing a word gives the bytes that it was read from
word_less : (b : List ℕ) → Bytes b → word_of b < 256 ^ length b
unfolding Bytes word_of
word_less [] h = omega (arith, pow-zero 256)
word_less (x ∷ b) h = omega (arith, h.0, word_less b h.1, pow-suc 256 (length b))

word_again : (b : List ℕ) → Bytes b → word_bytes (length b) (word_of b) ≡ b
unfolding Bytes word_of word_bytes
word_again [] h = refl
word_again (x ∷ b) h =
    let l : x < 256 = h.0 in
    let m : (x + 256 * word_of b) % 256 ≡ x = omega arith in
    let d : (x + 256 * word_of b) / 256 ≡ word_of b = omega arith in
    rw (m, d, word_again b h.1) refl

pub word_of_lem : (k : ℕ) (b : List ℕ) → Bytes b → length b ≡ k → word_bytes k (word_of b) ≡ b
word_of_lem k b h e = ap (λ (n : ℕ). word_bytes n (word_of b)) (sym e) ∙ word_again b h

-- ---- and so for a number that is not NaN
same_bits : (b : List ℕ) → Bytes b → length b ≡ 8 → is_nan (number_of binary64 b) ≡ false →
    number_bytes binary64 (number_of binary64 b) ≡ b
unfolding number_of number_bytes
same_bits b h e t =
    let l : word_of b < 256 ^ 8 = rw e at (word_less b h) in
    let n : T (not (is_nan (of_bits binary64 (word_of b)))) = rw t tt in
    rw (to_bits-of_bits binary64 (word_of b) l n) (word_of_lem 8 b h e)

again_by : (b : List ℕ) → Bytes b → length b ≡ 8 → (t : Bool) → is_nan (number_of binary64 b) ≡ t →
    number_bytes binary64 (number_of binary64 b) ≡ one_nan b
unfolding one_nan
again_by b h e true t = rw t (ap (number_bytes binary64) (the_nan _ t))
again_by b h e false t = rw t (same_bits b h e t)

number_again : (b : List ℕ) → Bytes b → length b ≡ 8 → number_bytes binary64 (number_of binary64 b) ≡ one_nan b
number_again b h e = again_by b h e (is_nan (number_of binary64 b)) refl

-- ---- numbers one after another
numbers_in : ℕ → List ℕ → List Float
numbers_in zero b = []
numbers_in (suc k) b = number_of binary64 (take 8 b) ∷ numbers_in k (drop 8 b)

numbers_again : (k : ℕ) (b : List ℕ) → Bytes b → k * 8 ≤ length b →
    numbers_bytes binary64 (numbers_in k b) ++ drop (k * 8) b ≡ nans_one k b
unfolding numbers_in numbers_bytes nans_one
numbers_again zero b h l = refl
numbers_again (suc k) b h l =
    let e : suc k * 8 ≡ 8 + k * 8 = omega arith in
    let d : drop (suc k * 8) b ≡ drop (k * 8) (drop 8 b) = ap (λ (n : ℕ). drop n b) e ∙ sym (drop-drop (k * 8) 8 b) in
    append_assoc (number_bytes binary64 (number_of binary64 (take 8 b)))
    (numbers_bytes binary64 (numbers_in k (drop 8 b))) (drop (suc k * 8) b)
    ∙ rw (
      d,
      numbers_again k (drop 8 b) (bytes_drop 8 b h) (simp length-drop (omega arith)),
      number_again (take 8 b)
          (bytes_take 8 b h) (length-take-le 8 b (omega arith)),
    ) refl

numbers_from : ℕ → ℕ → List ℕ → List Float
numbers_from zero at b = []
numbers_from (suc k) at b = number_of binary64 (take 8 (drop at b)) ∷ numbers_from k (at + 8) b

from_is : (k at : ℕ) (b : List ℕ) → numbers_from k at b ≡ numbers_in k (drop at b)
unfolding numbers_in numbers_from
from_is zero at b = refl
from_is (suc k) at b =
    ap (λ (l : List Float). number_of binary64 (take 8 (drop at b)) ∷ l)
    (from_is k (at + 8) b ∙ ap (numbers_in k) (sym (drop-drop 8 at b)))

pose-from : (b : List ℕ) → pose_numbers (framed_in binary64 b).sim3 ≡ numbers_from 8 0 b
unfolding framed_in pose_in quat_in vec_in number_at pose_numbers quat_numbers vec_numbers numbers_from
pose-from b = refl

pose_in_lem : (b : List ℕ) → pose_numbers (framed_in binary64 b).sim3 ≡ numbers_in 8 b
pose_in_lem b = pose-from b ∙ from_is 8 0 b

-- ---- the frames after them
frames_in :
    (b : List ℕ) → Bytes b → length b ≡ 68 →
    word_bytes 2 (framed_in binary64 b).from ++ (word_bytes 2 (framed_in binary64 b).to ++ []) ≡ drop 64 b
unfolding framed_in word_at
frames_in b h e =
    let p = drop 64 b in
    let q = drop 66 b in
    let n : length p ≡ 4 = simp length-drop (omega arith) in
    let m : length q ≡ 2 = simp length-drop (omega arith) in
    let z : take 2 q ≡ drop 2 p = take_all 2 q (omega arith) ∙ sym (drop-drop 2 64 b) in
    rw (
      word_of_lem 2 (take 2 p) (bytes_take 2 p (bytes_drop 64 b h)) (length-take-le 2 p (omega arith)),
      word_of_lem 2 (take 2 q) (bytes_take 2 q (bytes_drop 66 b h)) (length-take-le 2 q (omega arith)),
      append-nil (take 2 q),
      z,
    ) (take-append-drop 2 p)

two_frames : (m n : ℕ) → items_bytes binary64 (word 2 m ∷ word 2 n ∷ []) ≡ word_bytes 2 m ++ (word_bytes 2 n ++ [])
unfolding items_bytes item_bytes
two_frames m n = refl

items_of : (x : Pose) → items_bytes binary64 (framed_items x)
    ≡ numbers_bytes binary64 (pose_numbers x.sim3) ++ (word_bytes 2 x.from ++ (word_bytes 2 x.to ++ []))
unfolding framed_items
items_of x =
    items_append binary64 (numbers (pose_numbers x.sim3)) _ ∙ (λ i. items_numbers binary64 (pose_numbers x.sim3) i
    ++ two_frames x.from x.to i)

pub sent_back : SentBackTheorem
sent_back b h e =
    items_of (framed_in binary64 b) ∙ rw (pose_in_lem b, frames_in b h e) (numbers_again 8 b h (omega arith))
