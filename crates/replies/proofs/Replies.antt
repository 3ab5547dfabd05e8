-- Replies: the result and the bytes of each operation, and that no record and no reply is longer than the longest.
-- Assumes nothing.
use Prim.Native.Nat.{ℕ, suc, ◌+◌, ◌-◌, ◌*◌, ◌≤◌}
use mathlib.Core.Path.{◌≡◌, refl, sym, ap, ◌∙◌}
use mathlib.Core.List.{List, [], ◌∷◌, ◌++◌}
use native.Mathlib.Omega.{arith}
use lib.ListN.{length, take, drop, get_or, set, length-append, length-drop}
use lib.Seq.{sets, length-sets, length-take-le}
use lib.Ieee.{Float, Format, binary32, binary64}
use Rattle.linalg.specs.Answer.{Answer, answers, refuses, and_then}
use Rattle.pairs.specs.Entries.{pair_answer, armed_pair_answer}
use Rattle.pairs.specs.Floats.{ArmedPair}
use Rattle.jacobian.specs.Jac.{jac_inverse_answer}
use Rattle.frames.specs.Joins.{framed_mul}
use Rattle.frames.specs.Floats.{Pose}
use Rattle.layout.specs.Layout.{block_pair_count, block_in, values_in, block_numbers, scaled_pair_numbers}
use Rattle.layout.proofs.Numbers.{vec-count, block-count, block-pair-count, scaled-pair-count}
use Rattle.wire.specs.Wire.{Item, width, number_at, items_bytes, all_finite, numbers}
use Rattle.wire.proofs.Bytes.{numbers-length, items_numbers}
use Rattle.record_result.specs.declared.Operation.{Operation}
use Rattle.record_result.specs.declared.Operation.TheVariants.{Ex, Co, Pa, Ac, Mu, In, Ji, Ar}
use Rattle.record_result.specs.declared.Disposition.TheVariants as disposition
use Rattle.record_result.specs.declared.Wrote.{Wrote}
use Rattle.record_result.specs.declared.Step.TheVariants as step
use Rattle.layout.proofs.Runs.{sets-part}
use Rattle.record_result.specs.RecordResult.{longest, no_bytes, mark_bytes, reply_of, wrote_as, written_answer}
use Rattle.record_result.specs.RecordResult.{answer_bytes, record_result, written_of, step_view}
use Rattle.record_result.proofs.Record.{mark_length, no_length, marked, reply-whole}
use Rattle.replies.specs.Table.{gives, numbers_of, width_of, ex_of, co_of, pa_of}
use Rattle.record_result.specs.Framed.{framed_width, framed_in, framed_items}
use Rattle.replies.specs.Table.{ac_of, mu_of, in_of, ji_of, armed_items, ar_of, answer_of, operation_reply}
use Rattle.replies.specs.Table.{operation_head}
use Rattle.replies.proofs.Arms.{armed-length}
use Rattle.record_result.proofs.Frames.{framed-length}

-- ---- no record is longer than PA's, on doubles
pub width-most : (f : Format) (e : Operation) → width_of f e ≤ 8 * numbers_of Pa
width-most binary32 Ex = omega arith
width-most binary32 Co = omega arith
width-most binary32 Pa = omega arith
width-most binary32 Ac = omega arith
width-most binary32 Mu = omega arith
width-most binary32 In = omega arith
width-most binary32 Ji = omega arith
width-most binary32 Ar = omega arith
width-most binary64 Ex = omega arith
width-most binary64 Co = omega arith
width-most binary64 Pa = omega arith
width-most binary64 Ac = omega arith
width-most binary64 Mu = omega arith
width-most binary64 In = omega arith
width-most binary64 Ji = omega arith
width-most binary64 Ar = omega arith

-- ---- and no reply is longer than PA's
pub widest : (f : Format) (n : ℕ) → n ≤ block_pair_count → 2 + n * width f ≤ longest
widest binary32 n h = omega arith
widest binary64 n h = omega arith

gives-most : (f : Format) (a b n : ℕ) (l : List Float) → length l ≡ n → n ≤ block_pair_count →
    length (reply_of f a b (gives l)).bytes ≤ longest
unfolding reply_of
gives-most f a b n l h m =
    rw (
      length-append (mark_bytes a b) (items_bytes f (numbers l)),
      mark_length a b,
      items_numbers f l,
      numbers-length f
          l,
      h,
    ) (widest f n m)

from-most :
    {A : Type 0} (f : Format) (a b n : ℕ) (of : A → List Float) → ((x : A) → length (of x) ≡ n) → n ≤ block_pair_count →
    (r : Answer A) →
    length (reply_of f a b (and_then r (λ x. gives (of x)))).bytes ≤ longest
unfolding reply_of
from-most f a b n of h m (answers x) = gives-most f a b n (of x) (h x) m
from-most f a b n of h m (refuses k) = rw (no_length k) (omega arith)

-- the four bytes of the arms and the twenty numbers
pub arms_most : (f : Format) → 2 + (4 + 20 * width f) ≤ longest
arms_most binary32 = omega arith
arms_most binary64 = omega arith

armed-most : (f : Format) (a b : ℕ) (r : Answer ArmedPair) →
    length (reply_of f a b (and_then r (λ p. answers (armed_items p)))).bytes ≤ longest
unfolding reply_of
armed-most f a b (answers p) =
    rw (length-append (mark_bytes a b) (items_bytes f (armed_items p)), mark_length a b, armed-length f p) (arms_most f)
armed-most f a b (refuses k) = rw (no_length k) (omega arith)

-- the pose and its frames
pub poses_most : (f : Format) → 2 + framed_width f ≤ longest
poses_most binary32 = omega arith
poses_most binary64 = omega arith

framed-most : (f : Format) (a b : ℕ) (r : Answer Pose) → length
    (reply_of f a b (and_then r (λ x. answers (framed_items x)))).bytes ≤ longest
unfolding reply_of
framed-most f a b (answers x) =
    rw (length-append (mark_bytes a b) (items_bytes f (framed_items x)), mark_length a b, framed-length f x)
    (poses_most f)
framed-most f a b (refuses k) = rw (no_length k) (omega arith)

reply-most : (f : Format) (e : Operation) (a b : ℕ) (r : List ℕ) →
    length (reply_of f a b (answer_of f e r)).bytes ≤ longest
unfolding answer_of ex_of co_of pa_of ac_of mu_of in_of ji_of ar_of
reply-most f Ex a b r = framed-most f a b (answers _)
reply-most f Co a b r =
    from-most f a b 20 scaled_pair_numbers scaled-pair-count (omega arith)
    (pair_answer f (number_at f r 0) (number_at f r 1) (values_in (number_at f r) 2))
reply-most f Pa a b r = gives-most f a b 124 _ (block-pair-count _) (omega arith)
reply-most f Ac a b r = gives-most f a b 3 _ (vec-count _) (omega arith)
reply-most f Mu a b r =
    framed-most f a b (framed_mul f (framed_in f r) (framed_in f (drop (framed_width f) r))
    (number_at f (drop (2 * framed_width f) r) 0))
reply-most f In a b r = framed-most f a b (answers _)
reply-most f Ji a b r =
    from-most f a b 31 block_numbers block-count (omega arith) (jac_inverse_answer f (block_in (number_at f r) 0))
reply-most f Ar a b r =
    armed-most f a b (armed_pair_answer f (number_at f r 0) (number_at f r 1) (values_in (number_at f r) 2))

pub entry-most : (f : Format) (e : Operation) (r : List ℕ) → length (operation_reply f e r).bytes ≤ longest
unfolding operation_reply
entry-most f e r = reply-most f e (get_or r 0 0) (get_or r 1 0) (drop 2 r)

-- ---- a whole record's bytes, as the code reads them
own_bytes :
    (f : Format) (e : Operation) (w : ℕ) (s : List ℕ) → 2 + w ≤ length s →
    operation_reply f e (take (2 + w) s) ≡ reply_of f (get_or s 0 0) (get_or s 1 0) (answer_of f e (take w (drop 2 s)))
unfolding operation_reply
own_bytes f e w [] h = absurd (omega arith)
own_bytes f e w (a ∷ []) h = absurd (omega arith)
own_bytes f e w (a ∷ b ∷ s) h = let n : 2 + w ≡ suc (suc w) = omega arith in rw n refl

-- NO and its number in front of the list
refused_stored : (n : ℕ) (l : List ℕ) → set (set (set l 0 0x4e) 1 0x4f) 2 n ≡ sets l 0 (no_bytes n)
unfolding no_bytes
refused_stored n l = refl

-- ---- the reply holds what the operation wrote
gave_wrote :
    (f : Format) (a b : ℕ) (w : Wrote) (x : Answer (List Item)) → answers w ≡ written_answer f x →
    (reply_of f a b x ≡ record { disposition = w.disposition; bytes = mark_bytes a b ++ answer_bytes f x })
    × (length (answer_bytes f x) ≡ w.length)
unfolding reply_of written_answer answer_bytes
gave_wrote f a b w (answers l) q =
    let e : w ≡ wrote_as (all_finite l) (length (items_bytes f l)) = cc in (rw e refl, rw e refl)
gave_wrote f a b w (refuses k) q = absurd (cc)

gave_refused :
    (f : Format) (a b k : ℕ) (x : Answer (List Item)) → refuses k ≡ written_answer f x →
    (reply_of f a b x ≡ record { disposition = disposition.Refused; bytes = no_bytes k }) × (answer_bytes f x ≡ [])
unfolding reply_of written_answer answer_bytes
gave_refused f a b k (answers l) q = absurd (cc)
gave_refused f a b k (refuses j) q = let e : j ≡ k = cc in (rw e, refl)

-- the code has lent the operation e the record's bytes after its mark, and the output after the mark's place: g is its
-- result, and R that part of the output afterwards
pub record Given (f : Format) (e : Operation) (s out : List ℕ) (g : Answer Wrote) (R : List ℕ) : Type 0 where
  pub whole : 2 + width_of f e ≤ length s
  pub room : longest ≤ length out
  pub view : g ≡ written_answer f (answer_of f e (take (width_of f e) (drop 2 s)))
  pub stored : R ≡ sets (take (length out - 2) (drop 2 out)) 0
      (answer_bytes f (answer_of f e (take (width_of f e) (drop 2 s))))

module _ {f : Format} {e : Operation} {s out : List ℕ} {g : Answer Wrote} {R : List ℕ} (k : Given f e s out g R) where
  abbrev asked : Answer (List Item)
  asked = answer_of f e (take (width_of f e) (drop 2 s))

  own : operation_reply f e (take (2 + width_of f e) s) ≡ reply_of f (get_or s 0 0) (get_or s 1 0) asked
  own = own_bytes f e (width_of f e) s k.whole

  behind : length (answer_bytes f asked) ≤ length out - 2 → take 2 out ++ (R ++ drop (length out - 2) (drop 2 out))
      ≡ sets out 2 (answer_bytes f asked)
  behind h =
      let r : longest ≤ length out = k.room in
      rw k.stored (sets-part out (answer_bytes f asked) 2 (length out - 2) (omega arith) h)

  -- the output is as long as it was
  pub given_length : length (take 2 out ++ (R ++ drop (length out - 2) (drop 2 out))) ≡ length out
  given_length =
      let room : longest ≤ length out = k.room in
      let n : length (take (length out - 2) (drop 2 out)) ≡ length out - 2 =
      length-take-le (length out - 2) (drop 2 out) (simp length-drop (omega arith)) in
      let r : length R ≡ length out - 2 = ap length k.stored
      ∙ length-sets (take (length out - 2) (drop 2 out)) 0 (answer_bytes f asked) ∙ n in
      let t : length (take 2 out) ≡ 2 = length-take-le 2 out (omega arith) in
      simp (length-append, length-drop) (omega arith)

  whole-reply : (w : Wrote) → g ≡ answers w → operation_reply f e (take (2 + width_of f e) s)
      ≡ record { disposition = w.disposition; bytes = mark_bytes (get_or s 0 0) (get_or s 1 0) ++ answer_bytes f asked }
  whole-reply w q = own ∙ (gave_wrote f (get_or s 0 0) (get_or s 1 0) w asked (sym q ∙ k.view)).0

  body_length : (w : Wrote) → g ≡ answers w → length (answer_bytes f asked) ≡ w.length
  body_length w q = (gave_wrote f (get_or s 0 0) (get_or s 1 0) w asked (sym q ∙ k.view)).1

  reply-length : (w : Wrote) → g ≡ answers w → length (mark_bytes (get_or s 0 0) (get_or s 1 0) ++ answer_bytes f asked)
      ≡ 2 + w.length
  reply-length w q =
      length-append (mark_bytes (get_or s 0 0) (get_or s 1 0)) (answer_bytes f asked)
      ∙ rw (mark_length (get_or s 0 0) (get_or s 1 0), body_length w q)

  pub given_most : (w : Wrote) → g ≡ answers w → 2 + w.length ≤ longest
  given_most w q = rw (whole-reply w q, reply-length w q) at (entry-most f e (take (2 + width_of f e) s))

  -- finite or not
  pub given_wrote :
      (w : Wrote) → g ≡ answers w →
      (step_view (step.Took w.disposition (2 + width_of f e) (2 + w.length))
      ≡ record_result (operation_head f e s) (length out))
      × (set (set (take 2 out ++ (R ++ drop (length out - 2) (drop 2 out))) 0 (get_or s 0 0)) 1 (get_or s 1 0)
      ≡ sets out 0 (written_of (operation_head f e s) (length out)))
  given_wrote w q =
      let bytes = mark_bytes (get_or s 0 0) (get_or s 1 0) ++ answer_bytes f asked in
      let t = reply-whole (length out) (2 + width_of f e) (operation_reply f e) s w.disposition bytes k.whole k.room
      (whole-reply w q) in
      let room : longest ≤ length out = k.room in
      let body : length (answer_bytes f asked) ≤ length out - 2 =
      rw (body_length w q) (omega (arith, given_most w q)) in
      rw (behind body, ← (reply-length w q)) (
        t.0,
        marked out (answer_bytes f asked) (get_or s 0 0) (get_or s 1 0)
            (omega arith) ∙ ap (sets out 0) t.1,
      )

  pub given_refused :
      (n : ℕ) → g ≡ refuses n →
      (step_view (step.Took disposition.Refused (2 + width_of f e) 3)
      ≡ record_result (operation_head f e s) (length out))
      × (set (set (set (take 2 out ++ (R ++ drop (length out - 2) (drop 2 out))) 0 0x4e) 1 0x4f) 2 n
      ≡ sets out 0 (written_of (operation_head f e s) (length out)))
  given_refused n q =
      let p = gave_refused f (get_or s 0 0) (get_or s 1 0) n asked (sym q ∙ k.view) in
      let t = reply-whole (length out) (2 + width_of f e) (operation_reply f e) s disposition.Refused
      (no_bytes n) k.whole k.room (own ∙ p.0) in
      let room : longest ≤ length out = k.room in
      let none : length (answer_bytes f asked) ≤ length out - 2 = rw p.1 (omega arith) in
      rw (behind none, p.1) (rw (no_length n) at t.0, refused_stored n out ∙ ap (sets out 0) t.1)
