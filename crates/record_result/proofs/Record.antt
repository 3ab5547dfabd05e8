-- A record at the head of the input: it lies within the input, and what follows it does not change it. What is written
-- for it. Assumes nothing.
use Prim.Native.Nat.{ℕ, suc, ◌≤◌, ◌<◌}
use mathlib.Core.Path.{◌≡◌, refl, sym, ap, ◌∙◌}
use mathlib.Core.Bool.{Bool, true, false}
use mathlib.Core.List.{List, [], ◌∷◌, ◌++◌}
use native.Mathlib.Omega.{arith}
use borrow.Author.Tests.{ltb-true, ltb-false, lt-ltb, le-ltb}
use lib.ListN.{length, take, set, length-append}
use lib.Seq.{sets, take-append-le}
use lib.Dec.{ltb}
use Rattle.std.proofs.lemmas.Bool.{false≢true}
use Rattle.record_result.specs.declared.Disposition.{Disposition}
use Rattle.record_result.specs.declared.Step.TheVariants as step
use Rattle.record_result.specs.RecordResult.{longest, Reply, mark_bytes, no_bytes, InputHead, took, ended, unknown, cut}
use Rattle.record_result.specs.RecordResult.{record_head, record_result, written_of, step_view}

pub mark_length : (a b : ℕ) → length (mark_bytes a b) ≡ 2
unfolding mark_bytes
mark_length a b = refl

pub no_length : (k : ℕ) → length (no_bytes k) ≡ 3
unfolding no_bytes
no_length k = refl

-- ---- a record of k bytes, whose reply is `reply`
module _ (k : ℕ) (reply : List ℕ → Reply) where
  pub record_cut : (s : List ℕ) → length s < k → record_head k reply s ≡ cut
  unfolding record_head
  record_cut s h = rw (lt-ltb (length s) k h)

  pub record_whole : (s : List ℕ) → k ≤ length s → record_head k reply s
      ≡ took (reply (take k s)).disposition k (reply (take k s)).bytes
  unfolding record_head
  record_whole s h = rw (le-ltb (length s) k h)

  -- for any disposition
  pub record_by :
      (s : List ℕ) (P : InputHead → Type 0) → (length s < k → P cut) →
      (k ≤ length s → P (took (reply (take k s)).disposition k (reply (take k s)).bytes)) →
      P (record_head k reply s)
  record_by s P short whole = by (ltb (length s) k) refl
    where
      by : (t : Bool) → ltb (length s) k ≡ t → P (record_head k reply s)
      by true t = let h = ltb-true (length s) k t in rw (record_cut s h) (short h)
      by false t = let h = ltb-false (length s) k t in rw (record_whole s h) (whole h)

  -- it lies within the input, and if each reply is within the room for the longest, so is this one
  pub record_taken :
      ((r : List ℕ) → length (reply r).bytes ≤ longest) → (s : List ℕ) (q : Disposition) (j : ℕ) (b : List ℕ) →
      record_head k reply s ≡ took q j b →
      (j ≤ length s) × (length b ≤ longest)
  record_taken most s q j b =
      record_by s
      (λ f. f ≡ took q j b → (j ≤ length s) × (length b ≤ longest))
      (λ h e. absurd (cc))
      (λ h e. let n : k ≡ j = cc in let l : (reply (take k s)).bytes ≡ b = cc in (rw n at h, rw l at (most (take k s))))

  -- a cut one is shorter than k
  pub record_few : (s : List ℕ) → record_head k reply s ≡ cut → length s < k
  record_few s = record_by s (λ f. f ≡ cut → length s < k) (λ h e. h) (λ h e. absurd (cc))

  pub record_not_ended : (s : List ℕ) → record_head k reply s ≡ ended → ⊥
  record_not_ended s = record_by s (λ f. f ≡ ended → ⊥) (λ h e. absurd (cc)) (λ h e. absurd (cc))

-- ---- more input does not change it
abbrev pub settled : InputHead → Bool
settled (took q k b) = true
settled ended = false
settled unknown = true
settled cut = false

pub record_more :
    (k : ℕ) (reply : List ℕ → Reply) (s ys : List ℕ) (f : InputHead) → record_head k reply s ≡ f → settled f ≡ true →
    record_head k reply (s ++ ys) ≡ f
record_more k reply s ys f =
    record_by k reply s
    (λ x. x ≡ f → settled f ≡ true → record_head k reply (s ++ ys) ≡ f)
    (λ h e t. absurd (false≢true (rw (← e) at t)))
    (λ h e t. record_whole k reply (s ++ ys) (simp length-append (omega arith)) ∙ rw (take-append-le k s ys h) e)

-- ---- the result and the bytes written: if the record is cut, if there is no room, and if there is
pub reply-cut : (room k : ℕ) (reply : List ℕ → Reply) (s : List ℕ) → length s < k →
    (step_view step.Cut ≡ record_result (record_head k reply s) room) × ([] ≡ written_of (record_head k reply s) room)
unfolding record_result written_of
reply-cut room k reply s h = rw (record_cut k reply s h) (refl, refl)

pub reply-roomless :
    (room k : ℕ) (reply : List ℕ → Reply) (s : List ℕ) → k ≤ length s → room < longest →
    (step_view step.Room ≡ record_result (record_head k reply s) room) × ([] ≡ written_of (record_head k reply s) room)
unfolding record_result written_of
reply-roomless room k reply s h r = rw (record_whole k reply s h, lt-ltb room longest r) (refl, refl)

pub reply-whole :
    (room k : ℕ) (reply : List ℕ → Reply) (s : List ℕ) (q : Disposition) (b : List ℕ) → k ≤ length s → longest ≤ room →
    reply (take k s) ≡ record { disposition = q; bytes = b } →
    (step_view (step.Took q k (length b)) ≡ record_result (record_head k reply s) room)
    × (b ≡ written_of (record_head k reply s) room)
unfolding record_result written_of
reply-whole room k reply s q b h r e = rw (record_whole k reply s h, le-ltb room longest r, e) (refl, refl)

-- ---- storing the mark after the bytes that follow it gives the same list
sets_behind : (x : ℕ) (l b : List ℕ) (i : ℕ) → sets (x ∷ l) (suc i) b ≡ x ∷ sets l i b
sets_behind x l [] i = refl
sets_behind x l (y ∷ b) i = sets_behind x (set l i y) b (suc i)

pub marked : (l b : List ℕ) (x y : ℕ) → 2 ≤ length l → set (set (sets l 2 b) 0 x) 1 y ≡ sets l 0 (mark_bytes x y ++ b)
unfolding mark_bytes
marked [] b x y h = absurd (omega arith)
marked (u ∷ []) b x y h = absurd (omega arith)
marked (u ∷ v ∷ l) b x y h =
    let front : (p q : ℕ) → sets (p ∷ q ∷ l) 2 b ≡ p ∷ q ∷ sets l 0 b =
    λ p q. sets_behind p (q ∷ l) b 1 ∙ ap (λ (z : List ℕ). p ∷ z) (sets_behind q l b 0) in
    rw (front u v) (sym (front x y))
