-- Whether a whole record is at the head of the input, and how long it is, does not depend on the state; and the reply
-- to a whole record by itself is the reply to it at the head of any input. Assumes nothing.
use Prim.Native.Nat.{ℕ, zero, suc, ◌+◌, ◌*◌, ◌≤◌}
use mathlib.Core.Path.{◌≡◌, refl, sym, ap, ◌∙◌}
use mathlib.Core.Bool.{Bool, true, false, cond}
use mathlib.Core.List.{List, [], ◌∷◌}
use native.Mathlib.Omega.{arith}
use borrow.Author.Tests.{ltb-true, ltb-false, le-ltb}
use lib.ListN.{length, take}
use lib.Seq.{take_all, length-take-le}
use lib.Dec.{ltb}
use Rattle.linalg.specs.Answer.{Answer, answers, refuses}
use Rattle.record_result.specs.declared.Disposition.{Disposition}
use Rattle.record_result.specs.RecordResult.{Reply, took, ended, unknown, cut}
use Rattle.record_result.proofs.Record.{record_by, record_cut, record_whole}
use Rattle.job_state.specs.State.{State, state_none}
use Rattle.job_state.specs.Records.{RecordRule, head_by_rule, next_by}
use Rattle.marks.specs.Marks.{Listed, mark_of, head_at, next_at, head_of, next_of}
use Rattle.marks.specs.Answers.{reply_on, reply_to}
use Rattle.marks.proofs.Table.{Good, good}

-- ---- two bytes or more, by their mark
module _ (x y : ℕ) (t r : List ℕ) (q : r ≡ x ∷ y ∷ t) (v : Answer Listed) (e : mark_of x y ≡ v) (z : State) where
  found-is : head_of z r ≡ head_at v z r
  unfolding head_of
  found-is = ap (head_of z) q ∙ ap (head_at (mark_of x y) z) (sym q) ∙ ap (λ (w : Answer Listed). head_at w z r) e

  next-is : next_of z r ≡ next_at v z r
  unfolding next_of
  next-is = ap (next_of z) q ∙ ap (next_at (mark_of x y) z) (sym q) ∙ ap (λ (w : Answer Listed). next_at w z r) e

-- ---- a record that has exactly the bytes of its rule
module _ (a : RecordRule) (r : List ℕ) (n : length r ≡ a.bytes) (z : State) where
  all : take a.bytes r ≡ r
  all = take_all a.bytes r (omega (arith, n))

  found_all : head_by_rule a z r ≡ took (a.step z r).reply.disposition a.bytes (a.step z r).reply.bytes
  unfolding head_by_rule
  found_all =
      record_whole a.bytes (λ l. (a.step z l).reply) r (omega (arith, n))
      ∙ ap (λ (l : List ℕ). took (a.step z l).reply.disposition a.bytes (a.step z l).reply.bytes) all

  next-all : next_by a z r ≡ (a.step z r).state
  unfolding next_by
  next-all =
      let t = le-ltb (length r) a.bytes (omega (arith, n)) in
      ap (λ (u : Bool). cond u z (a.step z (take a.bytes r)).state) t
      ∙ ap (λ (l : List ℕ). (a.step z l).state) all

-- ---- the head of xs, whatever the state is
abbrev pub Takes : List ℕ → ℕ → (State → Reply) → Type 0
Takes xs k reply = (z : State) → head_of z xs ≡ took (reply z).disposition k (reply z).bytes

pub data Head (xs : List ℕ) : Type 0 where
  at_end_lem : ((z : State) → head_of z xs ≡ ended) → Head xs
  at-unknown : ((z : State) → head_of z xs ≡ unknown) → Head xs
  at_cut : ((z : State) → head_of z xs ≡ cut) → Head xs
  at_record :
      (k : ℕ) → k ≤ length xs → (reply : State → Reply) → Takes xs k reply → Takes (take k xs) k reply →
      ((z : State) → next_of z (take k xs) ≡ next_of z xs) → Head xs

take_two : (k x y : ℕ) (s : List ℕ) → 2 ≤ k → (t : List ℕ) × (take k (x ∷ y ∷ s) ≡ x ∷ y ∷ t)
take_two zero x y s h = absurd (omega arith)
take_two (suc zero) x y s h = absurd (omega arith)
take_two (suc (suc k)) x y s h = (take k s, refl)

module _ (x y : ℕ) (s : List ℕ) where
  abbrev here : List ℕ
  here = x ∷ y ∷ s

  -- a mark of the table, by whether the input has the bytes of its rule
  module _ (l : Listed) (e : mark_of x y ≡ answers l) (two : 2 ≤ l.rule.bytes) where
    abbrev size : ℕ
    size = l.rule.bytes

    found_here : (z : State) → head_of z here ≡ head_by_rule l.rule z here
    unfolding head_at
    found_here z = found-is x y s here refl (answers l) e z

    next_here : (z : State) → next_of z here ≡ next_by l.rule z here
    unfolding next_at
    next_here z = next-is x y s here refl (answers l) e z

    abbrev first : List ℕ
    first = take size here

    found_first : size ≤ length here → (z : State) → head_of z first ≡ head_by_rule l.rule z first
    unfolding head_at
    found_first h z = let w = take_two size x y s two in found-is x y w.0 first w.1 (answers l) e z

    next-first : size ≤ length here → (z : State) → next_of z first ≡ next_by l.rule z first
    unfolding next_at
    next-first h z = let w = take_two size x y s two in next-is x y w.0 first w.1 (answers l) e z

    head_known : (t : Bool) → ltb (length here) size ≡ t → Head here
    unfolding head_by_rule next_by
    head_known true t =
        let h = ltb-true (length here) size t in
        at_cut (λ z. found_here z ∙ record_cut size (λ r. (l.rule.step z r).reply) here h)
    head_known false t =
        let h : size ≤ length here = ltb-false (length here) size t in
        let n : length first ≡ size = length-take-le size here h in
        at_record size h (λ z. (l.rule.step z first).reply)
        (λ z. found_here z ∙ record_whole size (λ r. (l.rule.step z r).reply) here h)
        (λ z. found_first h z ∙ found_all l.rule first n z)
        (λ z.
        next-first h z ∙ next-all l.rule first n z
        ∙ sym (next_here z ∙ ap (λ (u : Bool). cond u z (l.rule.step z first).state) t))

  head_by : (v : Answer Listed) → mark_of x y ≡ v → Good (x * 256 + y) v → Head here
  unfolding head_at
  head_by (answers l) e g = head_known l e g.1.least (ltb (length here) l.rule.bytes) refl
  head_by (refuses n) e g = at-unknown (λ z. found-is x y s here refl (refuses n) e z)

pub head : (xs : List ℕ) → Head xs
unfolding head_of mark_of
head [] = at_end_lem (λ z. refl)
head (x ∷ []) = at_cut (λ z. refl)
head (x ∷ y ∷ s) = head_by x y s (mark_of x y) refl (good (x * 256 + y))

-- ---- a whole record: all its bytes are one
abbrev pub Whole : List ℕ → Type 0
Whole r = (q : Disposition) × ((b : List ℕ) × (head_of state_none r ≡ took q (length r) b))

-- its length, the reply, and the state after it, where l is its mark's entry in the table
module _ (x y : ℕ) (s : List ℕ) (l : Listed) (e : mark_of x y ≡ answers l) (w : Whole (x ∷ y ∷ s)) where
  abbrev whole : List ℕ
  whole = x ∷ y ∷ s

  found-whole : (z : State) → head_of z whole ≡ head_by_rule l.rule z whole
  unfolding head_at
  found-whole z = found-is x y s whole refl (answers l) e z

  pub whole-size : length whole ≡ l.rule.bytes
  unfolding head_by_rule
  whole-size =
      record_by l.rule.bytes (λ r. (l.rule.step state_none r).reply) whole
      (λ f. f ≡ took w.0 (length whole) w.1.0 → length whole ≡ l.rule.bytes)
      (λ h c. absurd (cc))
      (λ h c. cc)
      (sym (found-whole state_none) ∙ w.1.1)

  pub whole-reply : (z : State) → reply_to z whole ≡ (l.rule.step z whole).reply.bytes
  unfolding reply_to reply_on
  whole-reply z = ap reply_on (found-whole z ∙ found_all l.rule whole whole-size z)

  pub whole-next : (z : State) → next_of z whole ≡ (l.rule.step z whole).state
  unfolding next_at
  whole-next z = next-is x y s whole refl (answers l) e z ∙ next-all l.rule whole whole-size z
