-- What holds for every row of the table, and so for any two letters: a record includes its mark, no record and no reply
-- is longer than the longest, and a record changes the running join and the sheets as its event and its shot do.
-- Assumes nothing.
use Prim.Native.Nat.{ℕ, ◌+◌, ◌≤◌, ◌<◌}
use mathlib.Core.Path.{◌≡◌, refl, sym, ap, ◌∙◌}
use mathlib.Core.Bool.{Bool, true, false, cond}
use mathlib.Core.List.{List, [], ◌∷◌}
use native.Mathlib.Omega.{arith}
use borrow.Author.Tests.{eqb-true}
use lib.ListN.{length}
use lib.Dec.{eqb, ltb}
use lib.Ieee.{Format, binary32, binary64}
use Rattle.std.proofs.lemmas.Bool.{false≢true}
use Rattle.linalg.specs.Answer.{Answer, answers, refuses}
use Rattle.record_result.specs.declared.Operation.{Operation}
use Rattle.record_result.specs.declared.Operation.TheVariants.{Ex, Co, Pa, Ac, Mu, In, Ji, Ar}
use Rattle.record_result.specs.RecordResult.{longest}
use Rattle.running.specs.History.{Event, after}
use Rattle.running.specs.declared.Running.{Running}
use Rattle.sheets.specs.Sheets.{Sheets}
use Rattle.sheets.specs.History.{Sent, after as after_shots}
use Rattle.replies.proofs.Replies.{width-most, entry-most}
use Rattle.job_state.specs.State.{State}
use Rattle.job_state.specs.Records.{RecordRule, next_by}
use Rattle.job_state.specs.Chain.{ch_letters, rn_letters, ch_size, rn_size, ch_of, ch_step, rn_step, ch_rule, rn_rule}
use Rattle.job_state.specs.Retakes.{sh_letters, sq_letters, sh_size, sq_size, sh_of, sh_step, sq_step, sh_rule, sq_rule}
use Rattle.wire.proofs.Lists.{one_of_two}
use Rattle.job_state.proofs.Most.{ch-most, rn-most, sh-most, sq-most}
use Rattle.marks.specs.Marks.{Row, operation_rule, table, Listed, listed, look_up, longest_record, next_at}
use Rattle.marks.specs.Rows.{row_count}
use Rattle.marks.specs.History.{join_in, renew_in, event_on, shot_is, shot_on}

-- ---- for the letters k and their rule a
pub record Sound (k : ℕ) (a : RecordRule) : Type 0 where
  pub least : 2 ≤ a.bytes
  pub size : a.bytes ≤ longest_record
  pub reply : (z : State) (r : List ℕ) → length (a.step z r).reply.bytes ≤ longest
  pub event : (z : State) (r : List ℕ) (h : List Event) → after binary64 (next_by a z r).running h
      ≡ after binary64 z.running (event_on k r h)
  pub shot : (z : State) (r : List ℕ) (h : List Sent) → after_shots (next_by a z r).sheets h
      ≡ after_shots z.sheets (shot_on k r h)

-- a cut record changes nothing
pick :
    (t : Bool) (z w : State) (h g : List Event) → after binary64 w.running h ≡ after binary64 z.running g →
    after binary64 (cond t z w).running h ≡ after binary64 z.running (cond t h g)
pick true z w h g e = refl
pick false z w h g e = e

pick_shot :
    (t : Bool) (z w : State) (h g : List Sent) → after_shots w.sheets h ≡ after_shots z.sheets g →
    after_shots (cond t z w).sheets h ≡ after_shots z.sheets (cond t h g)
pick_shot true z w h g e = refl
pick_shot false z w h g e = e

-- a record that changes one part leaves the other
beside : (t : Bool) (z : State) (s : Sheets) → (cond t z (record { running = z.running; sheets = s })).running
    ≡ z.running
beside true z s = refl
beside false z s = refl

before : (t : Bool) (z : State) (r : Running) → (cond t z (record { running = r; sheets = z.sheets })).sheets ≡ z.sheets
before true z r = refl
before false z r = refl

-- ---- an operation of the engine, whose letters are not CH's, RN's or SH's
other_event : (k : ℕ) (r : List ℕ) (h : List Event) → eqb k ch_letters ≡ false → eqb k rn_letters ≡ false →
    h ≡ event_on k r h
unfolding event_on
other_event k r h c n = sym (rw (c, n) refl)

other-shot : (k : ℕ) (r : List ℕ) (h : List Sent) → eqb k sh_letters ≡ false → h ≡ shot_on k r h
unfolding shot_on
other-shot k r h s = sym (rw s refl)

entry_sound : (f : Format) (e : Operation) (k : ℕ) → eqb k ch_letters ≡ false → eqb k rn_letters ≡ false →
    eqb k sh_letters ≡ false → Sound k (operation_rule f e)
unfolding next_by
entry_sound f e k c n s = record {
  least = omega arith;
  size = omega (arith, width-most f e);
  reply = λ z r. entry-most f e r;
  event =
      λ z r h. ap (λ (w : State). after binary64 w.running h) (one_of_two (ltb (length r) (operation_rule f e).bytes) z)
      ∙ ap (after binary64 z.running) (other_event k r h c n);
  shot =
      λ z r h. ap (λ (w : State). after_shots w.sheets h) (one_of_two (ltb (length r) (operation_rule f e).bytes) z)
      ∙ ap (after_shots z.sheets) (other-shot k r h s);
}

-- ---- the four records that read or change the state
ch_sound : Sound ch_letters ch_rule
unfolding next_by ch_step ch_of event_on join_in shot_on after
ch_sound = record {
  least = omega arith;
  size = omega arith;
  reply = λ z r. ch-most _;
  event = λ z r h. pick (ltb (length r) ch_size) z _ h _ refl;
  shot = λ z r h. ap (λ (x : Sheets). after_shots x h) (before (ltb (length r) ch_size) z _);
}

rn_sound : Sound rn_letters rn_rule
unfolding next_by rn_step event_on renew_in shot_on after
rn_sound = record {
  least = omega arith;
  size = omega arith;
  reply = λ z r. rn-most _;
  event = λ z r h. pick (ltb (length r) rn_size) z _ h _ refl;
  shot = λ z r h. ap (λ (x : Sheets). after_shots x h) (before (ltb (length r) rn_size) z _);
}

sh_sound : Sound sh_letters sh_rule
unfolding next_by sh_step sh_of event_on shot_on shot_is after_shots
sh_sound = record {
  least = omega arith;
  size = omega arith;
  reply = λ z r. sh-most _;
  event = λ z r h. ap (λ (x : Running). after binary64 x h) (beside (ltb (length r) sh_size) z _);
  shot = λ z r h. pick_shot (ltb (length r) sh_size) z _ h _ refl;
}

sq_sound : Sound sq_letters sq_rule
unfolding next_by sq_step event_on shot_on
sq_sound = record {
  least = omega arith;
  size = omega arith;
  reply = λ z r. sq-most _;
  event = λ z r h. ap (λ (w : State). after binary64 w.running h) (one_of_two (ltb (length r) sq_size) z);
  shot = λ z r h. ap (λ (w : State). after_shots w.sheets h) (one_of_two (ltb (length r) sq_size) z);
}

-- ---- for every row
infixr 67 ◌▸◌
data Each : List Row → Type 0 where
  none : Each []
  ◌▸◌ : {r : Row} {t : List Row} → Sound r.letters r.rule → Each t → Each (r ∷ t)

-- an operation's letters are not CH's, RN's or SH's, by computing
rows : Each table
rows =
    entry_sound binary64 Ex _ refl refl refl
    ▸ entry_sound binary64 Co _ refl refl refl
    ▸ entry_sound binary64 Pa _ refl refl refl
    ▸ entry_sound binary64 Ac _ refl refl refl
    ▸ entry_sound binary64 Mu _ refl refl refl
    ▸ entry_sound binary64 In _ refl refl refl
    ▸ entry_sound binary64 Ji _ refl refl refl
    ▸ entry_sound binary32 Ex _ refl refl refl
    ▸ entry_sound binary32 Co _ refl refl refl
    ▸ entry_sound binary32 Pa _ refl refl refl
    ▸ entry_sound binary32 Ac _ refl refl refl
    ▸ entry_sound binary32 Mu _ refl refl refl
    ▸ entry_sound binary32 In _ refl refl refl
    ▸ entry_sound binary32 Ji _ refl refl refl
    ▸ entry_sound binary64 Ar _ refl refl refl
    ▸ ch_sound
    ▸ rn_sound
    ▸ sh_sound
    ▸ sq_sound
    ▸ none

-- so for what is found, whose place is that of a row
abbrev At : ℕ → Listed → ℕ → Type 0
At k l n = (l.place < n) × Sound k l.rule

found-row : (k : ℕ) (l : Listed) (t : List Row) (n : ℕ) → Each t → look_up k n t ≡ answers l → At k l (n + length t)
unfolding look_up
found-row k l [] n none e = absurd (cc)
found-row k l (r ∷ t) n (s ▸ g) e = by (eqb k r.letters) refl (found-row k l t (n + 1) g)
  where
    by : (b : Bool) → eqb k r.letters ≡ b → (look_up k (n + 1) t ≡ answers l → At k l (n + 1 + length t)) →
        At k l (n + length (r ∷ t))
    by true b rest =
        let q : answers (listed n r.rule) ≡ answers l = rw b at e in
        let w : listed n r.rule ≡ l = cc in
        rw (← w) (omega arith, rw (eqb-true k r.letters b) s)
    by false b rest = let w = rest (rw b at e) in (omega (arith, w.0), w.1)

-- letters that are in no row are not those of a row
listing : Answer Listed → Bool
listing (answers l) = true
listing (refuses k) = false

absent : (k c n : ℕ) → look_up k 0 table ≡ refuses n → listing (look_up c 0 table) ≡ true → eqb k c ≡ false
unfolding listing
absent k c n e a = by (eqb k c) refl
  where
    by : (b : Bool) → eqb k c ≡ b → eqb k c ≡ false
    by true b = absurd (false≢true (rw (← (eqb-true k c b), e) at a))
    by false b = b

-- ---- for any two letters
abbrev pub Good : ℕ → Answer Listed → Type 0
Good k (answers l) = (l.place < row_count) × Sound k l.rule
Good k (refuses n) = (eqb k ch_letters ≡ false) × (eqb k rn_letters ≡ false) × (eqb k sh_letters ≡ false)

good_by : (k : ℕ) (v : Answer Listed) → look_up k 0 table ≡ v → Good k v
unfolding look_up listing
good_by k (answers l) e = let w = found-row k l table 0 rows e in (omega (arith, w.0), w.1)
good_by k (refuses n) e = (absent k ch_letters n e refl, absent k rn_letters n e refl, absent k sh_letters n e refl)

pub good : (k : ℕ) → Good k (look_up k 0 table)
good k = good_by k (look_up k 0 table) refl

-- letters in no row leave the state as it is, and bring no event and no shot
pub event_at : (k : ℕ) (v : Answer Listed) → Good k v → (z : State) (r : List ℕ) (h : List Event) →
    after binary64 (next_at v z r).running h ≡ after binary64 z.running (event_on k r h)
unfolding next_at
event_at k (answers l) g z r h = g.1.event z r h
event_at k (refuses n) g z r h = ap (after binary64 z.running) (other_event k r h g.0 g.1)

pub shot-at : (k : ℕ) (v : Answer Listed) → Good k v → (z : State) (r : List ℕ) (h : List Sent) →
    after_shots (next_at v z r).sheets h ≡ after_shots z.sheets (shot_on k r h)
unfolding next_at
shot-at k (answers l) g z r h = g.1.shot z r h
shot-at k (refuses n) g z r h = ap (after_shots z.sheets) (other-shot k r h g.2)
