-- After any records of bytes the running pose is that of the plain history of the CH and RN among them, and the shot
-- kept for a sheet is the one with the highest take among its accepted SH: a record changes the state as its event
-- does, and two bytes are a number of 16 bits. Assumes nothing.
use Prim.Native.Nat.{ℕ, ◌+◌, ◌*◌, ◌<◌}
use mathlib.Core.Path.{◌≡◌, refl, ap, ◌∙◌}
use mathlib.Core.Bool.{Bool, true, false, cond}
use mathlib.Core.List.{List, [], ◌∷◌, ◌++◌}
use native.Mathlib.Omega.{arith}
use lib.ListN.{length, take, drop}
use lib.Dec.{eqb, ltb}
use lib.Ieee.{Float, binary64}
use Rattle.frames.specs.Floats.{Pose}
use Rattle.wire.specs.Wire.{word_of, word_at}
use Rattle.running.specs.History.{Event, join, renew, after, Small}
use Rattle.running.specs.declared.Running.{Running}
use Rattle.running.proofs.Past.{history}
use Rattle.sheets.specs.Sheets.{kept_below, sheet_numbers, Sheets, no_sheets}
use Rattle.sheets.specs.Back.{Bytes}
use Rattle.sheets.specs.History.{Sent, after as after_shots, Highest, Small as SmallShots}
use Rattle.sheets.proofs.Back.{bytes_take, bytes_drop}
use Rattle.sheets.proofs.Past.{history as shots_history}
use Rattle.sheets.proofs.Highest.{highest-is}
use Rattle.sheets.proofs.Counted.{counted}
use Rattle.job_state.specs.State.{State, state_none}
use Rattle.job_state.specs.Chain.{ch_letters, rn_letters, ch_size, rn_size}
use Rattle.job_state.specs.Retakes.{sh_letters, sh_size}
use Rattle.marks.specs.Marks.{mark_of, next_of}
use Rattle.marks.specs.History.{kept_after, join_in, renew_in, event_on, event_in, events_of, shot_is, shot_on}
use Rattle.marks.specs.History.{shot_from}
use Rattle.marks.specs.History.{shots_of, pose_after, accepted_of, sheet_after, sheet_count, KeptAfter}
use Rattle.marks.proofs.Table.{good, event_at, shot-at}

-- ---- the running join
event_in_lem :
    (z : State) (r : List ℕ) (h : List Event) →
    after binary64 (next_of z r).running h ≡ after binary64 z.running (event_in r h)
unfolding next_of event_in mark_of
event_in_lem z [] h = refl
event_in_lem z (a ∷ []) h = refl
event_in_lem z (a ∷ b ∷ s) h = event_at (a * 256 + b) (mark_of a b) (good (a * 256 + b)) z (a ∷ b ∷ s) h

kept : (rs : List (List ℕ)) (z : State) → (kept_after z rs).running ≡ after binary64 z.running (events_of rs)
unfolding kept_after events_of after
kept [] z = refl
kept (r ∷ rs) z = kept rs (next_of z r) ∙ event_in_lem z r (events_of rs)

-- ---- the retaken sheets
shot-from :
    (z : State) (r : List ℕ) (h : List Sent) → after_shots (next_of z r).sheets h ≡ after_shots z.sheets (shot_from r h)
unfolding next_of shot_from mark_of
shot-from z [] h = refl
shot-from z (a ∷ []) h = refl
shot-from z (a ∷ b ∷ s) h = shot-at (a * 256 + b) (mark_of a b) (good (a * 256 + b)) z (a ∷ b ∷ s) h

shots : (rs : List (List ℕ)) (z : State) → (kept_after z rs).sheets ≡ after_shots z.sheets (shots_of rs)
unfolding kept_after shots_of after_shots
shots [] z = refl
shots (r ∷ rs) z = shots rs (next_of z r) ∙ shot-from z r (shots_of rs)

-- ---- what holds of each of some records
abbrev pub Each : (List ℕ → Type 0) → List (List ℕ) → Type 0
Each P [] = Unit {0}
Each P (r ∷ rs) = P r × Each P rs

module _ (P Q : List ℕ → Type 0) where
  pub each_map : ((r : List ℕ) → P r → Q r) → (rs : List (List ℕ)) → Each P rs → Each Q rs
  each_map f [] e = tt
  each_map f (r ∷ rs) e = (f r e.0, each_map f rs e.1)

module _ (P : List ℕ → Type 0) where
  pub each_first : (rs ts : List (List ℕ)) → Each P (rs ++ ts) → Each P rs
  each_first [] ts e = tt
  each_first (r ∷ rs) ts e = (e.0, each_first rs ts e.1)

  pub each_last : (rs ts : List (List ℕ)) → Each P (rs ++ ts) → Each P ts
  each_last [] ts e = e
  each_last (r ∷ rs) ts e = each_last rs ts e.1

-- ---- two bytes are a number of 16 bits
two_small : (b : List ℕ) → Bytes b → word_of (take 2 b) < 65536
unfolding Bytes word_of
two_small [] h = omega arith
two_small (x ∷ []) h = omega (arith, h.0)
two_small (x ∷ y ∷ b) h = omega (arith, h.0, h.1.0)

word_small : (b : List ℕ) (at : ℕ) → Bytes b → word_at 2 b at < 65536
unfolding word_at
word_small b at h = two_small (drop at b) (bytes_drop at b h)

-- also after a mark
behind_small : (k : ℕ) (r : List ℕ) → Bytes r → word_at 2 (drop 2 (take k r)) 0 < 65536
behind_small k r b = word_small (drop 2 (take k r)) 0 (bytes_drop 2 (take k r) (bytes_take k r b))

-- so is the n of each RN
join_small : (t : Bool) (x : Pose) (up : Float) (h : List Event) → Small h → Small (cond t h (join x up ∷ h))
unfolding Small
join_small true x up h s = s
join_small false x up h s = s

renew_small : (t : Bool) (n : ℕ) (h : List Event) → n < 65536 → Small h → Small (cond t h (renew n ∷ h))
unfolding Small
renew_small true n h l s = s
renew_small false n h l s = (l, s)

event_by :
    (c n : Bool) (r : List ℕ) (h : List Event) → Bytes r → Small h →
    Small (cond c (join_in r h) (cond n (renew_in r h) h))
unfolding join_in renew_in
event_by true n r h b s = join_small (ltb (length r) ch_size) _ _ h s
event_by false true r h b s = renew_small (ltb (length r) rn_size) _ h (behind_small rn_size r b) s
event_by false false r h b s = s

event_small : (r : List ℕ) (h : List Event) → Bytes r → Small h → Small (event_in r h)
unfolding event_in event_on
event_small [] h b s = s
event_small (x ∷ []) h b s = s
event_small (x ∷ y ∷ r) h b s = event_by (eqb (x * 256 + y) ch_letters) (eqb (x * 256 + y) rn_letters) (x ∷ y ∷ r) h b s

events_small : (rs : List (List ℕ)) → Each Bytes rs → Small (events_of rs)
unfolding events_of Small
events_small [] e = tt
events_small (r ∷ rs) e = event_small r (events_of rs) e.0 (events_small rs e.1)

-- and the sheet of each SH
shot-is_small :
    (t : Bool) (x : Sent) (h : List Sent) → x.sheet < 65536 → SmallShots h → SmallShots (cond t h (x ∷ h))
unfolding SmallShots
shot-is_small true x h l s = s
shot-is_small false x h l s = (l, s)

shot_by : (c : Bool) (r : List ℕ) (h : List Sent) → Bytes r → SmallShots h → SmallShots (cond c (shot_is r h) h)
unfolding shot_is
shot_by true r h b s = shot-is_small (ltb (length r) sh_size) _ h (behind_small sh_size r b) s
shot_by false r h b s = s

shot_small : (r : List ℕ) (h : List Sent) → Bytes r → SmallShots h → SmallShots (shot_from r h)
unfolding shot_from shot_on
shot_small [] h b s = s
shot_small (x ∷ []) h b s = s
shot_small (x ∷ y ∷ r) h b s = shot_by (eqb (x * 256 + y) sh_letters) (x ∷ y ∷ r) h b s

shots_small : (rs : List (List ℕ)) → Each Bytes rs → SmallShots (shots_of rs)
unfolding shots_of SmallShots
shots_small [] e = tt
shots_small (r ∷ rs) e = shot_small r (shots_of rs) e.0 (shots_small rs e.1)

-- ---- any records
pose-after : (rs : List (List ℕ)) → Each Bytes rs → (kept_after state_none rs).running.pose ≡ pose_after rs
unfolding pose_after
pose-after rs e =
    ap (λ (r : Running). r.pose) (kept rs state_none) ∙ history binary64 (events_of rs) (events_small rs e)

sheet_past : (rs : List (List ℕ)) (n : ℕ) → (after_shots no_sheets (shots_of rs)).at n ≡ sheet_after rs n
unfolding sheet_after accepted_of
sheet_past rs n = (shots_history (shots_of rs) n).0

count_past : (rs : List (List ℕ)) → Each Bytes rs → (after_shots no_sheets (shots_of rs)).count ≡ sheet_count rs
unfolding sheet_count
count_past rs e =
    (counted (shots_of rs) (shots_small rs e)).0 ∙ (λ i. kept_below (λ n. sheet_past rs n i) sheet_numbers)

highest-after : (rs : List (List ℕ)) (n : ℕ) → Highest n (accepted_of rs) (sheet_after rs n)
unfolding sheet_after
highest-after rs n = highest-is (accepted_of rs) n

pub kept-after : (rs : List (List ℕ)) → Each Bytes rs → KeptAfter rs
kept-after rs e = record {
  pose = pose-after rs e;
  sheet = λ n. ap (λ (s : Sheets). s.at n) (shots rs state_none) ∙ sheet_past rs n;
  highest = highest-after rs;
  count = ap (λ (s : Sheets). s.count) (shots rs state_none) ∙ count_past rs e;
  few = omega (arith, (counted (shots_of rs) (shots_small rs e)).1, count_past rs e);
}
