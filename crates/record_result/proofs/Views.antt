-- The result for the head of the input determines what is there. Assumes nothing.
use Prim.Native.Nat.{ℕ, ◌≤◌, ◌<◌}
use mathlib.Core.Path.{◌≡◌, refl}
use mathlib.Core.Bool.{Bool, true, false, cond}
use mathlib.Core.List.{List, []}
use native.Mathlib.Omega.{arith}
use borrow.Author.Tests.{ltb-true, ltb-false}
use lib.ListN.{length}
use lib.Dec.{ltb}
use Rattle.record_result.specs.declared.Disposition.{Disposition}
use Rattle.record_result.specs.RecordResult.{longest, unknown_mark, cut_record, InputHead, took, ended, unknown, cut}
use Rattle.record_result.specs.RecordResult.{RecordResult, wrote, roomless, over, refused, record_result, written_of}

-- a record was taken, and there was room for its answer
pub record Takes (f : InputHead) (room : ℕ) (q : Disposition) (k n : ℕ) : Type 0 where
  pub found : f ≡ took q k (written_of f room)
  pub long : length (written_of f room) ≡ n
  pub roomy : longest ≤ room

takes_by :
    (t : Bool) (room : ℕ) (a q : Disposition) (j k n : ℕ) (b : List ℕ) → ltb room longest ≡ t →
    cond t roomless (wrote a j (length b)) ≡ wrote q k n →
    (took a j b ≡ took q k (cond t [] b)) × (length (cond t [] b) ≡ n) × (longest ≤ room)
takes_by true room a q j k n b t e = absurd (cc)
takes_by false room a q j k n b t e = (cc, cc, ltb-false room longest t)

pub view-took : (f : InputHead) (room : ℕ) (q : Disposition) (k n : ℕ) → record_result f room ≡ wrote q k n →
    Takes f room q k n
unfolding record_result written_of
view-took (took a j b) room q k n e =
    let t = takes_by (ltb room longest) room a q j k n b refl e in record { found = t.0; long = t.1; roomy = t.2 }
view-took ended room q k n e = absurd (cc)
view-took unknown room q k n e = absurd (cc)
view-took cut room q k n e = absurd (cc)

-- no room: nothing is written
room_by : (t : Bool) (room : ℕ) (a : Disposition) (j : ℕ) (b : List ℕ) → ltb room longest ≡ t →
    cond t roomless (wrote a j (length b)) ≡ roomless → (room < longest) × (cond t [] b ≡ [])
room_by true room a j b t e = (ltb-true room longest t, refl)
room_by false room a j b t e = absurd (cc)

pub told_room : (f : InputHead) (room : ℕ) → record_result f room ≡ roomless →
    (room < longest) × (written_of f room ≡ [])
unfolding record_result written_of
told_room (took a j b) room e = room_by (ltb room longest) room a j b refl e
told_room ended room e = absurd (cc)
told_room unknown room e = absurd (cc)
told_room cut room e = absurd (cc)

-- the stops
took-apart : {A : Type 0} (t : Bool) (a : Disposition) (j n : ℕ) (x : RecordResult) →
    cond t roomless (wrote a j n) ≡ x → (roomless ≡ x → A) → (wrote a j n ≡ x → A) → A
took-apart true a j n x e g h = g e
took-apart false a j n x e g h = h e

pub view-ended : (f : InputHead) (room : ℕ) → record_result f room ≡ over → f ≡ ended
unfolding record_result
view-ended (took a j b) room e =
    took-apart (ltb room longest) a j (length b) over e (λ q. absurd (cc)) (λ q. absurd (cc))
view-ended ended room e = refl
view-ended unknown room e = absurd (cc)
view-ended cut room e = absurd (cc)

pub view-unknown : (f : InputHead) (room : ℕ) → record_result f room ≡ refused unknown_mark → f ≡ unknown
unfolding record_result
view-unknown (took a j b) room e =
    took-apart (ltb room longest) a j (length b) (refused unknown_mark) e (λ q. absurd (cc)) (λ q. absurd (cc))
view-unknown ended room e = absurd (cc)
view-unknown unknown room e = refl
view-unknown cut room e = let n : cut_record ≡ unknown_mark = cc in absurd (omega arith)

pub view-cut : (f : InputHead) (room : ℕ) → record_result f room ≡ refused cut_record → f ≡ cut
unfolding record_result
view-cut (took a j b) room e =
    took-apart (ltb room longest) a j (length b) (refused cut_record) e (λ q. absurd (cc)) (λ q. absurd (cc))
view-cut ended room e = absurd (cc)
view-cut unknown room e = let n : unknown_mark ≡ cut_record = cc in absurd (omega arith)
view-cut cut room e = refl

-- nothing is written for them
pub stop_bytes : (f : InputHead) (room : ℕ) → (f ≡ ended → written_of f room ≡ [])
    × (f ≡ unknown → written_of f room ≡ []) × (f ≡ cut → written_of f room ≡ [])
unfolding written_of
stop_bytes (took a j b) room = (λ e. absurd (cc), λ e. absurd (cc), λ e. absurd (cc))
stop_bytes ended room = (λ e. refl, λ e. refl, λ e. refl)
stop_bytes unknown room = (λ e. refl, λ e. refl, λ e. refl)
stop_bytes cut room = (λ e. refl, λ e. refl, λ e. refl)
