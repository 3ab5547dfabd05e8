-- The replies to CH, RN, SH and SQ after any records of bytes follow from the plain history of those records. Assumes
-- nothing.
use Rattle.std.specs.Prelude.{None, Some}
use Prim.Native.Nat.{ℕ, ◌<◌}
use mathlib.Core.Path.{◌≡◌, refl, sym, ap, subst, ◌∙◌}
use mathlib.Core.Bool.{Bool, true, false}
use mathlib.Core.List.{List, [], ◌∷◌, ◌++◌, append-nil}
use native.Mathlib.Omega.{arith}
use borrow.Author.Tests.{lt-ltb, le-ltb, eq-eqb, ne_eqb}
use lib.ListN.{length, take, drop}
use lib.Seq.{take_all, length-take-le}
use lib.Ieee.{Float, binary64}
use Rattle.linalg.specs.Answer.{Answer, answers, refuses}
use Rattle.frames.specs.Pose.{framed_renormalized}
use Rattle.frames.specs.Joins.{framed_mul}
use Rattle.frames.specs.Floats.{Pose}
use Rattle.running.specs.Running.{Start, due, Joint, produced_of, product_on, join_on}
use Rattle.running.specs.declared.Running.{Running}
use Rattle.wire.specs.Wire.{word_at, word_bytes, number_at, item_bytes, items_bytes}
use Rattle.record_result.specs.RecordResult.{mark_bytes, no_bytes, reply_of}
use Rattle.record_result.specs.Framed.{framed_in, framed_items, framed_width}
use Rattle.sheets.specs.Sheets.{Kept, none, kept, Sheets, most, same_take, no_room, never_kept}
use Rattle.sheets.specs.Sheets.{Shelved, shelved, shelve_on, shelve, ask_on, ask}
use Rattle.sheets.specs.Store.{shot_in}
use Rattle.sheets.specs.Back.{Bytes}
use Rattle.sheets.specs.declared.Shot.{Shot}
use Rattle.sheets.proofs.Back.{bytes_take, word_of_lem}
use Rattle.job_state.specs.State.{State, state_none}
use Rattle.job_state.specs.Chain.{ch_of, ch_step, ch_reply, rn_step, rn_reply, ch_rule, rn_rule}
use Rattle.job_state.specs.Retakes.{sh_of, sh_step, sh_reply, sq_step, sq_reply, sh_rule, sq_rule}
use Rattle.marks.specs.Marks.{listed, look_up, mark_of, next_of}
use Rattle.marks.specs.History.{kept_after, pose_after, sheet_after, sheet_count, KeptAfter}
use Rattle.marks.specs.Answers.{reply_after, Accepts, ChAnswered, ShAnswered, SqAnswered, RecordAnswered}
use Rattle.marks.proofs.Whole.{Whole, whole-size, whole-reply, whole-next}

-- ---- their rows in the table
ch-row : mark_of 0x43 0x48 ≡ answers (listed 15 ch_rule)
unfolding mark_of look_up
ch-row = refl

rn-row : mark_of 0x52 0x4e ≡ answers (listed 16 rn_rule)
unfolding mark_of look_up
rn-row = refl

sh-row : mark_of 0x53 0x48 ≡ answers (listed 17 sh_rule)
unfolding mark_of look_up
sh-row = refl

sq-row : mark_of 0x53 0x51 ≡ answers (listed 18 sq_rule)
unfolding mark_of look_up
sq-row = refl

-- ---- the state after one more record
pub kept_more : (z : State) (rs : List (List ℕ)) (r : List ℕ) →
    kept_after z (rs ++ (r ∷ [])) ≡ next_of (kept_after z rs) r
unfolding kept_after
kept_more z [] r = refl
kept_more z (x ∷ rs) r = kept_more (next_of z x) rs r

-- ---- CH
module _ (r : Running) (x : Pose) (up : Float) where
  abbrev Joined : Joint → Type 0
  Joined j = (y : Pose) × ((j.running.pose ≡ Some y) × (j.answer ≡ answers y))

  produced_by : (p : Pose) (n k : ℕ) (t : Bool) → due n k ≡ t → Joined (produced_of binary64 p n k)
  unfolding produced_of
  produced_by p n k true t = rw t (framed_renormalized binary64 p, (refl, refl))
  produced_by p n k false t = rw t (p, (refl, refl))

  joined : (s : Start) → Accepts s x → Joined (join_on binary64 s r x up)
  unfolding join_on product_on framed_mul
  joined None a = (x, (refl, refl))
  joined (Some p) a = rw (eq-eqb p.from x.to a) (produced_by _ _ _ _ refl)

  apart : (s : Start) → (Accepts s x → ⊥) → (join_on binary64 s r x up).answer ≡ refuses 9
  unfolding join_on product_on framed_mul
  apart None n = absurd (n tt)
  apart (Some p) n = rw (ne_eqb p.from x.to n) refl

abbrev ch_view : Answer Pose → List ℕ
ch_view a = (ch_reply a).bytes

ch-view : (y : Pose) → (ch_reply (answers y)).bytes ≡ mark_bytes 0x43 0x48 ++ items_bytes binary64 (framed_items y)
unfolding ch_reply reply_of
ch-view y = refl

ch-refused : (k : ℕ) → (ch_reply (refuses k)).bytes ≡ no_bytes k
unfolding ch_reply reply_of
ch-refused k = refl

-- ---- SH, by what is kept for its sheet
module _ (s : Sheets) (n : ℕ) (x : Shot) where
  is-new : s.count < most → (shelve_on none s n x).answer ≡ shelved 1 0
  unfolding shelve_on
  is-new l = rw (lt-ltb s.count most l)

  is-full : s.count ≡ most → (shelve_on none s n x).answer ≡ refuses no_room
  unfolding shelve_on
  is-full e = rw (le-ltb s.count most (omega (arith, e)))

  is_same : (o : Shot) → x.take ≡ o.take → (shelve_on (kept o) s n x).answer ≡ refuses same_take
  unfolding shelve_on
  is_same o e = rw (eq-eqb x.take o.take e)

  is-higher : (o : Shot) → o.take < x.take → (shelve_on (kept o) s n x).answer ≡ shelved 2 o.take
  unfolding shelve_on
  is-higher o l = rw (ne_eqb x.take o.take (λ e. absurd (omega (arith, e, l))), lt-ltb o.take x.take l)

  is_lower : (o : Shot) → x.take < o.take → (shelve_on (kept o) s n x).answer ≡ shelved 3 o.take
  unfolding shelve_on
  is_lower o l =
      rw (ne_eqb x.take o.take (λ e. absurd (omega (arith, e, l))), le-ltb o.take x.take (omega (arith, l)))

-- ---- after the records rs
module _ (rs : List (List ℕ)) (k : KeptAfter rs) where
  abbrev before : State
  before = kept_after state_none rs

  module _ (b : List ℕ) where
    abbrev ch_record : List ℕ
    ch_record = 0x43 ∷ 0x48 ∷ b

    abbrev ch_pose : Pose
    ch_pose = framed_in binary64 b

    abbrev ch_up : Float
    ch_up = number_at binary64 (drop (framed_width binary64) b) 0

    abbrev ch_joint : Joint
    ch_joint = ch_of before.running b

    ch-reply : Whole ch_record → reply_after rs ch_record ≡ (ch_reply ch_joint.answer).bytes
    unfolding ch_step
    ch-reply w = whole-reply 0x43 0x48 b (listed 15 ch_rule) ch-row w before

    ch_behind :
        Whole ch_record → KeptAfter (rs ++ (ch_record ∷ [])) →
        pose_after (rs ++ (ch_record ∷ [])) ≡ ch_joint.running.pose
    unfolding ch_step
    ch_behind w m =
        let e = kept_more state_none rs ch_record ∙ whole-next 0x43 0x48 b (listed 15 ch_rule) ch-row w before in
        sym m.pose ∙ ap (λ (z : State). z.running.pose) e

    ch-answered :
        Whole ch_record → KeptAfter (rs ++ (ch_record ∷ [])) →
        ChAnswered (pose_after rs) ch_pose (pose_after (rs ++ (ch_record ∷ []))) (reply_after rs ch_record)
    unfolding ch_of
    ch-answered w m = record {
      joins = λ a.
          let s = subst (λ (s : Start). Accepts s ch_pose) (sym k.pose) a in
          let j = joined before.running ch_pose ch_up before.running.pose s in
          (j.0, (ch_behind w m ∙ j.1.0, ch-reply w ∙ ap ch_view j.1.1 ∙ ch-view j.0));
      apart = λ n.
          let u : Accepts before.running.pose ch_pose → ⊥
          = λ a. n (subst (λ (s : Start). Accepts s ch_pose) k.pose a) in
          let j = apart before.running ch_pose ch_up before.running.pose u in
          ch-reply w ∙ ap ch_view j ∙ ch-refused 9;
    }

    -- ---- RN
    abbrev rn_record : List ℕ
    rn_record = 0x52 ∷ 0x4e ∷ b

    rn-view : (n : ℕ) → (rn_reply n).bytes ≡ mark_bytes 0x52 0x4e ++ (word_bytes 2 n ++ [])
    unfolding rn_reply reply_of items_bytes item_bytes
    rn-view n = refl

    rn-answered : Whole rn_record → Bytes b → reply_after rs rn_record ≡ mark_bytes 0x52 0x4e ++ b
    unfolding rn_step word_at
    rn-answered w h =
        let n = whole-size 0x52 0x4e b (listed 16 rn_rule) rn-row w in
        let t : length (take 2 b) ≡ 2 = length-take-le 2 b (omega (arith, n)) in
        let a : take 2 b ≡ b = take_all 2 b (omega (arith, n)) in
        let m : word_bytes 2 (word_at 2 b 0) ≡ b = word_of_lem 2 (take 2 b) (bytes_take 2 b h) t ∙ a in
        whole-reply 0x52 0x4e b (listed 16 rn_rule) rn-row w before
        ∙ rn-view (word_at 2 b 0)
        ∙ ap (λ (l : List ℕ). mark_bytes 0x52 0x4e ++ l) (append-nil (word_bytes 2 (word_at 2 b 0)) ∙ m)

    -- ---- SH
    abbrev sh_record : List ℕ
    sh_record = 0x53 ∷ 0x48 ∷ b

    abbrev sheet : ℕ
    sheet = word_at 2 b 0

    abbrev answer_by : Kept → Answer Shelved
    answer_by o = (shelve_on o before.sheets sheet (shot_in b)).answer

    sh-reply :
        Whole sh_record → (o : Kept) → sheet_after rs sheet ≡ o →
        reply_after rs sh_record ≡ (sh_reply (answer_by o)).bytes
    unfolding sh_step sh_of shelve
    sh-reply w o e =
        whole-reply 0x53 0x48 b (listed 17 sh_rule) sh-row w before
        ∙ ap (λ (x : Kept). (sh_reply (answer_by x)).bytes) (k.sheet sheet ∙ e)

    sh-view : (how t : ℕ) → (sh_reply (shelved how t)).bytes
        ≡ mark_bytes 0x53 0x48 ++ (word_bytes 1 how ++ word_bytes 2 t)
    unfolding sh_reply reply_of items_bytes item_bytes
    sh-view how t = ap (λ (l : List ℕ). mark_bytes 0x53 0x48 ++ (word_bytes 1 how ++ l)) (append-nil (word_bytes 2 t))

    sh-refused : (n : ℕ) → (sh_reply (refuses n)).bytes ≡ no_bytes n
    unfolding sh_reply reply_of
    sh-refused n = refl

    abbrev sh_view : Answer Shelved → List ℕ
    sh_view a = (sh_reply a).bytes

    abbrev stored : Sheets
    stored = before.sheets

    sh-answered :
        Whole sh_record → ShAnswered (sheet_after rs sheet) (sheet_count rs) (word_at 2 b 2) (reply_after rs sh_record)
    unfolding word_bytes shot_in
    sh-answered w = record {
      new = λ e l.
          sh-reply w none e ∙ ap sh_view (is-new stored sheet (shot_in b) (omega (arith, l, k.count))) ∙ sh-view 1 0;
      full =
          λ e l. sh-reply w none e ∙ ap sh_view (is-full stored sheet (shot_in b) (k.count ∙ l)) ∙ sh-refused no_room;
      same = λ o e q. sh-reply w (kept o) e ∙ ap sh_view (is_same stored sheet (shot_in b) o q) ∙ sh-refused same_take;
      replaces = λ o e l.
          sh-reply w (kept o) e ∙ ap sh_view (is-higher stored sheet (shot_in b) o l) ∙ sh-view 2 o.take;
      older = λ o e l. sh-reply w (kept o) e ∙ ap sh_view (is_lower stored sheet (shot_in b) o l) ∙ sh-view 3 o.take;
    }

    -- ---- SQ
    abbrev sq_record : List ℕ
    sq_record = 0x53 ∷ 0x51 ∷ b

    sq-reply : Whole sq_record → (o : Kept) → sheet_after rs sheet ≡ o →
        reply_after rs sq_record ≡ (sq_reply (ask_on o)).bytes
    unfolding sq_step ask
    sq-reply w o e =
        whole-reply 0x53 0x51 b (listed 18 sq_rule) sq-row w before
        ∙ ap (λ (x : Kept). (sq_reply (ask_on x)).bytes) (k.sheet sheet ∙ e)

    sq-view :
        (o : Shot) →
        (sq_reply (ask_on (kept o))).bytes
        ≡ mark_bytes 0x53 0x51 ++ (word_bytes 2 o.take ++ items_bytes binary64 (framed_items o.pose))
    unfolding sq_reply reply_of ask_on items_bytes item_bytes
    sq-view o = refl

    sq-refused : (sq_reply (ask_on none)).bytes ≡ no_bytes never_kept
    unfolding sq_reply reply_of ask_on
    sq-refused = refl

    sq-answered : Whole sq_record → SqAnswered (sheet_after rs sheet) (reply_after rs sq_record)
    sq-answered w = record {
      found = λ o e. sq-reply w (kept o) e ∙ sq-view o;
      never = λ e. sq-reply w none e ∙ sq-refused;
    }

  -- ---- each of them
  pub answered : (r : List ℕ) → Whole r → Bytes r → KeptAfter (rs ++ (r ∷ [])) → RecordAnswered rs r
  unfolding mark_bytes Bytes
  answered r w h m = record {
    ch = λ b e. rw e (ch-answered b (rw e at w) (rw e at m));
    rn = λ b e. let q : Bytes (0x52 ∷ 0x4e ∷ b) = rw e at h in rw e (rn-answered b (rw e at w) q.1.1);
    sh = λ b e. rw e (sh-answered b (rw e at w));
    sq = λ b e. rw e (sq-answered b (rw e at w));
  }
