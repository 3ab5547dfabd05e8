-- The lists of a running join hold the running join of crate `running`, call by call. Assumes nothing.
use Prim.Native.Nat.{ℕ}
use mathlib.Core.Path.{◌≡◌, refl, sym, ap, subst, ◌∙◌}
use mathlib.Core.Bool.{Bool, true, false, cond, ◌&&◌}
use mathlib.Core.List.{List, [], ◌∷◌}
use native.Mathlib.Omega.{arith}
use lib.Dec.{T, eqb, eqb→eq}
use lib.ListN.{get_or, set, length}
use lib.Ieee.{Float, Format}
use Rattle.linalg.specs.Answer.{Answer, answers, refuses, and_then}
use Rattle.linalg.specs.Vector.{vec_numbers}
use Rattle.linalg.proofs.Answers.{never, answers-is}
use Rattle.frames.specs.Pose.{framed}
use Rattle.frames.specs.Joins.{framed_mul}
use Rattle.frames.specs.Floats.{Pose}
use Rattle.running.specs.Running.{Start, Joint, due, one_more, produced_of, product_on, join_on, join_of, every_of}
use Rattle.running.specs.Running.{running_none}
use Rattle.std.specs.Prelude.{Some, None}
use Rattle.running.specs.declared.Running.{Running}
use Rattle.sim3.specs.Floats.{Sim3}
use Rattle.layout.specs.Layout.{pose_count, vec_in, quat_in, pose_in, quat_numbers, pose_numbers}
use Rattle.layout.specs.Lists.{wrong_length, PoseLists}
use Rattle.from_lists.specs.Lists.{sized, pose_from, framed_from}
use Rattle.sim3_c_doubles.specs.Join.{RunLists, run_lists, state_count, start_in, running_from, run_fitting}
use Rattle.sim3_c_doubles.specs.Join.{joint_fitting, held_lists, zero_pose, start_call, push_call, every_call}
use Rattle.sim3_c_doubles.specs.Join.{HeldTheorem}

-- ---- what is written reads back
held_lists_lem : (x : Pose) (n k s : ℕ) → running_from (held_lists x n k s)
    ≡ answers (record { pose = start_in x s; every = n; since = k })
unfolding running_from pose_from sized pose_in quat_in vec_in pose_numbers quat_numbers vec_numbers
held_lists_lem x n k s = refl

passed : {A : Type 0} (t : Bool) (a l : A) (m : ℕ) → cond t (answers a) (refuses m) ≡ answers l → (t ≡ true) × (l ≡ a)
passed true a l m h = (refl, sym (answers-is a l h))
passed false a l m h = never l m (sym h)

fitted : (out l : RunLists) (x : Pose) (n k s : ℕ) → run_fitting out x n k s ≡ answers l →
    running_from l ≡ answers (record { pose = start_in x s; every = n; since = k })
unfolding run_fitting
fitted out l x n k s h =
    let t = eqb (length out.numbers) pose_count && eqb (length out.state) state_count in
    ap running_from (passed t (held_lists x n k s) l wrong_length h).1 ∙ held_lists_lem x n k s

-- ---- the pose in the result is the running pose
produced_stands : (f : Format) (y p : Pose) (n k : ℕ) (t : Bool) → due n k ≡ t →
    (produced_of f y n k).answer ≡ answers p → (produced_of f y n k).running.pose ≡ Some p
unfolding produced_of
produced_stands f y p n k true d h = rw d (ap Some (answers-is _ p (rw d at h)))
produced_stands f y p n k false d h = rw d (ap Some (answers-is _ p (rw d at h)))

product-stands : (f : Format) (r : Running) (a : Answer Pose) (p : Pose) → (product_on f r a).answer ≡ answers p →
    (product_on f r a).running.pose ≡ Some p
unfolding product_on
product-stands f r (answers y) p h =
    produced_stands f y p r.every (one_more r.since) (due r.every (one_more r.since)) refl h
product-stands f r (refuses e) p h = never p e (sym h)

join_stands : (f : Format) (s : Start) (r : Running) (x : Pose) (up : Float) (p : Pose) →
    (join_on f s r x up).answer ≡ answers p → (join_on f s r x up).running.pose ≡ Some p
unfolding join_on
join_stands f None r x up p h = ap Some (answers-is x p h)
join_stands f (Some q) r x up p h = product-stands f r (framed_mul f q x up) p h

joint_held :
    (out l : RunLists) (j : Joint) (a : Answer Pose) → j.answer ≡ a →
    ((p : Pose) → j.answer ≡ answers p → j.running.pose ≡ Some p) →
    joint_fitting out j ≡ answers l → running_from l ≡ answers j.running
unfolding joint_fitting start_in
joint_held out l j (answers p) e stands h =
    let n = j.running.every in
    let k = j.running.since in
    fitted out l p n k 1 (rw e at h) ∙ ap (λ (s : Start). answers (record { pose = s; every = n; since = k }))
    (sym (stands p e))
joint_held out l j (refuses m) e stands h = never l m (sym (rw e at h))

-- ---- a new n
five : (l : List ℕ) → length l ≡ 5 → l ≡ get_or l 0 0 ∷ get_or l 1 0 ∷ get_or l 2 0 ∷ get_or l 3 0 ∷ get_or l 4 0 ∷ []
five [] h = absurd (omega arith)
five (a ∷ []) h = absurd (omega arith)
five (a ∷ b ∷ []) h = absurd (omega arith)
five (a ∷ b ∷ c ∷ []) h = absurd (omega arith)
five (a ∷ b ∷ c ∷ d ∷ []) h = absurd (omega arith)
five (a ∷ b ∷ c ∷ d ∷ e ∷ []) h = refl
five (a ∷ b ∷ c ∷ d ∷ e ∷ g ∷ l) h = absurd (omega arith)

renewed_by :
    (q : Answer Sim3) (a b c d e n : ℕ) (r : Running) →
    and_then q (λ x. answers (record { pose = start_in (framed x a b) e; every = c; since = d })) ≡ answers r →
    and_then q (λ x. answers (record { pose = start_in (framed x a b) e; every = n; since = d }))
    ≡ answers (every_of r n)
renewed_by (answers x) a b c d e n r h = ap (λ (s : Running). answers (every_of s n)) (answers-is _ r h)
renewed_by (refuses m) a b c d e n r h = never r m (sym h)

renewed-at :
    (numbers : List Float) (a b c d e n : ℕ) (r : Running) →
    running_from (run_lists numbers (a ∷ b ∷ c ∷ d ∷ e ∷ [])) ≡ answers r →
    running_from (run_lists numbers (a ∷ b ∷ n ∷ d ∷ e ∷ [])) ≡ answers (every_of r n)
unfolding running_from sized
renewed-at numbers a b c d e n r h = renewed_by (pose_from numbers) a b c d e n r h

state-renewed :
    (numbers : List Float) (state : List ℕ) (n : ℕ) (r : Running) → length state ≡ 5 →
    running_from (run_lists numbers state) ≡ answers r →
    running_from (run_lists numbers (set state 2 n)) ≡ answers (every_of r n)
state-renewed numbers state n r w h =
    let e = five state w in
    subst (λ (l : List ℕ). running_from (run_lists numbers (set l 2 n)) ≡ answers (every_of r n)) (sym e)
    (renewed-at numbers _ _ _ _ _ n r (subst (λ (l : List ℕ). running_from (run_lists numbers l) ≡ answers r) e h))

renews :
    (numbers : List Float) (state k : List ℕ) (n : ℕ) (r : Running) →
    running_from (run_lists numbers state) ≡ answers r → every_call state n ≡ answers k →
    running_from (run_lists numbers k) ≡ answers (every_of r n)
unfolding every_call sized
renews numbers state k n r h g =
    let p = passed (eqb (length state) 5) (set state 2 n) k wrong_length g in
    let w : length state ≡ 5 = eqb→eq (length state) 5 (subst T (sym p.0) tt) in
    ap (λ (l : List ℕ). running_from (run_lists numbers l)) p.1 ∙ state-renewed numbers state n r w h

starts : (out l : RunLists) → start_call out ≡ answers l → running_from l ≡ answers running_none
unfolding start_call start_in
starts out l h = fitted out l zero_pose 0 0 0 h

pushes :
    (f : Format) (out l : RunLists) (x : PoseLists) (up : Float) (r : Running) (a : Pose) →
    running_from out ≡ answers r → framed_from x ≡ answers a →
    push_call f x up out ≡ answers l → running_from l ≡ answers (join_of f r a up).running
unfolding push_call
pushes f out l x up r a h g w =
    joint_held out l (join_of f r a up) (join_of f r a up).answer refl (join_stands f r.pose r a up) (rw (h, g) at w)

pub held : HeldTheorem
held = record { started = starts; pushed = pushes; renewed = renews }
