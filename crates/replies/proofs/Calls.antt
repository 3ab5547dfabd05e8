-- For each mark, the result of the call on lists is the job's answer to the same bytes; in either format. Assumes
-- nothing.
use Prim.Native.Nat.{ℕ, ◌+◌, ◌*◌, ◌<◌}
use mathlib.Core.Path.{◌≡◌, refl, sym, ap, ◌∙◌}
use mathlib.Core.Bool.{Bool, true, false, cond, ◌&&◌}
use mathlib.Core.List.{List, [], ◌∷◌}
use native.Mathlib.Omega.{arith}
use lib.Dec.{eqb}
use lib.ListN.{length, take, drop}
use lib.Seq.{drop-drop}
use lib.Ieee.{Float, Format, le, lt}
use Rattle.ieee.specs.Numbers.{f0}
use Rattle.linalg.specs.Answer.{Answer, answers, refuses, and_then}
use Rattle.linalg.specs.Vector.{vec_numbers}
use Rattle.coeffs.specs.Entries.{scaled_answer, armed_answer}
use Rattle.coeffs.specs.Floats.{Scaled}
use Rattle.coeffs.specs.Floats.{Armed}
use Rattle.pairs.specs.Entries.{beside, pair_answer, beside_armed, armed_pair_answer}
use Rattle.pairs.specs.Floats.{ScaledPair}
use Rattle.pairs.specs.Floats.{ArmedPair}
use Rattle.sim3.specs.Pose.{pose_act}
use Rattle.frames.specs.Pose.{framed_exp, framed_inverse}
use Rattle.frames.specs.Joins.{framed_mul}
use Rattle.frames.specs.Floats.{Pose}
use Rattle.jacobian.specs.Jac.{jac_inverse, jac_inverse_answer}
use Rattle.side_jacobians.specs.Pair.{block_pair}
use Rattle.layout.specs.Layout.{pose_count, scaled_pair_count, vec_in, quat_in, mat_in, pose_in, tangent_in, values_in}
use Rattle.layout.specs.Layout.{block_in, block_numbers, block_pair_numbers, scaled_pair_numbers}
use Rattle.layout.specs.Lists.{PoseLists, pose_lists, frames_count}
use Rattle.layout.proofs.Numbers.{vec-count, block-count, block-pair-count, scaled-pair-count}
use Rattle.from_lists.specs.Lists.{sized, vec_from, mat_from, pose_from, tangent_from, values_from, block_from}
use Rattle.from_lists.specs.Lists.{frames_from, framed_from}
use Rattle.to_lists.specs.Written.{status, written, framed_fitting, joined_fitting}
use Rattle.sim3_c_entries.specs.Calls.{exp_call, mul_call, inverse_call, scaled_pair_call, block_pair_call}
use Rattle.sim3_c_entries.specs.Calls.{block_inverse_call, act_call, ArmLists, arms_fitting, arms_call}
use Rattle.wire.specs.Wire.{width, word_at, number_at, numbers, firsts, numbers_at, words_at}
use Rattle.replies.specs.Table.{ex_of, co_of, pa_of, ac_of, mu_of, in_of, ji_of, ar_of}
use Rattle.record_result.specs.Framed.{framed_width, framed_in}
use Rattle.replies.specs.Private.{status_view, framed_both, armed_both}
use Rattle.replies.proofs.Views.{call, Small, view_call, view-framed, view-armed}

-- ---- JI
block_read : (f : Format) (b : List ℕ) → block_from (numbers_at f b 31) ≡ answers (block_in (number_at f b) 0)
unfolding block_from firsts sized block_in mat_in vec_in
block_read f b = refl

by_test : {S : Type 0} (t : Bool) (k : ℕ) (x : S) → 0 < k → k < 256 → Small (cond t (refuses k) (answers x))
by_test true k x h g = (h, g)
by_test false k x h g = tt

block_small : (f : Format) (b : List ℕ) → Small (jac_inverse_answer f (block_in (number_at f b) 0))
unfolding jac_inverse_answer
block_small f b =
    let j = block_in (number_at f b) 0 in by_test (le j.e f0 && le f0 j.e) 2 (jac_inverse f j) (omega arith)
    (omega arith)

pub ji_view :
    (f : Format) (b : List ℕ) (x y z : List Float) (n : ℕ) → x ≡ numbers_at f b 31 → length y ≡ 31 →
    n ≡ status (block_inverse_call f x y) →
    z ≡ written (block_inverse_call f x y) y → status_view n (numbers z) ≡ ji_of f b
unfolding ji_of block_inverse_call
ji_view f b x y z n e h s q =
    let a = jac_inverse_answer f (block_in (number_at f b) 0) in
    let c : block_inverse_call f x y ≡ call a block_numbers y = rw (e, block_read f b) in
    view_call a block_numbers y z n (s ∙ ap status c) (q ∙ ap (λ (r : Answer (List Float)). written r y) c)
    (block_small f b) (λ j. h ∙ sym (block-count j))

-- ---- CO
values_read : (f : Format) (b : List ℕ) → values_from (take 10 (drop 2 (numbers_at f b 12)))
    ≡ answers (values_in (number_at f b) 2)
unfolding values_from firsts sized values_in
values_read f b = refl

by_sign :
    {A B : Type 0} (t : Bool) (g : A → A → B) (p n : A) →
    Small (and_then (cond t (refuses 1) (answers p)) (λ x. and_then (cond t (refuses 1) (answers n))
    (λ y. answers (g x y))))
by_sign true g p n = (omega arith, omega arith)
by_sign false g p n = tt

abbrev signs : Scaled → Scaled → ScaledPair
signs p n = record { pos = p; neg = n }

abbrev armed_signs : Armed → Armed → ArmedPair
armed_signs p n = record { pos = p; neg = n }

pair_small : (f : Format) (b : List ℕ) →
    Small (pair_answer f (number_at f b 0) (number_at f b 1) (values_in (number_at f b) 2))
unfolding pair_answer beside scaled_answer
pair_small f b = by_sign (lt (number_at f b 1) f0) signs _ _

pub co-view :
    (f : Format) (b : List ℕ) (v y w : List Float) (sigma z : Float) (n : ℕ) → sigma ≡ number_at f b 0 →
    z ≡ number_at f b 1 →
    v ≡ take 10 (drop 2 (numbers_at f b 12)) → length y ≡ 20 → n ≡ status (scaled_pair_call f sigma z v y) →
    w ≡ written (scaled_pair_call f sigma z v y) y →
    status_view n (numbers w) ≡ co_of f b
unfolding co_of scaled_pair_call
co-view f b v y w sigma z n i j e h s q =
    let a = pair_answer f (number_at f b 0) (number_at f b 1) (values_in (number_at f b) 2) in
    let c : scaled_pair_call f sigma z v y ≡ call a scaled_pair_numbers y = rw (i, j, e, values_read f b) in
    view_call a scaled_pair_numbers y w n (s ∙ ap status c) (q ∙ ap (λ (r : Answer (List Float)). written r y) c)
    (pair_small f b) (λ p. h ∙ sym (scaled-pair-count p))

-- ---- PA
tangent_read : (f : Format) (b : List ℕ) → tangent_from (take 7 (numbers_at f b 35))
    ≡ answers (tangent_in (number_at f b) 0)
unfolding tangent_from firsts sized tangent_in vec_in
tangent_read f b = refl

ten_read : (f : Format) (b : List ℕ) → values_from (take 10 (drop 7 (numbers_at f b 35)))
    ≡ answers (values_in (number_at f b) 7)
unfolding values_from firsts sized values_in
ten_read f b = refl

mat_read : (f : Format) (b : List ℕ) → mat_from (take 9 (drop 17 (numbers_at f b 35)))
    ≡ answers (mat_in (number_at f b) 17)
unfolding mat_from firsts sized mat_in vec_in
mat_read f b = refl

inverse_read : (f : Format) (b : List ℕ) → mat_from (take 9 (drop 26 (numbers_at f b 35)))
    ≡ answers (mat_in (number_at f b) 26)
unfolding mat_from firsts sized mat_in vec_in
inverse_read f b = refl

pub pa-view :
    (f : Format) (b : List ℕ) (t v j i y z : List Float) (n : ℕ) → t ≡ take 7 (numbers_at f b 35) →
    v ≡ take 10 (drop 7 (numbers_at f b 35)) →
    j ≡ take 9 (drop 17 (numbers_at f b 35)) → i ≡ take 9 (drop 26 (numbers_at f b 35)) → length y ≡ 124 →
    n ≡ status (block_pair_call f t v j i y) →
    z ≡ written (block_pair_call f t v j i y) y → status_view n (numbers z) ≡ pa_of f b
unfolding pa_of block_pair_call
pa-view f b t v j i y z n e1 e2 e3 e4 h s q =
    let p = block_pair f (tangent_in (number_at f b) 0) (values_in (number_at f b) 7) (mat_in (number_at f b) 17)
    (mat_in (number_at f b) 26) in
    let c : block_pair_call f t v j i y ≡ call (answers p) block_pair_numbers y =
    rw (e1, e2, e3, e4, tangent_read f b, ten_read f b, mat_read f b, inverse_read f b) in
    view_call (answers p) block_pair_numbers y z n (s ∙ ap status c)
    (q ∙ ap (λ (r : Answer (List Float)). written r y) c) tt (λ x. h ∙ sym (block-pair-count x))

-- ---- AC
pose_read : (f : Format) (b : List ℕ) → pose_from (numbers_at f b 8) ≡ answers (pose_in (number_at f b) 0)
unfolding pose_from firsts sized pose_in quat_in vec_in
pose_read f b = refl

point_read : (f : Format) (b : List ℕ) → vec_from (take 3 (drop 1 (numbers_at f b 4)))
    ≡ answers (vec_in (number_at f b) 1)
unfolding vec_from firsts sized vec_in
point_read f b = refl

pub ac_view :
    (f : Format) (b : List ℕ) (x p y z : List Float) (up : Float) (n : ℕ) →
    let rest = drop (framed_width f) b in
    x ≡ numbers_at f b 8 → up ≡ number_at f rest 0 → p ≡ take 3 (drop 1 (numbers_at f rest 4)) → length y ≡ 3 →
    n ≡ status (act_call f x up p y) →
    z ≡ written (act_call f x up p y) y → status_view n (numbers z) ≡ ac_of f b
unfolding ac_of act_call
ac_view f b x p y z up n e1 e2 e3 h s q =
    let rest = drop (framed_width f) b in
    let v = pose_act f (pose_in (number_at f b) 0) (number_at f rest 0) (vec_in (number_at f rest) 1) in
    let c : act_call f x up p y ≡ call (answers v) vec_numbers y = rw (e1, e2, e3, pose_read f b, point_read f rest) in
    view_call (answers v) vec_numbers y z n (s ∙ ap status c) (q ∙ ap (λ (r : Answer (List Float)). written r y) c) tt
    (λ u. h ∙ sym (vec-count u))

-- ---- poses with their frames
shorts_at : (c : List ℕ) (a : ℕ) → words_at 2 (drop a c) 2 ≡ word_at 2 c a ∷ word_at 2 c (a + 2) ∷ []
unfolding firsts word_at
shorts_at c a = rw (drop-drop 2 a c) refl

-- at the front of the bytes
framed_read : (f : Format) (c : List ℕ) →
    framed_from (pose_lists (numbers_at f c 8) (words_at 2 (drop (8 * width f) c) 2)) ≡ answers (framed_in f c)
unfolding framed_from frames_from sized framed_in
framed_read f c = rw (pose_read f c, shorts_at c (8 * width f)) refl

-- a tangent and its values
tau_read : (f : Format) (b : List ℕ) → tangent_from (take 7 (numbers_at f b 17))
    ≡ answers (tangent_in (number_at f b) 0)
unfolding tangent_from firsts sized tangent_in vec_in
tau_read f b = refl

at_tau_read : (f : Format) (b : List ℕ) → values_from (take 10 (drop 7 (numbers_at f b 17)))
    ≡ answers (values_in (number_at f b) 7)
unfolding values_from firsts sized values_in
at_tau_read f b = refl

pub ex-view :
    (f : Format) (b k : List ℕ) (t v : List Float) (o w : PoseLists) (n : ℕ) → t ≡ take 7 (numbers_at f b 17) →
    v ≡ take 10 (drop 7 (numbers_at f b 17)) →
    k ≡ words_at 2 (drop (17 * width f) b) 2 → length o.numbers ≡ pose_count → length o.frames ≡ frames_count →
    n ≡ status (exp_call f t v k o) →
    w ≡ written (exp_call f t v k o) o → status_view n (framed_both w.numbers w.frames) ≡ ex_of f b
unfolding ex_of exp_call frames_from sized
ex-view f b k t v o w n e1 e2 e3 h g s q =
    let end = 17 * width f in
    let x = framed_exp f (tangent_in (number_at f b) 0) (values_in (number_at f b) 7) (word_at 2 b end)
    (word_at 2 b (end + 2)) in
    let c : exp_call f t v k o ≡ and_then (answers x) (framed_fitting o) =
    rw (e1, e2, e3, tau_read f b, at_tau_read f b, shorts_at b end) refl in
    view-framed (answers x) o w n (s ∙ ap status c) (q ∙ ap (λ (r : Answer PoseLists). written r o) c) tt h g

met_small : (t : Bool) (x : Pose) → Small (cond t (answers x) (refuses 9))
met_small true x = tt
met_small false x = (omega arith, omega arith)

pub mu_view :
    (f : Format) (b : List ℕ) (x y o w : PoseLists) (up : Float) (n : ℕ) →
    let a = framed_width f in
    x ≡ pose_lists (numbers_at f b 8) (words_at 2 (drop (8 * width f) b) 2) →
    y ≡ pose_lists (numbers_at f (drop a b) 8) (words_at 2 (drop (a + 8 * width f) b) 2) →
    up ≡ number_at f (drop (2 * a) b) 0 → length o.numbers ≡ pose_count → length o.frames ≡ frames_count →
    n ≡ status (mul_call f x y up o) →
    w ≡ written (mul_call f x y up o) o → status_view n (framed_both w.numbers w.frames) ≡ mu_of f b
unfolding mu_of mul_call joined_fitting framed_mul
mu_view f b x y o w up n e1 e2 e3 h g s q =
    let a = framed_width f in
    let p = framed_in f b in
    let r = framed_in f (drop a b) in
    let m = framed_mul f p r (number_at f (drop (2 * a) b) 0) in
    let c : mul_call f x y up o ≡ and_then m (framed_fitting o) =
    rw (e1, e2, e3, ← (drop-drop (8 * width f) a b), framed_read f b, framed_read f (drop a b)) refl in
    view-framed m o w n (s ∙ ap status c) (q ∙ ap (λ (z : Answer PoseLists). written z o) c)
    (met_small (eqb p.from r.to) _) h g

pub in_view :
    (f : Format) (b : List ℕ) (x o w : PoseLists) (down : Float) (n : ℕ) →
    x ≡ pose_lists (numbers_at f b 8) (words_at 2 (drop (8 * width f) b) 2) →
    down ≡ number_at f (drop (framed_width f) b) 0 → length o.numbers ≡ pose_count → length o.frames ≡ frames_count →
    n ≡ status (inverse_call f x down o) →
    w ≡ written (inverse_call f x down o) o → status_view n (framed_both w.numbers w.frames) ≡ in_of f b
unfolding in_of inverse_call
in_view f b x o w down n e1 e2 h g s q =
    let i = framed_inverse f (framed_in f b) (number_at f (drop (framed_width f) b) 0) in
    let c : inverse_call f x down o ≡ and_then (answers i) (framed_fitting o) = rw (e1, e2, framed_read f b) refl in
    view-framed (answers i) o w n (s ∙ ap status c) (q ∙ ap (λ (r : Answer PoseLists). written r o) c) tt h g

-- ---- AR
armed_small : (f : Format) (b : List ℕ) →
    Small (armed_pair_answer f (number_at f b 0) (number_at f b 1) (values_in (number_at f b) 2))
unfolding armed_pair_answer beside_armed armed_answer
armed_small f b = by_sign (lt (number_at f b 1) f0) armed_signs _ _

pub ar_view :
    (f : Format) (b : List ℕ) (v : List Float) (o w : ArmLists) (sigma z : Float) (n : ℕ) → sigma ≡ number_at f b 0 →
    z ≡ number_at f b 1 →
    v ≡ take 10 (drop 2 (numbers_at f b 12)) → length o.arms ≡ 4 → length o.numbers ≡ scaled_pair_count →
    n ≡ status (arms_call f sigma z v o) →
    w ≡ written (arms_call f sigma z v o) o → status_view n (armed_both w.arms w.numbers) ≡ ar_of f b
unfolding ar_of arms_call
ar_view f b v o w sigma z n i j e h g s q =
    let a = armed_pair_answer f (number_at f b 0) (number_at f b 1) (values_in (number_at f b) 2) in
    let c : arms_call f sigma z v o ≡ and_then a (arms_fitting o) = rw (i, j, e, values_read f b) in
    view-armed a o w n (s ∙ ap status c) (q ∙ ap (λ (r : Answer ArmLists). written r o) c) (armed_small f b) h g
