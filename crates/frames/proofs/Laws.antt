-- The laws of frames: each answer is a test and its result, so a law is a law of tests. Assumes nothing.
use mathlib.Core.Path.{◌≡◌, refl, sym, ap, ◌∙◌}
use mathlib.Core.Bool.{Bool, true, false, cond}
use mathlib.Core.Logic.{inl, inr}
use Prim.Native.Nat.{ℕ}
use native.Mathlib.Nat.{le_antisymm}
use native.Mathlib.Omega.{arith}
use borrow.Author.Tests.{eq-eqb, ne_eqb}
use lib.Dec.{T, eqb, eqb→eq}
use lib.Ieee.{Float, Format}
use Rattle.std.proofs.lemmas.Bool.{cases_lt}
use Rattle.linalg.specs.Answer.{Answer, answers, refuses, and_then}
use Rattle.linalg.proofs.Answers.{never}
use Rattle.sim3.specs.Exp.{pose_rplus, pose_lplus}
use Rattle.frames.specs.Pose.{framed_identity, framed_exp, framed_inverse, framed_renormalized, framed_rplus}
use Rattle.frames.specs.Pose.{framed_lplus}
use Rattle.frames.specs.Joins.{meets, framed_mul, framed_mul_inv, framed_inv_mul}
use Rattle.frames.specs.Laws.{frames_of, answered_frames, ProductLaws, FramesLaws}
use Rattle.frames.specs.Floats.{Pose}

-- ---- one test
view : (t : Bool) (x : Pose) → answered_frames (cond t (answers x) (refuses 9))
    ≡ cond t (answers (frames_of x)) (refuses 9)
view true x = refl
view false x = refl

met : (a b : ℕ) (x : Pose) → a ≡ b → meets a b x ≡ answers x
met a b x e = rw (eq-eqb a b e) refl

unmet : (a b : ℕ) (x : Pose) → (a ≡ b → ⊥) → meets a b x ≡ refuses 9
unmet a b x n = rw (ne_eqb a b n) refl

held : (t : Bool) (x p : Pose) → cond t (answers x) (refuses 9) ≡ answers p → T t
held true x p e = tt
held false x p e = never p 9 (sym e)

-- the two frames of a test may change places
same : (a b : ℕ) (x : Pose) → meets a b x ≡ meets b a x
same a b x =
    elim (cases_lt a b) [
      | inl l ↦ apart (λ e. omega arith)
      | inr l ↦
          elim (cases_lt b a) [ inl g ↦ apart (λ e. omega arith) | inr g ↦ rw (le_antisymm g l) refl ]
    ]
  where
    apart : (a ≡ b → ⊥) → meets a b x ≡ meets b a x
    apart n = unmet a b x n ∙ sym (unmet b a x (λ e. n (sym e)))

-- ---- two tests
then : (t : Bool) (x : Pose) (k : Pose → Answer Pose) → answered_frames (and_then (cond t (answers x) (refuses 9)) k)
    ≡ cond t (answered_frames (k x)) (refuses 9)
then true x k = refl
then false x k = refl

turned : {A : Type 0} (s t : Bool) (a : Answer A) → cond s (cond t a (refuses 9)) (refuses 9)
    ≡ cond t (cond s a (refuses 9)) (refuses 9)
turned true t a = refl
turned false true a = refl
turned false false a = refl

-- ---- the laws
product : (f : Format) (x y : Pose) (up : Float) → ProductLaws f x y up
unfolding framed_mul
product f x y up = record {
  accepted = met x.from y.to _;
  refused = unmet x.from y.to _;
  only = λ p e. eqb→eq x.from y.to (held (eqb x.from y.to) _ p e);
}

association :
    (f : Format) (x y z : Pose) (a b c d : Float)
    → answered_frames (and_then (framed_mul f x y a) (λ p. framed_mul f p z b))
    ≡ answered_frames (and_then (framed_mul f y z c) (λ p. framed_mul f x p d))
unfolding framed_mul
association f x y z a b c d =
    let s = eqb x.from y.to in
    let t = eqb y.from z.to in
    then s _ (λ p. framed_mul f p z b) ∙ ap (λ u. cond s u (refuses 9)) (view t _) ∙ turned s t (answers (z.from, x.to))
    ∙ sym (ap (λ u. cond t u (refuses 9)) (view s _)) ∙ sym (then t _ (λ p. framed_mul f x p d))

mul_inv : (f : Format) (x y : Pose) (ds down up : Float) → answered_frames (framed_mul_inv f x y ds)
    ≡ answered_frames (framed_mul f x (framed_inverse f y down) up)
unfolding framed_mul framed_mul_inv framed_inverse
mul_inv f x y ds down up = view (eqb x.from y.from) _ ∙ sym (view (eqb x.from y.from) _)

inv_mul : (f : Format) (x y : Pose) (d down up : Float) → answered_frames (framed_inv_mul f x y d)
    ≡ answered_frames (framed_mul f (framed_inverse f y down) x up)
unfolding framed_mul framed_inv_mul framed_inverse
inv_mul f x y d down up = ap answered_frames (same x.to y.to _) ∙ view (eqb y.to x.to) _ ∙ sym (view (eqb y.to x.to) _)

pub frames_laws : (f : Format) → FramesLaws f
unfolding framed_mul framed_inverse framed_renormalized framed_identity framed_exp framed_rplus framed_lplus pose_rplus
    pose_lplus
frames_laws f = record {
  product = product f;
  association = association f;
  twice = λ x a b. refl;
  renormalized = λ x. refl;
  mul_inv = mul_inv f;
  inv_mul = inv_mul f;
  identity_right = λ x up. ap answered_frames (met x.from x.from _ refl);
  identity_left = λ x up. ap answered_frames (met x.to x.to _ refl);
  rplus = λ x up tau v. met x.from x.from _ refl;
  lplus = λ x tau v. met x.to x.to _ refl;
}
