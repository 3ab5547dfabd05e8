-- Frames behave like those of maps, whatever the numbers, at any format. Proved as `frames_laws` in proofs/Laws.antt.
-- The exponentials that the caller passes do not affect frames, so each is any number.
use Rattle.std.specs.Prelude.{◌≡◌, ℕ, Float}
use Rattle.std.specs.Float.{Format}
use Rattle.linalg.specs.Answer.{Answer, answers, refuses, and_then}
use Rattle.arms.specs.Floats.{Values}
use Rattle.sim3.specs.Pose.{pose_mul}
use Rattle.sim3.specs.Floats.{Sim3Tangent}
use Rattle.frames.specs.Pose.{framed, framed_identity, framed_exp, framed_inverse, framed_renormalized, framed_rplus}
use Rattle.frames.specs.Pose.{framed_lplus}
use Rattle.frames.specs.Joins.{framed_mul, framed_mul_inv, framed_inv_mul}
use Rattle.frames.specs.Floats.{Pose}

-- from and to
abbrev pub frames_of : Pose → ℕ × ℕ
frames_of x = (x.from, x.to)

-- the frames of an answered pose, or the refusal
abbrev pub answered_frames : Answer Pose → Answer (ℕ × ℕ)
answered_frames a = and_then a (λ x. answers (frames_of x))

-- a product is answered exactly if X starts from the frame where Y ends; then its numbers are those of the product
-- without frames
pub record ProductLaws (f : Format) (x y : Pose) (up : Float) : Type 0 where
  pub accepted : x.from ≡ y.to → framed_mul f x y up ≡ answers (framed (pose_mul f x.sim3 y.sim3 up) y.from x.to)
  pub refused : (x.from ≡ y.to → ⊥) → framed_mul f x y up ≡ refuses 9
  pub only : (p : Pose) → framed_mul f x y up ≡ answers p → x.from ≡ y.to

pub record FramesLaws (f : Format) : Type 0 where
  pub product : (x y : Pose) (up : Float) → ProductLaws f x y up
  -- (X Y) Z and X (Y Z): both answered or both refused, and with the same frames
  pub association :
      (x y z : Pose) (a b c d : Float)
      → answered_frames (and_then (framed_mul f x y a) (λ p. framed_mul f p z b))
      ≡ answered_frames (and_then (framed_mul f y z c) (λ p. framed_mul f x p d))
  -- the inverse of the inverse, and the Newton step, have the frames of X
  pub twice : (x : Pose) (a b : Float) → frames_of (framed_inverse f (framed_inverse f x a) b) ≡ frames_of x
  pub renormalized : (x : Pose) → frames_of (framed_renormalized f x) ≡ frames_of x
  -- X Y⁻¹ and Y⁻¹ X are answered or refused as the products with the inverse, and with their frames
  pub mul_inv : (x y : Pose) (ds down up : Float) → answered_frames (framed_mul_inv f x y ds)
      ≡ answered_frames (framed_mul f x (framed_inverse f y down) up)
  pub inv_mul : (x y : Pose) (d down up : Float) → answered_frames (framed_inv_mul f x y d)
      ≡ answered_frames (framed_mul f (framed_inverse f y down) x up)
  -- the identity on either side keeps the frames
  pub identity_right : (x : Pose) (up : Float) → answered_frames (framed_mul f x (framed_identity x.from x.from) up)
      ≡ answers (frames_of x)
  pub identity_left : (x : Pose) (up : Float) → answered_frames (framed_mul f (framed_identity x.to x.to) x up)
      ≡ answers (frames_of x)
  -- rplus and lplus are the products with an exponential within one frame, numbers and frames
  pub rplus : (x : Pose) (up : Float) (tau : Sim3Tangent) (v : Values) →
      framed_mul f x (framed_exp f tau v x.from x.from) up ≡ answers (framed_rplus f x up tau v)
  pub lplus : (x : Pose) (tau : Sim3Tangent) (v : Values) → framed_mul f (framed_exp f tau v x.to x.to) x v.up
      ≡ answers (framed_lplus f x tau v)
