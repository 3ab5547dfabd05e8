-- The true rotation by a quaternion q of any length but 0, q v q̄ / |q|², and how far the action's formula, a rotation
-- only where |q| = 1, is from it: v + 2w (u × v) + 2 u × (u × v) is q v q̄ + (1 - |q|²) v.
use Rattle.std.specs.Prelude.{ℕ, suc, ◌+◌, ◌*◌, ◌^◌, ◌<◌, T, Float}
use Rattle.std.specs.Float.{Format, binary32, binary64}
use Rattle.ieee.specs.Numbers.{f0}
use Rattle.linalg.specs.Floats.{Vec3}
use Rattle.so3.specs.Floats.{Quat}
use Rattle.sim3.specs.Pose.{pose_act, pose_inverse}
use Rattle.sim3.specs.Floats.{Sim3}
use Rattle.rounding.specs.Value.{Value, opposite, ratio, value_of, Near, AtMost}
use Rattle.rounding.specs.Arithmetic.{exactly}
use Rattle.rounding.specs.Tree.{upward}
use Rattle.rounding.specs.Leaves.{Bounded}
use Rattle.accuracy.specs.Box.{Three, Four, exact_vec, exact_quat, vector_part, VecIn, QuatIn, VecError, VecNear}
use Rattle.accuracy.specs.Action.{scale3, exact_rotate, exact_scaled_sum, tree_act, act_sizes, all_three}
use Rattle.accuracy.specs.Norm.{exact_norm_sq}
use Rattle.accuracy.specs.Quaternions.{negated3, inverse_sizes, tree_inverse, exact_hamilton, exact_squared, Normal}

-- q̄
abbrev pub conjugate : Four Value → Four Value
conjugate q = record { w = q.w; x = opposite q.x; y = opposite q.y; z = opposite q.z }

-- a vector as a quaternion, without a scalar part
abbrev pub pure : Three Value → Four Value
pure v = record { w = value_of f0; x = v.x; y = v.y; z = v.z }

-- q v q̄
abbrev pub conjugated : Four Value → Three Value → Four Value
conjugated q v = exact_hamilton (exact_hamilton q (pure v)) (conjugate q)

-- q v q̄ / |q|²
unfoldable pub true_rotation : Four Value → Three Value → Three Value
unfolding exact_hamilton
true_rotation q v =
    let r = conjugated q v in
    let s = exact_squared q in
    record { x = ratio r.x s; y = ratio r.y s; z = ratio r.z s }

-- s R p + t, with the true rotation R
unfoldable pub true_act : Sim3 → Float → Vec3 → Three Value
unfolding true_rotation value_of
true_act x up p = exact_scaled_sum (true_rotation (exact_quat x.q) (exact_vec p)) (value_of up) (exact_vec x.t)

-- -e^-σ R⁻¹ t, with the true rotation R⁻¹
unfoldable pub true_inverse : Sim3 → Float → Three Value
unfolding true_rotation value_of
true_inverse x down =
    negated3 exactly (scale3 exactly (true_rotation (conjugate (exact_quat x.q)) (exact_vec x.t)) (value_of down))

-- ---- what is proved
-- s 3 κ b, for |q|² within κ = c / w of 1, a point of numbers up to b / w and a scale up to s / w
abbrev pub true_error : ℕ → ℕ → ℕ → ℕ → ℕ
true_error w c b s = upward w (upward w (3 * c * b) * s)

-- The formula's rotations by r and s of a vector with numbers up to b / w, where |r - s| is at most d / w and |s| at most
-- m / w, differ by this: with δ = r - s, r v r̄ - s v s̄ is δ v r̄ + s v δ̄, and the rest is (|s|² - |r|²) v.
abbrev pub turn_error : ℕ → ℕ → ℕ → ℕ → ℕ
turn_error w m d b =
    let h = upward w (d * b) in
    let l = m + d + 2 in
    upward w (2 * h * l) + upward w (m * (2 * h)) + upward w (upward w (d * (l + suc m)) * b)

-- in the box of ActionIn, with |q|² within c / w of 1, each coordinate of r is within e / w of the true similarity at p
abbrev pub TrueActionIn : ℕ → ℕ → ℕ → ℕ → ℕ → ℕ → ℕ → Sim3 → Float → Vec3 → Vec3 → Type 0
TrueActionIn w q c b s t e x up p r =
    QuatIn w q x.q → Normal w c (exact_quat x.q) → VecIn w b p → Bounded w up s → VecIn w t x.t →
    VecError w r (true_act x up p) e

-- the same for every box whose rounding error is computed to be at most e
abbrev pub TrueActionAccurate : Format → Sim3 → Float → Vec3 → Vec3 → Type 0
TrueActionAccurate f x up p r =
    (w q c b s t e : ℕ) → c < w → T (all_three f w (act_sizes w q b s t) tree_act e) →
    TrueActionIn w q c b s t (e + true_error w c b s) x up p r

-- the same of an inverse's translation, in the box of InverseIn
abbrev pub TrueInverseIn : ℕ → ℕ → ℕ → ℕ → ℕ → ℕ → Sim3 → Float → Vec3 → Type 0
TrueInverseIn w q c t s e x down r =
    QuatIn w q x.q → Normal w c (exact_quat x.q) → VecIn w t x.t → Bounded w down s →
    VecError w r (true_inverse x down) e

abbrev pub TrueInverseAccurate : Format → Sim3 → Float → Vec3 → Type 0
TrueInverseAccurate f x down r =
    (w q c t s e : ℕ) → c < w → T (all_three f w (inverse_sizes w q t s) tree_inverse e) →
    TrueInverseIn w q c t s (e + true_error w c t s) x down r

pub record RotationTheorem : Type 0 where
  -- the true rotation by a q that is not 0 keeps lengths: in any unit |R v|² and |v|² are not apart
  pub isometry : (u : ℕ) (q : Quat) (v : Vec3) → (exact_squared (exact_quat q)).n < (exact_squared (exact_quat q)).p →
      Near u (exact_norm_sq (true_rotation (exact_quat q) (exact_vec v))) (exact_norm_sq (exact_vec v)) 0
  -- where |q|² is within κ = c / u of 1, κ below 1, and |v| at most l / u: each number of the formula's rotation is
  -- within 2 κ l / u of the true one's
  pub formula : (u c l : ℕ) (q : Quat) (v : Vec3) →
      c < u → Normal u c (exact_quat q) → AtMost (u * u) (exact_norm_sq (exact_vec v)) (l * l) →
      VecNear u (exact_rotate (value_of q.w) (vector_part (exact_quat q)) (exact_vec v))
      (true_rotation (exact_quat q) (exact_vec v)) (upward u (2 * c * l))
  -- the computed action of a pose beside the true similarity, in any format and box
  pub action : (f : Format) (x : Sim3) (up : Float) (p : Vec3) → TrueActionAccurate f x up p (pose_act f x up p)
  -- in the boxes of ActionTheorem with |q|² within 2^-50 of 1, at doubles: within 2^-26, and 2^-46 where all is at most
  -- 1
  pub doubles : (x : Sim3) (up : Float) (p : Vec3) →
      TrueActionIn (2 ^ 100) (2 ^ 100 + 2 ^ 60) (2 ^ 50) (2 ^ 116) (2 ^ 104) (2 ^ 120) (2 ^ 74) x up p
      (pose_act binary64 x up p)
  pub unit_doubles : (x : Sim3) (up : Float) (p : Vec3) →
      TrueActionIn (2 ^ 100) (2 ^ 100 + 2 ^ 60) (2 ^ 50) (2 ^ 100) (2 ^ 100) (2 ^ 100) (2 ^ 54) x up p
      (pose_act binary64 x up p)
  -- within 2^-21 at singles: within 2^3, and 2^-17
  pub singles : (x : Sim3) (up : Float) (p : Vec3) →
      TrueActionIn (2 ^ 100) (2 ^ 100 + 2 ^ 84) (2 ^ 79) (2 ^ 116) (2 ^ 104) (2 ^ 120) (2 ^ 103) x up p
      (pose_act binary32 x up p)
  pub unit_singles : (x : Sim3) (up : Float) (p : Vec3) →
      TrueActionIn (2 ^ 100) (2 ^ 100 + 2 ^ 84) (2 ^ 79) (2 ^ 100) (2 ^ 100) (2 ^ 100) (2 ^ 83) x up p
      (pose_act binary32 x up p)
  -- an inverse's translation in any format and box, and in those of QuaternionTheorem: within 2^-22 and 2^7
  pub inverse : (f : Format) (x : Sim3) (down : Float) → TrueInverseAccurate f x down (pose_inverse f x down).t
  pub inverse_doubles : (x : Sim3) (down : Float) →
      TrueInverseIn (2 ^ 100) (2 ^ 100 + 2 ^ 60) (2 ^ 50) (2 ^ 120) (2 ^ 104) (2 ^ 78) x down
      (pose_inverse binary64 x down).t
  pub inverse_singles : (x : Sim3) (down : Float) →
      TrueInverseIn (2 ^ 100) (2 ^ 100 + 2 ^ 84) (2 ^ 79) (2 ^ 120) (2 ^ 104) (2 ^ 107) x down
      (pose_inverse binary32 x down).t
