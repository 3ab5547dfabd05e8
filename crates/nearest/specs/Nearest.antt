-- How near another arm is, by its plain definition: the least number n ≥ 1 of neighbouring values that z must move,
-- down or up, for the arm to change. Neighbouring values have neighbouring bit patterns: the finite values from +0 up
-- have those below `patterns f`, in the order of the values. `arm` is the arm at a pattern, `end` is how many patterns
-- there are.
use Rattle.std.specs.Prelude.{Option, Some, None, Bool, cond, not, ◌&&◌, ℕ, zero, suc, ◌+◌, ◌-◌, leb, ltb, eqb, Float}
use Rattle.std.specs.Float.{Format}
use Rattle.std.specs.Float.Ieee.{of_bits, to_bits}
use Rattle.ieee.specs.Finite.{is_finite}
use Rattle.ieee.specs.Patterns.{patterns}
use Rattle.ieee.specs.Signs.{unsigned_zero}
use Rattle.linalg.specs.Answer.{Answer, answers, refuses, unless_below_zero}
use Rattle.arms.specs.Limits.{coeffs_delta}
use Rattle.arms.specs.Arm.{coeffs_arm, arm_number}
use Rattle.nearest.specs.declared.Direction.{Direction}
use Rattle.nearest.specs.declared.Direction.TheVariants as toward
use Rattle.nearest.specs.declared.Step.{Step}

pub data Way : Type 0 where
  down : Way
  up : Way

-- n steps in a direction lead to the arm a; or there is no other arm: every permitted z has the same
pub data Near : Type 0 where
  step : ℕ → Way → ℕ → Near
  none : Near

-- ---- what each result means
abbrev pub way_view : Direction → Way
way_view toward.Down = down
way_view toward.Up = up

unfoldable pub step_view : Step → Near
step_view s = step s.count (way_view s.direction) (arm_number s.arm)

-- h is the view of the code's steps
abbrev pub near_view : {A : Type 0} → (A → Near) → Option A → Near
near_view h (Some s) = h s
near_view h None = none

-- ---- steps
abbrev pub other : Way → Way
other down = up
other up = down

-- where n steps from the pattern p lead
abbrev pub place : Way → ℕ → ℕ → ℕ
place down p n = p - n
place up p n = p + n

-- whether n steps stay finite and not below zero
abbrev pub permitted : ℕ → Way → ℕ → ℕ → Bool
permitted end down p n = leb n p
permitted end up p n = ltb (p + n) end

-- whether they are permitted and lead to another arm
unfoldable pub changes : (ℕ → ℕ) → ℕ → ℕ → Way → ℕ → Bool
changes arm end p d n = permitted end d p n && not (eqb (arm (place d p n)) (arm p))

-- ---- the least count: n, n + 1, and so on are tried, `left` counts in all, and of each first the direction `first`,
-- then the other
unfoldable pub least_from : (ℕ → ℕ) → ℕ → Way → ℕ → ℕ → ℕ → Near
least_from arm end first p zero n = none
least_from arm end first p (suc left) n =
    cond (changes arm end p first n) (step n first (arm (place first p n)))
    (cond (changes arm end p (other first) n) (step n (other first) (arm (place (other first) p n)))
    (least_from arm end first p left (n + 1)))

-- from 1 on; no count above `end` is permitted
abbrev pub nearest_from : (ℕ → ℕ) → ℕ → Way → ℕ → Near
nearest_from arm end first p = least_from arm end first p end 1

-- the direction that is returned if both need the same count
abbrev pub preferred : Way
preferred = up

-- the arm at σ and z, and at σ and the value with the pattern p
abbrev pub arm_of : Format → Float → Float → ℕ
arm_of f sigma z = coeffs_arm f (coeffs_delta f sigma z)

unfoldable pub arm_at : Format → Float → ℕ → ℕ
arm_at f sigma p = arm_of f sigma (of_bits f p)

-- refusal 1 for z < 0, then 8 where σ or z is a NaN or an infinity; -0 counts as +0
unfoldable pub nearest_of : Format → Way → Float → Float → Answer Near
nearest_of f first sigma z =
    unless_below_zero z (cond (is_finite sigma && is_finite z)
    (answers (nearest_from (arm_at f sigma) (patterns f) first (to_bits f (unsigned_zero z)))) (refuses 8))
