-- The arm does not fall as z grows: z ↦ σ·σ + z, also when rounded, keeps the order, and a test Δ < limit that holds at
-- a larger Δ holds at a smaller one. So where +0 has the last arm, every z has it. Assumes nothing.
use mathlib.Core.Path.{◌≡◌, ap}
use mathlib.Core.Logic.{inl, inr}
use Prim.Native.Nat.{ℕ, ◌≤◌, ◌<◌}
use native.Mathlib.Nat.{le_refl, le_of_eq}
use native.Mathlib.Omega.{arith}
use mathlib.Core.Bool.{Bool, true, false, cond}
use lib.Dec.{T}
use lib.Ieee.{Float, nan, Format, of_bits, add, mul, lt, le}
use lib.Ieee.Scale.{finite}
use Rattle.std.proofs.lemmas.Float.{lt_of_le_of_lt}
use Rattle.ieee.specs.Patterns.{patterns}
use Rattle.ieee.proofs.Order.{number, nan_or}
use Rattle.ieee.proofs.Mono.{add_mono_r}
use Rattle.ieee.proofs.Patterns.{rising, pattern_finite}
use Rattle.arms.specs.Limits.{coeffs_delta, short_below, mid_below, upper_below, series_below}
use Rattle.arms.specs.Arm.{coeffs_arm}
use Rattle.nearest.specs.Nearest.{arm_at}
use Rattle.nearest.specs.Theorem.{OneArm}
use Rattle.nearest.proofs.Sums.{sum_number}

-- ---- Δ, where σ·σ is a number, and where it is a NaN
delta_mono : (f : Format) (sigma y y' : Float) → T (finite y) → T (finite y') → T (le y y') →
    T (number (mul f sigma sigma)) → T (le (coeffs_delta f sigma y) (coeffs_delta f sigma y'))
unfolding coeffs_delta
delta_mono f sigma y y' p q h n =
    add_mono_r f (mul f sigma sigma) y y' h (sum_number f (mul f sigma sigma) y n p)
    (sum_number f (mul f sigma sigma) y' n q)

lost : (f : Format) (sigma y y' : Float) → mul f sigma sigma ≡ nan → coeffs_delta f sigma y ≡ coeffs_delta f sigma y'
unfolding coeffs_delta add
lost f sigma y y' e = rw e

-- ---- a ladder of tests, whose numbers rise
rung : (b b' : Bool) (n x x' : ℕ) → (T b' → T b) → n ≤ x' → x ≤ x' → cond b n x ≤ cond b' n x'
rung true true n x x' i h k = le_refl n
rung true false n x x' i h k = h
rung false true n x x' i h k = absurd (i tt)
rung false false n x x' i h k = k

over : (b : Bool) (n m x : ℕ) → n ≤ m → n ≤ x → n ≤ cond b m x
over true n m x h k = h
over false n m x h k = k

over_4 : (d : Bool) → 4 ≤ cond d 4 5
over_4 d = over d 4 4 5 (omega arith) (omega arith)

over_3 : (c d : Bool) → 3 ≤ cond c 3 (cond d 4 5)
over_3 c d = let h = over_4 d in over c 3 3 _ (omega arith) (omega arith)

over_2 : (b c d : Bool) → 2 ≤ cond b 2 (cond c 3 (cond d 4 5))
over_2 b c d = let h = over_3 c d in over b 2 2 _ (omega arith) (omega arith)

over_1 : (a b c d : Bool) → 1 ≤ cond a 1 (cond b 2 (cond c 3 (cond d 4 5)))
over_1 a b c d = let h = over_2 b c d in over a 1 1 _ (omega arith) (omega arith)

ladder : (a b c d a' b' c' d' : Bool) → (T a' → T a) → (T b' → T b) → (T c' → T c) → (T d' → T d)
    → cond a 1 (cond b 2 (cond c 3 (cond d 4 5))) ≤ cond a' 1 (cond b' 2 (cond c' 3 (cond d' 4 5)))
ladder a b c d a' b' c' d' A B C D =
    let h2 = over_2 b' c' d' in
    let h3 = over_3 c' d' in
    let h4 = over_4 d' in
    rung a a' 1 _ _ A (omega arith) (rung b b' 2 _ _ B (omega arith)
    (rung c c' 3 _ _ C (omega arith) (rung d d' 4 5 5 D (omega arith) (omega arith))))

arm_mono : (f : Format) (d d' : Float) → T (le d d') → coeffs_arm f d ≤ coeffs_arm f d'
unfolding coeffs_arm
arm_mono f d d' h =
    let fall : (l : Float) → T (lt d' l) → T (lt d l) = λ l t. lt_of_le_of_lt d d' l h t in
    ladder (lt d (short_below f)) (lt d (mid_below f)) (lt d (upper_below f)) (lt d (series_below f))
    (lt d' (short_below f)) (lt d' (mid_below f)) (lt d' (upper_below f)) (lt d' (series_below f))
    (fall (short_below f)) (fall (mid_below f)) (fall (upper_below f)) (fall (series_below f))

pub arm_rising : (f : Format) (sigma : Float) (p q : ℕ) → p ≤ q → q < patterns f → arm_at f sigma p ≤ arm_at f sigma q
unfolding arm_at
arm_rising f sigma p q k h = elim (nan_or (mul f sigma sigma)) [
  | inl e ↦ le_of_eq (ap (λ (d : Float). coeffs_arm f d) (lost f sigma (of_bits f p) (of_bits f q) e))
  | inr n ↦
      let p-in : p < patterns f = omega arith in
      arm_mono f _ _ (delta_mono f sigma (of_bits f p) (of_bits f q) (pattern_finite f p p-in) (pattern_finite f q h)
      (rising f p q k h) n)
]

-- ---- the arms start at 1 and end at 5
pub arm_from : (f : Format) (sigma : Float) (p : ℕ) → 1 ≤ arm_at f sigma p
unfolding arm_at coeffs_arm
arm_from f sigma p =
    let d = coeffs_delta f sigma (of_bits f p) in
    over_1 (lt d (short_below f)) (lt d (mid_below f)) (lt d (upper_below f)) (lt d (series_below f))

under : (b : Bool) (m x : ℕ) → m ≤ 5 → x ≤ 5 → cond b m x ≤ 5
under true m x h k = h
under false m x h k = k

arm-to : (f : Format) (sigma : Float) (p : ℕ) → arm_at f sigma p ≤ 5
unfolding arm_at coeffs_arm
arm-to f sigma p =
    let d = coeffs_delta f sigma (of_bits f p) in
    under (lt d (short_below f)) 1 _ (omega arith)
    (under (lt d (mid_below f)) 2 _ (omega arith) (under (lt d (upper_below f)) 3 _ (omega arith)
    (under (lt d (series_below f)) 4 5 (omega arith) (omega arith))))

pub all_closed : (f : Format) (sigma : Float) → arm_at f sigma 0 ≡ 5 → OneArm (arm_at f sigma) (patterns f)
all_closed f sigma e p q h k =
    let a = arm_rising f sigma 0 p (omega arith) h in
    let b = arm_rising f sigma 0 q (omega arith) k in
    let c = arm-to f sigma p in
    let d = arm-to f sigma q in
    omega arith
