-- Worked examples, at both widths: ties, downward and upward; σ·σ one step below the closed limit, where z moves
-- through 2 ^ 62 patterns and more with the same Δ; σ·σ at the limit. To show where an arm ends, they compute the arm
-- there and one step before. Assumes nothing.
use mathlib.Core.Path.{◌≡◌, refl}
use Prim.Native.Nat.{ℕ, ◌+◌, ◌-◌, ◌≤◌, ◌<◌}
use native.Mathlib.Nat.{le_trans}
use native.Mathlib.Omega.{arith}
use mathlib.Core.Bool.{Bool, ◌&&◌}
use lib.Dec.{T, leb, ltb, eqb, leb→le, ltb→lt, eqb→eq, lit<, lit≤}
use lib.Ieee.{Float, Format, binary32, binary64, of_bits, round, units, odd, size, add, mul, sum, lt}
use lib.Ieee.Fits.{and_l, and_r}
use Rattle.ieee.specs.Numbers.{f0}
use Rattle.ieee.specs.Patterns.{patterns}
use Rattle.arms.specs.Limits.{coeffs_delta}
use Rattle.arms.specs.Arm.{coeffs_arm}
use Rattle.nearest.specs.Nearest.{Way, down, up, step, none, nearest_from, arm_at}
use Rattle.nearest.specs.Private.{Parts}
use Rattle.nearest.proofs.Rising.{arm_rising, all_closed}
use Rattle.nearest.proofs.Tried.{nearest-is}
use Rattle.nearest.proofs.Only.{only_one}
use Rattle.nearest.proofs.Sides.{Ends, downward, upward}

-- ---- the ends of an arm, from the arms at them and one step before them
abbrev end_at : Format → Float → ℕ → ℕ → Bool
end_at f sigma a b = ltb 0 b && ltb b (patterns f) && leb (arm_at f sigma (b - 1)) a && ltb a (arm_at f sigma b)

parts_by : (f : Format) (sigma : Float) (a b : ℕ) → T (end_at f sigma a b) → Parts (arm_at f sigma) (patterns f) a b
parts_by f sigma a b t =
    let some : 0 < b = search (and_l, and_r, ltb→lt) in
    let few : b < patterns f = search (and_l, and_r, ltb→lt) in
    let lo : arm_at f sigma (b - 1) ≤ a = search (and_l, and_r, leb→le) in
    let hi : a < arm_at f sigma b = search (and_l, and_r, ltb→lt) in
    record {
      within = omega arith;
      before = λ q k. le_trans (arm_rising f sigma q (b - 1) (omega arith) (omega arith)) lo;
      after = λ q k j. le_trans hi (arm_rising f sigma b q k j);
    }

-- where +0 has an arm above a, no pattern has an arm of at most a
parts-zero : (f : Format) (sigma : Float) (a : ℕ) → T (ltb a (arm_at f sigma 0)) →
    Parts (arm_at f sigma) (patterns f) a 0
parts-zero f sigma a t =
    record {
      within = omega arith;
      before = λ q k. absurd (omega arith);
      after =
          λ q k j. le_trans (ltb→lt a (arm_at f sigma 0) t) (arm_rising f sigma 0 q (omega arith) j);
    }

abbrev here : Format → Float → ℕ → ℕ → Bool
here f sigma p a = ltb p (patterns f) && leb 1 a && eqb a (arm_at f sigma p)

ends_by :
    (f : Format) (sigma : Float) (p a low high : ℕ) → T (here f sigma p a) →
    Parts (arm_at f sigma) (patterns f) (a - 1) low → Parts (arm_at f sigma) (patterns f) a high →
    Ends (arm_at f sigma) (patterns f) p a low high
ends_by f sigma p a low high t l h =
    record {
      known = search (and_l, and_r, eqb→eq);
      inside = search (and_l, and_r, ltb→lt);
      some = search (and_l, and_r, leb→le);
      lower = l;
      upper = h;
    }

tie_by : (f : Format) (p a n : ℕ) → T (here f f0 p a) → T (end_at f f0 (a - 1) (p - n + 1)) →
    T (end_at f f0 a (p + n)) → Ends (arm_at f f0) (patterns f) p a (p - n + 1) (p + n)
tie_by f p a n t l h =
    ends_by f f0 p a (p - n + 1) (p + n) t (parts_by f f0 (a - 1) (p - n + 1) l) (parts_by f f0 a (p + n) h)

-- from the pattern p at σ, with the direction `first` where both need the same count, n steps lead to the arm a
abbrev Gives : Format → Float → Way → ℕ → ℕ → Way → ℕ → Type 0
Gives f sigma first p n d a = step n d a ≡ nearest_from (arm_at f sigma) (patterns f) first p

-- ---- a tie at σ = 0: arm 4 ends as far below as above
tie : Ends (arm_at binary64 f0) (patterns binary64) 0x3fe84d09ac60cc82 4 (0x3fe84d09ac60cc82 - 0x1764f60fc9d00a + 1)
    (0x3fe84d09ac60cc82 + 0x1764f60fc9d00a)
unfolding arm_at coeffs_arm coeffs_delta add mul sum round units odd size of_bits lt
tie = tie_by binary64 0x3fe84d09ac60cc82 4 0x1764f60fc9d00a tt tt tt

tie_down : Gives binary64 f0 down 0x3fe84d09ac60cc82 0x1764f60fc9d00a down 3
unfolding arm_at coeffs_arm coeffs_delta add mul sum round units odd size of_bits lt
tie_down = downward tie down 0x1764f60fc9d00a (lit< tt) refl (λ h. lit≤ tt) 3 refl

tie_up : Gives binary64 f0 up 0x3fe84d09ac60cc82 0x1764f60fc9d00a up 5
unfolding arm_at coeffs_arm coeffs_delta add mul sum round units odd size of_bits lt
tie_up = upward tie up 0x1764f60fc9d00a (lit< tt) refl (λ h. lit≤ tt) 5 refl

-- at the other width: arms 3 and 4
tie_32 : Ends (arm_at binary32 f0) (patterns binary32) 0x3e920c09 3 (0x3e920c09 - 0x8e51ea + 1) (0x3e920c09 + 0x8e51ea)
unfolding arm_at coeffs_arm coeffs_delta add mul sum round units odd size of_bits lt
tie_32 = tie_by binary32 0x3e920c09 3 0x8e51ea tt tt tt

tie_32_down : Gives binary32 f0 down 0x3e920c09 0x8e51ea down 2
unfolding arm_at coeffs_arm coeffs_delta add mul sum round units odd size of_bits lt
tie_32_down = downward tie_32 down 0x8e51ea (lit< tt) refl (λ h. lit≤ tt) 2 refl

tie_32_up : Gives binary32 f0 up 0x3e920c09 0x8e51ea up 4
unfolding arm_at coeffs_arm coeffs_delta add mul sum round units odd size of_bits lt
tie_32_up = upward tie_32 up 0x8e51ea (lit< tt) refl (λ h. lit≤ tt) 4 refl

upper_32 : Ends (arm_at binary32 f0) (patterns binary32) 0x3f9c1144 4 (0x3f9c1144 - 0x7bb352 + 1)
    (0x3f9c1144 + 0x7bb352)
unfolding arm_at coeffs_arm coeffs_delta add mul sum round units odd size of_bits lt
upper_32 = tie_by binary32 0x3f9c1144 4 0x7bb352 tt tt tt

upper_32_down : Gives binary32 f0 down 0x3f9c1144 0x7bb352 down 3
unfolding arm_at coeffs_arm coeffs_delta add mul sum round units odd size of_bits lt
upper_32_down = downward upper_32 down 0x7bb352 (lit< tt) refl (λ h. lit≤ tt) 3 refl

upper_32_up : Gives binary32 f0 up 0x3f9c1144 0x7bb352 up 5
unfolding arm_at coeffs_arm coeffs_delta add mul sum round units odd size of_bits lt
upper_32_up = upward upper_32 up 0x7bb352 (lit< tt) refl (λ h. lit≤ tt) 5 refl

-- ---- σ·σ one step below the closed limit: from +0 the closed arm is 0x3ca0000000000000 steps away
abbrev beside : Float
beside = of_bits binary64 0x3ff684f9aab51fdb

plateau : Ends (arm_at binary64 beside) (patterns binary64) 0 4 0 0x3ca0000000000000
unfolding arm_at coeffs_arm coeffs_delta add mul sum round units odd size of_bits lt
plateau =
    ends_by binary64 beside 0 4 0 0x3ca0000000000000 tt (parts-zero binary64 beside 3 tt)
    (parts_by binary64 beside 4 0x3ca0000000000000 tt)

far : Gives binary64 beside down 0 0x3ca0000000000000 up 5
unfolding arm_at coeffs_arm coeffs_delta add mul sum round units odd size of_bits lt
far = upward plateau down 0x3ca0000000000000 (lit< tt) refl (λ l. absurd (omega arith)) 5 refl

-- ---- σ·σ at the closed limit: every z has the closed arm
nowhere_else : (first : Way) (p : ℕ) → p < patterns binary64 →
    none ≡ nearest_from (arm_at binary64 (of_bits binary64 0x3ff684f9aab51fdc)) (patterns binary64) first p
unfolding arm_at coeffs_arm coeffs_delta add mul sum round units odd size of_bits lt
nowhere_else first p h =
    let sigma = of_bits binary64 0x3ff684f9aab51fdc in
    only_one (arm_at binary64 sigma) (patterns binary64) first p h none _ (all_closed binary64 sigma refl)
    (nearest-is (arm_at binary64 sigma) (patterns binary64) first p h)
