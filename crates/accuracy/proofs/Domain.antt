-- What a test of the computed Δ tells of σ and z. Assumes nothing.
use mathlib.Core.Path.{◌≡◌, refl, sym, ap, ◌∙◌, subst}
use Prim.Native.Nat.{ℕ, zero, suc, ◌+◌, ◌-◌, ◌*◌, ◌/◌, ◌^◌, ◌≤◌, ◌<◌}
use native.Mathlib.Nat.{div-lt_iff_lt-mul, le_of_lt, le_refl, le_trans, le_of_eq, mul_assoc, zero-mul, mul-le-mul_left}
use native.Mathlib.Nat.{mul-le-mul_right, le_of_mul-le-mul_right, mul-pos}
use native.Mathlib.Omega.{arith}
use mathlib.Core.Bool.{Bool, true, false, not, cond}
use lib.IntN.{ℤ}
use lib.Dec.{T, ltb, ltb→lt, nltb→le, lit≤}
use lib.Pow.{pow_pos, pow_mono}
use lib.Ieee.{Float, nan, inf, fin, Format, prec, emax, low, unlike, up, down, size, odd, units, round, add, mul, lt}
use lib.Ieee as I
use lib.Ieee.Fits.{round_is, down_pos, two}
use lib.Ieee.Nearest.{closest}
use lib.Ieee.Exact.{HasValue, odd_sign}
use Rattle.ieee.specs.Numbers.{f0}
use Rattle.series.specs.Series.{coeffs_delta}
use Rattle.rounding.specs.Value.{plus, times, signed, value_of, AtMost}
use Rattle.rounding.specs.Roundoff.{rounding_error}
use Rattle.accuracy.specs.Domain.{before, delta_most, InDomain}
use Rattle.rounding.proofs.Differences.{expand, zeros}
use Rattle.rounding.proofs.Squares.{square_le}
use Rattle.rounding.proofs.Roundoff.{moved_down, closest_half, place-size, halves, scaled-down, rnd_enough}

-- ---- what a finite result of `round` is: q 2 ^ k units
abbrev drop : Format → ℕ → ℕ → ℕ
drop f num den = size (num * 2 ^ low f / den) - prec f

abbrev kept : Format → ℕ → ℕ → ℕ
kept f num den = closest (num * 2 ^ low f) (den * 2 ^ drop f num den) * 2 ^ drop f num den

abbrev IsFin : Float → Type 0
IsFin nan = ⊥
IsFin (inf s) = ⊥
IsFin (fin s m e) = Unit {0}

round_fin : (f : Format) (s : Bool) (num den : ℕ) (t : Bool) (m : ℕ) (j : ℤ) → round f s num den ≡ fin t m j →
    HasValue (fin t m j) s (kept f num den) (2 ^ low f)
unfolding units
round_fin f s num den t m j e =
    let k = drop f num den in
    let q = closest (num * 2 ^ low f) (den * 2 ^ k) in
    go (ltb (q * 2 ^ k) (2 ^ (low f + suc (emax f)))) (sym (round_is f s num den) ∙ e)
  where
    go : (b : Bool) → cond b (odd (suc (prec f)) s (closest (num * 2 ^ low f) (den * 2 ^ drop f num den))
        (drop f num den) (low f)) (inf s)
        ≡ fin t m j → HasValue (fin t m j) s (kept f num den) (2 ^ low f)
    go true h =
        subst (λ (x : Float). HasValue x s (kept f num den) (2 ^ low f)) h
        (odd_sign (suc (prec f)) s (closest (num * 2 ^ low f) (den * 2 ^ drop f num den)) (drop f num den) (low f))
    go false h = absurd (subst IsFin (sym h) tt)

-- ---- what was rounded, from the result
units_most : (w x l m v q : ℕ) → 0 < v → m * l ≡ q * v → w * m ≤ x * v → w * q ≤ x * l
units_most w x l m v q z e k =
    let a = mul-le-mul_right l k in
    let b = ap (λ (i : ℕ). w * i) e in
    le_of_mul-le-mul_right (simp expand (omega (arith, simp expand at a, simp expand at b))) z

back_rest : (w x b u p l num den q : ℕ) → 0 < u * l → 2 * p ≡ u + 2 →
    2 * (p * (num * l)) ≤ 2 * (p * (q * den)) + 2 * (num * l) + p * den
    → w * q ≤ x * l → 2 * (p * (l * x)) + p * w ≤ b * (u * l) → w * num ≤ b * den
back_rest w x b u p l num den q z e h k c =
    let a = mul-le-mul_left w h in
    let f = mul-le-mul_left (2 * p * den) k in
    let g = mul-le-mul_right den c in
    let i = ap (λ (j : ℕ). j * (w * (num * l))) e in
    le_of_mul-le-mul_right {k = u * l} (last w x b u p l num den q a f g i) z
  where
    last : (w x b u p l num den q : ℕ) → w * (2 * (p * (num * l)))
        ≤ w * (2 * (p * (q * den)) + 2 * (num * l) + p * den) → 2 * p * den *
        (w * q) ≤ 2 * p * den * (x * l) → (2 * (p * (l * x)) + p * w) * den ≤ b * (u * l) * den
        → 2 * p * (w * (num * l)) ≡ (u + 2) * (w * (num * l)) → w * num * (u * l) ≤ b * den * (u * l)
    last w x b u p l num den q a f g i =
        simp expand (omega (arith, simp expand at a, simp expand at f, simp expand at g, simp expand at i))

two_less : (p : ℕ) → 2 ≤ p → 0 < 2 * p - 2
two_less p h = omega arith

two_back : (p : ℕ) → 2 ≤ p → 2 * p ≡ 2 * p - 2 + 2
two_back p h = omega arith

two_power : (k : ℕ) → 2 ≤ k → 2 ≤ 2 ^ k
two_power k h = le_trans (lit≤ tt) (pow_mono h)

pub round_back : (f : Format) (w x : ℕ) (s : Bool) (num den : ℕ) (t : Bool) (m : ℕ) (j : ℤ) → 0 < den →
    round f s num den ≡ fin t m j → w * (m * up j) ≤ x * down j → w * num ≤ before f w x * den
round_back f w x s num den t m j z e h =
    let p = 2 ^ prec f in
    let l = 2 ^ low f in
    let p2 : 2 ≤ p = two_power (prec f) (two f) in
    let k = drop f num den in
    let q = closest (num * l) (den * 2 ^ k) in
    let hv = halves p (2 ^ k) den (num * l) q (closest_half (num * l) (den * 2 ^ k) (mul-pos z (pow_pos k)))
    (place-size (prec f) (num * l) den z) in
    let up : 0 < (2 * p - 2) * l = mul-pos (two_less p p2) (pow_pos (low f)) in
    back_rest w x (before f w x) (2 * p - 2) p l num den (kept f num den) up (two_back p p2) hv.1
    (units_most w x l (m * I.up j) (down j) (kept f num den) (down_pos j) (round_fin f s num den t m j e).1 h)
    (le_of_lt ((div-lt_iff_lt-mul up).0 (le_refl _)))

-- what was rounded is at most the result and the error
pub round_gap : (f : Format) (w y : ℕ) (s : Bool) (num den : ℕ) (t : Bool) (m : ℕ) (j : ℤ) → 0 < den →
    round f s num den ≡ fin t m j
    → w * num ≤ y * den → w * (num * down j) ≤ w * (m * up j * den) + rounding_error f w y * (den * down j)
round_gap f w y s num den t m j z e h =
    let p = 2 ^ prec f in
    let l = 2 ^ low f in
    let k = drop f num den in
    let q = closest (num * l) (den * 2 ^ k) in
    let hv = halves p (2 ^ k) den (num * l) q (closest_half (num * l) (den * 2 ^ k) (mul-pos z (pow_pos k)))
    (place-size (prec f) (num * l) den z) in
    moved_down w (rounding_error f w y) (m * up j) (down j) (kept f num den) l num den (pow_pos (low f))
    (round_fin f s num den t m j e).1
    (scaled-down w y (rounding_error f w y) l p num den (kept f num den) (pow_pos (prec f)) hv.1 h (rnd_enough f w y))

-- ---- a rounded fraction below a limit
abbrev IsTrue : Float → Type 0
IsTrue nan = ⊥
IsTrue (inf s) = T s
IsTrue (fin s m e) = ⊥

odd-finite : (d : ℕ) (s : Bool) (q k l : ℕ) → IsFin (odd d s q k l)
unfolding odd
odd-finite d s zero k l = tt
odd-finite d s (suc q) k l = tt

fin_no_inf : (x : Float) (t : Bool) → IsFin x → x ≡ inf t → ⊥
fin_no_inf x t h e = subst IsFin e h

round_inf : (f : Format) (num den : ℕ) → round f false num den ≡ inf true → ⊥
unfolding units
round_inf f num den e = go (ltb (kept f num den) (2 ^ (low f + suc (emax f)))) (sym (round_is f false num den) ∙ e)
  where
    go : (b : Bool) → cond b (odd (suc (prec f)) false (closest (num * 2 ^ low f) (den * 2 ^ drop f num den))
        (drop f num den) (low f)) (inf false) ≡ inf true → ⊥
    go true h =
        fin_no_inf (odd (suc (prec f)) false (closest (num * 2 ^ low f) (den * 2 ^ drop f num den)) (drop f num den)
        (low f)) true
        (odd-finite (suc (prec f)) false (closest (num * 2 ^ low f) (den * 2 ^ drop f num den)) (drop f num den)
        (low f)) h
    go false h = subst IsTrue (sym h) tt

limit_le : (w x a v b u : ℕ) → 0 < u → a * u < b * v → w * b ≤ x * u → w * a ≤ x * v
limit_le w x a v b u z h k =
    let p : a * u ≤ b * v = omega arith in
    let c = mul-le-mul_left w p in
    let d = mul-le-mul_right v k in
    le_of_mul-le-mul_right {k = u} (simp expand (omega (arith, simp expand at c, simp expand at d))) z

pub round-below : (f : Format) (w x : ℕ) (num den : ℕ) (n : ℕ) (d : ℤ) → 0 < den →
    T (lt (round f false num den) (fin false n d)) → w * (n * up d) ≤ x * down d → w * num ≤ before f w x * den
unfolding lt
round-below f w x num den n d z t h = go (round f false num den) refl t
  where
    go : (r : Float) → round f false num den ≡ r → T (lt r (fin false n d)) → w * num ≤ before f w x * den
    go nan e t = absurd t
    go (inf true) e t = absurd (round_inf f num den e)
    go (inf false) e t = absurd t
    go (fin true m j) e t = absurd (subst T (round_fin f false num den true m j e).0 tt)
    go (fin false m j) e t =
        round_back f w x false num den false m j z e
        (limit_le w x (m * up j) (down j) (n * up d) (down d) (down_pos d)
        (ltb→lt (m * up j * down d) (n * up d * down j) t) h)

-- ---- the sum
abbrev Plus : Float → Type 0
Plus nan = Unit {0}
Plus (inf true) = ⊥
Plus (inf false) = Unit {0}
Plus (fin true m e) = ⊥
Plus (fin false m e) = Unit {0}

abbrev SumIn : ℕ → Float → Float → ℕ → Type 0
SumIn w nan z x = ⊥
SumIn w (inf s) z x = ⊥
SumIn w (fin s m e) nan x = ⊥
SumIn w (fin s m e) (inf t) x = ⊥
SumIn w (fin s m e) (fin t n d) x =
    (w * (m * up e * down d + n * up d * down e) ≤ x * (down e * down d)) × (cond t (n * up d) 0 ≡ 0)

none : (a b c : ℕ) → a * 1 + b ≤ 0 → a ≡ 0
none a b c h = omega arith

minus_in : (f : Format) (w x a b c n : ℕ) (d : ℤ) → 0 < c → b ≡ 0 → w * (n * up d) ≤ x * down d → (g : Bool) →
    (T g → a < b) → T
    (lt (cond g (round f true (b - a) c) (round f false (a - b) c)) (fin false n d)) → w * (a + b) ≤ before f w x * c
minus_in f w x a b c n d z e h true g t = let k : a < b = g tt in absurd (omega arith)
minus_in f w x a b c n d z e h false g t =
    let q : a - b ≡ a + b = omega arith in
    subst (λ (i : ℕ). w * i ≤ before f w x * c) q (round-below f w x (a - b) c n d z t h)

sum_in : (f : Format) (w x : ℕ) (a z : Float) (n : ℕ) (d : ℤ) → Plus a → T (not (lt z f0)) →
    T (lt (add f a z) (fin false n d)) → w * (n * up d) ≤ x * down d → SumIn w a z (before f w x)
unfolding add I.sum lt
sum_in f w x nan z n d p k t h = absurd t
sum_in f w x (inf true) z n d p k t h = absurd p
sum_in f w x (inf false) nan n d p k t h = absurd t
sum_in f w x (inf false) (inf true) n d p k t h = absurd t
sum_in f w x (inf false) (inf false) n d p k t h = absurd t
sum_in f w x (inf false) (fin s m e) n d p k t h = absurd t
sum_in f w x (fin true m e) z n d p k t h = absurd p
sum_in f w x (fin false m e) nan n d p k t h = absurd t
sum_in f w x (fin false m e) (inf true) n d p k t h = absurd k
sum_in f w x (fin false m e) (inf false) n d p k t h = absurd t
sum_in f w x (fin false m e) (fin false b c) n d p k t h = (
  round-below f w x (m * up e * down c + b * up c * down e) (down e * down c) n d
      (mul-pos (down_pos e) (down_pos c)) t h,
  refl,
)
sum_in f w x (fin false m e) (fin true b c) n d p k t h =
    let g : b * up c ≡ 0 = none (b * up c) (0 * 1 * down c) 0 (nltb→le 0 (b * up c * 1 + 0 * 1 * down c) k) in (
      minus_in f w x (m * up e * down c) (b * up c * down e) (down e * down c) n d (mul-pos (down_pos e) (down_pos c))
          (ap (λ (i : ℕ). i * down e) g ∙ zero-mul (down e)) h
          (ltb (m * up e * down c) (b * up c * down e)) (ltb→lt (m * up e * down c) (b * up c * down e)) t,
      g,
    )

-- ---- the square
square-plus : (f : Format) (num den : ℕ) (r : Float) → round f false num den ≡ r → Plus r
square-plus f num den nan e = tt
square-plus f num den (inf true) e = absurd (round_inf f num den e)
square-plus f num den (inf false) e = tt
square-plus f num den (fin true m j) e = absurd (subst T (round_fin f false num den true m j e).0 tt)
square-plus f num den (fin false m j) e = tt

both_whole : (w x e num den m v b u : ℕ) → 0 < v → w * (m * u + b * v) ≤ x * (v * u) →
    w * (num * v) ≤ w * (m * den) + e * (den * v) → w * (num * u + b * den) ≤ (x + e) * (den * u)
both_whole w x e num den m v b u z h k =
    let a = mul-le-mul_right u k in
    let c = mul-le-mul_right den h in
    le_of_mul-le-mul_right {k = v} (simp expand (omega (arith, simp expand at a, simp expand at c))) z

left-most : (w x m v b u : ℕ) → 0 < u → w * (m * u + b * v) ≤ x * (v * u) → w * m ≤ x * v
left-most w x m v b u z h = le_of_mul-le-mul_right {k = u} (simp expand (omega (arith, simp expand at h))) z

right-most : (w x m v b u : ℕ) → 0 < v → w * (m * u + b * v) ≤ x * (v * u) → w * b ≤ x * u
right-most w x m v b u z h = le_of_mul-le-mul_right {k = v} (simp expand (omega (arith, simp expand at h))) z

-- the exact σ² + z, where σ² is num / den
exact-delta : (f : Format) (w x num den : ℕ) (a : Float) (t : Bool) (b : ℕ) (c : ℤ) → 0 < den →
    round f false num den ≡ a → SumIn w a (fin t b c) x
    → (w * (num * down c + b * up c * den) ≤ (x + rounding_error f w (before f w x)) * (den * down c))
    × (w * (b * up c) ≤ x * down c) × (cond t (b * up c) 0 ≡ 0)
exact-delta f w x num den nan t b c z e h = absurd h
exact-delta f w x num den (inf s) t b c z e h = absurd h
exact-delta f w x num den (fin s m j) t b c z e h =
    let y : w * num ≤ before f w x * den = round_back f w x false num den s m j z e
    (left-most w x (m * up j) (down j) (b * up c) (down c) (down_pos c) h.0) in (
      both_whole w x (rounding_error f w (before f w x)) num den (m * up j) (down j) (b * up c) (down c)
          (down_pos j) h.0 (round_gap f w (before f w x) false num den s m j z e y),
      right-most w x (m * up j) (down j) (b * up c) (down c) (down_pos j) h.0,
      h.1,
    )

-- ---- the domain
z_fin : (w x : ℕ) (a z : Float) → SumIn w a z x → IsFin z
z_fin w x nan z h = absurd h
z_fin w x (inf s) z h = absurd h
z_fin w x (fin s m e) nan h = absurd h
z_fin w x (fin s m e) (inf t) h = absurd h
z_fin w x (fin s m e) (fin t n d) h = tt

pub root-whole : (w x r a c : ℕ) → w * (a * a) ≤ x * (c * c) → w * x ≤ r * r → w * a ≤ r * c
root-whole w x r a c h k =
    square_le (w * a) (r * c) (squares w x r a c (mul-le-mul_left w h) (mul-le-mul_right (c * c) k))
  where
    squares : (w x r a c : ℕ) → w * (w * (a * a)) ≤ w * (x * (c * c)) → w * x * (c * c) ≤ r * r * (c * c) →
        w * a * (w * a) ≤ r * c * (r * c)
    squares w x r a c h k = simp expand (omega (arith, h, simp expand at k))

delta_side : (w x r a b c u : ℕ) → w * (a * u + b * c) ≤ x * (c * u) → w * x ≤ r * r →
    w * w * (a * u + b * c) ≤ r * r * (c * u)
delta_side w x r a b c u h k =
    let p = mul-le-mul_left w h in
    let q = mul-le-mul_right (c * u) k in
    le_trans (le_of_eq (mul_assoc w w (a * u + b * c))) (le_trans p
    (le_trans (le_of_eq (sym (mul_assoc w x (c * u)))) q))

delta-most : (w x r : ℕ) (s t : Bool) (a c b u : ℕ) → cond t b 0 ≡ 0 → w * (a * a * u + b * (c * c)) ≤ x * (c * c * u) →
    w * x ≤ r * r → AtMost
    (w * w) (plus (times (signed s a c) (signed s a c)) (signed t b u)) (r * r)
delta-most w x r false false a c b u e h k =
    let l = delta_side w x r (a * a) b (c * c) u h k in record {
      above = simp zeros l;
      below =
          simp zeros (omega arith);
    }
delta-most w x r true false a c b u e h k =
    let l = delta_side w x r (a * a) b (c * c) u h k in record {
      above = simp zeros l;
      below =
          simp zeros (omega arith);
    }
delta-most w x r false true a c b u e h k =
    let l = delta_side w x r (a * a) 0 (c * c) u (rw e at h) k in
    rw e (record { above = simp zeros (simp zeros at l); below = simp zeros (omega arith) })
delta-most w x r true true a c b u e h k =
    let l = delta_side w x r (a * a) 0 (c * c) u (rw e at h) k in
    rw e (record { above = simp zeros (simp zeros at l); below = simp zeros (omega arith) })

value-nonnegative : (t : Bool) (n : ℕ) (d : ℤ) → cond t (n * up d) 0 ≡ 0 → (value_of (fin t n d)).n ≡ 0
unfolding value_of
value-nonnegative t n d h = h

-- where the computed Δ is below n 2 ^ d, and z not below 0
pub domain : (f : Format) (w x r y : ℕ) (sigma z : Float) (n : ℕ) (d : ℤ) → 0 < w →
    T (lt (coeffs_delta f sigma z) (fin false n d)) → T (not (lt z f0))
    → w * (n * up d) ≤ x * down d → w * delta_most f w x ≤ r * r → before f w x ≤ y
    → InDomain w r y sigma z
unfolding coeffs_delta mul value_of
domain f w x r y nan z n d wp t k h a yb = absurd (sum_in f w x nan z n d tt k t h)
domain f w x r y (inf true) z n d wp t k h a yb = absurd (sum_in f w x (inf false) z n d tt k t h)
domain f w x r y (inf false) z n d wp t k h a yb = absurd (sum_in f w x (inf false) z n d tt k t h)
domain f w x r y (fin s m e) z n d wp t k h a yb =
    let num = m * up e * (m * up e) in
    let den = down e * down e in
    let q = round f false num den in
    let g : SumIn w q z (before f w x) = sum_in f w x q z n d (square-plus f num den q refl) k
    (sign s (λ (i : Bool). T (lt (add f (round f i num den) z) (fin false n d))) t) h in
    go z g (z_fin w (before f w x) q z g)
  where
    sign : (s : Bool) (P : Bool → Type 0) → P (unlike s s) → P false
    sign true P h = h
    sign false P h = h

    go : (z : Float) → SumIn w (round f false (m * up e * (m * up e)) (down e * down e)) z (before f w x) → IsFin z →
        InDomain w r y (fin s m e) z
    go nan g i = absurd i
    go (inf t) g i = absurd i
    go (fin t b c) g i =
        let num = m * up e * (m * up e) in
        let den = down e * down e in
        let dp : 0 < den = mul-pos (down_pos e) (down_pos e) in
        let l = exact-delta f w (before f w x) num den (round f false num den) t b c dp refl g in
        record {
          sigma =
              root-whole w (delta_most f w x) r (m * up e) (down e)
              (left-most w (delta_most f w x) num den (b * up c) (down c) (down_pos c) l.0) a;
          z = le_trans l.1 (mul-le-mul_right (down c) yb);
          nonnegative = value-nonnegative t b c l.2;
          delta = delta-most w (delta_most f w x) r s t (m * up e) (down e) (b * up c) (down c) l.2 l.0 a;
        }
