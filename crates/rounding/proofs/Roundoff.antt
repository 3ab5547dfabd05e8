-- `round` is within half a place of the fraction that it rounds. Assumes nothing.
use mathlib.Core.Path.{◌≡◌, refl, sym, ap, subst}
use Prim.Native.Nat.{ℕ, zero, suc, ◌+◌, ◌-◌, ◌*◌, ◌/◌, ◌%◌, ◌^◌, ◌≤◌, ◌<◌, compare, Ordering}
use native.Mathlib.Nat.{div-lt_iff_lt-mul, le_of_lt, le_refl, suc-mul, mul-le-mul_left, mul-le-mul_right}
use native.Mathlib.Nat.{le_of_mul-le-mul_right, lt_of_mul-lt-mul_right, mul-lt-mul_of_pos_right, mul-pos, div-add-mod'}
use native.Mathlib.Nat.{mod-lt, pow-suc}
use native.Mathlib.Omega.{arith}
use mathlib.Core.Bool.{Bool, true, false, not}
use lib.Dec.{T, is_le, compare_is_eq, eqb, leb→le, nleb→lt, eqb→eq, eqb_refl}
use lib.Arith.{lt_of_le-ne}
use lib.Pow.{pow_pos, pow-add}
use lib.Ieee.{Float, nan, inf, fin, Format, prec, emax, low, up, down, size, nearest, round}
use lib.Ieee.Digits.{size_reaches}
use lib.Ieee.Fits.{round_is}
use lib.Ieee.Nearest.{closest}
use lib.Ieee.Exact.{HasValue, units_val}
use Rattle.rounding.specs.Value.{Near, signed, AbsoluteError}
use Rattle.rounding.specs.Roundoff.{rounding_error}
use Rattle.rounding.proofs.Differences.{expand, zeros}

-- ---- what `compare` says
abbrev Cmp : Ordering → ℕ → ℕ → Type 0
Cmp Ordering.lt a b = a < b
Cmp Ordering.eq a b = a ≡ b
Cmp Ordering.gt a b = b < a

cmp : (a b : ℕ) → Cmp (compare a b) a b
cmp a b =
    go (compare a b) (leb→le a b) (nleb→lt a b) (eqb→eq a b)
    (λ (e : a ≡ b). subst (λ (x : ℕ). T (eqb a x)) e (eqb_refl a))
  where
    go : (o : Ordering) → (T (is_le o) → a ≤ b) → (T (not (is_le o)) → b < a) → (T (compare_is_eq o) → a ≡ b) →
        (a ≡ b → T (compare_is_eq o)) → Cmp o a b
    go Ordering.lt h k e n = lt_of_le-ne (h tt) n
    go Ordering.eq h k e n = e tt
    go Ordering.gt h k e n = k tt

-- ---- the nearest whole number is within a half
abbrev pub Half : ℕ → ℕ → ℕ → Type 0
Half q n u = (2 * (q * u) ≤ 2 * n + u) × (2 * n ≤ 2 * (q * u) + u)

tie : (r v n u : ℕ) → v * u + r ≡ n → r * 2 ≡ u → (b : ℕ) → v % 2 ≡ b → b < 2 → Half (v + b) n u
tie r v n u e h zero p l = simp expand (omega arith, omega arith)
tie r v n u e h (suc zero) p l = simp expand (omega arith, omega arith)
tie r v n u e h (suc (suc b)) p l = absurd (omega arith)

within-half : (v r n u : ℕ) → v * u + r ≡ n → r < u → (o : Ordering) → Cmp o (r * 2) u → Half (nearest v o) n u
within-half v r n u e l Ordering.lt c = (omega arith, omega arith)
within-half v r n u e l Ordering.eq c = tie r v n u e c (v % 2) refl (omega arith)
within-half v r n u e l Ordering.gt c = let t : suc v * u ≡ v * u + u = suc-mul v u in (omega arith, omega arith)

pub closest_half : (n u : ℕ) → 0 < u → Half (closest n u) n u
closest_half n u h =
    within-half (n / u) (n % u) n u (div-add-mod' n u) (mod-lt n h) (compare (n % u * 2) u) (cmp (n % u * 2) u)

-- ---- the place k that is rounded to is 0, or the whole part has prec + k digits
place_up : (x y p v : ℕ) → x ≡ y * 2 → y * p ≤ v → x * p ≤ 2 * v + p
place_up x y p v e h = rw e (simp expand (omega arith))

place-low : (z p v c : ℕ) → z - p ≡ suc c → ((j : ℕ) → j < z → 2 ^ j ≤ v) → 2 ^ c * 2 ^ p ≤ v
place-low z p v c e h = subst (λ (x : ℕ). x ≤ v) (pow-add 2 c p) (h (c + p) (omega arith))

place : (z p v : ℕ) → (c : ℕ) → z - p ≡ c → ((j : ℕ) → j < z → 2 ^ j ≤ v) → 2 ^ c * 2 ^ p ≤ 2 * v + 2 ^ p
place z p v zero e h = omega arith
place z p v (suc c) e h = place_up (2 ^ suc c) (2 ^ c) (2 ^ p) v (pow-suc 2 c) (place-low z p v c e h)

pub place-size : (p n den : ℕ) → 0 < den → 2 ^ (size (n / den) - p) * 2 ^ p * den ≤ 2 * n + 2 ^ p * den
place-size p n den h =
    let a : 2 ^ (size (n / den) - p) * 2 ^ p ≤ 2 * (n / den) + 2 ^ p =
    place (size (n / den)) p (n / den) (size (n / den) - p) refl (λ j l. size_reaches (n / den) j l) in
    let b : n / den * den + n % den ≡ n = div-add-mod' n den in
    let c = mul-le-mul_right den a in
    simp expand (omega (arith, simp expand at c, b))

-- ---- in units of the smallest value: q 2 ^ k against n / den, each difference times 2 ^ prec
pub halves : (p K den n q : ℕ) → Half q n (den * K) → K * p * den ≤ 2 * n + p * den
    → (2 * (p * (q * K * den)) ≤ 2 * (p * n) + 2 * n + p * den)
    × (2 * (p * n) ≤ 2 * (p * (q * K * den)) + 2 * n + p * den)
halves p K den n q h l =
    let a = mul-le-mul_left p h.0 in
    let b = mul-le-mul_left p h.1 in (
      simp expand (omega (arith, simp expand at a, simp expand at l)),
      simp expand
          (omega (arith, simp expand at b, simp expand at l)),
    )

-- ---- in units of 1 / w, for a fraction num / den of at most x units: it is within e units of q / l
pub scaled-up : (w x e l p num den q : ℕ) → 0 < p → 2 * (p * (q * den))
    ≤ 2 * (p * (num * l)) + 2 * (num * l) + p * den → w * num ≤ x * den → 2 * (x * l) + w * p ≤ e * (p * (2 * l))
    → w * (q * den) ≤ w * (num * l) + e * (l * den)
scaled-up w x e l p num den q z h s b =
    let u = mul-le-mul_left w h in
    let v = mul-le-mul_right (2 * l) s in
    let c = mul-le-mul_right den b in
    le_of_mul-le-mul_right {k = 2 * p}
    (simp expand (omega (arith, simp expand at u, simp expand at v, simp expand at c))) (omega arith)

pub scaled-down : (w x e l p num den q : ℕ) → 0 < p → 2 * (p * (num * l))
    ≤ 2 * (p * (q * den)) + 2 * (num * l) + p * den → w * num ≤ x * den → 2 * (x * l) + w * p ≤ e * (p * (2 * l))
    → w * (num * l) ≤ w * (q * den) + e * (l * den)
scaled-down w x e l p num den q z h s b =
    let u = mul-le-mul_left w h in
    let v = mul-le-mul_right (2 * l) s in
    let c = mul-le-mul_right den b in
    le_of_mul-le-mul_right {k = 2 * p}
    (simp expand (omega (arith, simp expand at u, simp expand at v, simp expand at c))) (omega arith)

-- ---- `rounding_error` is enough
pub rnd_enough : (f : Format) (w x : ℕ) → 2 * (x * 2 ^ low f) + w * 2 ^ prec f
    ≤ rounding_error f w x * (2 ^ prec f * (2 * 2 ^ low f))
rnd_enough f w x =
    go (2 ^ prec f) (2 ^ low f) (2 ^ suc (low f)) (pow-suc 2 (low f)) (pow_pos (prec f)) (pow_pos (suc (low f)))
  where
    go : (p l m : ℕ) → m ≡ l * 2 → 0 < p → 0 < m → 2 * (x * l) + w * p ≤ (suc (x / p) + suc (w / m)) * (p * (2 * l))
    go p l m e hp hm =
        let a = mul-le-mul_right (2 * l) (le_of_lt ((div-lt_iff_lt-mul hp).0 (le_refl (suc (x / p))))) in
        let b : w ≤ suc (w / m) * (l * 2) = subst (λ (y : ℕ). w ≤ suc (w / m) * y) e
        (le_of_lt ((div-lt_iff_lt-mul hm).0 (le_refl (suc (w / m))))) in
        let c = mul-le-mul_right p b in
        simp expand (omega (arith, simp expand at a, simp expand at c))

-- ---- a float that is q / l with the sign s, against num / den with that sign
near-signed : (w e : ℕ) (s : Bool) (a c b d : ℕ) → w * (a * d) ≤ w * (b * c) + e * (c * d) →
    w * (b * c) ≤ w * (a * d) + e * (d * c) → Near w (signed s a c) (signed s b d) e
near-signed w e false a c b d h k = record { above = simp zeros (omega arith); below = simp zeros (omega arith) }
near-signed w e true a c b d h k = record { above = simp zeros (omega arith); below = simp zeros (omega arith) }

pub moved_up : (w e m v q l num den : ℕ) → 0 < l → m * l ≡ q * v → w * (q * den) ≤ w * (num * l) + e * (l * den) →
    w * (m * den) ≤ w * (num * v) + e * (v * den)
moved_up w e m v q l num den z h k =
    let a = mul-le-mul_right v k in
    let b : w * den * (m * l) ≡ w * den * (q * v) = ap (λ (x : ℕ). w * den * x) h in
    le_of_mul-le-mul_right (simp expand (omega (arith, simp expand at a, simp expand at b))) z

pub moved_down : (w e m v q l num den : ℕ) → 0 < l → m * l ≡ q * v → w * (num * l) ≤ w * (q * den) + e * (l * den) →
    w * (num * v) ≤ w * (m * den) + e * (den * v)
moved_down w e m v q l num den z h k =
    let a = mul-le-mul_right v k in
    let b : w * den * (m * l) ≡ w * den * (q * v) = ap (λ (x : ℕ). w * den * x) h in
    le_of_mul-le-mul_right (simp expand (omega (arith, simp expand at a, simp expand at b))) z

error-from : (w e : ℕ) (x : Float) (s : Bool) (q l num den : ℕ) → 0 < l → HasValue x s q l →
    w * (q * den) ≤ w * (num * l) + e * (l * den) → w * (num * l) ≤ w * (q * den) + e * (l * den)
    → AbsoluteError w x (signed s num den) e
error-from w e nan s q l num den z v h k = v
error-from w e (inf t) s q l num den z v h k = v
error-from w e (fin t m j) s q l num den z v h k =
    subst (λ (b : Bool). Near w (signed b (m * up j) (down j)) (signed s num den) e) (sym v.0)
    (near-signed w e s (m * up j) (down j) num den (moved_up w e (m * up j) (down j) q l num den z v.1 h)
    (moved_down w e (m * up j) (down j) q l num den z v.1 k))

-- ---- no overflow
small_enough : (w x e l t num den q : ℕ) → 0 < den → w * (q * den) ≤ w * (num * l) + e * (l * den) → w * num ≤ x * den →
    x + e < t * w → 0 < l → q < l * t
small_enough w x e l t num den q z h s b g =
    let u = mul-le-mul_right l s in
    let c : w * q ≤ (x + e) * l =
    le_of_mul-le-mul_right (simp expand (omega (arith, simp expand at h, simp expand at u))) z in
    let d : (x + e) * l < t * w * l = mul-lt-mul_of_pos_right b g in
    lt_of_mul-lt-mul_right w (simp expand (omega (arith, simp expand at c, simp expand at d)))

-- ---- one rounding: num / den of at most x / w comes out finite and within its rounding error, where the sum of both
-- is below the format's overflow
pub rounding-error : (f : Format) (w x : ℕ) (s : Bool) (num den : ℕ) → 0 < den → w * num ≤ x * den →
    x + rounding_error f w x < 2 ^ suc (emax f) * w
    → AbsoluteError w (round f s num den) (signed s num den) (rounding_error f w x)
rounding-error f w x s num den z h b =
    let l = 2 ^ low f in
    let n = num * l in
    let k = size (n / den) - prec f in
    let q = closest n (den * 2 ^ k) in
    let hv = halves (2 ^ prec f) (2 ^ k) den n q (closest_half n (den * 2 ^ k) (mul-pos z (pow_pos k)))
    (place-size (prec f) n den z) in
    let up = scaled-up w x (rounding_error f w x) l (2 ^ prec f) num den (q * 2 ^ k) (pow_pos (prec f)) hv.0 h
    (rnd_enough f w x) in
    let dn = scaled-down w x (rounding_error f w x) l (2 ^ prec f) num den (q * 2 ^ k) (pow_pos (prec f)) hv.1 h
    (rnd_enough f w x) in
    let fit = small_enough w x (rounding_error f w x) l (2 ^ suc (emax f)) num den (q * 2 ^ k) z up h b
    (pow_pos (low f)) in
    let val = units_val f s q k (subst (λ (y : ℕ). q * 2 ^ k < y) (sym (pow-add 2 (low f) (suc (emax f)))) fit) in
    error-from w (rounding_error f w x) (round f s num den) s (q * 2 ^ k) l num den (pow_pos (low f))
    (subst (λ (y : Float). HasValue y s (q * 2 ^ k) l) (sym (round_is f s num den)) val) up dn
