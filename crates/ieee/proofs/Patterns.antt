-- The patterns below the infinity's are those of the finite values from +0 up, in the order of the values; and each
-- such value is a whole number of units. Assumes nothing.
use mathlib.Core.Path.{◌≡◌, sym, ap, ◌∙◌, subst}
use mathlib.Core.Logic.{inl, inr}
use Prim.Native.Nat.{ℕ, zero, suc, ◌+◌, ◌-◌, ◌*◌, ◌/◌, ◌%◌, ◌^◌, ◌≤◌, ◌<◌}
use native.Mathlib.Nat.{le_trans, lt_irrefl, mul-le-mul_right, mul-le-mul_left, one-le-pow, div-lt_iff_lt-mul}
use native.Mathlib.Nat.{le-div_iff_mul-le, div-eq_of_lt, mod-lt, mod-eq_of_lt, div-add-mod'}
use native.Mathlib.Nat.{zero-add, zero-mul, zero-lt-suc, mul-one, one-mul, mul_right_comm, mul-lt-mul_of_pos_right}
use native.Mathlib.Nat.{mul-div_cancel, eq_of_mul-eq-mul_right, pow-suc, pow-succ', mul-pos}
use native.Mathlib.Omega.{arith}
use mathlib.Core.Bool.{Bool, false}
use lib.IntN.{ℤ}
use lib.Dec.{T, ltb→lt}
use lib.Pow.{pow_pos, pow-add, pow_mono}
use borrow.Author.Tests.{lt-leb, ne_eqb}
use lib.Ieee.{Float, fin, Format, prec, emax, low, up, down, hid, ones, top, size, odd, of_fields, of_bits, to_bits}
use lib.Ieee.{fits, le}
use lib.Ieee.Digits.{size-le}
use lib.Ieee.Fits.{two, reach, kept-lt, up_pos, down_pos, and_l, and_r}
use lib.Ieee.Bits.{of_bits-to_bits}
use lib.Ieee.Exact.{HasValue, odd_sign}
use lib.Ieee.Order.{le_of_values}
use lib.Ieee.Scale.{finite}
use Rattle.std.proofs.lemmas.Bool.{cases_lt}
use Rattle.ieee.specs.Patterns.{patterns, units_of, field_units, pattern_units}
use Rattle.ieee.proofs.Values.{value-finite, unsigned}

-- ---- a larger field outweighs all digits, so a larger pattern has at least as many units
outweighs : (h x t y u : ℕ) → t < h → x < y → field_units h x t ≤ field_units h y u
unfolding field_units
outweighs h x t zero u a b = absurd (omega arith)
outweighs h zero t (suc y) u a b =
    let one : 1 ≤ 2 ^ y = one-le-pow y 2 (omega arith) in
    let few : t ≤ (h + u) * 1 = omega arith in
    le_trans few (mul-le-mul_left (h + u) one)
outweighs h (suc x) t (suc y) u a b =
    let steps : 2 ^ suc x ≤ 2 ^ y = pow_mono (omega arith) in
    let doubled : (h + t) * 2 ^ x ≤ (h + h) * 2 ^ x = mul-le-mul_right (2 ^ x) (omega arith) in
    let grown : h * 2 ^ suc x ≤ h * 2 ^ y = mul-le-mul_left h steps in
    let even : h * 2 ^ suc x ≡ h * (2 ^ x * 2) = ap (λ (k : ℕ). h * k) (pow-suc 2 x) in
    let more : h * 2 ^ y ≤ (h + u) * 2 ^ y = mul-le-mul_right (2 ^ y) (omega arith) in
    omega arith

more_digits : (h x t u : ℕ) → t ≤ u → field_units h x t ≤ field_units h x u
unfolding field_units
more_digits h zero t u k = k
more_digits h (suc x) t u k = mul-le-mul_right (2 ^ x) (omega arith)

fields_mono : (h p q : ℕ) → 0 < h → p ≤ q → field_units h (p / h) (p % h) ≤ field_units h (q / h) (q % h)
fields_mono h p q H k =
    let P : p / h * h + p % h ≡ p = div-add-mod' p h in
    let Q : q / h * h + q % h ≡ q = div-add-mod' q h in
    let ph : p % h < h = mod-lt p H in
    let qh : q % h < h = mod-lt q H in
    elim (cases_lt (p / h) (q / h)) [
      | inl l ↦ outweighs h (p / h) (p % h) (q / h) (q % h) ph l
      | inr l ↦ elim (cases_lt (q / h) (p / h)) [
        | inl m ↦
            let over : (q / h + 1) * h ≤ p / h * h = mul-le-mul_right h (omega arith) in
            absurd (omega arith)
        | inr m ↦
            let e : p / h ≡ q / h = omega arith in
            let w : p / h * h ≡ q / h * h = ap (λ (x : ℕ). x * h) e in
            rw e (more_digits h (q / h) (p % h) (q % h) (omega arith))
      ]
    ]

pub hid_pos : (f : Format) → 0 < hid f
hid_pos f = pow_pos (prec f - 1)

pub units_mono : (f : Format) (p q : ℕ) → p ≤ q → pattern_units f p ≤ pattern_units f q
unfolding pattern_units
units_mono f p q k = fields_mono (hid f) p q (hid_pos f) k

-- ---- the units of a subnormal's pattern, and of any other's
pub units_small : (f : Format) (p : ℕ) → p < hid f → pattern_units f p ≡ p
unfolding pattern_units field_units
units_small f p h = rw (div-eq_of_lt h, mod-eq_of_lt h)

one_up : (n : ℕ) → 1 ≤ n → n ≡ suc (n - 1)
one_up n h = omega arith

pub units_large : (f : Format) (p : ℕ) → hid f ≤ p → pattern_units f p ≡ (hid f + p % hid f) * 2 ^ (p / hid f - 1)
unfolding pattern_units field_units
units_large f p h =
    let some : 1 ≤ p / hid f = (le-div_iff_mul-le (hid_pos f)).1 (rw one-mul h) in
    ap (λ (x : ℕ). field_units (hid f) x (p % hid f)) (one_up (p / hid f) some)

-- ---- the value of a pattern below the infinity's
read : (f : Format) (x t : ℕ) → x < ones f → HasValue (of_fields f false x t) false (field_units (hid f) x t)
    (2 ^ low f)
unfolding of_fields field_units
read f zero t h =
    subst (λ (u : ℕ). HasValue (odd (prec f) false t 0 (low f)) false u (2 ^ low f)) (mul-one t)
    (odd_sign (prec f) false t 0 (low f))
read f (suc x) t h = rw (ne_eqb (suc x) (ones f) (λ e. omega arith)) (odd_sign (prec f) false (hid f + t) x (low f))

field : (f : Format) (p : ℕ) → p < patterns f → p / hid f < ones f
field f p h = (div-lt_iff_lt-mul (hid_pos f)).1 h

wider : (p o h : ℕ) → p < o * h → p < h * suc o
wider p o h k = omega arith

pub under_top : (f : Format) (p : ℕ) → p < patterns f → p < top f
under_top f p h = wider p (ones f) (hid f) h

pub pattern_value : (f : Format) (p : ℕ) → p < patterns f → HasValue (of_bits f p) false (pattern_units f p) (2 ^ low f)
unfolding of_bits pattern_units
pattern_value f p h =
    rw (lt-leb (top f) p (under_top f p h), mod-eq_of_lt (under_top f p h))
    (read f (p / hid f) (p % hid f) (field f p h))

-- the order of patterns is that of the values
pub rising : (f : Format) (p q : ℕ) → p ≤ q → q < patterns f → T (le (of_bits f p) (of_bits f q))
rising f p q k h =
    le_of_values (of_bits f p) (of_bits f q) _ (2 ^ low f) _ (2 ^ low f) (pow_pos (low f)) (pow_pos (low f))
    (pattern_value f p (omega arith)) (pattern_value f q h) (mul-le-mul_right (2 ^ low f) (units_mono f p q k))

pub pattern_finite : (f : Format) (p : ℕ) → p < patterns f → T (finite (of_bits f p))
pattern_finite f p h = value-finite (of_bits f p) false _ _ (pattern_value f p h)

-- ---- and each finite value without a minus sign has such a pattern
room : (n k h w o : ℕ) → n < w → w ≡ 2 * h → k + 2 ≤ o → k * h + n < o * h
room n k h w o a e b =
    let c : (k + 2) * h ≤ o * h = mul-le-mul_right h b in
    omega arith

exponent : (z p e : ℕ) → 2 ≤ p → p ≤ suc e → z ≤ suc e + (e + p - 2) → z - p + 2 ≤ 2 * e + 1
exponent z p e a b c = omega arith

pub twice_hid : (f : Format) → 2 ^ prec f ≡ 2 * hid f
twice_hid f =
    let h = two f in
    let e : prec f ≡ suc (prec f - 1) = one_up (prec f) (omega arith) in
    ap (λ (x : ℕ). 2 ^ x) e ∙ pow-succ' 2 (prec f - 1)

below : (f : Format) (m : ℕ) (e : ℤ) → m * up e < 2 ^ suc (emax f) * down e → to_bits f (fin false m e) < patterns f
unfolding to_bits
below f m e h =
    let n = m * up e * 2 ^ low f / down e in
    let more : m * up e * 2 ^ low f < 2 ^ suc (emax f) * down e * 2 ^ low f =
    mul-lt-mul_of_pos_right h (pow_pos (low f)) in
    let same : 2 ^ (suc (emax f) + low f) ≡ 2 ^ suc (emax f) * 2 ^ low f = pow-add 2 (suc (emax f)) (low f) in
    let whole : n < 2 ^ (suc (emax f) + low f) = (div-lt_iff_lt-mul (down_pos e)).1
    (rw same (rw (mul_right_comm (2 ^ suc (emax f)) (2 ^ low f) (down e)) more)) in
    rw zero-add
    (room (n / 2 ^ (size n - prec f)) (size n - prec f) (hid f) (2 ^ prec f) (ones f) (kept-lt (prec f) n) (twice_hid f)
    (exponent (size n) (prec f) (emax f) (two f) (reach f) (size-le n _ whole)))

pub pattern_below : (f : Format) (m : ℕ) (e : ℤ) → T (fits f (fin false m e)) → to_bits f (fin false m e) < patterns f
unfolding fits
pattern_below f zero e h = below f zero e (rw zero-mul (mul-pos (pow_pos (suc (emax f))) (down_pos e)))
pattern_below f (suc m) e h = below f (suc m) e (search (and_l, and_r, ltb→lt))

-- ---- a value's units are those of its pattern, and nothing is left over
module _ (f : Format) (m : ℕ) (e : ℤ) (h : T (fits f (fin false m e))) where
  own_value : HasValue (fin false m e) false (pattern_units f (to_bits f (fin false m e))) (2 ^ low f)
  own_value =
      let p = to_bits f (fin false m e) in
      subst (λ (x : Float). HasValue x false (pattern_units f p) (2 ^ low f)) (of_bits-to_bits f (fin false m e) h)
      (pattern_value f p (pattern_below f m e h))

  pub pattern_units_lem : units_of f m e ≡ pattern_units f (to_bits f (fin false m e))
  unfolding units_of
  pattern_units_lem = rw own_value.1 (mul-div_cancel (pattern_units f (to_bits f (fin false m e))) (down_pos e))

  pub units_exact : m * up e * 2 ^ low f ≡ units_of f m e * down e
  units_exact = rw pattern_units_lem own_value.1

-- a value above 0 has at least one unit, and its pattern is not 0
pub units_pos : (f : Format) (m : ℕ) (e : ℤ) → T (fits f (fin false (suc m) e)) → 0 < units_of f (suc m) e
units_pos f m e h = elim (cases_lt 0 (units_of f (suc m) e)) [
  | inl l ↦ l
  | inr l ↦
      let none : units_of f (suc m) e ≡ 0 = omega arith in
      let size : suc m * up e * 2 ^ low f ≡ 0 = units_exact f (suc m) e h ∙ ap (λ (x : ℕ). x * down e) none
      ∙ zero-mul (down e) in
      absurd (lt_irrefl 0
      (subst (λ (x : ℕ). 0 < x) size (mul-pos (mul-pos (zero-lt-suc m) (up_pos e)) (pow_pos (low f)))))
]

pub pattern_pos : (f : Format) (m : ℕ) (e : ℤ) → T (fits f (fin false (suc m) e)) → 0 < to_bits f (fin false (suc m) e)
pattern_pos f m e h = elim (cases_lt 0 (to_bits f (fin false (suc m) e))) [
  | inl l ↦ l
  | inr l ↦
      let none : to_bits f (fin false (suc m) e) ≡ 0 = omega arith in
      let size : units_of f (suc m) e ≡ 0 = pattern_units_lem f (suc m) e h ∙ ap (pattern_units f) none
      ∙ units_small f 0 (hid_pos f) in
      absurd (lt_irrefl 0 (subst (λ (x : ℕ). 0 < x) size (units_pos f m e h)))
]

-- ---- of either sign: the units of a value are those of its size
pub units_are : (f : Format) (s t : Bool) (m : ℕ) (e : ℤ) (a : ℕ) → T (fits f (fin s m e)) →
    HasValue (fin s m e) t a (2 ^ low f) → a ≡ units_of f m e
units_are f s t m e a h v =
    eq_of_mul-eq-mul_right (down e) (down_pos e) a (units_of f m e) (sym v.1 ∙ units_exact f m e (unsigned f s m e h))
