-- The series of the coefficients, exactly: the sums of the crate series with the reciprocals of factorials as
-- fractions; the bounds of their rounding errors, with the tests that nothing overflows; and what is proved of the
-- coefficients.
use Rattle.std.specs.Prelude.{List, [], ◌∷◌, ℕ, zero, suc, ◌+◌, ◌/◌, ◌^◌, Bool, true, false, not, cond, ◌&&◌, T, leb}
use Rattle.std.specs.Prelude.{eqb, Float}
use Rattle.std.specs.Float.{Format, binary32, binary64}
use Rattle.std.specs.Float.Ieee.{lt}
use Rattle.ieee.specs.Numbers.{f0, f1}
use Rattle.ieee.specs.Table.{factorial}
use Rattle.arms.specs.Limits.{short_below, mid_below, upper_below, series_below}
use Rattle.arms.specs.Arm.{arm_terms}
use Rattle.arms.specs.Floats.{Values}
use Rattle.coeffs.specs.Group.{coeffs_scaled}
use Rattle.series.specs.Series.{coeffs_delta, series_full}
use Rattle.series.specs.Floats.{Level}
use Rattle.series.specs.Floats.{Sim3Coeffs}
use Rattle.rounding.specs.Value.{Value, plus, times, signed, value_of, AbsoluteError}
use Rattle.rounding.specs.Roundoff.{rounding_error}
use Rattle.rounding.specs.Leaves.{nth, no_bound}
use Rattle.rounding.specs.Arithmetic.{Arithmetic, trees, exactly}
use Rattle.rounding.specs.Tree.{Term, leaf, Bound, sum_reach, prod_reach, sum_bound, prod_bound, bound, in_range}
use Rattle.rounding.specs.Tree.{no_overflow}

-- 1 / n!
abbrev pub exact_recip : ℕ → Value
exact_recip n = signed false 1 (factorial n)

abbrev pub recip_size : ℕ → ℕ → ℕ
recip_size w n = suc (w / factorial n)

abbrev pub recip_bound : Format → ℕ → ℕ → Bound
recip_bound f w n = record { magnitude = recip_size w n; error = rounding_error f w (recip_size w n) }

-- ---- the recurrence
pub record Five (A : Type 0) : Type 0 where
  pub p : A
  pub xi : A
  pub zeta : A
  pub dxi : A
  pub dzeta : A

module _ {A : Type 0} (arithmetic : Arithmetic A) where
  infixl 60 ◌⊕◌ ◌⊖◌
  infixl 70 ◌⊗◌
  open arithmetic use {◌⊕◌, ◌⊖◌, ◌⊗◌}

  -- a level from the one before
  abbrev pub next : A → A → Five A → Five A
  next sigma z l =
      record {
        p = l.p ⊗ sigma;
        xi = sigma ⊗ l.xi ⊕ l.p ⊖ z ⊗ l.zeta;
        zeta = sigma ⊗ l.zeta ⊕ l.xi;
        dxi = sigma ⊗ l.dxi ⊖ l.zeta ⊖ z ⊗ l.dzeta;
        dzeta = sigma ⊗ l.dzeta ⊕ l.dxi;
      }

  -- χΔ = (v₀ - z v₂) (σ σ + z)
  abbrev pub chi : A → A → A → A → A
  chi sigma z v0 v2 = (v0 ⊖ z ⊗ v2) ⊗ (sigma ⊗ sigma ⊕ z)

unfoldable pub exact_first : Five Value
exact_first = record { p = value_of f1; xi = value_of f0; zeta = value_of f0; dxi = value_of f0; dzeta = value_of f0 }

unfoldable pub exact_next : Value → Value → Five Value → Five Value
exact_next sigma z l = next exactly sigma z l

unfoldable pub exact_level : Value → Value → ℕ → Five Value
exact_level sigma z zero = exact_first
exact_level sigma z (suc j) = exact_next sigma z (exact_level sigma z j)

-- as trees, over sigma, z and the five numbers of a level
unfoldable pub tree_next : Five Term
tree_next =
    next trees (leaf 0) (leaf 1) (record { p = leaf 2; xi = leaf 3; zeta = leaf 4; dxi = leaf 5; dzeta = leaf 6 })

abbrev pub row : {A : Type 0} → A → A → Five A → List A
row a b l = a ∷ b ∷ l.p ∷ l.xi ∷ l.zeta ∷ l.dxi ∷ l.dzeta ∷ []

abbrev pub of_level : Level → Five Float
of_level l = record { p = l.p; xi = l.xi; zeta = l.zeta; dxi = l.dxi; dzeta = l.dzeta }

unfoldable pub bound_next : Format → ℕ → Bound → Bound → Five Bound → Five Bound
unfolding bound tree_next
bound_next f w a b l =
    let e = nth no_bound (row a b l) in
    record {
      p = bound f w e tree_next.p;
      xi = bound f w e tree_next.xi;
      zeta = bound f w e tree_next.zeta;
      dxi =
          bound f w e tree_next.dxi;
      dzeta = bound f w e tree_next.dzeta;
    }

unfoldable pub next_no_overflow : Format → ℕ → Bound → Bound → Five Bound → Bool
unfolding no_overflow tree_next
next_no_overflow f w a b l =
    let e = nth no_bound (row a b l) in
    no_overflow f w e tree_next.p && (no_overflow f w e tree_next.xi
    && (no_overflow f w e tree_next.zeta && (no_overflow f w e tree_next.dxi && no_overflow f w e tree_next.dzeta)))

unfoldable pub bound_level : Format → ℕ → Bound → Bound → ℕ → Five Bound
unfolding bound_next
bound_level f w a b zero =
    record { p = record { magnitude = w; error = 0 }; xi = no_bound; zeta = no_bound; dxi = no_bound; dzeta = no_bound }
bound_level f w a b (suc j) = bound_next f w a b (bound_level f w a b j)

unfoldable pub level_no_overflow : Format → ℕ → Bound → Bound → ℕ → Bool
unfolding bound_level next_no_overflow
level_no_overflow f w a b zero = true
level_no_overflow f w a b (suc j) = level_no_overflow f w a b j && next_no_overflow f w a b (bound_level f w a b j)

-- ---- the terms
pub data Part : Type 0 where
  xi_part zeta_part dxi_part dzeta_part : Part

abbrev pub part : {A : Type 0} → Part → Five A → A
part xi_part l = l.xi
part zeta_part l = l.zeta
part dxi_part l = l.dxi
part dzeta_part l = l.dzeta

-- the part of level j over (j + o)!
unfoldable pub exact_term : Value → Value → Part → ℕ → ℕ → Value
unfolding exact_level
exact_term sigma z c o j = times (part c (exact_level sigma z j)) (exact_recip (j + o))

unfoldable pub bound_term : Format → ℕ → Bound → Bound → Part → ℕ → ℕ → Bound
unfolding bound_level factorial
bound_term f w a b c o j = prod_bound f w (part c (bound_level f w a b j)) (recip_bound f w (j + o))

unfoldable pub term_no_overflow : Format → ℕ → Bound → Bound → Part → ℕ → ℕ → Bool
unfolding bound_level level_no_overflow factorial
term_no_overflow f w a b c o j =
    level_no_overflow f w a b j && (in_range f w (recip_size w (j + o))
    && in_range f w (prod_reach w (part c (bound_level f w a b j)) (recip_bound f w (j + o))))

-- ---- sums from the left
unfoldable pub exact_total : (ℕ → Value) → ℕ → Value
exact_total t zero = value_of f0
exact_total t (suc n) = plus (exact_total t n) (t n)

unfoldable pub bound_total : Format → ℕ → (ℕ → Bound) → ℕ → Bound
bound_total f w b zero = no_bound
bound_total f w b (suc n) = sum_bound f w (bound_total f w b n) (b n)

unfoldable pub total_no_overflow : Format → ℕ → (ℕ → Bool) → (ℕ → Bound) → ℕ → Bool
unfolding bound_total
total_no_overflow f w ok b zero = true
total_no_overflow f w ok b (suc n) =
    total_no_overflow f w ok b n && (ok n && in_range f w (sum_reach (bound_total f w b n) (b n)))

-- ---- Horner's sums
unfoldable pub exact_horner : Value → ℕ → ℕ → Value
exact_horner sigma l zero = value_of f0
exact_horner sigma l (suc n) = plus (exact_recip l) (times sigma (exact_horner sigma (suc l) n))

unfoldable pub bound_horner : Format → ℕ → Bound → ℕ → ℕ → Bound
unfolding factorial
bound_horner f w a l zero = no_bound
bound_horner f w a l (suc n) = sum_bound f w (recip_bound f w l) (prod_bound f w a (bound_horner f w a (suc l) n))

unfoldable pub horner_no_overflow : Format → ℕ → Bound → ℕ → ℕ → Bool
unfolding bound_horner factorial
horner_no_overflow f w a l zero = true
horner_no_overflow f w a l (suc n) =
    let b = bound_horner f w a (suc l) n in
    horner_no_overflow f w a (suc l) n && (in_range f w (recip_size w l)
    && (in_range f w (prod_reach w a b) && in_range f w (sum_reach (recip_bound f w l) (prod_bound f w a b))))

-- ---- χΔ
unfoldable pub exact_chi : Value → Value → Value → Value → Value
exact_chi sigma z v0 v2 = chi exactly sigma z v0 v2

unfoldable pub tree_chi : Term
tree_chi = chi trees (leaf 0) (leaf 1) (leaf 2) (leaf 3)

-- ---- the tests: a sum's error is at most e, and nothing in it overflows
unfoldable pub total_holds : Format → ℕ → Bound → Bound → Part → ℕ → ℕ → ℕ → Bool
unfolding total_no_overflow term_no_overflow bound_total bound_term
total_holds f w a b c o n e =
    total_no_overflow f w (term_no_overflow f w a b c o) (bound_term f w a b c o) n
    && leb (bound_total f w (bound_term f w a b c o) n).error e

unfoldable pub horner_holds : Format → ℕ → Bound → ℕ → ℕ → ℕ → Bool
unfolding horner_no_overflow bound_horner
horner_holds f w a l n e = horner_no_overflow f w a l n && leb (bound_horner f w a l n).error e

abbrev pub chi_leaves : {A : Type 0} → A → A → A → A → List A
chi_leaves sigma z v0 v2 = sigma ∷ z ∷ v0 ∷ v2 ∷ []

unfoldable pub chi_holds : Format → ℕ → Bound → Bound → ℕ → ℕ → Bool
unfolding no_overflow bound tree_chi bound_horner bound_total bound_term horner_no_overflow total_no_overflow
    term_no_overflow
chi_holds f w a b k e =
    let l = nth no_bound (chi_leaves a b (bound_horner f w a 1 k)
    (bound_total f w (bound_term f w a b zeta_part 1) (k + 2))) in
    horner_no_overflow f w a 1 k && (total_no_overflow f w (term_no_overflow f w a b zeta_part 1)
    (bound_term f w a b zeta_part 1) (k + 2) && (no_overflow f w l tree_chi && leb (bound f w l tree_chi).error e))

-- ---- with the truncation: each coefficient is finite, and within its e / w of every sum of k terms or more
pub record Eight (A : Type 0) : Type 0 where
  pub v0 : A
  pub v1 : A
  pub v2 : A
  pub w0 : A
  pub w1 : A
  pub w2 : A
  pub dv1 : A
  pub dv2 : A

pub record Accurate (w : ℕ) (c : Sim3Coeffs) (s t : Value) (k : ℕ) (e : Eight ℕ) : Type 0 where
  pub v0 : (n : ℕ) → AbsoluteError w c.v0 (exact_horner s 1 (k + n)) e.v0
  pub v1 : (n : ℕ) → AbsoluteError w c.v1 (exact_total (exact_term s t xi_part 1) (suc k + n)) e.v1
  pub v2 : (n : ℕ) → AbsoluteError w c.v2 (exact_total (exact_term s t zeta_part 1) (suc (suc k) + n)) e.v2
  pub w0 : (n : ℕ) → AbsoluteError w c.w0 (exact_horner s 2 (k + n)) e.w0
  pub w1 : (n : ℕ) → AbsoluteError w c.w1 (exact_total (exact_term s t xi_part 2) (suc k + n)) e.w1
  pub w2 : (n : ℕ) → AbsoluteError w c.w2 (exact_total (exact_term s t zeta_part 2) (suc (suc k) + n)) e.w2
  pub dv1 : (n : ℕ) → AbsoluteError w c.dv1 (exact_total (exact_term s t dxi_part 1) (suc (suc (suc k)) + n)) e.dv1
  pub dv2 : (n : ℕ) → AbsoluteError w c.dv2 (exact_total (exact_term s t dzeta_part 1) (suc (suc (suc (suc k))) + n))
      e.dv2

-- the same against every sum of m terms or more
pub record AccurateFrom (w : ℕ) (c : Sim3Coeffs) (s t : Value) (m : ℕ) (e : Eight ℕ) : Type 0 where
  pub v0 : (n : ℕ) → AbsoluteError w c.v0 (exact_horner s 1 (m + n)) e.v0
  pub v1 : (n : ℕ) → AbsoluteError w c.v1 (exact_total (exact_term s t xi_part 1) (m + n)) e.v1
  pub v2 : (n : ℕ) → AbsoluteError w c.v2 (exact_total (exact_term s t zeta_part 1) (m + n)) e.v2
  pub w0 : (n : ℕ) → AbsoluteError w c.w0 (exact_horner s 2 (m + n)) e.w0
  pub w1 : (n : ℕ) → AbsoluteError w c.w1 (exact_total (exact_term s t xi_part 2) (m + n)) e.w1
  pub w2 : (n : ℕ) → AbsoluteError w c.w2 (exact_total (exact_term s t zeta_part 2) (m + n)) e.w2
  pub dv1 : (n : ℕ) → AbsoluteError w c.dv1 (exact_total (exact_term s t dxi_part 1) (m + n)) e.dv1
  pub dv2 : (n : ℕ) → AbsoluteError w c.dv2 (exact_total (exact_term s t dzeta_part 1) (m + n)) e.dv2

-- χΔ is finite, and within e / w of (v₀ - z v₂) Δ with every v₀ of k terms or more and every v₂ of l or more
pub record ChiAccurate (w : ℕ) (x : Float) (s t : Value) (k l e : ℕ) : Type 0 where
  pub chi : (n i : ℕ) →
      AbsoluteError w x (exact_chi s t (exact_horner s 1 (k + n)) (exact_total (exact_term s t zeta_part 1) (l + i))) e

-- ---- what is proved, in units of 2^-100
-- the bounds on the four arms, from the fewest terms to the most
abbrev pub short_errors : Format → Eight ℕ
short_errors binary32 =
    record { v0 = 2 ^ 78; v1 = 2 ^ 79; v2 = 2 ^ 77; w0 = 2 ^ 77; w1 = 2 ^ 77; w2 = 2 ^ 75; dv1 = 2 ^ 76; dv2 = 2 ^ 73 }
short_errors binary64 =
    record { v0 = 2 ^ 49; v1 = 2 ^ 50; v2 = 2 ^ 49; w0 = 2 ^ 48; w1 = 2 ^ 48; w2 = 2 ^ 46; dv1 = 2 ^ 47; dv2 = 2 ^ 45 }

abbrev pub mid_errors : Format → Eight ℕ
mid_errors binary32 =
    record { v0 = 2 ^ 78; v1 = 2 ^ 79; v2 = 2 ^ 78; w0 = 2 ^ 77; w1 = 2 ^ 78; w2 = 2 ^ 76; dv1 = 2 ^ 76; dv2 = 2 ^ 74 }
mid_errors binary64 =
    record { v0 = 2 ^ 49; v1 = 2 ^ 51; v2 = 2 ^ 49; w0 = 2 ^ 48; w1 = 2 ^ 49; w2 = 2 ^ 47; dv1 = 2 ^ 48; dv2 = 2 ^ 45 }

abbrev pub upper_errors : Format → Eight ℕ
upper_errors binary32 =
    record { v0 = 2 ^ 79; v1 = 2 ^ 80; v2 = 2 ^ 79; w0 = 2 ^ 77; w1 = 2 ^ 78; w2 = 2 ^ 77; dv1 = 2 ^ 77; dv2 = 2 ^ 75 }
upper_errors binary64 =
    record { v0 = 2 ^ 50; v1 = 2 ^ 51; v2 = 2 ^ 50; w0 = 2 ^ 48; w1 = 2 ^ 50; w2 = 2 ^ 48; dv1 = 2 ^ 48; dv2 = 2 ^ 46 }

abbrev pub series_errors : Format → Eight ℕ
series_errors binary32 =
    record { v0 = 2 ^ 81; v1 = 2 ^ 82; v2 = 2 ^ 80; w0 = 2 ^ 78; w1 = 2 ^ 79; w2 = 2 ^ 78; dv1 = 2 ^ 79; dv2 = 2 ^ 76 }
series_errors binary64 =
    record { v0 = 2 ^ 51; v1 = 2 ^ 53; v2 = 2 ^ 52; w0 = 2 ^ 49; w1 = 2 ^ 51; w2 = 2 ^ 49; dv1 = 2 ^ 50; dv2 = 2 ^ 48 }

-- of χΔ on the arms 1 to 4
abbrev pub chi_errors : Format → ℕ → ℕ
chi_errors binary32 arm = cond (eqb arm 1) (2 ^ 70) (cond (eqb arm 2) (2 ^ 78) (cond (eqb arm 3) (2 ^ 81) (2 ^ 85)))
chi_errors binary64 arm = cond (eqb arm 1) (2 ^ 37) (cond (eqb arm 2) (2 ^ 47) (cond (eqb arm 3) (2 ^ 50) (2 ^ 55)))

-- as many terms as the longest sum of any arm has
abbrev pub most_terms : Format → ℕ
most_terms binary32 = 15
most_terms binary64 = 23

-- c are the coefficients at σ and z: where the computed Δ is below the limit of the series and z not below zero, each
-- is finite and within its bound of every exact sum of `most_terms` terms or more
pub record CoefficientsAccurate (f : Format) (sigma z : Float) (c : Sim3Coeffs) : Type 0 where
  pub eight : T (lt (coeffs_delta f sigma z) (series_below f)) → T (not (lt z f0)) →
      AccurateFrom (2 ^ 100) c (value_of sigma) (value_of z) (most_terms f) (series_errors f)
  pub chi : T (lt (coeffs_delta f sigma z) (series_below f)) → T (not (lt z f0)) →
      ChiAccurate (2 ^ 100) c.chi_delta (value_of sigma) (value_of z) (most_terms f) (most_terms f) (chi_errors f 4)

-- on one arm, of k terms, where the computed Δ is below its limit
abbrev pub ArmAccurate : Format → Float → ℕ → Eight ℕ → ℕ → Type 0
ArmAccurate f limit k e g =
    (sigma z : Float) → T (lt (coeffs_delta f sigma z) limit) → T (not (lt z f0)) →
    Accurate (2 ^ 100) (series_full f sigma z k) (value_of sigma) (value_of z) k e
    × ChiAccurate (2 ^ 100) (series_full f sigma z k).chi_delta (value_of sigma) (value_of z) k (suc (suc k)) g

pub record CoefficientsTheorem (f : Format) : Type 0 where
  -- rounding and truncation together on each arm, against every longer sum
  pub short : ArmAccurate f (short_below f) (arm_terms f 1) (short_errors f) (chi_errors f 1)
  pub mid : ArmAccurate f (mid_below f) (arm_terms f 2) (mid_errors f) (chi_errors f 2)
  pub upper : ArmAccurate f (upper_below f) (arm_terms f 3) (upper_errors f) (chi_errors f 3)
  pub series : ArmAccurate f (series_below f) (arm_terms f 4) (series_errors f) (chi_errors f 4)
  -- and by whichever arm is taken
  pub scaled : (sigma z : Float) (v : Values) → CoefficientsAccurate f sigma z (coeffs_scaled f sigma z v).c
