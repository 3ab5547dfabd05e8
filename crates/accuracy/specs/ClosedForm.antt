-- The closed forms of the coefficients, where Δ is not below the limit of the series: once as formulas over the numbers
-- that they read, with the bounds of their rounding errors; and what is proved of the coefficients on the closed arm.
use Rattle.std.specs.Prelude.{List, [], ◌∷◌, ℕ, suc, ◌+◌, ◌*◌, ◌^◌, ◌≡◌, Bool, true, false, cond, ◌&&◌, T, leb, Float}
use Rattle.std.specs.Float.{Format, binary32, binary64}
use Rattle.std.specs.Float.Ieee.{lt, le}
use Rattle.ieee.specs.Numbers.{f0, f1, f2, half}
use Rattle.ieee.specs.Table.{factorial}
use Rattle.series.specs.Series.{coeffs_delta, w0_terms}
use Rattle.series.specs.Floats.{Sim3Coeffs}
use Rattle.circle.specs.Kernel.{circle_sinc_abd}
use Rattle.arms.specs.Limits.{series_below, form_b_below, w0_below}
use Rattle.arms.specs.Arm.{coeffs_arm, arm_ends}
use Rattle.arms.specs.Floats.{Values}
use Rattle.coeffs.specs.Group.{coeffs_scaled}
use Rattle.rounding.specs.Value.{Value, opposite, plus, minus, times, ratio, value_of, AbsoluteError}
use Rattle.rounding.specs.Tree.{Term, leaf, sum, prod, quot, diff, Bound, prod_reach, prod_bound, bound, in_range}
use Rattle.rounding.specs.Tree.{no_overflow, well_defined, ForwardError}
use Rattle.rounding.specs.Leaves.{Bounded, nth, no_bound, errorless, sizes}
use Rattle.rounding.specs.Arithmetic.{Arithmetic, trees, exactly}
use Rattle.accuracy.specs.Series.{exact_horner, bound_horner, horner_no_overflow, Eight}

-- ---- the formulas
-- σ, z, e^σ and e^σ - 1, the circle functions of z, v₀ and w₀; where 0 < σ those of σ times e^-σ
pub record Inputs (A : Type 0) : Type 0 where
  pub sigma : A
  pub z : A
  pub e : A
  pub m : A
  pub a : A
  pub b : A
  pub sinc : A
  pub d : A
  pub v0 : A
  pub w0 : A

pub record Forms (A : Type 0) : Type 0 where
  pub v1 : A
  pub v2 : A
  pub w1 : A
  pub w2 : A
  pub dv1 : A
  pub dv2 : A
  pub chi_delta : A

module _ {A : Type 0} (arithmetic : Arithmetic A) (over : A → A → A) where
  infixl 60 ◌⊕◌ ◌⊖◌
  infixl 70 ◌⊗◌
  open arithmetic use {◌⊕◌, ◌⊖◌, ◌⊗◌, negated}

  -- v₁ in form b or in form a
  abbrev pub forms : A → A → A → Bool → Inputs A → Forms A
  forms delta half two form_b i =
      let v2 = over (i.v0 ⊕ i.sigma ⊗ i.e ⊗ i.a ⊖ i.e ⊗ i.sinc) delta in
      let v1 = cond form_b (over (i.sigma ⊗ i.e ⊗ i.sinc ⊖ i.m ⊕ i.e ⊗ i.z ⊗ i.a) delta) (i.e ⊗ i.a ⊖ i.sigma ⊗ v2) in
      let w2 = over (i.w0 ⊕ i.sigma ⊗ v2 ⊖ v1) delta in
      let da = negated (half ⊗ (i.b ⊖ two ⊗ i.d)) in
      let dsinc = negated (half ⊗ (i.a ⊖ i.b)) in
      let dv2 = over (i.sigma ⊗ i.e ⊗ da ⊖ i.e ⊗ dsinc ⊖ v2) delta in
      record {
        v1 = v1;
        v2 = v2;
        w1 = v2 ⊖ i.sigma ⊗ w2;
        w2 = w2;
        dv1 = i.e ⊗ da ⊖ i.sigma ⊗ dv2;
        dv2 = dv2;
        chi_delta = i.sigma ⊗ (i.sigma ⊗ i.v0) ⊕ i.e ⊗ (i.z ⊗ i.sinc) ⊖ i.sigma ⊗ (i.e ⊗ (i.z ⊗ i.a));
      }

unfoldable pub exact_forms : Bool → Inputs Value → Forms Value
exact_forms form_b i = forms exactly ratio (plus (times i.sigma i.sigma) i.z) (value_of half) (value_of f2) form_b i

-- as trees, over Δ, 1/2, 2 and the inputs; each divisor is Δ, at least l
unfoldable pub tree_forms : ℕ → Bool → Forms Term
tree_forms l form_b =
    forms trees (quot l) (leaf 0) (leaf 1) (leaf 2) form_b
    (record {
      sigma = leaf 3;
      z = leaf 4;
      e = leaf 5;
      m = leaf 6;
      a = leaf 7;
      b = leaf 8;
      sinc = leaf 9;
      d = leaf 10;
      v0 = leaf 11;
      w0 = leaf 12;
    })

abbrev pub forms_row : {A : Type 0} → A → A → A → Inputs A → List A
forms_row delta half two i =
    delta ∷ half ∷ two ∷ i.sigma ∷ i.z ∷ i.e ∷ i.m ∷ i.a ∷ i.b ∷ i.sinc ∷ i.d ∷ i.v0 ∷ i.w0 ∷ []

-- Δ over σ and z; v₀ over m and σ; w₀ over m, σ and 1 (e^-σ where scaled)
abbrev pub tree_delta : Term
tree_delta = sum (prod (leaf 0) (leaf 0)) (leaf 1)

abbrev pub tree_v0 : ℕ → Term
tree_v0 l = quot l (leaf 0) (leaf 1)

abbrev pub tree_w0 : ℕ → Term
tree_w0 l = quot l (diff (leaf 0) (prod (leaf 1) (leaf 2))) (prod (leaf 1) (leaf 1))

-- ---- what is handed in, or computed of that before: e^t and e^t - 1 at t = -|σ|, and the circle functions of z
pub record Handed (A : Type 0) : Type 0 where
  pub e : A
  pub m : A
  pub a : A
  pub b : A
  pub sinc : A
  pub d : A

abbrev pub handed : Format → Float → Values → Handed Float
handed f z v =
    let c = circle_sinc_abd f z v.root v.sin_half v.cos_half v.sin in
    record { e = v.e; m = v.m; a = c.a; b = c.b; sinc = c.sinc; d = c.d }

-- each is finite and within its error of the exact one, and that one at most its size
pub record HandedWithin (w : ℕ) (x : Handed Float) (y : Handed Value) (h : Handed Bound) : Type 0 where
  pub e : ForwardError w x.e y.e h.e
  pub m : ForwardError w x.m y.m h.m
  pub a : ForwardError w x.a y.a h.a
  pub b : ForwardError w x.b y.b h.b
  pub sinc : ForwardError w x.sinc y.sinc h.sinc
  pub d : ForwardError w x.d y.d h.d

-- the exact inputs: scaled by e^-σ where 0 < σ; v₀ and w₀ by sums of n terms where σ² is small
unfoldable pub exact_inputs : Float → Float → Handed Value → Bool → ℕ → Inputs Value
exact_inputs sigma z h small n =
    let up = lt f0 sigma in
    let s = value_of sigma in
    let m = cond up (opposite h.m) h.m in
    let g = cond up h.e (value_of f1) in
    record {
      sigma = s;
      z = value_of z;
      e = cond up (value_of f1) h.e;
      m = m;
      a = h.a;
      b = h.b;
      sinc = h.sinc;
      d = h.d;
      v0 = cond small (times g (exact_horner s 1 n)) (ratio m s);
      w0 = cond small (times g (exact_horner s 2 n)) (ratio (minus m (times s g)) (times s s));
    }

-- ---- the bounds, in units of 2^-100, for σ of at most s, z of at most y and what is handed in within h
abbrev pub unit : ℕ
unit = 2 ^ 100

-- Δ is at least this on the closed arm
abbrev pub least_delta : Format → ℕ
least_delta binary32 = 303 * 2 ^ 93
least_delta binary64 = 253 * 2 ^ 93

-- where v₀ and w₀ are quotients σ² and |σ| are at least these, and elsewhere |σ| at most the third
abbrev pub least_square : ℕ
least_square = 149 * 2 ^ 92

abbrev pub least_sigma : ℕ
least_sigma = 195 * 2 ^ 92

abbrev pub small_sigma : ℕ
small_sigma = 782 * 2 ^ 90

-- half of what the sums of v₀ and w₀ leave out there
abbrev pub rest_v0 : Format → ℕ
rest_v0 binary32 = 2 ^ 75
rest_v0 binary64 = 2 ^ 46

abbrev pub rest_w0 : Format → ℕ
rest_w0 binary32 = 2 ^ 76
rest_w0 binary64 = 2 ^ 46

abbrev pub longer_bound : ℕ → Bound → Bound
longer_bound c b = record { magnitude = b.magnitude + 2 * c; error = b.error + 2 * c }

abbrev pub v0_bound : Format → ℕ → Handed Bound → Bool → Bound
v0_bound f s h true =
    prod_bound f unit h.e (longer_bound (rest_v0 f) (bound_horner f unit (errorless small_sigma) 1 (suc (w0_terms f))))
v0_bound f s h false = bound f unit (nth no_bound (h.m ∷ errorless s ∷ [])) (tree_v0 least_sigma)

abbrev pub w0_bound : Format → ℕ → Handed Bound → Bool → Bound
w0_bound f s h true =
    prod_bound f unit h.e (longer_bound (rest_w0 f) (bound_horner f unit (errorless small_sigma) 2 (w0_terms f)))
w0_bound f s h false = bound f unit (nth no_bound (h.m ∷ errorless s ∷ h.e ∷ [])) (tree_w0 least_square)

abbrev pub inputs_bound : Format → ℕ → ℕ → Handed Bound → Bool → Inputs Bound
inputs_bound f s y h small =
    record {
      sigma = errorless s;
      z = errorless y;
      e = h.e;
      m = h.m;
      a = h.a;
      b = h.b;
      sinc = h.sinc;
      d = h.d;
      v0 = v0_bound f s h small;
      w0 = w0_bound f s h small;
    }

abbrev pub delta_bound : Format → ℕ → ℕ → Bound
delta_bound f s y = bound f unit (sizes (s ∷ y ∷ [])) tree_delta

-- ---- the computed test: no node overflows, no computed divisor can be 0, and no bound is above e (that of χΔ above g)
abbrev pub quotients_hold : Format → (ℕ → Bound) → Term → ℕ → Bool
quotients_hold f b t e = well_defined f unit b t && leb (bound f unit b t).error e

unfoldable pub forms_hold : Format → Bound → Inputs Bound → Bool → Eight ℕ → ℕ → Bool
unfolding bound well_defined tree_forms
forms_hold f delta i form_b e g =
    let b = nth no_bound (forms_row delta (errorless (2 ^ 99)) (errorless (2 * unit)) i) in
    let t = tree_forms (least_delta f) form_b in
    quotients_hold f b t.v1 e.v1
    && (quotients_hold f b t.v2 e.v2
    && (quotients_hold f b t.w1 e.w1
    && (quotients_hold f b t.w2 e.w2
    && (quotients_hold f b t.dv1 e.dv1 && (quotients_hold f b t.dv2 e.dv2 && quotients_hold f b t.chi_delta g)))))

abbrev pub series_times : Format → Handed Bound → ℕ → ℕ → ℕ → ℕ → Bool
series_times f h l n c e =
    let b = longer_bound c (bound_horner f unit (errorless small_sigma) l n) in
    horner_no_overflow f unit (errorless small_sigma) l n
    && (in_range f unit (prod_reach unit h.e b) && leb (prod_bound f unit h.e b).error e)

unfoldable pub ends_hold : Format → ℕ → Handed Bound → Bool → Eight ℕ → Bool
unfolding bound well_defined bound_horner horner_no_overflow factorial value_of
ends_hold f s h true e =
    series_times f h 1 (suc (w0_terms f)) (rest_v0 f) e.v0 && series_times f h 2 (w0_terms f) (rest_w0 f) e.w0
ends_hold f s h false e =
    let limit = value_of (w0_below f) in
    let square = prod_bound f unit (errorless s) (errorless s) in
    in_range f unit (prod_reach unit (errorless s) (errorless s))
    && (leb ((least_square + square.error) * limit.d) (unit * limit.p)
    && (quotients_hold f (nth no_bound (h.m ∷ errorless s ∷ [])) (tree_v0 least_sigma) e.v0
    && quotients_hold f (nth no_bound (h.m ∷ errorless s ∷ h.e ∷ [])) (tree_w0 least_square) e.w0))

unfoldable pub delta_holds : Format → ℕ → ℕ → Bool
unfolding bound no_overflow value_of
delta_holds f s y =
    let limit = value_of (series_below f) in
    no_overflow f unit (sizes (s ∷ y ∷ [])) tree_delta
    && leb ((least_delta f + (delta_bound f s y).error) * limit.d) (unit * limit.p)

-- with v₀ and w₀ from their series or not, and v₁ in both forms
abbrev pub either_hold : Format → ℕ → ℕ → Handed Bound → Eight ℕ → ℕ → Bool → Bool
either_hold f s y h e g small =
    let d = delta_bound f s y in
    let i = inputs_bound f s y h small in
    ends_hold f s h small e && (forms_hold f d i true e g && forms_hold f d i false e g)

abbrev pub closed_holds : Format → ℕ → ℕ → Handed Bound → Eight ℕ → ℕ → Bool
closed_holds f s y h e g =
    leb unit h.e.magnitude && (delta_holds f s y && (either_hold f s y h e g true && either_hold f s y h e g false))

-- ---- what is proved
-- each coefficient is finite and within its bound of the closed form of the exact inputs i
pub record ClosedError (c : Sim3Coeffs) (form_b : Bool) (i : Inputs Value) (e : Eight ℕ) (g : ℕ) : Type 0 where
  pub v0 : AbsoluteError unit c.v0 i.v0 e.v0
  pub v1 : AbsoluteError unit c.v1 (exact_forms form_b i).v1 e.v1
  pub v2 : AbsoluteError unit c.v2 (exact_forms form_b i).v2 e.v2
  pub w0 : AbsoluteError unit c.w0 i.w0 e.w0
  pub w1 : AbsoluteError unit c.w1 (exact_forms form_b i).w1 e.w1
  pub w2 : AbsoluteError unit c.w2 (exact_forms form_b i).w2 e.w2
  pub dv1 : AbsoluteError unit c.dv1 (exact_forms form_b i).dv1 e.dv1
  pub dv2 : AbsoluteError unit c.dv2 (exact_forms form_b i).dv2 e.dv2
  pub chi : AbsoluteError unit c.chi_delta (exact_forms form_b i).chi_delta g

-- c are the coefficients at σ and z on the closed arm, scaled by e^-σ where 0 < σ: in the box of σ up to s and z up to
-- y, with what is handed in within h of exact numbers x, each is within its bound of the same form of them; where σ² is
-- small, with every sum for v₀ and w₀ of as many terms or more
abbrev pub ClosedIn : Format → ℕ → ℕ → Handed Bound → Eight ℕ → ℕ → Float → Float → Values → Sim3Coeffs → Type 0
ClosedIn f s y h e g sigma z v c =
    let delta = coeffs_delta f sigma z in
    coeffs_arm f delta ≡ 5 → Bounded unit sigma s → Bounded unit z y → (x : Handed Value) →
    HandedWithin unit (handed f z v) x h → (n : ℕ) →
    ClosedError c (le (form_b_below f) delta) (exact_inputs sigma z x (arm_ends f sigma 5) (suc (w0_terms f) + n)) e g

-- the same in every box whose bounds are computed to be at most e and g
abbrev pub ClosedAccurate : Format → Float → Float → Values → Sim3Coeffs → Type 0
ClosedAccurate f sigma z v c =
    (s y : ℕ) (h : Handed Bound) (e : Eight ℕ) (g : ℕ) → T (closed_holds f s y h e g) → ClosedIn f s y h e g sigma z v c

pub record ClosedFormTheorem (f : Format) : Type 0 where
  -- the coefficients, in any box
  pub closed : (sigma z : Float) (v : Values) → ClosedAccurate f sigma z v (coeffs_scaled f sigma z v).c
