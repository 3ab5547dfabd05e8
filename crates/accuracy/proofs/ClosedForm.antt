-- The error of the coefficients on the closed arm. Assumes nothing.
use mathlib.Core.Path.{◌≡◌, refl, sym, subst}
use mathlib.Core.Bool.{Bool, true, false, not, ◌&&◌, ◌||◌, cond}
use mathlib.Core.List.{List, [], ◌∷◌}
use Rattle.std.specs.Bool.{beq}
use Prim.Native.Nat.{ℕ, suc, ◌+◌, ◌-◌, ◌*◌, ◌^◌, ◌≤◌, ◌<◌}
use native.Mathlib.Nat.{one-le-pow, mul-pos}
use native.Mathlib.Numerals.{add-one}
use native.Mathlib.Omega.{arith}
use lib.IntN.{ℤ}
use lib.Dec.{T, eqb, eqb→eq, leb, leb→le, ltb→lt, lit≤, lit<}
use lib.Ieee.{Float, nan, inf, fin, Format, binary32, binary64, up, down, sub, neg, mul, lt, le, eq, of_bits}
use lib.Ieee.Fits.{down_pos, and_l, and_r}
use Rattle.ieee.specs.Numbers.{f0, f1, f2, half}
use Rattle.ieee.specs.Table.{factorial}
use Rattle.series.specs.Series.{coeffs_delta, g_series, w0_terms}
use Rattle.series.specs.Floats.{Sim3Coeffs}
use Rattle.circle.specs.Kernel.{circle_sinc_abd}
use Rattle.circle.specs.Floats.{SincABD}
use Rattle.arms.specs.Limits.{short_below, mid_below, upper_below, series_below, form_b_below, w0_below}
use Rattle.arms.specs.Arm.{coeffs_arm, arm_ends}
use Rattle.arms.specs.Values.{at_zero}
use Rattle.arms.specs.Floats.{Values}
use Rattle.coeffs.specs.ClosedForm.{closed_e, closed_m, closed_g, closed_v0, closed_w0, closed_v, closed_ws, closed_dvs}
use Rattle.coeffs.specs.ClosedForm.{closed_joined, closed_nine, closed_v_from, closed_from}
use Rattle.coeffs.specs.Group.{coeffs_scaled}
use Rattle.rounding.specs.Value.{Value, opposite, plus, minus, times, ratio, signed, value_of, Near, AtLeast}
use Rattle.rounding.specs.Value.{AbsoluteError}
use Rattle.rounding.specs.Tree.{Term, computed, exact, Bound, prod_reach, prod_bound, bound, in_range, no_overflow}
use Rattle.rounding.specs.Tree.{well_defined, DivisorsAtLeast, ForwardError}
use Rattle.rounding.specs.Leaves.{Bounded, at, exact_at, sizes, nth, no_bound, errorless}
use Rattle.rounding.proofs.Fractions.{most-near, most_wider}
use Rattle.rounding.proofs.Forward.{forward_error, forward_opp, forward_prod, error_trans, error_wider}
use Rattle.rounding.proofs.Leaves.{leaf_forward, leaves_forward, AllForwardError, nth_forward, two_bounded}
use Rattle.rounding.proofs.Quotients.{forward_error-divided}
use Rattle.rounding.proofs.Divisors.{divided_by, divisors_at_least, not_below, square_at_least}
use Rattle.accuracy.specs.Series.{exact_horner, bound_horner, horner_no_overflow, Eight}
use Rattle.accuracy.specs.ClosedForm.{Inputs, Forms, exact_forms, tree_forms, forms_row, tree_delta, tree_v0, tree_w0}
use Rattle.accuracy.specs.ClosedForm.{Handed, handed, HandedWithin, exact_inputs, unit, least_delta, least_square}
use Rattle.accuracy.specs.ClosedForm.{least_sigma, small_sigma, rest_v0, rest_w0, longer_bound, v0_bound, w0_bound}
use Rattle.accuracy.specs.ClosedForm.{inputs_bound, delta_bound, quotients_hold, forms_hold, series_times, ends_hold}
use Rattle.accuracy.specs.ClosedForm.{delta_holds, either_hold, ClosedError, ClosedAccurate, ClosedFormTheorem}
use Rattle.accuracy.proofs.Series.{one_forward, factorial_pos, horner_forward}
use Rattle.accuracy.proofs.HornerTail.{near_convert, horner_tail}
use Rattle.accuracy.proofs.Arms.{near_turn, value_pos}
use Rattle.accuracy.specs.Domain.{before}
use Rattle.accuracy.proofs.Coefficients.{coeffs_at}
use Rattle.accuracy.proofs.Exponential.{horner_above}
use Rattle.accuracy.proofs.Domain.{round-below, root-whole}

-- ---- wider bounds, and choices
pub forward_wider : (w : ℕ) (x : Float) (y : Value) (a b : Bound) → a.magnitude ≤ b.magnitude → a.error ≤ b.error
    → ForwardError w x y a → ForwardError w x y b
forward_wider w x y a b l k h =
    record {
      close = error_wider w x y a.error b.error k h.close;
      size = most_wider w y a.magnitude b.magnitude l h.size;
      above = h.above;
    }

forward_cond : (w : ℕ) (u : Bool) (x x' : Float) (y y' : Value) (b : Bound) → ForwardError w x y b
    → ForwardError w x' y' b → ForwardError w (cond u x x') (cond u y y') b
forward_cond w true x x' y y' b h k = h
forward_cond w false x x' y y' b h k = k

-- ---- the forms, from Δ and the inputs
record InputsWithin (x : Inputs Float) (y : Inputs Value) (h : Inputs Bound) : Type 0 where
  sigma : ForwardError unit x.sigma y.sigma h.sigma
  z : ForwardError unit x.z y.z h.z
  e : ForwardError unit x.e y.e h.e
  m : ForwardError unit x.m y.m h.m
  a : ForwardError unit x.a y.a h.a
  b : ForwardError unit x.b y.b h.b
  sinc : ForwardError unit x.sinc y.sinc h.sinc
  d : ForwardError unit x.d y.d h.d
  v0 : ForwardError unit x.v0 y.v0 h.v0
  w0 : ForwardError unit x.w0 y.w0 h.w0

seven : (a b c d e f g : Bool) → T (a && (b && (c && (d && (e && (f && g)))))) → T a × T b × T c × T d × T e × T f × T g
seven a b c d e f g k =
    let q = and_r a (b && (c && (d && (e && (f && g))))) k in
    let r = and_r b (c && (d && (e && (f && g)))) q in
    let s = and_r c (d && (e && (f && g))) r in
    let t = and_r d (e && (f && g)) s in
    let u = and_r e (f && g) t in (
      and_l a (b && (c && (d && (e && (f && g))))) k,
      and_l b (c && (d && (e && (f && g)))) q,
      and_l c (d && (e && (f && g))) r,
      and_l d (e && (f && g)) s,
      and_l e (f && g) t,
      and_l f g u,
      and_r f g u,
    )

-- every quotient of theirs is by Δ
abbrev OwnDivisor : Format → Forms Term → Type 0
OwnDivisor f t =
    let own = divided_by (least_delta f) 0 in
    T (own t.v1) × T (own t.v2) × T (own t.w1) × T (own t.w2) × T (own t.dv1) × T (own t.dv2) × T (own t.chi_delta)

own_divisor : (f : Format) (form_b : Bool) → OwnDivisor f (tree_forms (least_delta f) form_b)
unfolding tree_forms
own_divisor binary32 true = (tt, tt, tt, tt, tt, tt, tt)
own_divisor binary32 false = (tt, tt, tt, tt, tt, tt, tt)
own_divisor binary64 true = (tt, tt, tt, tt, tt, tt, tt)
own_divisor binary64 false = (tt, tt, tt, tt, tt, tt, tt)

pub half_bounded : Bounded unit half (2 ^ 99)
half_bounded = lit≤ tt

abbrev circle_of : Inputs Float → SincABD
circle_of x = record { a = x.a; b = x.b; sinc = x.sinc; d = x.d }

-- the coefficients of the inputs
abbrev forms_of : Format → Bool → Inputs Float → Sim3Coeffs
forms_of f form_b x =
    closed_nine f x.sigma x.z (circle_of x) x.e (closed_v f x.sigma x.z (circle_of x) x.e x.m x.v0 form_b) x.w0

module _ (f : Format) (x : Inputs Float) (y : Inputs Value) (b : Inputs Bound) (B : Bound) (h : InputsWithin x y b)
    (hd : ForwardError unit (coeffs_delta f x.sigma x.z) (plus (times y.sigma y.sigma) y.z) B)
    (l : AtLeast unit (plus (times y.sigma y.sigma) y.z) (least_delta f)) where
  abbrev floats : List Float
  floats = forms_row (coeffs_delta f x.sigma x.z) half f2 x

  abbrev values : List Value
  values = forms_row (plus (times y.sigma y.sigma) y.z) (value_of half) (value_of f2) y

  abbrev bounds : List Bound
  bounds = forms_row B (errorless (2 ^ 99)) (errorless (2 * unit)) b

  abbrev Within : Term → ℕ → Type 0
  Within t e = AbsoluteError unit (computed f (nth f0 floats) t) (exact (nth (value_of f0) values) t) e

  form_error : (t : Term) (e : ℕ)
      → T (divided_by (least_delta f) 0 t) → T (quotients_hold f (nth no_bound bounds) t e) → Within t e
  form_error t e q k =
      let all : AllForwardError unit floats values bounds = (
        hd,
        (
          leaf_forward unit half (2 ^ 99) half_bounded,
          (
            leaf_forward unit f2 (2 * unit) (two_bounded unit),
            (h.sigma, (h.z, (h.e, (h.m, (h.a, (h.b, (h.sinc, (h.d, (h.v0, (h.w0, tt)))))))))),
          ),
        ),
      ) in
      let s = well_defined f unit (nth no_bound bounds) t in
      let E = (bound f unit (nth no_bound bounds) t).error in
      error_wider unit (computed f (nth f0 floats) t) (exact (nth (value_of f0) values) t) E e
      (leb→le E e (and_r s (leb E e) k))
      (forward_error-divided f unit (nth f0 floats) (nth (value_of f0) values) (nth no_bound bounds) (lit< tt)
      (nth_forward unit floats values bounds all) t (and_l s (leb E e) k)
      (divisors_at_least unit (nth (value_of f0) values) (least_delta f) 0 l t q)).close

  record FormsError (form_b : Bool) (e : Eight ℕ) (g : ℕ) : Type 0 where
    v1 : AbsoluteError unit (forms_of f form_b x).v1 (exact_forms form_b y).v1 e.v1
    v2 : AbsoluteError unit (forms_of f form_b x).v2 (exact_forms form_b y).v2 e.v2
    w1 : AbsoluteError unit (forms_of f form_b x).w1 (exact_forms form_b y).w1 e.w1
    w2 : AbsoluteError unit (forms_of f form_b x).w2 (exact_forms form_b y).w2 e.w2
    dv1 : AbsoluteError unit (forms_of f form_b x).dv1 (exact_forms form_b y).dv1 e.dv1
    dv2 : AbsoluteError unit (forms_of f form_b x).dv2 (exact_forms form_b y).dv2 e.dv2
    chi : AbsoluteError unit (forms_of f form_b x).chi_delta (exact_forms form_b y).chi_delta g

  record TreesError (form_b : Bool) (e : Eight ℕ) (g : ℕ) : Type 0 where
    v1 : Within (tree_forms (least_delta f) form_b).v1 e.v1
    v2 : Within (tree_forms (least_delta f) form_b).v2 e.v2
    w1 : Within (tree_forms (least_delta f) form_b).w1 e.w1
    w2 : Within (tree_forms (least_delta f) form_b).w2 e.w2
    dv1 : Within (tree_forms (least_delta f) form_b).dv1 e.dv1
    dv2 : Within (tree_forms (least_delta f) form_b).dv2 e.dv2
    chi : Within (tree_forms (least_delta f) form_b).chi_delta g

  trees_accurate : (form_b : Bool) (e : Eight ℕ) (g : ℕ) → T (forms_hold f B b form_b e g) → TreesError form_b e g
  unfolding forms_hold
  trees_accurate form_b e g k =
      let t = tree_forms (least_delta f) form_b in
      let c = quotients_hold f (nth no_bound bounds) in
      let q = seven (c t.v1 e.v1) (c t.v2 e.v2) (c t.w1 e.w1) (c t.w2 e.w2) (c t.dv1 e.dv1) (c t.dv2 e.dv2)
      (c t.chi_delta g) k in
      let d = own_divisor f form_b in
      record {
        v1 = form_error t.v1 e.v1 d.0 q.0;
        v2 = form_error t.v2 e.v2 d.1 q.1;
        w1 = form_error t.w1 e.w1 d.2 q.2;
        w2 = form_error t.w2 e.w2 d.3 q.3;
        dv1 = form_error t.dv1 e.dv1 d.4 q.4;
        dv2 = form_error t.dv2 e.dv2 d.5 q.5;
        chi = form_error t.chi_delta g d.6 q.6;
      }

  -- the coefficients are the trees, in each form
  forms_accurate : (form_b : Bool) (e : Eight ℕ) (g : ℕ) → TreesError form_b e g → FormsError form_b e g
  unfolding tree_forms exact_forms computed exact coeffs_delta closed_nine closed_joined closed_v closed_ws closed_dvs
      sub
  forms_accurate true e g t =
      record { v1 = t.v1; v2 = t.v2; w1 = t.w1; w2 = t.w2; dv1 = t.dv1; dv2 = t.dv2; chi = t.chi }
  forms_accurate false e g t =
      record { v1 = t.v1; v2 = t.v2; w1 = t.w1; w2 = t.w2; dv1 = t.dv1; dv2 = t.dv2; chi = t.chi }

-- ---- what a test against a limit tells
abbrev pub plain_limit : Float → Bool
plain_limit nan = false
plain_limit (inf s) = false
plain_limit (fin true n d) = false
plain_limit (fin false n d) = true

pub limit_at_least : (w l e : ℕ) (x : Float) (y : Value) (L : Float) → T (plain_limit L) → AbsoluteError w x y e
    → T (not (lt x L))
    → (l + e) * (value_of L).d ≤ w * (value_of L).p → AtLeast w y l
unfolding value_of
limit_at_least w l e x y nan p h t k = absurd p
limit_at_least w l e x y (inf s) p h t k = absurd p
limit_at_least w l e x y (fin true n d) p h t k = absurd p
limit_at_least w l e x y (fin false n d) p h t k = not_below w l e x y n d h t k

square_below : (f : Format) (w x r n : ℕ) (d : ℤ) (s : Float) → T (lt (mul f s s) (fin false n d))
    → w * (n * up d) ≤ x * down d
    → w * before f w x ≤ r * r → Bounded w s r
unfolding mul lt
square_below f w x r n d nan t h k = absurd t
square_below f w x r n d (inf true) t h k = absurd t
square_below f w x r n d (inf false) t h k = absurd t
square_below f w x r n d (fin true m e) t h k =
    let a = m * up e in
    root-whole w (before f w x) r a (down e)
    (round-below f w x (a * a) (down e * down e) n d (mul-pos (down_pos e) (down_pos e)) t h) k
square_below f w x r n d (fin false m e) t h k =
    let a = m * up e in
    root-whole w (before f w x) r a (down e)
    (round-below f w x (a * a) (down e * down e) n d (mul-pos (down_pos e) (down_pos e)) t h) k

limit_bounded : (f : Format) (w x r : ℕ) (s L : Float) → T (plain_limit L) → T (lt (mul f s s) L)
    → w * (value_of L).p ≤ x * (value_of L).d
    → w * before f w x ≤ r * r → Bounded w s r
unfolding value_of
limit_bounded f w x r s nan p t h k = absurd p
limit_bounded f w x r s (inf u) p t h k = absurd p
limit_bounded f w x r s (fin true n d) p t h k = absurd p
limit_bounded f w x r s (fin false n d) p t h k = square_below f w x r n d s t h k

-- ---- a number that is not 0
false_if : (b : Bool) → (T b → ⊥) → b ≡ false
false_if true h = absurd (h tt)
false_if false h = refl

either : {P : Type 0} (a b : Bool) → (T a → P) → (T b → P) → T (a || b) → P
either true b f g t = f tt
either false b f g t = g t

zero_whole : (s : Bool) (m : ℕ) (e : ℤ) → T (at_zero (fin s m e)) → m * up e ≡ 0
unfolding at_zero le lt eq
zero_whole true m e t =
    either (lt f0 (fin true m e)) (eq f0 (fin true m e)) (λ h. absurd h)
    (λ h. let k : 0 * 1 * down e ≡ m * up e * 1 = eqb→eq (0 * 1 * down e) (m * up e * 1)
    (and_l (eqb (0 * 1 * down e) (m * up e * 1)) (beq false true || eqb (0 * 1 * down e) 0) h) in omega arith)
    (and_r (le (fin true m e) f0) (le f0 (fin true m e)) t)
zero_whole false m e t =
    either (lt (fin false m e) f0) (eq (fin false m e) f0)
    (λ h. let k : m * up e * 1 < 0 * 1 * down e = ltb→lt (m * up e * 1) (0 * 1 * down e) h in absurd (omega arith))
    (λ h. let k : m * up e * 1 ≡ 0 * 1 * down e = eqb→eq (m * up e * 1) (0 * 1 * down e)
    (and_l (eqb (m * up e * 1) (0 * 1 * down e)) (beq false false || eqb (m * up e * 1) 0) h) in omega arith)
    (and_l (le (fin false m e) f0) (le f0 (fin false m e)) t)

least_whole : (w b l : ℕ) (s : Bool) (A D : ℕ) → 0 < l → 0 < D → A ≡ 0 → AtLeast w (signed s A D) l → ⊥
least_whole w b l s A D z c h k = go s (subst (λ (a : ℕ). AtLeast w (signed s a D) l) h k)
  where
    over : (w l D : ℕ) → 0 < l → 0 < D → l * D ≤ w * (0 - 0 + (0 - 0)) → ⊥
    over w l D z c k = let p : 0 < l * D = mul-pos z c in omega arith

    go : (s : Bool) → AtLeast w (signed s 0 D) l → ⊥
    go true k = over w l D z c k.least
    go false k = over w l D z c k.least

not_zero : (w b l : ℕ) (x : Float) → Bounded w x b → 0 < l → AtLeast w (value_of x) l → at_zero x ≡ false
unfolding value_of
not_zero w b l nan h z k = absurd h
not_zero w b l (inf s) h z k = absurd h
not_zero w b l (fin s m e) h z k =
    false_if (at_zero (fin s m e)) (λ t. least_whole w b l s (m * up e) (down e) z (down_pos e) (zero_whole s m e t) k)

-- ---- the closed arm is above the limit of the series
abbrev number : Bool → Bool → Bool → Bool → ℕ
number a b c d = cond a 1 (cond b 2 (cond c 3 (cond d 4 5)))

above_all : (a b c d : Bool) → number a b c d ≡ 5 → T (not d)
above_all a b c false h = tt
above_all true b c true h = absurd (subst (λ (k : ℕ). T (not (eqb k 5))) h tt)
above_all false true c true h = absurd (subst (λ (k : ℕ). T (not (eqb k 5))) h tt)
above_all false false true true h = absurd (subst (λ (k : ℕ). T (not (eqb k 5))) h tt)
above_all false false false true h = absurd (subst (λ (k : ℕ). T (not (eqb k 5))) h tt)

on_closed : (f : Format) (delta : Float) → coeffs_arm f delta ≡ 5 → T (not (lt delta (series_below f)))
unfolding coeffs_arm
on_closed f delta h =
    above_all (lt delta (short_below f)) (lt delta (mid_below f)) (lt delta (upper_below f))
    (lt delta (series_below f)) h

-- ---- Δ
delta_forward : (f : Format) (s y : ℕ) (sigma z : Float) → Bounded unit sigma s → Bounded unit z y
    → T (no_overflow f unit (sizes (s ∷ y ∷ [])) tree_delta)
    → ForwardError unit (coeffs_delta f sigma z) (plus (times (value_of sigma) (value_of sigma)) (value_of z))
    (delta_bound f s y)
unfolding computed exact coeffs_delta
delta_forward f s y sigma z hs hz t =
    forward_error f unit (at (sigma ∷ z ∷ [])) (exact_at (sigma ∷ z ∷ [])) (sizes (s ∷ y ∷ [])) (lit< tt)
    (leaves_forward unit (sigma ∷ z ∷ []) (s ∷ y ∷ []) (hs, (hz, tt))) tree_delta t

-- ---- a longer sum
forward_longer : (w c : ℕ) (x : Float) (y y' : Value) (b : Bound) → ForwardError w x y b → Near w y' y (2 * c)
    → 0 < y'.d → ForwardError w x y' (longer_bound c b)
forward_longer w c x y y' b h k p =
    record {
      close = error_trans w x y y' b.error (2 * c) h.above h.close (near_turn w y' y (2 * c) k);
      size = most-near w y' y b.magnitude (2 * c) h.above k h.size;
      above = p;
    }

-- ---- v₀ and w₀
-- |σ| where σ² is small, and what the sums leave out: numbers, by computing
abbrev small_units : Format → ℕ
small_units binary32 = 1222517 * 2 ^ 79
small_units binary64 = 5250670557029975 * 2 ^ 47

record Facts (f : Format) : Type 0 where
  series : T (plain_limit (series_below f))
  small : T (plain_limit (w0_below f))
  reached : unit * (value_of (w0_below f)).p ≤ small_units f * (value_of (w0_below f)).d
  root : unit * before f unit (small_units f) ≤ small_sigma * small_sigma
  v0 : unit * (small_sigma ^ suc (w0_terms f) * 2) ≤ 2 * rest_v0 f *
      (unit ^ suc (w0_terms f) * factorial (suc (w0_terms f) + 1))
  w0 : unit * (small_sigma ^ w0_terms f * 2) ≤ 2 * rest_w0 f * (unit ^ w0_terms f * factorial (w0_terms f + 2))
  v0_half : 2 * small_sigma ≤ suc (suc (w0_terms f) + 1) * unit
  w0_half : 2 * small_sigma ≤ suc (w0_terms f + 2) * unit

facts : (f : Format) → Facts f
unfolding of_bits factorial value_of
facts binary32 =
    record {
      series = tt;
      small = tt;
      reached = lit≤ tt;
      root = lit≤ tt;
      v0 = lit≤ tt;
      w0 = lit≤ tt;
      v0_half = lit≤ tt;
      w0_half = lit≤ tt;
    }
facts binary64 =
    record {
      series = tt;
      small = tt;
      reached = lit≤ tt;
      root = lit≤ tt;
      v0 = lit≤ tt;
      w0 = lit≤ tt;
      v0_half = lit≤ tt;
      w0_half = lit≤ tt;
    }

one_later : (k n : ℕ) → k + suc n ≡ suc k + n
one_later k n = omega arith

module _ (f : Format) (s : ℕ) (sigma : Float) (hs : Bounded unit sigma s) (h : Handed Bound) (M G : Float) (m g : Value)
    (hm : ForwardError unit M m h.m) (hg : ForwardError unit G g h.e) (e : Eight ℕ) where
  record Ends (small : Bool) (n : ℕ) : Type 0 where
    v0 : ForwardError unit (closed_v0 f sigma G M small)
        (cond small (times g (exact_horner (value_of sigma) 1 (suc (w0_terms f) + n))) (ratio m (value_of sigma)))
        (v0_bound f s h small)
    w0 : ForwardError unit (closed_w0 f sigma G M small)
        (cond small (times g (exact_horner (value_of sigma) 2 (suc (w0_terms f) + n)))
        (ratio (minus m (times (value_of sigma) g)) (times (value_of sigma) (value_of sigma))))
        (w0_bound f s h small)
    v0_most : (v0_bound f s h small).error ≤ e.v0
    w0_most : (w0_bound f s h small).error ≤ e.w0

  -- one of the two by its series of k terms
  by_series : (l k c b : ℕ) → Bounded unit sigma small_sigma
      → unit * (small_sigma ^ k * 2) ≤ 2 * c * (unit ^ k * factorial (k + l)) → 2 * small_sigma ≤ suc (k + l) * unit
      → T (series_times f h l k c b) → (n : ℕ)
      → ForwardError unit (mul f G (g_series f sigma l k)) (times g (exact_horner (value_of sigma) l (k + n)))
      (prod_bound f unit h.e (longer_bound c (bound_horner f unit (errorless small_sigma) l k)))
  by_series l k c b hb r hf t n =
      let q = horner_no_overflow f unit (errorless small_sigma) l k in
      let b' = longer_bound c (bound_horner f unit (errorless small_sigma) l k) in
      let i = in_range f unit (prod_reach unit h.e b') in
      let o = leb (prod_bound f unit h.e b').error b in
      let v = value_of sigma in
      let p = value_pos unit sigma small_sigma hb in
      let leaf = leaf_forward unit sigma small_sigma hb in
      let near =
      near_convert unit (unit ^ k * factorial (k + l)) (exact_horner v l (k + n)) (exact_horner v l k) (2 * c)
      (small_sigma ^ k * 2)
      (mul-pos (one-le-pow k unit (lit< tt)) (factorial_pos (k + l))) r
      (horner_tail unit small_sigma v (lit< tt) leaf.size n k l hf) in
      forward_prod f unit G (g_series f sigma l k) g (exact_horner v l (k + n)) h.e b' (lit< tt) hg
      (forward_longer unit c (g_series f sigma l k) (exact_horner v l k) (exact_horner v l (k + n))
      (bound_horner f unit (errorless small_sigma) l k)
      (horner_forward f unit sigma v (errorless small_sigma) (lit< tt) leaf l k (and_l q (i && o) t)) near
      (horner_above v v p p l (k + n)))
      (and_l i o (and_r q (i && o) t))

  series_most : (l k c b : ℕ) → T (series_times f h l k c b)
      → (prod_bound f unit h.e (longer_bound c (bound_horner f unit (errorless small_sigma) l k))).error ≤ b
  series_most l k c b t =
      let q = horner_no_overflow f unit (errorless small_sigma) l k in
      let b' = longer_bound c (bound_horner f unit (errorless small_sigma) l k) in
      let i = in_range f unit (prod_reach unit h.e b') in
      let o = leb (prod_bound f unit h.e b').error b in
      leb→le (prod_bound f unit h.e b').error b (and_r i o (and_r q (i && o) t))

  ends : (small : Bool) → lt (mul f sigma sigma) (w0_below f) ≡ small → T (ends_hold f s h small e) → (n : ℕ)
      → Ends small n
  unfolding ends_hold closed_v0 closed_w0 computed exact sub DivisorsAtLeast
  ends true q t n =
      let c = facts f in
      let hb : Bounded unit sigma small_sigma =
      limit_bounded f unit (small_units f) small_sigma sigma (w0_below f) c.small (subst T (sym q) tt) c.reached
      c.root in
      let a = series_times f h 1 (suc (w0_terms f)) (rest_v0 f) e.v0 in
      let b = series_times f h 2 (w0_terms f) (rest_w0 f) e.w0 in
      let ta : T a = and_l a b t in
      let tb : T b = and_r a b t in
      record {
        v0 =
            subst (λ (k : ℕ). ForwardError unit (mul f G (g_series f sigma 1 k))
            (times g (exact_horner (value_of sigma) 1 (suc (w0_terms f) + n))) (v0_bound f s h true))
            (sym (add-one (w0_terms f))) (by_series 1 (suc (w0_terms f)) (rest_v0 f) e.v0 hb c.v0 c.v0_half ta n);
        w0 =
            subst (λ (k : ℕ). ForwardError unit (mul f G (g_series f sigma 2 (w0_terms f)))
            (times g (exact_horner (value_of sigma) 2 k)) (w0_bound f s h true))
            (one_later (w0_terms f) n) (by_series 2 (w0_terms f) (rest_w0 f) e.w0 hb c.w0 c.w0_half tb (suc n));
        v0_most = series_most 1 (suc (w0_terms f)) (rest_v0 f) e.v0 ta;
        w0_most = series_most 2 (w0_terms f) (rest_w0 f) e.w0 tb;
      }
  ends false q t n =
      let c = facts f in
      let limit = value_of (w0_below f) in
      let square = prod_bound f unit (errorless s) (errorless s) in
      let i = in_range f unit (prod_reach unit (errorless s) (errorless s)) in
      let o = leb ((least_square + square.error) * limit.d) (unit * limit.p) in
      let a = quotients_hold f (nth no_bound (h.m ∷ errorless s ∷ [])) (tree_v0 least_sigma) e.v0 in
      let b = quotients_hold f (nth no_bound (h.m ∷ errorless s ∷ h.e ∷ [])) (tree_w0 least_square) e.w0 in
      let t1 : T (o && (a && b)) = and_r i (o && (a && b)) t in
      let t2 : T (a && b) = and_r o (a && b) t1 in
      let leaf = leaf_forward unit sigma s hs in
      let v = value_of sigma in
      let two =
      forward_prod f unit sigma sigma v v (errorless s) (errorless s) (lit< tt) leaf leaf (and_l i (o && (a && b)) t) in
      let sq : AtLeast unit (times v v) least_square =
      limit_at_least unit least_square square.error (mul f sigma sigma) (times v v) (w0_below f) c.small two.close
      (subst (λ (u : Bool). T (not u)) (sym q) tt)
      (leb→le ((least_square + square.error) * limit.d) (unit * limit.p) (and_l o (a && b) t1)) in
      let at : AtLeast unit v least_sigma = square_at_least unit s least_sigma least_square sigma hs (lit≤ tt) sq in
      let z : at_zero sigma ≡ false = not_zero unit s least_sigma sigma hs (lit< tt) at in
      let l0 = nth no_bound (h.m ∷ errorless s ∷ []) in
      let l1 = nth no_bound (h.m ∷ errorless s ∷ h.e ∷ []) in
      let d0 = well_defined f unit l0 (tree_v0 least_sigma) in
      let d1 = well_defined f unit l1 (tree_w0 least_square) in
      let n0 = leb (bound f unit l0 (tree_v0 least_sigma)).error e.v0 in
      let n1 = leb (bound f unit l1 (tree_w0 least_square)).error e.w0 in
      let ta : T (d0 && n0) = and_l a b t2 in
      let tb : T (d1 && n1) = and_r a b t2 in
      let x0 = M ∷ sigma ∷ [] in
      let y0 = m ∷ v ∷ [] in
      let x1 = M ∷ sigma ∷ G ∷ [] in
      let y1 = m ∷ v ∷ g ∷ [] in
      record {
        v0 =
            rw z (forward_error-divided f unit (nth f0 x0) (nth (value_of f0) y0) l0 (lit< tt)
            (nth_forward unit x0 y0 (h.m ∷ errorless s ∷ []) (hm, (leaf, tt)))
            (tree_v0 least_sigma) (and_l d0 n0 ta) (tt, (tt, at)));
        w0 =
            rw z (forward_error-divided f unit (nth f0 x1) (nth (value_of f0) y1) l1 (lit< tt)
            (nth_forward unit x1 y1 (h.m ∷ errorless s ∷ h.e ∷ []) (hm, (leaf, (hg, tt))))
            (tree_w0 least_square) (and_l d1 n1 tb) ((tt, (tt, tt)), ((tt, tt), sq)));
        v0_most = leb→le (bound f unit l0 (tree_v0 least_sigma)).error e.v0 (and_r d0 n0 ta);
        w0_most = leb→le (bound f unit l1 (tree_w0 least_square)).error e.w0 (and_r d1 n1 tb);
      }

-- ---- all of it
module _ (f : Format) (s y : ℕ) (sigma z : Float) (v : Values) (h : Handed Bound) (hs : Bounded unit sigma s)
    (hz : Bounded unit z y)
    (x : Handed Value) (hx : HandedWithin unit (handed f z v) x h) (one : unit ≤ h.e.magnitude) where
  -- the inputs as they are computed
  abbrev inputs : Bool → Inputs Float
  inputs small =
      let M = closed_m sigma v.m in
      let G = closed_g sigma v.e in
      let c = circle_sinc_abd f z v.root v.sin_half v.cos_half v.sin in
      record {
        sigma = sigma;
        z = z;
        e = closed_e sigma v.e;
        m = M;
        a = c.a;
        b = c.b;
        sinc = c.sinc;
        d = c.d;
        v0 = closed_v0 f sigma G M small;
        w0 = closed_w0 f sigma G M small;
      }

  one_within : ForwardError unit f1 (value_of f1) h.e
  one_within = forward_wider unit f1 (value_of f1) (errorless unit) h.e one (omega arith) (one_forward unit)

  m_within : ForwardError unit (closed_m sigma v.m) (cond (lt f0 sigma) (opposite x.m) x.m) h.m
  m_within =
      forward_cond unit (lt f0 sigma) (neg v.m) v.m (opposite x.m) x.m h.m (forward_opp unit v.m x.m h.m hx.m) hx.m

  g_within : ForwardError unit (closed_g sigma v.e) (cond (lt f0 sigma) x.e (value_of f1)) h.e
  g_within = forward_cond unit (lt f0 sigma) v.e f1 x.e (value_of f1) h.e hx.e one_within

  closed_error : (small : Bool) (e : Eight ℕ) (g n : ℕ) → lt (mul f sigma sigma) (w0_below f) ≡ small
      → T (delta_holds f s y) → T (ends_hold f s h small e)
      → T (not (lt (coeffs_delta f sigma z) (series_below f))) → (form_b : Bool)
      → T (forms_hold f (delta_bound f s y) (inputs_bound f s y h small) form_b e g)
      → ClosedError (forms_of f form_b (inputs small)) form_b (exact_inputs sigma z x small (suc (w0_terms f) + n)) e g
  unfolding exact_inputs delta_holds closed_nine closed_joined closed_v
  closed_error small e g n q td te tl form_b tf =
      let i = exact_inputs sigma z x small (suc (w0_terms f) + n) in
      let b = inputs_bound f s y h small in
      let k =
      ends f s sigma hs h (closed_m sigma v.m) (closed_g sigma v.e) (cond (lt f0 sigma) (opposite x.m) x.m)
      (cond (lt f0 sigma) x.e (value_of f1))
      m_within g_within e small q te n in
      let within : InputsWithin (inputs small) i b =
      record {
        sigma = leaf_forward unit sigma s hs;
        z = leaf_forward unit z y hz;
        e = forward_cond unit (lt f0 sigma) f1 v.e (value_of f1) x.e h.e one_within hx.e;
        m = m_within;
        a = hx.a;
        b = hx.b;
        sinc = hx.sinc;
        d = hx.d;
        v0 = k.v0;
        w0 = k.w0;
      } in
      let limit = value_of (series_below f) in
      let o = no_overflow f unit (sizes (s ∷ y ∷ [])) tree_delta in
      let r = leb ((least_delta f + (delta_bound f s y).error) * limit.d) (unit * limit.p) in
      let d = delta_forward f s y sigma z hs hz (and_l o r td) in
      let l =
      limit_at_least unit (least_delta f) (delta_bound f s y).error (coeffs_delta f sigma z)
      (plus (times (value_of sigma) (value_of sigma)) (value_of z)) (series_below f)
      (facts f).series d.close tl (leb→le ((least_delta f + (delta_bound f s y).error) * limit.d) (unit * limit.p)
      (and_r o r td)) in
      let trees = trees_accurate f (inputs small) i b (delta_bound f s y) within d l form_b e g tf in
      let t = forms_accurate f (inputs small) i b (delta_bound f s y) within d l form_b e g trees in
      record {
        v0 = error_wider unit (inputs small).v0 i.v0 (v0_bound f s h small).error e.v0 k.v0_most k.v0.close;
        v1 = t.v1;
        v2 = t.v2;
        w0 = error_wider unit (inputs small).w0 i.w0 (w0_bound f s h small).error e.w0 k.w0_most k.w0.close;
        w1 = t.w1;
        w2 = t.w2;
        dv1 = t.dv1;
        dv2 = t.dv2;
        chi = t.chi;
      }

both : (P : Bool → Bool) → T (P true && P false) → (u : Bool) → T (P u)
both P t true = and_l (P true) (P false) t
both P t false = and_r (P true) (P false) t

pub closed_accurate : (f : Format) (sigma z : Float) (v : Values)
    → ClosedAccurate f sigma z v (coeffs_scaled f sigma z v).c
unfolding coeffs_scaled closed_from closed_v_from arm_ends
closed_accurate f sigma z v s y h e g t arm hs hz x hx n =
    let small = lt (mul f sigma sigma) (w0_below f) in
    let form_b = le (form_b_below f) (coeffs_delta f sigma z) in
    let i = exact_inputs sigma z x small (suc (w0_terms f) + n) in
    let o = leb unit h.e.magnitude in
    let d = delta_holds f s y in
    let either = either_hold f s y h e g in
    let all = either true && either false in
    let ends = ends_hold f s h small e in
    let forms = λ (u : Bool). forms_hold f (delta_bound f s y) (inputs_bound f s y h small) u e g in
    let t1 : T (d && all) = and_r o (d && all) t in
    let t2 : T (either small) = both either (and_r d all t1) small in
    let t3 : T (forms form_b) = both forms (and_r ends (forms true && forms false) t2) form_b in
    subst (λ (j : ℕ). ClosedError (coeffs_at f sigma z v j) form_b i e g) (sym arm)
    (closed_error f s y sigma z v h hs hz x hx (leb→le unit h.e.magnitude (and_l o (d && all) t)) small e g n refl
    (and_l d all t1) (and_l ends (forms true && forms false) t2) (on_closed f (coeffs_delta f sigma z) arm) form_b t3)

-- what specs/ClosedForm.antt states
pub closed_form : (f : Format) → ClosedFormTheorem f
closed_form f = record { closed = closed_accurate f }
