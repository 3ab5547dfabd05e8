-- The rounding error of |v|². Assumes nothing.
use mathlib.Core.Path.{◌≡◌, refl, sym, subst}
use mathlib.Core.List.{[], ◌∷◌}
use Prim.Native.Nat.{ℕ, suc, ◌+◌, ◌*◌, ◌/◌, ◌^◌, ◌≤◌, ◌<◌}
use native.Mathlib.Nat.{le_trans, suc-mul, add-mul, mul_comm, mul-pos, mul-le-mul_right, le_of_mul-le-mul_right}
use native.Mathlib.Nat.{div-mul-le_self, zero-div}
use native.Mathlib.Omega.{arith}
use Rattle.std.proofs.lemmas.Nat.{le-div}
use lib.Dec.{T, lit<, ltb→lt, lt→ltb}
use lib.Pow.{pow_pos}
use lib.Ieee.{Float, nan, inf, fin, Format, binary32, binary64, prec, emax, low, unlike, up, down, add, mul}
use lib.Ieee.Fits.{down_pos}
use Rattle.linalg.specs.Vector.{vec_norm_sq, vec_dot}
use Rattle.linalg.specs.Floats.{Vec3}
use Rattle.rounding.specs.Value.{Value, plus, times, signed, value_of, AtMost, AbsoluteError}
use Rattle.rounding.specs.Roundoff.{rounding_error}
use Rattle.rounding.specs.Tree.{upward, computed, exact, bound, in_range, no_overflow}
use Rattle.rounding.specs.Leaves.{Bounded}
use Rattle.rounding.proofs.Differences.{expand, zeros}
use Rattle.rounding.proofs.Fractions.{near-plus, most-plus, most-near}
use Rattle.rounding.proofs.Forward.{upward_enough, signs, rounding-error-difference, error-sum, error_trans}
use Rattle.rounding.proofs.Forward.{error_wider}
use Rattle.rounding.proofs.Leaves.{tree-error, value-above, error-near, bounded_from}
use Rattle.accuracy.specs.Box.{exact_vec, VecIn}
use Rattle.accuracy.specs.Norm.{exact_norm_sq, tree_norm_sq, NormAccurate, NormTheorem}
use Rattle.accuracy.proofs.Arms.{value-signed}

pub norm_accurate : (f : Format) (v : Vec3) → NormAccurate f v (vec_norm_sq f v)
unfolding computed exact tree_norm_sq vec_norm_sq vec_dot
norm_accurate f v w b e z k h =
    tree-error f w (v.x ∷ v.y ∷ v.z ∷ []) (b ∷ b ∷ b ∷ []) tree_norm_sq (vec_norm_sq f v)
    (exact_norm_sq (exact_vec v)) e z
    (h.x, (h.y, (h.z, tt))) k refl refl

-- the exact |v|² is not below zero
pub norm-errorless : (w b : ℕ) (phi : Vec3) → VecIn w b phi → (exact_norm_sq (exact_vec phi)).n ≡ 0
norm-errorless w b phi h =
    go (value_of phi.x).p (value_of phi.x).n (value_of phi.x).d (value_of phi.y).p (value_of phi.y).n
    (value_of phi.y).d (value_of phi.z).p
    (value_of phi.z).n (value_of phi.z).d (value-signed w phi.x b h.x) (value-signed w phi.y b h.y)
    (value-signed w phi.z b h.z)
  where
    go : (p n d q m e s t f : ℕ) → p * n ≡ 0 → q * m ≡ 0 → s * t ≡ 0 →
        ((p * n + n * p) * (e * e) + (q * m + m * q) * (d * d)) * (f * f) + (s * t + t * s) * (d * d * (e * e)) ≡ 0
    go p n d q m e s t f a b c = rw (mul_comm n p, mul_comm m q, mul_comm t s, a, b, c) (simp zeros)

pub norm-above : (phi : Vec3) → 0 < (exact_norm_sq (exact_vec phi)).d
norm-above phi =
    mul-pos (mul-pos (mul-pos (value-above phi.x) (value-above phi.x))
    (mul-pos (value-above phi.y) (value-above phi.y))) (mul-pos (value-above phi.z) (value-above phi.z))

-- ---- by |v|² itself. A square is at most so many units and not one less
abbrev ceiling : ℕ → Value → ℕ
ceiling w s = upward s.d (w * s.p)

ceiling-most : (w : ℕ) (s : Value) → 0 < s.d → s.n ≡ 0 → AtMost w s (ceiling w s)
ceiling-most w s z e =
    record {
      above = le_trans (upward_enough s.d (w * s.p) z) (behind (w * s.n) (ceiling w s * s.d));
      below = subst (λ (n : ℕ). w * n ≤ w * s.p + ceiling w s * s.d) (sym e) (none w (w * s.p + ceiling w s * s.d));
    }
  where
    behind : (a b : ℕ) → b ≤ a + b
    behind a b = omega arith

    none : (w a : ℕ) → w * 0 ≤ a
    none w a = simp zeros (omega arith)

ceiling-least : (w : ℕ) (s : Value) → ceiling w s * s.d ≤ w * s.p + s.d
ceiling-least w s = go (w * s.p / s.d) s.d (w * s.p) (div-mul-le_self (w * s.p) s.d)
  where
    go : (q d n : ℕ) → q * d ≤ n → suc q * d ≤ n + d
    go q d n h = let e : suc q * d ≡ q * d + d = suc-mul q d in omega arith

-- three of them are at most 3 more than their sum
ceilings : (w m : ℕ) (r s t : Value) → 0 < r.d → 0 < s.d → 0 < t.d → (plus (plus r s) t).n ≡ 0 →
    AtMost w (plus (plus r s) t) m →
    ceiling w r + ceiling w s + ceiling w t ≤ m + 3
ceilings w m r s t rz sz tz e h =
    go w m r.p r.d s.p s.d t.p t.d (ceiling w r) (ceiling w s) (ceiling w t) (mul-pos (mul-pos rz sz) tz)
    (ceiling-least w r) (ceiling-least w s) (ceiling-least w t)
    (subst (λ (n : ℕ). w * ((r.p * s.d + s.p * r.d) * t.d + t.p * (r.d * s.d)) ≤ w * n + m * (r.d * s.d * t.d)) e
    h.above)
  where
    go : (w m rp rd sp sd tp td a b c : ℕ) → 0 < rd * sd * td → a * rd ≤ w * rp + rd → b * sd ≤ w * sp + sd →
        c * td ≤ w * tp + td →
        w * ((rp * sd + sp * rd) * td + tp * (rd * sd)) ≤ w * 0 + m * (rd * sd * td) → a + b + c ≤ m + 3
    go w m rp rd sp sd tp td a b c z h i j k =
        let x = mul-le-mul_right (sd * td) h in
        let y = mul-le-mul_right (rd * td) i in
        let u = mul-le-mul_right (rd * sd) j in
        le_of_mul-le-mul_right {k = rd * sd * td}
        (simp expand (omega (
          arith,
          simp expand at x,
          simp expand at y,
          simp expand at u,
          simp (zeros, expand) at
              k,
        ))) z

-- the rounding errors of three numbers, and of their sum
error-wide : (f : Format) (w x y : ℕ) → x ≤ y → rounding_error f w x ≤ rounding_error f w y
error-wide f w x y h = go (x / 2 ^ prec f) (y / 2 ^ prec f) (suc (w / 2 ^ suc (low f)))
    (le-div (x / 2 ^ prec f) y (2 ^ prec f) (pow_pos (prec f)) (le_trans (div-mul-le_self x (2 ^ prec f)) h))
  where
    go : (a b c : ℕ) → a ≤ b → suc a + c ≤ suc b + c
    go a b c h = omega arith

error-three : (f : Format) (w a b c : ℕ) → rounding_error f w a + rounding_error f w b + rounding_error f w
    c ≤ rounding_error f w (a + b + c) + 2 * rounding_error f w 0
error-three f w a b c =
    let p = 2 ^ prec f in
    rw (zero-div (2 ^ prec f)) (go (a / p) (b / p) (c / p) ((a + b + c) / p) (suc (w / 2 ^ suc (low f)))
    (le-div (a / p + b / p + c / p) (a + b + c) p (pow_pos (prec f))
    (sum (a / p) (b / p) (c / p) p a b c (div-mul-le_self a p) (div-mul-le_self b p) (div-mul-le_self c p))))
  where
    sum : (x y z q a b c : ℕ) → x * q ≤ a → y * q ≤ b → z * q ≤ c → (x + y + z) * q ≤ a + b + c
    sum x y z q a b c h i j = simp add-mul (omega arith)

    go : (x y z s t : ℕ) → x + y + z ≤ s → suc x + t + (suc y + t) + (suc z + t) ≤ suc s + t + 2 * (1 + t)
    go x y z s t h = omega arith

in-range-less : (f : Format) (w x y : ℕ) → x ≤ y → T (in_range f w y) → T (in_range f w x)
in-range-less f w x y h t =
    let e = error-wide f w x y h in
    lt→ltb (x + rounding_error f w x) (2 ^ suc (emax f) * w)
    (less x y (rounding_error f w x) (rounding_error f w y) (2 ^ suc (emax f) * w) h e
    (ltb→lt (y + rounding_error f w y) (2 ^ suc (emax f) * w) t))
  where
    less : (x y e g m : ℕ) → x ≤ y → e ≤ g → y + g < m → x + e < m
    less x y e g m h k l = omega arith

square-error : (f : Format) (w b m : ℕ) (x : Float) → Bounded w x b → AtMost w (times (value_of x) (value_of x)) m →
    T (in_range f w m) →
    AbsoluteError w (mul f x x) (times (value_of x) (value_of x)) (rounding_error f w m)
unfolding mul value_of
square-error f w b m nan h k t = absurd h
square-error f w b m (inf s) h k t = absurd h
square-error f w b m (fin s i j) h k t =
    let v : Value = signed s (i * up j) (down j) in
    rounding-error-difference f w m (unlike s s) (i * up j * (i * up j)) (times v v).p (times v v).n (down j * down j)
    (mul-pos (down_pos j) (down_pos j))
    (signs s s (i * up j) (down j) (i * up j) (down j)) k t

module _ (f : Format) (w b m e : ℕ) (wp : 0 < w) (range : T (in_range f w (m + 3 + e)))
    (all : 3 * rounding_error f w (m + 3 + e) + 2 * rounding_error f w 0 ≤ e)
    (v : Vec3) (h : VecIn w b v) (most : AtMost w (exact_norm_sq (exact_vec v)) m) where
  abbrev M : ℕ
  M = m + 3 + e

  abbrev one : ℕ
  one = rounding_error f w M

  abbrev square-of : Float → Value
  square-of x = times (value_of x) (value_of x)

  abbrev c : Float → ℕ
  c x = ceiling w (square-of x)

  square-above : (x : Float) → 0 < (square-of x).d
  square-above x = mul-pos (value-above x) (value-above x)

  square-errorless : (x : Float) → Bounded w x b → (square-of x).n ≡ 0
  square-errorless x k = go (value_of x).p (value_of x).n (value-signed w x b k)
    where
      go : (p n : ℕ) → p * n ≡ 0 → p * n + n * p ≡ 0
      go p n e = rw (mul_comm n p, e) (omega arith)

  square-most : (x : Float) → Bounded w x b → AtMost w (square-of x) (c x)
  square-most x k = ceiling-most w (square-of x) (square-above x) (square-errorless x k)

  together : c v.x + c v.y + c v.z ≤ m + 3
  together = ceilings w m (square-of v.x) (square-of v.y) (square-of v.z) (square-above v.x) (square-above v.y)
      (square-above v.z) (norm-errorless w b v h) most

  abbrev r : Float → ℕ
  r x = rounding_error f w (c x)

  parts : r v.x + r v.y + r v.z ≤ one + 2 * rounding_error f w 0
  parts =
      le_trans (error-three f w (c v.x) (c v.y) (c v.z)) (more (rounding_error f w (c v.x + c v.y + c v.z)) one
      (2 * rounding_error f w 0)
      (error-wide f w (c v.x + c v.y + c v.z) M (le_trans together (first m e))))
    where
      more : (a b c : ℕ) → a ≤ b → a + c ≤ b + c
      more a b c h = omega arith

      first : (m e : ℕ) → m + 3 ≤ m + 3 + e
      first m e = omega arith

  -- each is small enough
  one-square : (x : Float) → Bounded w x b → c x ≤ M → AbsoluteError w (mul f x x) (square-of x) (r x)
  one-square x k l = square-error f w b (c x) x k (square-most x k) (in-range-less f w (c x) M l range)

  -- a sum with a square more
  with-square : (s x : Float) (S : Value) (a g : ℕ) → 0 < S.d → Bounded w x b → AbsoluteError w s S g → AtMost w S a →
      a + c x + r x + g ≤ M → c x ≤ M →
      AbsoluteError w (add f s (mul f x x)) (plus S (square-of x)) (g + one + (0 + r x))
  with-square s x S a g z k hs ha l lx =
      let y = mul f x x in
      let X = square-of x in
      let q = one-square x k lx in
      let near = error-near w y X (r x) q in
      let size = most-near w (value_of y) X (c x) (r x) (square-above x) near (square-most x k) in
      error_trans w (add f s y) (plus S (value_of y)) (plus S X) (g + one) (0 + r x) (mul-pos z (value-above y))
      (error-sum f w s y S (a + (c x + r x)) g M (c x + r x) z hs (bounded_from w y X (r x) (c x + r x) q size)
      (most-plus w S (value_of y) a (c x + r x) ha size)
      (turned a (c x) (r x) g M l) range)
      (near-plus w S S (value_of y) X 0 (r x) (record { above = omega arith; below = omega arith }) near)
    where
      turned : (a c r g M : ℕ) → a + c + r + g ≤ M → a + (c + r) + g ≤ M
      turned a c r g M h = omega arith

  pub norm-of : AbsoluteError w (vec_norm_sq f v) (exact_norm_sq (exact_vec v)) e
  unfolding vec_norm_sq vec_dot
  norm-of =
      let X = square-of v.x in
      let Y = square-of v.y in
      let first = one-square v.x h.x (sum-first (c v.x) (c v.y) (c v.z) m e together) in
      let second = with-square (mul f v.x v.x) v.y X (c v.x) (r v.x) (square-above v.x) h.y first (square-most v.x h.x)
      (fits-first (c v.x) (c v.y) (c v.z) (r v.x) (r v.y) (r v.z) one (rounding_error f w 0) m e together parts all)
      (sum-second (c v.x) (c v.y) (c v.z) m e together) in
      let third = with-square (add f (mul f v.x v.x) (mul f v.y v.y)) v.z (plus X Y) (c v.x + c v.y)
      (r v.x + one + (0 + r v.y)) (mul-pos (square-above v.x) (square-above v.y)) h.z second
      (most-plus w X Y (c v.x) (c v.y) (square-most v.x h.x) (square-most v.y h.y))
      (fits-second (c v.x) (c v.y) (c v.z) (r v.x) (r v.y) (r v.z) one (rounding_error f w 0) m e together parts all)
      (sum-third (c v.x) (c v.y) (c v.z) m e together) in
      error_wider w (vec_norm_sq f v) (exact_norm_sq (exact_vec v)) _ e
      (last (r v.x) (r v.y) (r v.z) one (rounding_error f w 0) e parts all) third
    where
      sum-first : (a b c m e : ℕ) → a + b + c ≤ m + 3 → a ≤ m + 3 + e
      sum-first a b c m e h = omega arith

      sum-second : (a b c m e : ℕ) → a + b + c ≤ m + 3 → b ≤ m + 3 + e
      sum-second a b c m e h = omega arith

      sum-third : (a b c m e : ℕ) → a + b + c ≤ m + 3 → c ≤ m + 3 + e
      sum-third a b c m e h = omega arith

      fits-first : (a b c x y z o t m e : ℕ) → a + b + c ≤ m + 3 → x + y + z ≤ o + 2 * t → 3 * o + 2 * t ≤ e →
          a + b + y + x ≤ m + 3 + e
      fits-first a b c x y z o t m e h i j = omega arith

      fits-second : (a b c x y z o t m e : ℕ) → a + b + c ≤ m + 3 → x + y + z ≤ o + 2 * t → 3 * o + 2 * t ≤ e →
          a + b + c + z + (x + o + (0 + y)) ≤ m + 3 + e
      fits-second a b c x y z o t m e h i j = omega arith

      last : (x y z o t e : ℕ) → x + y + z ≤ o + 2 * t → 3 * o + 2 * t ≤ e → x + o + (0 + y) + o + (0 + z) ≤ e
      last x y z o t e h i = omega arith

-- what specs/Norm.antt states
pub norm : NormTheorem
norm =
    record {
      norm = norm_accurate;
      relative = λ f v w b m e wp range all h most. norm-of f w b m e wp range all v h most;
      doubles = λ v. norm_accurate binary64 v (2 ^ 100) (5 * 2 ^ 99) (2 ^ 53) (lit< tt)
          (unfold no_overflow bound tree_norm_sq in tt);
      singles = λ v. norm_accurate binary32 v (2 ^ 100) (5 * 2 ^ 99) (2 ^ 82) (lit< tt)
          (unfold no_overflow bound tree_norm_sq in tt);
    }
