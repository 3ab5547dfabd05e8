-- The forward error of a tree: the computed value of a tree is finite and within the bound of its exact value. Assumes
-- nothing.
use mathlib.Core.Path.{◌≡◌, sym, subst}
use Prim.Native.Nat.{ℕ, suc, ◌+◌, ◌-◌, ◌*◌, ◌/◌, ◌%◌, ◌^◌, ◌≤◌, ◌<◌}
use native.Mathlib.Nat.{le_trans, mul-pos, suc-mul, div-add-mod', mod-lt}
use native.Mathlib.Omega.{arith}
use mathlib.Core.Bool.{Bool, true, false, not, ◌&&◌, cond}
use lib.Dec.{T, ltb, ltb→lt, nltb→le}
use lib.Ieee.{Float, nan, inf, fin, Format, emax, unlike, up, down, round, neg, add, mul}
use lib.Ieee as I
use lib.Ieee.Fits.{down_pos, and_l, and_r}
use Rattle.rounding.specs.Value.{Value, opposite, plus, times, Near, AtMost, signed, value_of, AbsoluteError}
use Rattle.rounding.specs.Roundoff.{rounding_error}
use Rattle.rounding.specs.Tree.{Term, leaf, opp, sum, prod, quot, computed, exact, Bound, upward, sum_reach, prod_reach}
use Rattle.rounding.specs.Tree.{sum_bound, prod_bound, bound, in_range, no_overflow, ForwardError}
use Rattle.rounding.specs.Leaves.{Bounded}
use Rattle.rounding.proofs.Differences.{expand, zeros}
use Rattle.rounding.proofs.Fractions.{near-opposite, most-opposite, most_wider, near_wider, near-plus, most-plus}
use Rattle.rounding.proofs.Fractions.{near_trans, most-near, most-times, near_times}
use Rattle.rounding.proofs.Roundoff.{rounding-error}

-- ---- num with the sign s is p - n
abbrev pub IsDifference : Bool → ℕ → ℕ → ℕ → Type 0
IsDifference false num p n = p ≡ num + n
IsDifference true num p n = n ≡ num + p

abbrev pub of : ℕ → ℕ → ℕ → Value
of p n d = record { p = p; n = n; d = d }

near_difference : (w e : ℕ) (x : Value) (s : Bool) (num p n den : ℕ) → IsDifference s num p n →
    Near w x (signed s num den) e → Near w x (of p n den) e
near_difference w e x false num p n den h k =
    subst (λ (y : ℕ). Near w x (of y n den) e) (sym h)
    (let a = k.above in let b = k.below in
    record {
      above = simp expand (omega (arith, simp expand at (simp zeros at a)));
      below =
          simp expand (omega (arith, simp expand at (simp zeros at b)));
    })
near_difference w e x true num p n den h k =
    subst (λ (y : ℕ). Near w x (of p y den) e) (sym h)
    (let a = k.above in let b = k.below in
    record {
      above = simp expand (omega (arith, simp expand at (simp zeros at a)));
      below =
          simp expand (omega (arith, simp expand at (simp zeros at b)));
    })

error-difference : (w e : ℕ) (x : Float) (s : Bool) (num p n den : ℕ) → IsDifference s num p n →
    AbsoluteError w x (signed s num den) e → AbsoluteError w x (of p n den) e
error-difference w e nan s num p n den h k = k
error-difference w e (inf t) s num p n den h k = k
error-difference w e (fin t m j) s num p n den h k =
    near_difference w e (signed t (m * up j) (down j)) s num p n den h k

size-difference : (w x : ℕ) (s : Bool) (num p n den : ℕ) → IsDifference s num p n → AtMost w (of p n den) x →
    w * num ≤ x * den
size-difference w x false num p n den h k = let a = rw h at k.above in omega (arith, simp expand at a)
size-difference w x true num p n den h k = let a = rw h at k.below in omega (arith, simp expand at a)

pub rounding-error-difference : (f : Format) (w x : ℕ) (s : Bool) (num p n den : ℕ) → 0 < den → IsDifference s num p n →
    AtMost w (of p n den) x → T
    (in_range f w x) → AbsoluteError w (round f s num den) (of p n den) (rounding_error f w x)
rounding-error-difference f w x s num p n den z h k t =
    error-difference w (rounding_error f w x) (round f s num den) s num p n den h
    (rounding-error f w x s num den z (size-difference w x s num p n den h k)
    (ltb→lt (x + rounding_error f w x) (2 ^ suc (emax f) * w) t))

-- ---- the exact sum of two floats, rounded
rounded-sum : (f : Format) (w x : ℕ) (s : Bool) (a : ℕ) (t : Bool) (b c : ℕ) (p n : ℕ) → 0 < c → IsDifference s a p n →
    (q m : ℕ)
    → IsDifference t b q m → AtMost w (of (p + q) (n + m) c) x → T (in_range f w x)
    → AbsoluteError w (I.sum f s a t b c) (of (p + q) (n + m) c) (rounding_error f w x)
unfolding I.sum
rounded-sum f w x false a false b c p n z h q m k s i =
    rounding-error-difference f w x false (a + b) (p + q) (n + m) c z (omega arith) s i
rounded-sum f w x true a true b c p n z h q m k s i =
    rounding-error-difference f w x true (a + b) (p + q) (n + m) c z (omega arith) s i
rounded-sum f w x false a true b c p n z h q m k s i = go (ltb a b) (ltb→lt a b) (nltb→le a b)
  where
    go : (t : Bool) → (T t → a < b) → (T (not t) → b ≤ a) → AbsoluteError w
        (cond t (round f true (b - a) c) (round f (false && ltb b a) (a - b) c)) (of (p + q) (n + m) c)
        (rounding_error f w x)
    go true l g =
        let y : a < b = l tt in rounding-error-difference f w x true (b - a) (p + q) (n + m) c z (omega arith) s i
    go false l g =
        let y : b ≤ a = g tt in rounding-error-difference f w x false (a - b) (p + q) (n + m) c z (omega arith) s i
rounded-sum f w x true a false b c p n z h q m k s i = go (ltb a b) (ltb→lt a b) (nltb→le a b)
  where
    at : (u : Bool) → (T u → b < a) → (T (not u) → a ≤ b) → b ≤ a →
        AbsoluteError w (round f u (a - b) c) (of (p + q) (n + m) c) (rounding_error f w x)
    at true l g y = rounding-error-difference f w x true (a - b) (p + q) (n + m) c z (omega arith) s i
    at false l g y =
        let v : a ≤ b = g tt in rounding-error-difference f w x false (a - b) (p + q) (n + m) c z (omega arith) s i

    go : (t : Bool) → (T t → a < b) → (T (not t) → b ≤ a) → AbsoluteError w
        (cond t (round f false (b - a) c) (round f (true && ltb b a) (a - b) c)) (of (p + q) (n + m) c)
        (rounding_error f w x)
    go true l g =
        let y : a < b = l tt in rounding-error-difference f w x false (b - a) (p + q) (n + m) c z (omega arith) s i
    go false l g = at (ltb b a) (ltb→lt b a) (nltb→le b a) (g tt)

scaled : (s : Bool) (a c k : ℕ) → IsDifference s (a * k) ((signed s a c).p * k) ((signed s a c).n * k)
scaled false a c k = simp zeros
scaled true a c k = simp zeros

pub error_trans : (w : ℕ) (x : Float) (y z : Value) (e g : ℕ) → 0 < y.d → AbsoluteError w x y e → Near w y z g →
    AbsoluteError w x z (e + g)
error_trans w nan y z e g h k l = k
error_trans w (inf s) y z e g h k l = k
error_trans w (fin s m j) y z e g h k l = near_trans w (signed s (m * up j) (down j)) y z e g h k l

pub error_wider : (w : ℕ) (x : Float) (y : Value) (e g : ℕ) → e ≤ g → AbsoluteError w x y e → AbsoluteError w x y g
error_wider w nan y e g h k = k
error_wider w (inf s) y e g h k = k
error_wider w (fin s m j) y e g h k = near_wider w (signed s (m * up j) (down j)) y e g h k

-- y and y' are floats within e of x' and within g of y'
error-add : (f : Format) (w : ℕ) (x y : Float) (x' y' : Value) (a b e g : ℕ) → 0 < w → 0 < x'.d → 0 < y'.d →
    AbsoluteError w x x' e → AbsoluteError w y y' g → AtMost w x' a → AtMost w y' b
    → T (in_range f w (a + e + (b + g))) → AbsoluteError w (add f x y) (plus x' y')
    (e + g + rounding_error f w (a + e + (b + g)))
unfolding add
error-add f w nan y x' y' a b e g z c d h k m n t = absurd h
error-add f w (inf s) y x' y' a b e g z c d h k m n t = absurd h
error-add f w (fin s i j) nan x' y' a b e g z c d h k m n t = absurd k
error-add f w (fin s i j) (inf r) x' y' a b e g z c d h k m n t = absurd k
error-add f w (fin s i j) (fin r l o) x' y' a b e g z c d h k m n t =
    let x : Value = signed s (i * up j) (down j) in
    let y : Value = signed r (l * up o) (down o) in
    let q : 0 < down j * down o = mul-pos (down_pos j) (down_pos o) in
    let u = a + e + (b + g) in
    let v : AbsoluteError w (add f (fin s i j) (fin r l o)) (plus x y) (rounding_error f w u) =
    rounded-sum f w u s (i * up j * down o) r (l * up o * down j) (down j * down o) (x.p * down o) (x.n * down o) q
    (scaled s (i * up j) (down j) (down o))
    (y.p * down j) (y.n * down j) (scaled r (l * up o) (down o) (down j))
    (most-plus w x y (a + e) (b + g) (most-near w x x' a e c h m) (most-near w y y' b g d k n)) t in
    error_wider w (add f (fin s i j) (fin r l o)) (plus x' y') (rounding_error f w u + (e + g))
    (e + g + rounding_error f w u) (omega arith)
    (error_trans w (add f (fin s i j) (fin r l o)) (plus x y) (plus x' y') (rounding_error f w u) (e + g) q v
    (near-plus w x x' y y' e g h k))

-- a float within e of x', and one more: where the exact sum is at most m, what is rounded is at most m and e
pub error-sum : (f : Format) (w : ℕ) (x y : Float) (x' : Value) (m e u b : ℕ) → 0 < x'.d → AbsoluteError w x x' e →
    Bounded w y b →
    AtMost w (plus x' (value_of y)) m → m + e ≤ u → T (in_range f w u) → AbsoluteError w (add f x y)
    (plus x' (value_of y)) (e + rounding_error f w u)
unfolding add value_of
error-sum f w nan y x' m e u b c h k n l t = absurd h
error-sum f w (inf s) y x' m e u b c h k n l t = absurd h
error-sum f w (fin s i j) nan x' m e u b c h k n l t = absurd k
error-sum f w (fin s i j) (inf r) x' m e u b c h k n l t = absurd k
error-sum f w (fin s i j) (fin r q o) x' m e u b c h k n l t =
    let x : Value = signed s (i * up j) (down j) in
    let y : Value = signed r (q * up o) (down o) in
    let d : 0 < down j * down o = mul-pos (down_pos j) (down_pos o) in
    let near : Near w (plus x y) (plus x' y) (e + 0) = near-plus w x x' y y e 0 h
    (record { above = omega arith; below = omega arith }) in
    let v : AbsoluteError w (add f (fin s i j) (fin r q o)) (plus x y) (rounding_error f w u) =
    rounded-sum f w u s (i * up j * down o) r (q * up o * down j) (down j * down o) (x.p * down o) (x.n * down o) d
    (scaled s (i * up j) (down j) (down o))
    (y.p * down j) (y.n * down j) (scaled r (q * up o) (down o) (down j))
    (most_wider w (plus x y) (m + (e + 0)) u (le_trans (zero-last m e) l)
    (most-near w (plus x y) (plus x' y) m (e + 0) (mul-pos c (down_pos o)) near n)) t in
    error_wider w (add f (fin s i j) (fin r q o)) (plus x' y) (rounding_error f w u + (e + 0))
    (e + rounding_error f w u) (omega arith)
    (error_trans w (add f (fin s i j) (fin r q o)) (plus x y) (plus x' y) (rounding_error f w u) (e + 0) d v near)
  where
    zero-last : (m e : ℕ) → m + (e + 0) ≤ m + e
    zero-last m e = omega arith

-- ---- the exact product of two floats, rounded
pub signs : (s t : Bool) (a c b d : ℕ) → IsDifference (unlike s t) (a * b) (times (signed s a c) (signed t b d)).p
    (times (signed s a c) (signed t b d)).n
signs false false a c b d = simp zeros
signs false true a c b d = simp zeros
signs true false a c b d = simp zeros
signs true true a c b d = simp zeros

pub upward_enough : (w a : ℕ) → 0 < w → a ≤ upward w a * w
upward_enough w a h =
    let e : a / w * w + a % w ≡ a = div-add-mod' a w in let l : a % w < w = mod-lt a h in rw suc-mul (omega arith)

error-mul : (f : Format) (w : ℕ) (x y : Float) (x' y' : Value) (a b e g : ℕ) → 0 < w → 0 < x'.d → 0 < y'.d →
    AbsoluteError w x x' e → AbsoluteError w y y' g → AtMost w x' a → AtMost w y' b
    → T (in_range f w (upward w ((a + e) * (b + g)))) → AbsoluteError w (mul f x y) (times x' y')
    (upward w ((a + e) * g + e * b) + rounding_error f w (upward w ((a + e) * (b + g))))
unfolding mul
error-mul f w nan y x' y' a b e g z c d h k m n t = absurd h
error-mul f w (inf s) y x' y' a b e g z c d h k m n t = absurd h
error-mul f w (fin s i j) nan x' y' a b e g z c d h k m n t = absurd k
error-mul f w (fin s i j) (inf r) x' y' a b e g z c d h k m n t = absurd k
error-mul f w (fin s i j) (fin r l o) x' y' a b e g z c d h k m n t =
    let x : Value = signed s (i * up j) (down j) in
    let y : Value = signed r (l * up o) (down o) in
    let q : 0 < down j * down o = mul-pos (down_pos j) (down_pos o) in
    let u = upward w ((a + e) * (b + g)) in
    let near = upward w ((a + e) * g + e * b) in
    let v : AbsoluteError w (mul f (fin s i j) (fin r l o)) (times x y) (rounding_error f w u) =
    rounding-error-difference f w u (unlike s r) (i * up j * (l * up o)) (times x y).p (times x y).n (down j * down o) q
    (signs s r (i * up j) (down j) (l * up o) (down o))
    (most-times w x y (a + e) (b + g) u z (most-near w x x' a e c h m) (most-near w y y' b g d k n)
    (upward_enough w ((a + e) * (b + g)) z)) t in
    error_wider w (mul f (fin s i j) (fin r l o)) (times x' y') (rounding_error f w u + near)
    (near + rounding_error f w u) (omega arith)
    (error_trans w (mul f (fin s i j) (fin r l o)) (times x y) (times x' y') (rounding_error f w u) near q v
    (near_times w x x' y y' a b e g near z (down_pos o) c h k m n (upward_enough w ((a + e) * g + e * b) z)))

error-neg : (w : ℕ) (x : Float) (x' : Value) (e : ℕ) → AbsoluteError w x x' e → AbsoluteError w (neg x) (opposite x') e
unfolding neg
error-neg w nan x' e h = h
error-neg w (inf s) x' e h = h
error-neg w (fin false i j) x' e h = near-opposite w (signed false (i * up j) (down j)) x' e h
error-neg w (fin true i j) x' e h = near-opposite w (signed true (i * up j) (down j)) x' e h

-- ---- the theorem
pub forward_opp : (w : ℕ) (x : Float) (v : Value) (a : Bound) → ForwardError w x v a →
    ForwardError w (neg x) (opposite v) a
forward_opp w x v a h =
    record { close = error-neg w x v a.error h.close; size = most-opposite w v a.magnitude h.size; above = h.above }

pub forward_sum : (f : Format) (w : ℕ) (x y : Float) (v u : Value) (a c : Bound) → 0 < w → ForwardError w x v a →
    ForwardError w y u c → T
    (in_range f w (sum_reach a c)) → ForwardError w (add f x y) (plus v u) (sum_bound f w a c)
forward_sum f w x y v u a c z p q i =
    record {
      close =
          error-add f w x y v u a.magnitude c.magnitude a.error c.error z p.above q.above p.close q.close p.size q.size
          i;
      size = most-plus w v u a.magnitude c.magnitude p.size q.size;
      above = mul-pos p.above q.above;
    }

pub forward_prod : (f : Format) (w : ℕ) (x y : Float) (v u : Value) (a c : Bound) → 0 < w → ForwardError w x v a →
    ForwardError w y u c → T
    (in_range f w (prod_reach w a c)) → ForwardError w (mul f x y) (times v u) (prod_bound f w a c)
forward_prod f w x y v u a c z p q i =
    record {
      close =
          error-mul f w x y v u a.magnitude c.magnitude a.error c.error z p.above q.above p.close q.close p.size q.size
          i;
      size =
          most-times w v u a.magnitude c.magnitude (upward w (a.magnitude * c.magnitude)) z p.size q.size
          (upward_enough w (a.magnitude * c.magnitude) z);
      above = mul-pos p.above q.above;
    }

pub forward_error : (f : Format) (w : ℕ) (x : ℕ → Float) (v : ℕ → Value) (b : ℕ → Bound) → 0 < w →
    ((i : ℕ) → ForwardError w (x i) (v i) (b i)) → (t : Term) → T (no_overflow f w b t)
    → ForwardError w (computed f x t) (exact v t) (bound f w b t)
unfolding computed exact bound no_overflow
forward_error f w x v b z h (leaf i) s = h i
forward_error f w x v b z h (opp t) s =
    forward_opp w (computed f x t) (exact v t) (bound f w b t) (forward_error f w x v b z h t s)
forward_error f w x v b z h (sum t u) s =
    let i = in_range f w (sum_reach (bound f w b t) (bound f w b u)) in
    let l : T (no_overflow f w b u && i) = and_r (no_overflow f w b t) (no_overflow f w b u && i) s in
    forward_sum f w (computed f x t) (computed f x u) (exact v t) (exact v u) (bound f w b t) (bound f w b u) z
    (forward_error f w x v b z h t (and_l (no_overflow f w b t) (no_overflow f w b u && i) s))
    (forward_error f w x v b z h u (and_l (no_overflow f w b u) i l)) (and_r (no_overflow f w b u) i l)
forward_error f w x v b z h (prod t u) s =
    let i = in_range f w (prod_reach w (bound f w b t) (bound f w b u)) in
    let l : T (no_overflow f w b u && i) = and_r (no_overflow f w b t) (no_overflow f w b u && i) s in
    forward_prod f w (computed f x t) (computed f x u) (exact v t) (exact v u) (bound f w b t) (bound f w b u) z
    (forward_error f w x v b z h t (and_l (no_overflow f w b t) (no_overflow f w b u && i) s))
    (forward_error f w x v b z h u (and_l (no_overflow f w b u) i l)) (and_r (no_overflow f w b u) i l)
forward_error f w x v b z h (quot l t u) s = absurd s

-- ---- the exact value alone: its size, and a denominator that is not 0. The test says that there is no quotient.
pub record Sized (w : ℕ) (y : Value) (b : ℕ) : Type 0 where
  pub size : AtMost w y b
  pub above : 0 < y.d

pub exact_sized : (f : Format) (w : ℕ) (v : ℕ → Value) (b c : ℕ → Bound) → 0 < w →
    ((i : ℕ) → Sized w (v i) (b i).magnitude) → (t : Term) → T (no_overflow f w c t) →
    Sized w (exact v t) (bound f w b t).magnitude
unfolding exact bound no_overflow
exact_sized f w v b c z h (leaf i) s = h i
exact_sized f w v b c z h (opp t) s =
    let k = exact_sized f w v b c z h t s in
    record { size = most-opposite w (exact v t) (bound f w b t).magnitude k.size; above = k.above }
exact_sized f w v b c z h (sum t u) s =
    let i = in_range f w (sum_reach (bound f w c t) (bound f w c u)) in
    let l : T (no_overflow f w c u && i) = and_r (no_overflow f w c t) (no_overflow f w c u && i) s in
    let p = exact_sized f w v b c z h t (and_l (no_overflow f w c t) (no_overflow f w c u && i) s) in
    let q = exact_sized f w v b c z h u (and_l (no_overflow f w c u) i l) in
    record {
      size = most-plus w (exact v t) (exact v u) (bound f w b t).magnitude (bound f w b u).magnitude p.size q.size;
      above = mul-pos p.above q.above;
    }
exact_sized f w v b c z h (prod t u) s =
    let i = in_range f w (prod_reach w (bound f w c t) (bound f w c u)) in
    let l : T (no_overflow f w c u && i) = and_r (no_overflow f w c t) (no_overflow f w c u && i) s in
    let p = exact_sized f w v b c z h t (and_l (no_overflow f w c t) (no_overflow f w c u && i) s) in
    let q = exact_sized f w v b c z h u (and_l (no_overflow f w c u) i l) in
    let m = (bound f w b t).magnitude in
    let n = (bound f w b u).magnitude in
    record {
      size =
          most-times w (exact v t) (exact v u) m n (upward w (m * n)) z p.size q.size (upward_enough w (m * n) z);
      above = mul-pos p.above q.above;
    }
exact_sized f w v b c z h (quot l t u) s = absurd s
