-- Floats of bounded size are leaves. Assumes nothing.
use mathlib.Core.Path.{◌≡◌, subst}
use mathlib.Core.List.{List, [], ◌∷◌}
use Prim.Native.Nat.{ℕ, zero, suc, ◌*◌, ◌≤◌, ◌<◌}
use native.Mathlib.Nat.{zero-lt-suc}
use native.Mathlib.Omega.{arith}
use mathlib.Core.Bool.{Bool, true, false}
use lib.Dec.{T, leb, leb→le, lit≤}
use lib.Ieee.{Float, nan, inf, fin, Format, up, down}
use lib.Ieee.Fits.{down_pos, and_l, and_r}
use Rattle.ieee.specs.Numbers.{f0, f2}
use Rattle.rounding.specs.Value.{Value, Near, AtMost, signed, value_of, AbsoluteError}
use Rattle.rounding.specs.Tree.{Bound, Term, computed, exact, bound, no_overflow, ForwardError}
use Rattle.rounding.specs.Leaves.{Bounded, AllBounded, at, exact_at, sizes, error_at_most, nth, no_bound}
use Rattle.rounding.proofs.Differences.{zeros}
use Rattle.rounding.proofs.Forward.{forward_error, error_wider, Sized}

near_self : (w : ℕ) (x : Value) → Near w x x 0
near_self w x = record { above = omega arith; below = omega arith }

pub most-signed : (w b : ℕ) (s : Bool) (a c : ℕ) → w * a ≤ b * c → AtMost w (signed s a c) b
most-signed w b false a c h = record { above = omega arith; below = omega arith }
most-signed w b true a c h = record { above = omega arith; below = omega arith }

pub leaf_forward : (w : ℕ) (x : Float) (b : ℕ) → Bounded w x b →
    ForwardError w x (value_of x) (record { magnitude = b; error = 0 })
unfolding value_of
leaf_forward w nan b h = absurd h
leaf_forward w (inf s) b h = absurd h
leaf_forward w (fin s m e) b h =
    record {
      close = near_self w (signed s (m * up e) (down e));
      size = most-signed w b s (m * up e) (down e) h;
      above =
          down_pos e;
    }

zero_bounded : (w : ℕ) → Bounded w f0 0
zero_bounded w = simp zeros (lit≤ tt)

pub leaves_forward : (w : ℕ) (xs : List Float) (bs : List ℕ) → AllBounded w xs bs → (i : ℕ) →
    ForwardError w (at xs i) (value_of (at xs i)) (sizes bs i)
leaves_forward w [] [] h i = leaf_forward w f0 0 (zero_bounded w)
leaves_forward w [] (b ∷ bs) h i = absurd h
leaves_forward w (x ∷ xs) [] h i = absurd h
leaves_forward w (x ∷ xs) (b ∷ bs) h zero = leaf_forward w x b h.0
leaves_forward w (x ∷ xs) (b ∷ bs) h (suc i) = leaves_forward w xs bs h.1 i

-- ---- a tree over leaves of bounded size, with the test of its bound
pub tree-error : (f : Format) (w : ℕ) (xs : List Float) (bs : List ℕ) (t : Term) (y : Float) (v : Value) (e : ℕ) →
    0 < w → AllBounded w xs bs → T (error_at_most f w bs t e)
    → computed f (at xs) t ≡ y → exact (exact_at xs) t ≡ v → AbsoluteError w y v e
tree-error f w xs bs t y v e z h k p q =
    let b = bound f w (sizes bs) t in
    let c : AbsoluteError w (computed f (at xs) t) (exact (exact_at xs) t) b.error =
    (forward_error f w (at xs) (exact_at xs) (sizes bs) z
    (leaves_forward w xs bs h) t (and_l (no_overflow f w (sizes bs) t) (leb b.error e) k)).close in
    subst (λ (a : Float). AbsoluteError w a v e) p (subst (λ (a : Value). AbsoluteError w (computed f (at xs) t) a e) q
    (error_wider w (computed f (at xs) t) (exact (exact_at xs) t) b.error e
    (leb→le b.error e (and_r (no_overflow f w (sizes bs) t) (leb b.error e) k)) c))

pub two_bounded : (w : ℕ) → Bounded w f2 (2 * w)
two_bounded w = omega arith

-- ---- lists of leaves
abbrev pub AllForwardError : ℕ → List Float → List Value → List Bound → Type 0
AllForwardError w [] [] [] = Unit {0}
AllForwardError w [] [] (b ∷ bs) = ⊥
AllForwardError w [] (v ∷ vs) bs = ⊥
AllForwardError w (x ∷ xs) [] bs = ⊥
AllForwardError w (x ∷ xs) (v ∷ vs) [] = ⊥
AllForwardError w (x ∷ xs) (v ∷ vs) (b ∷ bs) = ForwardError w x v b × AllForwardError w xs vs bs

pub nth_forward : (w : ℕ) (xs : List Float) (vs : List Value) (bs : List Bound) → AllForwardError w xs vs bs → (i : ℕ) →
    ForwardError w (nth f0 xs i) (nth (value_of f0) vs i) (nth no_bound bs i)
nth_forward w [] [] [] h i = leaf_forward w f0 0 (omega arith)
nth_forward w [] [] (b ∷ bs) h i = absurd h
nth_forward w [] (v ∷ vs) bs h i = absurd h
nth_forward w (x ∷ xs) [] bs h i = absurd h
nth_forward w (x ∷ xs) (v ∷ vs) [] h i = absurd h
nth_forward w (x ∷ xs) (v ∷ vs) (b ∷ bs) h zero = h.0
nth_forward w (x ∷ xs) (v ∷ vs) (b ∷ bs) h (suc i) = nth_forward w xs vs bs h.1 i

-- the same of exact values alone
abbrev pub AllSized : ℕ → List Value → List ℕ → Type 0
AllSized w [] [] = Unit {0}
AllSized w [] (b ∷ bs) = ⊥
AllSized w (v ∷ vs) [] = ⊥
AllSized w (v ∷ vs) (b ∷ bs) = Sized w v b × AllSized w vs bs

pub float_sized : (w : ℕ) (x : Float) (b : ℕ) → Bounded w x b → Sized w (value_of x) b
float_sized w x b h = let k = leaf_forward w x b h in record { size = k.size; above = k.above }

pub nth_sized : (w : ℕ) (vs : List Value) (bs : List ℕ) → AllSized w vs bs → (i : ℕ) →
    Sized w (nth (value_of f0) vs i) (sizes bs i).magnitude
nth_sized w [] [] h i = float_sized w f0 0 (zero_bounded w)
nth_sized w [] (b ∷ bs) h i = absurd h
nth_sized w (v ∷ vs) [] h i = absurd h
nth_sized w (v ∷ vs) (b ∷ bs) h zero = h.0
nth_sized w (v ∷ vs) (b ∷ bs) h (suc i) = nth_sized w vs bs h.1 i

-- ---- the denominator of a float's value is above 0
pub value-above : (x : Float) → 0 < (value_of x).d
unfolding value_of
value-above nan = zero-lt-suc 0
value-above (inf s) = zero-lt-suc 0
value-above (fin s m e) = down_pos e

-- ---- the value of a float that has an error
pub error-near : (w : ℕ) (x : Float) (y : Value) (e : ℕ) → AbsoluteError w x y e → Near w (value_of x) y e
unfolding value_of
error-near w nan y e h = absurd h
error-near w (inf s) y e h = absurd h
error-near w (fin s m k) y e h = h

pub bounded_from : (w : ℕ) (x : Float) (y : Value) (e b : ℕ) → AbsoluteError w x y e → AtMost w (value_of x) b →
    Bounded w x b
unfolding value_of
bounded_from w nan y e b h k = absurd h
bounded_from w (inf s) y e b h k = absurd h
bounded_from w (fin true m j) y e b h k = let q = k.below in omega arith
bounded_from w (fin false m j) y e b h k = let q = k.above in omega arith
