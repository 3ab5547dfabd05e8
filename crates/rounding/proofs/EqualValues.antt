-- Trees without quotients whose exact values are equal fractions, by the ring: a tree's value as a numerator and a
-- denominator over the numerators and denominators of its leaves. Assumes nothing.
use mathlib.Core.Path.{◌≡◌, refl, sym, ap, ap₂, ◌∙◌, subst}
use mathlib.Core.List.{List}
use Prim.Native.Nat.{ℕ, zero, suc, ◌+◌, ◌*◌, ◌≤◌, ◌<◌}
use native.Mathlib.Omega.{arith}
use mathlib.Core.Bool.{Bool, true, false, ◌&&◌}
use lib.Dec.{T, leb, leb→le}
use lib.Ieee.{Float, Format}
use lib.Ieee.Fits.{and_l, and_r}
use Rattle.rounding.specs.Value.{Value, Near, AbsoluteError}
use Rattle.rounding.specs.Tree.{Term, leaf, opp, sum, prod, quot, computed, exact, bound, no_overflow}
use Rattle.rounding.specs.Leaves.{AllBounded, at, exact_at, sizes, error_at_most}
use Rattle.rounding.proofs.Differences.{expand, zeros}
use Rattle.rounding.proofs.Forward.{forward_error, error_trans, error_wider}
use Rattle.rounding.proofs.Leaves.{leaves_forward}
use Rattle.rounding.proofs.Ring.{Gap, same, ◌⊕◌, ◌⊗◌, whole, Ex, var, const, minus, ev, balanced, normal, ring}
use Rattle.rounding.proofs.Ring as R

-- ---- the leaves: leaf 0 is the number 1, and of each other one two variables, its numerator and its denominator
abbrev pub one : Value
one = record { p = 1; n = 0; d = 1 }

abbrev gap : Value → Gap
gap x = record { p = x.p; n = x.n }

double : ℕ → ℕ
double zero = zero
double (suc i) = suc (suc (double i))

atoms : (ℕ → Value) → ℕ → Gap
atoms v zero = gap (v zero)
atoms v (suc zero) = whole (v zero).d
atoms v (suc (suc j)) = atoms (λ i. v (suc i)) j

numerator_at : (v : ℕ → Value) (i : ℕ) → atoms v (double i) ≡ gap (v i)
unfolding atoms double
numerator_at v zero = refl
numerator_at v (suc i) = numerator_at (λ j. v (suc j)) i

denominator_at : (v : ℕ → Value) (i : ℕ) → atoms v (suc (double i)) ≡ whole (v i).d
unfolding atoms double
denominator_at v zero = refl
denominator_at v (suc i) = denominator_at (λ j. v (suc j)) i

-- ---- the trees
pub record Fraction : Type 0 where
  pub num : Ex
  pub den : Ex

unfoldable pub fraction : Term → Fraction
unfolding double
fraction (leaf zero) = record { num = const 1; den = const 1 }
fraction (leaf (suc i)) = record { num = var (double i); den = var (suc (double i)) }
fraction (opp a) = record { num = minus (fraction a).num; den = (fraction a).den }
fraction (sum a b) =
    let x = fraction a in
    let y = fraction b in
    record { num = R.plus (R.times x.num y.den) (R.times y.num x.den); den = R.times x.den y.den }
fraction (prod a b) =
    let x = fraction a in
    let y = fraction b in
    record { num = R.times x.num y.num; den = R.times x.den y.den }
fraction (quot l a b) = record { num = const 0; den = const 0 }

abbrev pub no_quotient : Term → Bool
no_quotient (leaf i) = true
no_quotient (opp a) = no_quotient a
no_quotient (sum a b) = no_quotient a && no_quotient b
no_quotient (prod a b) = no_quotient a && no_quotient b
no_quotient (quot l a b) = false

-- ---- what they say
sum_gap : (p n d q m c : ℕ)
    → record { p = p; n = n } ⊗ whole c ⊕ record { p = q; n = m } ⊗ whole d ≡ record
    { p = p * c + q * d; n = n * c + m * d }
sum_gap p n d q m c = same (simp zeros refl) (simp zeros refl)

whole_times : (a b : ℕ) → whole a ⊗ whole b ≡ whole (a * b)
whole_times a b = same (simp zeros refl) (simp zeros refl)

times-both : {a b c d : Gap} → a ≡ c → b ≡ d → a ⊗ b ≡ c ⊗ d
times-both h k = ap₂ (λ (m n : Gap). m ⊗ n) h k

module _ (v : ℕ → Value) (h : v 0 ≡ one) where
  at_leaf : ℕ → Gap
  at_leaf = atoms (λ i. v (suc i))

  record Reads (t : Term) : Type 0 where
    num : ev at_leaf (fraction t).num ≡ gap (exact v t)
    den : ev at_leaf (fraction t).den ≡ whole (exact v t).d

  reads : (t : Term) → T (no_quotient t) → Reads t
  unfolding fraction exact at_leaf
  reads (leaf zero) q = record { num = ap gap (sym h); den = ap (λ (x : Value). whole x.d) (sym h) }
  reads (leaf (suc i)) q = record { num = numerator_at (λ j. v (suc j)) i; den = denominator_at (λ j. v (suc j)) i }
  reads (opp a) q = let r = reads a q in record { num = ap R.opp r.num; den = r.den }
  reads (sum a b) q =
      let r = reads a (and_l (no_quotient a) (no_quotient b) q) in
      let s = reads b (and_r (no_quotient a) (no_quotient b) q) in
      let x = exact v a in
      let y = exact v b in
      record {
        num = ap₂ (λ (m n : Gap). m ⊕ n) (times-both r.num s.den) (times-both s.num r.den)
            ∙ sum_gap x.p x.n x.d y.p y.n y.d;
        den = times-both r.den s.den ∙ whole_times x.d y.d;
      }
  reads (prod a b) q =
      let r = reads a (and_l (no_quotient a) (no_quotient b) q) in
      let s = reads b (and_r (no_quotient a) (no_quotient b) q) in
      record {
        num = times-both r.num s.num;
        den = times-both r.den s.den ∙ whole_times (exact v a).d (exact v b).d;
      }
  reads (quot l a b) q = absurd q

-- ---- the test: the difference of two trees, over both denominators, is 0 as a polynomial
abbrev crossed : Term → Term → Ex
crossed s t = R.plus (R.times (fraction s).num (fraction t).den) (minus (R.times (fraction t).num (fraction s).den))

unfoldable pub equal_values : Term → Term → Bool
unfolding fraction normal
equal_values s t = no_quotient s && (no_quotient t && balanced (normal (crossed s t)))

abbrev crossed_gap : Value → Value → Gap
crossed_gap x y = gap x ⊗ whole y.d ⊕ R.opp (gap y ⊗ whole x.d)

level : (x y : Value) → (crossed_gap x y).p ≡ (crossed_gap x y).n → x.p * y.d + y.n * x.d ≡ x.n * y.d + y.p * x.d
level x y e = omega (arith, simp zeros at e)

near_level : (w : ℕ) (x y : Value) → x.p * y.d + y.n * x.d ≡ x.n * y.d + y.p * x.d → Near w x y 0
near_level w x y q =
    let e : w * (x.p * y.d + y.n * x.d) ≡ w * (x.n * y.d + y.p * x.d) = ap (λ (k : ℕ). w * k) q in
    record { above = omega (arith, e); below = simp expand (omega (arith, simp expand at e)) }

pub near_equal : (w : ℕ) (v : ℕ → Value) → v 0 ≡ one → (s t : Term) → T (equal_values s t)
    → Near w (exact v s) (exact v t) 0
unfolding equal_values
near_equal w v h s t k =
    let l = no_quotient t && balanced (normal (crossed s t)) in
    let k1 : T l = and_r (no_quotient s) l k in
    let r = reads v h s (and_l (no_quotient s) l k) in
    let u = reads v h t (and_l (no_quotient t) (balanced (normal (crossed s t))) k1) in
    let x = exact v s in
    let y = exact v t in
    let e : ev (at_leaf v h) (crossed s t) ≡ crossed_gap x y =
    ap₂ (λ (m n : Gap). m ⊕ R.opp n) (times-both r.num u.den) (times-both u.num r.den) in
    let b = ring (crossed s t) (and_r (no_quotient t) (balanced (normal (crossed s t))) k1) (at_leaf v h) in
    let q : x.p * y.d + y.n * x.d ≡ x.n * y.d + y.p * x.d = level x y (subst (λ (g : Gap). g.p ≡ g.n) e b) in
    near_level w x y q

-- ---- the error of a tree against the exact value of another that is equal
pub tree_error_by : (f : Format) (w : ℕ) (xs : List Float) (bs : List ℕ) (t s : Term) (y : Float) (v : Value) (e : ℕ)
    → 0 < w → AllBounded w xs bs → T (error_at_most f w bs t e)
    → exact_at xs 0 ≡ one → T (equal_values t s) → computed f (at xs) t ≡ y → exact (exact_at xs) s ≡ v
    → AbsoluteError w y v e
tree_error_by f w xs bs t s y v e z h k o q p r =
    let V = exact_at xs in
    let b = bound f w (sizes bs) t in
    let c = computed f (at xs) t in
    let u = exact V s in
    let safe = no_overflow f w (sizes bs) t in
    let a = forward_error f w (at xs) V (sizes bs) z (leaves_forward w xs bs h) t (and_l safe (leb b.error e) k) in
    let n = near_equal w V o t s q in
    let d : AbsoluteError w c u (b.error + 0) = error_trans w c (exact V t) u b.error 0 a.above a.close n in
    let l : b.error ≤ e = leb→le b.error e (and_r safe (leb b.error e) k) in
    let g : AbsoluteError w c u e = error_wider w c u (b.error + 0) e (omega (arith, l)) d in
    subst (λ (a : Float). AbsoluteError w a v e) p (subst (λ (a : Value). AbsoluteError w c a e) r g)
