-- The result at z is unique: m and s are the only ones, so r, the remainder and the double are. Assumes nothing.
use mathlib.Core.Path.{◌≡◌, refl, sym, ap, ◌∙◌, subst}
use mathlib.Core.Logic.{inl, inr}
use Prim.Native.Nat.{ℕ, suc, ◌+◌, ◌*◌, ◌^◌, ◌≤◌, ◌<◌}
use native.Mathlib.Nat.{lt_irrefl, le_antisymm, mul-one, one-mul, mul-pos, mul-le-mul, mul-lt-mul_of_pos_right}
use native.Mathlib.Nat.{eq_of_mul-eq-mul_right, pow-succ'}
use native.Mathlib.Omega.{arith}
use mathlib.Core.Bool.{false}
use lib.IntN.{ℤ, pos, negsuc}
use lib.Pow.{pow-add, pow_pos, pow_mono, pow-lt}
use lib.Ieee.{Float, nan, inf, fin, binary64, up, down}
use lib.Ieee.Exact.{HasValue}
use lib.Ieee.Fits.{up_pos, down_pos}
use lib.Ieee.Positive.{first_pos}
use Rattle.std.proofs.lemmas.Bool.{cases_lt}
use Rattle.ieee.proofs.Values.{value-only}
use Rattle.root.specs.declared.RootParts.{RootParts}
use Rattle.root.specs.Root.{nearer}
use Rattle.root.specs.Theorem.{Scaling, Largest, RootIs}
use Rattle.root.proofs.Largest.{largest_only}

-- ---- powers of two
power_only : (a b : ℕ) → 2 ^ a ≡ 2 ^ b → a ≡ b
power_only a b e = elim (cases_lt a b) [
  | inl l ↦ absurd (lt_irrefl (2 ^ b) (subst (λ (x : ℕ). x < 2 ^ b) e (pow-lt l)))
  | inr l ↦ elim (cases_lt b a) [
    | inl g ↦
        absurd (lt_irrefl (2 ^ b) (subst (λ (x : ℕ). 2 ^ b < x) e (pow-lt g)))
    | inr g ↦ le_antisymm g l
  ]
]

-- 2 ^ s / 2 ^ t over its denominators
quotient : (s t : ℤ) → (a : ℕ) × (up s * down t ≡ 2 ^ a)
quotient (pos k) (pos l) = (k, mul-one (2 ^ k))
quotient (pos k) (negsuc l) = (k + suc l, sym (pow-add 2 k (suc l)))
quotient (negsuc k) (pos l) = (0, refl)
quotient (negsuc k) (negsuc l) = (suc l, one-mul (2 ^ suc l))

exponent-only : (s t : ℤ) → up s * down t ≡ up t * down s → s ≡ t
exponent-only (pos k) (pos l) e = ap pos (power_only k l (sym (mul-one (2 ^ k)) ∙ e ∙ mul-one (2 ^ l)))
exponent-only (pos k) (negsuc l) e = absurd (no (power_only (k + suc l) 0 (pow-add 2 k (suc l) ∙ e)))
  where
    no : k + suc l ≡ 0 → ⊥
    no h = omega arith
exponent-only (negsuc k) (pos l) e = absurd (no (power_only (l + suc k) 0 (pow-add 2 l (suc k) ∙ sym e)))
  where
    no : l + suc k ≡ 0 → ⊥
    no h = omega arith
exponent-only (negsuc k) (negsuc l) e =
    ap negsuc (one_less (power_only (suc l) (suc k) (sym (one-mul (2 ^ suc l)) ∙ e ∙ one-mul (2 ^ suc k))))
  where
    one_less : suc l ≡ suc k → k ≡ l
    one_less h = omega arith

-- ---- m × x² = n × y² with m and n in one range of four, and powers of two x and y
four-times : (m n L x y : ℕ) → m < 4 * L → L ≤ n → 0 < x → 2 * x ≤ y → m * (x * x) ≡ n * (y * y) → ⊥
four-times m n L x y p q x_pos h k =
    let more : L * (2 * x * (2 * x)) ≤ n * (y * y) = mul-le-mul q (mul-le-mul h h) in
    omega (arith, mul-lt-mul_of_pos_right p (mul-pos x_pos x_pos))

not_less : (m n a b : ℕ) → m < 2 ^ 106 → 2 ^ 104 ≤ n → m * (2 ^ a * 2 ^ a) ≡ n * (2 ^ b * 2 ^ b) → a < b → ⊥
not_less m n a b p q e l =
    four-times m n (2 ^ 104) (2 ^ a) (2 ^ b) p q (pow_pos a)
    (subst (λ (x : ℕ). x ≤ 2 ^ b) (pow-succ' 2 a) (pow_mono l)) e

same_power : (m n a b : ℕ) → 2 ^ 104 ≤ m → m < 2 ^ 106 → 2 ^ 104 ≤ n → n < 2 ^ 106 →
    m * (2 ^ a * 2 ^ a) ≡ n * (2 ^ b * 2 ^ b) → a ≡ b
same_power m n a b p q r s e = elim (cases_lt a b) [
  | inl l ↦ absurd (not_less m n a b q r e l)
  | inr l ↦ elim (cases_lt b a) [ inl g ↦ absurd (not_less n m b a s p (sym e) g) | inr g ↦ le_antisymm g l ]
]

-- ---- m and s
cross : (x d m U D n W E : ℕ) → 0 < x → 0 < d → x * (D * D) ≡ m * (U * U) * d → x * (E * E) ≡ n * (W * W) * d →
    m * (U * E * (U * E)) ≡ n * (W * D * (W * D))
cross x d m U D n W E X P p q =
    eq_of_mul-eq-mul_right (x * d) (mul-pos X P) _ _
    (omega (arith, ap (λ (y : ℕ). y * (E * E * x)) p, ap (λ (y : ℕ). y * (D * D * x)) q))

some : (x c a : ℕ) → 0 < a → x * c ≡ a → 0 < x
some x c a h e = first_pos x c (subst (λ (y : ℕ). 0 < y) (sym e) h)

pub scaling-only : (z : Float) (m n : ℕ) (s t : ℤ) → Scaling z m s → Scaling z n t → (m ≡ n) × (s ≡ t)
scaling-only nan m n s t p q = absurd p.value
scaling-only (inf b) m n s t p q = absurd p.value
scaling-only (fin b k e) m n s t p q =
    let M : 0 < m * (up s * up s) * down e = mul-pos (mul-pos (omega (arith, p.least)) (mul-pos (up_pos s) (up_pos s)))
    (down_pos e) in
    let X : 0 < k * up e = some (k * up e) (down s * down s) (m * (up s * up s) * down e) M p.value.1 in
    let c = cross (k * up e) (down e) m (up s) (down s) n (up t) (down t) X (down_pos e) p.value.1 q.value.1 in
    let a = quotient s t in
    let b = quotient t s in
    let i : a.0 ≡ b.0 = same_power m n a.0 b.0 p.least p.most q.least q.most (rw (← a.1, ← b.1) c) in
    let w : up s * down t ≡ up t * down s = a.1 ∙ ap (λ (x : ℕ). 2 ^ x) i ∙ sym b.1 in
    let U = up s * down t in
    let U_pos : 0 < U = mul-pos (up_pos s) (down_pos t) in (
      eq_of_mul-eq-mul_right (U * U) (mul-pos U_pos U_pos) m n
          (c ∙ ap (λ (x : ℕ). n * (x * x)) (sym w)),
      exponent-only s t w,
    )

-- ---- and all numbers of the result
pub root-only : (z : Float) (p q : RootParts) → RootIs z p → RootIs z q → p ≡ q
root-only z p q h k =
    let o = scaling-only z h.m k.m p.exponent q.exponent h.scaling k.scaling in
    let r : p.root ≡ q.root = largest_only p.root q.root k.m (subst (λ (x : ℕ). Largest x p.root) o.0 h.root) k.root in
    let l : p.remainder ≡ q.remainder = omega (arith, h.remainder, k.remainder, o.0, ap (λ (x : ℕ). x * x) r) in
    let v = nearer q.root q.remainder in
    let t = q.exponent in
    let same : HasValue p.nearest false (v * up t) (down t) =
    subst (λ (x : ℕ). HasValue p.nearest false (nearer x q.remainder * up t) (down t)) r
    (subst (λ (x : ℕ). HasValue p.nearest false (nearer p.root x * up t) (down t)) l
    (subst (λ (s : ℤ). HasValue p.nearest false (nearer p.root p.remainder * up s) (down s)) o.1 h.nearest)) in
    let x = value-only binary64 p.nearest q.nearest false (v * up t) (down t) h.double k.double
    (down_pos t) same k.nearest in
    λ i. record { root = r i; remainder = l i; exponent = o.1 i; nearest = x i }
