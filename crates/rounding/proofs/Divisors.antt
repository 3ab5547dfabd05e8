-- Lower bounds of divisors: of a tree whose only divisor is one leaf, of a number from a test of its computed value,
-- and of a number from its square. Assumes nothing.
use mathlib.Core.Path.{◌≡◌, refl, subst}
use mathlib.Core.Bool.{Bool, true, false, not, ◌&&◌}
use Prim.Native.Nat.{ℕ, zero, suc, ◌+◌, ◌-◌, ◌*◌, ◌≤◌, ◌<◌}
use native.Mathlib.Nat.{mul-le-mul_left, mul-le-mul_right, le_of_mul-le-mul_right, le_trans, mul-pos, zero-lt-suc}
use native.Mathlib.Omega.{arith}
use lib.IntN.{ℤ}
use lib.Dec.{T, eqb, eqb→eq, nltb→le}
use lib.Ieee.{Float, nan, inf, fin, up, down, lt}
use lib.Ieee.Fits.{down_pos, and_l, and_r}
use Rattle.rounding.specs.Value.{Value, plus, times, signed, value_of, AtMost, AtLeast, AbsoluteError}
use Rattle.rounding.specs.Tree.{Term, leaf, opp, sum, prod, quot, exact, DivisorsAtLeast}
use Rattle.rounding.specs.Leaves.{Bounded}
use Rattle.rounding.proofs.Differences.{expand, zeros}
use Rattle.rounding.proofs.Squares.{square_le, twice-le}

-- ---- one leaf k divides, with the lower bound l
abbrev pub divided_by : ℕ → ℕ → Term → Bool
divided_by l k (leaf i) = true
divided_by l k (opp a) = divided_by l k a
divided_by l k (sum a b) = divided_by l k a && divided_by l k b
divided_by l k (prod a b) = divided_by l k a && divided_by l k b
divided_by l k (quot m a (leaf i)) = eqb m l && (eqb i k && divided_by l k a)
divided_by l k (quot m a (opp b)) = false
divided_by l k (quot m a (sum b c)) = false
divided_by l k (quot m a (prod b c)) = false
divided_by l k (quot m a (quot n b c)) = false

pub divisors_at_least : (w : ℕ) (v : ℕ → Value) (l k : ℕ) → AtLeast w (v k) l → (t : Term) → T (divided_by l k t)
    → DivisorsAtLeast w v t
unfolding DivisorsAtLeast exact
divisors_at_least w v l k h (leaf i) q = tt
divisors_at_least w v l k h (opp a) q = divisors_at_least w v l k h a q
divisors_at_least w v l k h (sum a b) q = (
  divisors_at_least w v l k h a (and_l (divided_by l k a) (divided_by l k b) q),
  divisors_at_least w v l k h b
      (and_r (divided_by l k a) (divided_by l k b) q),
)
divisors_at_least w v l k h (prod a b) q = (
  divisors_at_least w v l k h a (and_l (divided_by l k a) (divided_by l k b) q),
  divisors_at_least w v l k h b
      (and_r (divided_by l k a) (divided_by l k b) q),
)
divisors_at_least w v l k h (quot m a (leaf i)) q =
    let r = and_r (eqb m l) (eqb i k && divided_by l k a) q in
    let e : m ≡ l = eqb→eq m l (and_l (eqb m l) (eqb i k && divided_by l k a) q) in
    let g : i ≡ k = eqb→eq i k (and_l (eqb i k) (divided_by l k a) r) in
    (divisors_at_least w v l k h a (and_r (eqb i k) (divided_by l k a) r), (tt, rw (e, g) h))
divisors_at_least w v l k h (quot m a (opp b)) q = absurd q
divisors_at_least w v l k h (quot m a (sum b c)) q = absurd q
divisors_at_least w v l k h (quot m a (prod b c)) q = absurd q
divisors_at_least w v l k h (quot m a (quot n b c)) q = absurd q

-- ---- a number whose computed value, within e, is not below a limit N / D
least_side : (w l p n d : ℕ) → l * d + w * n ≤ w * p → l * d ≤ w * (p - n + (n - p))
least_side w l p n d h =
    let a : w * p ≤ w * (n + (p - n + (n - p))) = mul-le-mul_left w (omega arith) in
    le_of_add w l n d (p - n + (n - p)) (le_trans h a)
  where
    le_of_add : (w l n d s : ℕ) → l * d + w * n ≤ w * (n + s) → l * d ≤ w * s
    le_of_add w l n d s h = omega (arith, simp expand at h)

not_less : (w l e N D X j y n d : ℕ) → 0 < D → 0 < j → (l + e) * D ≤ w * N → N * j ≤ X * D
    → w * (X * d + n * j) ≤ w * (y * j) + e * (j * d) → l * d + w * n ≤ w * y
not_less w l e N D X j y n d z u h k m =
    let a = mul-le-mul_right (j * d) h in
    let b = mul-le-mul_left (w * d) k in
    let c = mul-le-mul_right D m in
    le_of_mul-le-mul_right {k = j * D} (simp expand
    (omega (arith, simp expand at a, simp expand at b, simp expand at c))) (mul-pos u z)

none_left : (w l e N D : ℕ) → 0 < D → (l + e) * D ≤ w * N → N ≡ 0 → l ≡ 0
none_left w l e N D z h k = go l (subst (λ (i : ℕ). (l + e) * D ≤ w * i) k h)
  where
    positive : (a D w : ℕ) → 0 < a → 0 < D → a * D ≤ w * 0 → ⊥
    positive a D w x y h = let p : 0 < a * D = mul-pos x y in omega arith

    go : (l : ℕ) → (l + e) * D ≤ w * 0 → l ≡ 0
    go zero h = refl
    go (suc l) h = absurd (positive (suc l + e) D w (omega arith) z h)

pub not_below : (w l e : ℕ) (x : Float) (y : Value) (n : ℕ) (d : ℤ) → AbsoluteError w x y e
    → T (not (lt x (fin false n d))) → (l + e) * down d ≤ w * (n * up d) → AtLeast w y l
unfolding lt
not_below w l e nan y n d h t k = absurd h
not_below w l e (inf s) y n d h t k = absurd h
not_below w l e (fin false m j) y n d h t k =
    let X = m * up j in
    let D = down j in
    let a : n * up d * D ≤ X * down d = nltb→le (X * down d) (n * up d * D) t in
    record {
      least = least_side w l y.p y.n y.d
          (not_less w l e (n * up d) (down d) X D y.p y.n y.d (down_pos d) (down_pos j) k a
          (let g = h.above in simp zeros at g));
    }
not_below w l e (fin true m j) y n d h t k =
    let a = nltb→le 0 (m * up j * down d + n * up d * down j) t in
    let b : n * up d ≡ 0 = factor (n * up d) (down j) (down_pos j) (omega arith) in
    let c : l ≡ 0 = none_left w l e (n * up d) (down d) (down_pos d) k b in
    record { least = rw c (omega arith) }
  where
    factor : (a b : ℕ) → 0 < b → a * b ≡ 0 → a ≡ 0
    factor zero b z h = refl
    factor (suc a) b z h = absurd (let p : 0 < suc a * b = mul-pos (zero-lt-suc a) z in omega arith)

-- ---- a number at least l in size, where its square is at least l² / w
root_side : (w l k A D : ℕ) → l * l ≤ k * w → k * (D * D) ≤ w * (A * A) → l * D ≤ w * A
root_side w l k A D h g =
    square_le (l * D) (w * A) (squares w l k A D (mul-le-mul_right (D * D) h) (mul-le-mul_left w g))
  where
    squares : (w l k A D : ℕ) → l * l * (D * D) ≤ k * w * (D * D) → w * (k * (D * D)) ≤ w * (w * (A * A))
        → l * D * (l * D) ≤ w * A * (w * A)
    squares w l k A D h g = simp expand (omega (arith, simp expand at h, g))

signed_square : (w l k : ℕ) (s : Bool) (A D : ℕ) → l * l ≤ k * w → AtLeast w (times (signed s A D) (signed s A D)) k
    → AtLeast w (signed s A D) l
signed_square w l k false A D q a =
    let e : A * A + 0 * 0 - (A * 0 + 0 * A) + (A * 0 + 0 * A - (A * A + 0 * 0)) ≡ A * A = omega arith in
    let g : A - 0 + (0 - A) ≡ A = omega arith in
    record { least = rw g (root_side w l k A D q (subst (λ (i : ℕ). k * (D * D) ≤ w * i) e a.least)) }
signed_square w l k true A D q a =
    let e : 0 * 0 + A * A - (0 * A + A * 0) + (0 * A + A * 0 - (0 * 0 + A * A)) ≡ A * A = omega arith in
    let g : 0 - A + (A - 0) ≡ A = omega arith in
    record { least = rw g (root_side w l k A D q (subst (λ (i : ℕ). k * (D * D) ≤ w * i) e a.least)) }

pub square_at_least : (w b l k : ℕ) (x : Float)
    → Bounded w x b → l * l ≤ k * w → AtLeast w (times (value_of x) (value_of x)) k → AtLeast w (value_of x) l
unfolding value_of
square_at_least w b l k nan h q a = absurd h
square_at_least w b l k (inf s) h q a = absurd h
square_at_least w b l k (fin s m j) h q a = signed_square w l k s (m * up j) (down j) q a

-- ---- a number that is at least l / w, with its sign
pub record Above (w : ℕ) (x : Value) (l : ℕ) : Type 0 where
  pub least : l * x.d + w * x.n ≤ w * x.p

pub above_at_least : (w : ℕ) (x : Value) (l : ℕ) → Above w x l → AtLeast w x l
above_at_least w x l h = record { least = least_side w l x.p x.n x.d h.least }

plus_side : (w a b l p n d q m c : ℕ) → l + b ≤ a → a * d + w * n ≤ w * p → w * m ≤ w * q + b * c
    → l * (d * c) + w * (n * c + m * d) ≤ w * (p * c + q * d)
plus_side w a b l p n d q m c h k g =
    let x = mul-le-mul_right (d * c) h in
    let y = mul-le-mul_right c k in
    let z = mul-le-mul_right d g in
    simp expand (omega (arith, simp expand at x, simp expand at y, simp expand at z))

pub above_plus : (w : ℕ) (x y : Value) (a b l : ℕ) → l + b ≤ a → Above w x a → AtMost w y b → Above w (plus x y) l
above_plus w x y a b l h k g = record { least = plus_side w a b l x.p x.n x.d y.p y.n y.d h k.least g.below }

both_side : (w a p n d q m c : ℕ) → a * d + w * n ≤ w * p → 0 * c + w * m ≤ w * q
    → a * (d * c) + w * (n * c + m * d) ≤ w * (p * c + q * d)
both_side w a p n d q m c h k =
    let x = mul-le-mul_right c h in
    let y = mul-le-mul_right d k in
    simp expand (omega (arith, simp expand at x, simp expand at y))

pub above_more : (w : ℕ) (x y : Value) (a : ℕ) → Above w x a → Above w y 0 → Above w (plus x y) a
above_more w x y a h k = record { least = both_side w a x.p x.n x.d y.p y.n y.d h.least k.least }

-- (P - N) (Q - M) is at least A B
differences : (N A s M B t : ℕ) → A * B + ((N + A + s) * M + N * (M + B + t)) ≤ (N + A + s) * (M + B + t) + N * M
differences N A s M B t = simp expand (omega arith)

times_side : (w a b k p n d q m c : ℕ) → 0 < w → k * w ≤ a * b → a * d + w * n ≤ w * p → b * c + w * m ≤ w * q
    → k * (d * c) + w * (p * m + n * q) ≤ w * (p * q + n * m)
times_side w a b k p n d q m c z h g l =
    let e : w * n + a * d + (w * p - (a * d + w * n)) ≡ w * p = omega (arith, g) in
    let f : w * m + b * c + (w * q - (b * c + w * m)) ≡ w * q = omega (arith, l) in
    let u = differences (w * n) (a * d) (w * p - (a * d + w * n)) (w * m) (b * c) (w * q - (b * c + w * m)) in
    let v =
    subst (λ (i : ℕ). a * d * (b * c) + (i * (w * m) + w * n * (w * m + b * c + (w * q - (b * c + w * m)))) ≤ i *
    (w * m + b * c + (w * q - (b * c + w * m))) + w * n * (w * m)) e u in
    let y = subst (λ (i : ℕ). a * d * (b * c) + (w * p * (w * m) + w * n * i) ≤ w * p * i + w * n * (w * m)) f v in
    let x = mul-le-mul_right (d * c) h in
    le_of_mul-le-mul_right {k = w} (last w a b k p n d q m c x y) z
  where
    last : (w a b k p n d q m c : ℕ) → k * w * (d * c) ≤ a * b * (d * c)
        → a * d * (b * c) + (w * p * (w * m) + w * n * (w * q)) ≤ w * p * (w * q) + w * n * (w * m)
        → (k * (d * c) + w * (p * m + n * q)) * w ≤ w * (p * q + n * m) * w
    last w a b k p n d q m c x y = simp expand (omega (arith, simp expand at x, simp expand at y))

pub above_times : (w : ℕ) (x y : Value) (a b k : ℕ) → 0 < w → k * w ≤ a * b → Above w x a → Above w y b
    → Above w (times x y) k
above_times w x y a b k z h p q = record { least = times_side w a b k x.p x.n x.d y.p y.n y.d z h p.least q.least }

pub above_zero : (w : ℕ) (x : Value) → x.n ≡ 0 → Above w x 0
above_zero w x e = record { least = rw e (omega arith) }

pub above_square : (w : ℕ) (x : Value) → Above w (times x x) 0
above_square w x = record { least = square_side w x.p x.n x.d (mul-le-mul_left w (twice-le x.p x.n)) }
  where
    square_side : (w p n d : ℕ) → w * (2 * (p * n)) ≤ w * (p * p + n * n)
        → 0 * (d * d) + w * (p * n + n * p) ≤ w * (p * p + n * n)
    square_side w p n d h = simp expand (omega (arith, simp expand at h))
