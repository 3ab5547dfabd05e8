-- The Newton step, q (3 - |q|²) / 2, for quaternions of differences: it does not move two quaternions apart, and its
-- length is 1 but for the square of what it was away. Assumes nothing.
use mathlib.Core.Path.{◌≡◌, refl, sym, ap, ◌∙◌, subst, subst₂}
use mathlib.Core.List.{[], ◌∷◌}
use Prim.Native.Nat.{ℕ, ◌+◌, ◌-◌, ◌*◌, ◌≤◌, ◌<◌}
use native.Mathlib.Nat.{le_trans, le_of_eq, mul-add, add-mul, one-mul, mul-pos, mul-le-mul, mul-le-mul_left}
use native.Mathlib.Nat.{mul-le-mul_right, le_of_mul-le-mul_right}
use native.Mathlib.Omega.{arith}
use mathlib.Core.Bool.{Bool, true, false, not}
use lib.Dec.{T, leb, leb→le, nleb→lt}
use Rattle.rounding.proofs.Differences.{expand, zeros}
use Rattle.rounding.proofs.Squares.{twice-le}
use Rattle.rounding.proofs.Ring.{Gap, ◌⊕◌, ◌⊗◌, opp, whole, Ex, var, ev, normal, ring}
use Rattle.rounding.proofs.Ring as R
use Rattle.accuracy.proofs.Hamilton.{Even, value-is, even_above, even_below}
use Rattle.accuracy.proofs.Euler.{Quad, ◌⊖◌, hamilton, squared, squared_x, euler}
use Rattle.accuracy.proofs.Length.{Long, Level, level_trans, to_whole, level-add, level-sub, level-mul, long_shift}
use Rattle.accuracy.proofs.Length.{scaled, long_scaled}
use Rattle.accuracy.proofs.Length.{sub4}
use Rattle.running_accuracy.proofs.Products.{sub_x, quad_x, sub_x4, entries, nth_gap}

-- over e (e² 2)
abbrev pub factor : Quad Gap → ℕ → Gap
factor r e = (whole (e * e * 3) ⊖ squared r) ⊗ whole 1

abbrev pub newton_gap : Quad Gap → ℕ → Quad Gap
newton_gap r e = record { w = r.w ⊗ factor r e; x = r.x ⊗ factor r e; y = r.y ⊗ factor r e; z = r.z ⊗ factor r e }

-- c a - h r
abbrev combo : Gap → Gap → Quad Gap → Quad Gap → Quad Gap
combo c h a r = record { w = c ⊗ a.w ⊖ h ⊗ r.w; x = c ⊗ a.x ⊖ h ⊗ r.x; y = c ⊗ a.y ⊖ h ⊗ r.y; z = c ⊗ a.z ⊖ h ⊗ r.z }

-- ---- the difference of two Newton steps
abbrev split_x : (Quad Ex → Ex) → Ex
split_x g =
    let t = var 0 in
    let o = var 1 in
    let r = quad_x 2 in
    let s = quad_x 6 in
    let fr = R.times (sub_x t (squared_x r)) o in
    let fs = R.times (sub_x t (squared_x s)) o in
    sub_x (R.times o (sub_x (R.times (sub_x t (squared_x s)) (g (sub_x4 r s)))
    (R.times (sub_x (squared_x r) (squared_x s)) (g r)))) (sub_x (R.times (g r) fr) (R.times (g s) fs))

module _ (e : ℕ) (r s : Quad Gap) where
  abbrev moved : Quad Gap
  moved = scaled 1 (combo (whole (e * e * 3) ⊖ squared s) (squared r ⊖ squared s) (sub4 r s) r)

  abbrev point : ℕ → Gap
  point = nth_gap (whole (e * e * 3) ∷ whole 1 ∷ entries r (entries s []))

  split_w : Level moved.w (sub4 (newton_gap r e) (newton_gap s e)).w
  unfolding Level normal
  split_w = ring (split_x (λ a. a.w)) tt point

  split_x_lem : Level moved.x (sub4 (newton_gap r e) (newton_gap s e)).x
  unfolding Level normal
  split_x_lem = ring (split_x (λ a. a.x)) tt point

  split_y : Level moved.y (sub4 (newton_gap r e) (newton_gap s e)).y
  unfolding Level normal
  split_y = ring (split_x (λ a. a.y)) tt point

  split_z : Level moved.z (sub4 (newton_gap r e) (newton_gap s e)).z
  unfolding Level normal
  split_z = ring (split_x (λ a. a.z)) tt point

-- ---- its square
abbrev rest : Gap → Gap → Gap → Gap → Gap → Gap
rest c h x p l = c ⊗ c ⊗ x ⊖ c ⊗ h ⊗ (p ⊕ x ⊖ l) ⊕ h ⊗ h ⊗ p

abbrev combo_x : Ex
combo_x =
    let c = var 0 in
    let h = var 1 in
    let r = quad_x 2 in
    let s = quad_x 6 in
    let a = sub_x4 r s in
    let k : Quad Ex = record {
      w = sub_x (R.times c a.w) (R.times h r.w);
      x = sub_x (R.times c a.x) (R.times h r.x);
      y = sub_x
          (R.times c a.y) (R.times h r.y);
      z = sub_x (R.times c a.z) (R.times h r.z);
    } in
    sub_x (squared_x k)
    (R.plus (sub_x (R.times (R.times c c) (squared_x a)) (R.times (R.times c h)
    (sub_x (R.plus (squared_x r) (squared_x a)) (squared_x s)))) (R.times (R.times h h) (squared_x r)))

combo_square : (c h : Gap) (r s : Quad Gap) → Level (squared (combo c h (sub4 r s) r))
    (rest c h (squared (sub4 r s)) (squared r) (squared s))
unfolding Level normal
combo_square c h r s = ring combo_x tt (nth_gap (c ∷ h ∷ entries r (entries s [])))

level_rest : (c c' h h' x x' p p' l l' : Gap) → Level c c' → Level h h' → Level x x' → Level p p' → Level l l' →
    Level (rest c h x p l) (rest c' h' x' p' l')
level_rest c c' h h' x x' p p' l l' cc hh xx pp ll =
    level-add (c ⊗ c ⊗ x ⊖ c ⊗ h ⊗ (p ⊕ x ⊖ l)) (c' ⊗ c' ⊗ x' ⊖ c' ⊗ h' ⊗ (p' ⊕ x' ⊖ l')) (h ⊗ h ⊗ p) (h' ⊗ h' ⊗ p')
    (level-sub (c ⊗ c ⊗ x) (c' ⊗ c' ⊗ x') (c ⊗ h ⊗ (p ⊕ x ⊖ l)) (c' ⊗ h' ⊗ (p' ⊕ x' ⊖ l'))
    (level-mul (c ⊗ c) (c' ⊗ c') x x' (level-mul c c' c c' cc cc) xx)
    (level-mul (c ⊗ h) (c' ⊗ h') (p ⊕ x ⊖ l) (p' ⊕ x' ⊖ l') (level-mul c c' h h' cc hh)
    (level-sub (p ⊕ x) (p' ⊕ x') l l' (level-add p p' x x' pp xx) ll)))
    (level-mul (h ⊗ h) (h' ⊗ h') p p' (level-mul h h' h h' hh hh) pp)

-- ---- a length that is shorter, and one that is longer
under : (E C X P L k : ℕ) → L ≡ P + k → E + 2 * P ≤ 2 * C → 2 * E * (C * C * X + C * k * (P + X) + k * k * P)
    ≤ 2 * E * (C * k * L) + 2 * E * (C * C * X) + C * X * (C * X)
under E C X P L k e h =
    subst (λ (l : ℕ). 2 * E * (C * C * X + C * k * (P + X) + k * k * P)
    ≤ 2 * E * (C * k * l) + 2 * E * (C * C * X) + C * X * (C * X)) (sym e)
    (go E C X P k (mul-le-mul_right (E * (k * k)) h) (twice-le (E * k) (C * X)))
  where
    go : (E C X P k : ℕ) → (E + 2 * P) * (E * (k * k)) ≤ 2 * C * (E * (k * k)) →
        2 * (E * k * (C * X)) ≤ E * k * (E * k) + C * X * (C * X) → 2 * E *
        (C * C * X + C * k * (P + X) + k * k * P) ≤ 2 * E * (C * k * (P + k)) + 2 * E * (C * C * X) + C * X * (C * X)
    go E C X P k a b = simp expand (omega (arith, simp expand at a, simp expand at b))

beyond : (E C X P L k : ℕ) → P ≡ L + k → P ≤ C → 2 * E * (C * C * X + C * k * L + k * k * P)
    ≤ 2 * E * (C * k * (P + X)) + 2 * E * (C * C * X) + C * X * (C * X)
beyond E C X P L k e h =
    let a = mul-le-mul_right (2 * E * (k * k)) h in
    subst (λ (p : ℕ). 2 * E * (C * C * X + C * k * L + k * k * P)
    ≤ 2 * E * (C * k * (p + X)) + 2 * E * (C * C * X) + C * X * (C * X)) (sym e)
    (go E C X P L k a)
  where
    go : (E C X P L k : ℕ) → P * (2 * E * (k * k)) ≤ C * (2 * E * (k * k)) →
        2 * E * (C * C * X + C * k * L + k * k * P) ≤ 2 * E * (C * k * (L + k + X)) + 2 * E * (C * C * X) + C * X
        * (C * X)
    go E C X P L k a = simp expand (omega (arith, simp expand at a))

canon_under : (C X P L k : ℕ) → ((rest (whole C) (opp (whole k)) (whole X) (whole P) (whole L)).p
    ≡ C * C * X + C * k * (P + X) + k * k * P) ×
    ((rest (whole C) (opp (whole k)) (whole X) (whole P) (whole L)).n ≡ C * k * L)
canon_under C X P L k = (simp zeros (omega arith), simp zeros (omega arith))

canon_beyond : (C X P L k : ℕ) → ((rest (whole C) (whole k) (whole X) (whole P) (whole L)).p
    ≡ C * C * X + C * k * L + k * k * P) ×
    ((rest (whole C) (whole k) (whole X) (whole P) (whole L)).n ≡ C * k * (P + X))
canon_beyond C X P L k = (simp zeros (omega arith), simp zeros (omega arith))

pub factor_whole : (t : ℕ) (l : Gap) (L C : ℕ) → Level l (whole L) → L + C ≡ t → Level (whole t ⊖ l) (whole C)
unfolding Level
factor_whole t l L C h e = omega arith

-- (3 - L) in size, with the difference of the lengths
by_level : (E : ℕ) (s t : Gap) (a b B : ℕ) → Level s t → t.p ≡ a → t.n ≡ b → 2 * E * a ≤ 2 * E * b + B →
    2 * E * s.p ≤ 2 * E * s.n + B
unfolding Level
by_level E s t a b B h e g k =
    go E s.p s.n t.p t.n B (ap (λ (i : ℕ). 2 * E * i) h) (subst₂ (λ (x y : ℕ). 2 * E * x ≤ 2 * E * y + B) (sym e)
    (sym g) k)
  where
    go : (E sp sn tp tn B : ℕ) → 2 * E * (sp + tn) ≡ 2 * E * (sn + tp) → 2 * E * tp ≤ 2 * E * tn + B →
        2 * E * sp ≤ 2 * E * sn + B
    go E sp sn tp tn B h k = omega (arith, simp mul-add at h)

three : (a b c d : ℕ) → a ≤ b + c + d → a ≤ b + (c + d)
three a b c d h = omega arith

low : (P L k : ℕ) → L ≡ P + k → Level (whole P ⊖ whole L) (opp (whole k))
unfolding Level
low P L k e = omega arith

high : (P L k : ℕ) → P ≡ L + k → Level (whole P ⊖ whole L) (whole k)
unfolding Level
high P L k e = omega arith

newton-square : (e : ℕ) (r s : Quad Gap) (X P L C : ℕ) → Level (squared (sub4 r s)) (whole X) →
    Level (squared r) (whole P) → Level (squared s)
    (whole L) → L + C ≡ e * e * 3 → 4 * L ≤ 5 * (e * e) → 4 * P ≤ 7 * (e * e)
    → 2 * (e * e) * (squared (combo (whole (e * e * 3) ⊖ squared s) (squared r ⊖ squared s) (sub4 r s) r)).p
    ≤ 2 * (e * e) * (squared (combo (whole (e * e * 3) ⊖ squared s) (squared r ⊖ squared s) (sub4 r s) r)).n
    + (2 * (e * e) * (C * C * X) + C * X * (C * X))
newton-square e r s X P L C hx hp hl lc l5 p7 = go (leb P L) (leb→le P L) (nleb→lt P L)
  where
    cc : Level (whole (e * e * 3) ⊖ squared s) (whole C)
    cc = factor_whole (e * e * 3) (squared s) L C hl lc

    small : (E P L C : ℕ) → P ≤ L → L + C ≡ E * 3 → 4 * L ≤ 5 * E → E + 2 * P ≤ 2 * C
    small E P L C h e k = omega arith

    great : (E P L C : ℕ) → L + C ≡ E * 3 → 4 * L ≤ 5 * E → 4 * P ≤ 7 * E → P ≤ C
    great E P L C e h k = omega arith

    minus_is : (P L : ℕ) → P ≤ L → L ≡ P + (L - P)
    minus_is P L h = omega arith

    minus_is' : (P L : ℕ) → L < P → P ≡ L + (P - L)
    minus_is' P L h = omega arith

    go : (t : Bool) → (T t → P ≤ L) → (T (not t) → L < P) → 2 * (e * e)
        * (squared (combo (whole (e * e * 3) ⊖ squared s) (squared r ⊖ squared s) (sub4 r s) r)).p
        ≤ 2 * (e * e) * (squared (combo (whole (e * e * 3) ⊖ squared s) (squared r ⊖ squared s) (sub4 r s) r)).n
        + (2 * (e * e) * (C * C * X) + C * X * (C * X))
    go true a b =
        let k = L - P in
        let e1 : L ≡ P + k = minus_is P L (a tt) in
        let hh : Level (squared r ⊖ squared s) (opp (whole k)) =
        level_trans (squared r ⊖ squared s) (whole P ⊖ whole L) (opp (whole k))
        (level-sub (squared r) (whole P) (squared s) (whole L) hp hl) (low P L k e1) in
        let t = rest (whole C) (opp (whole k)) (whole X) (whole P) (whole L) in
        let lv : Level (squared (combo (whole (e * e * 3) ⊖ squared s) (squared r ⊖ squared s) (sub4 r s) r)) t =
        level_trans (squared (combo (whole (e * e * 3) ⊖ squared s) (squared r ⊖ squared s) (sub4 r s) r))
        (rest (whole (e * e * 3) ⊖ squared s) (squared r ⊖ squared s) (squared (sub4 r s)) (squared r) (squared s)) t
        (combo_square (whole (e * e * 3) ⊖ squared s) (squared r ⊖ squared s) r s)
        (level_rest (whole (e * e * 3) ⊖ squared s) (whole C) (squared r ⊖ squared s) (opp (whole k))
        (squared (sub4 r s)) (whole X) (squared r) (whole P) (squared s) (whole L) cc hh hx hp hl) in
        let cn = canon_under C X P L k in
        by_level (e * e) (squared (combo (whole (e * e * 3) ⊖ squared s) (squared r ⊖ squared s) (sub4 r s) r)) t _ _
        (2 * (e * e) * (C * C * X) + C * X * (C * X)) lv cn.0 cn.1
        (three _ _ _ _ (under (e * e) C X P L k e1 (small (e * e) P L C (a tt) lc l5)))
    go false a b =
        let k = P - L in
        let e1 : P ≡ L + k = minus_is' P L (b tt) in
        let hh : Level (squared r ⊖ squared s) (whole k) = level_trans (squared r ⊖ squared s) (whole P ⊖ whole L)
        (whole k)
        (level-sub (squared r) (whole P) (squared s) (whole L) hp hl) (high P L k e1) in
        let t = rest (whole C) (whole k) (whole X) (whole P) (whole L) in
        let lv : Level (squared (combo (whole (e * e * 3) ⊖ squared s) (squared r ⊖ squared s) (sub4 r s) r)) t =
        level_trans (squared (combo (whole (e * e * 3) ⊖ squared s) (squared r ⊖ squared s) (sub4 r s) r))
        (rest (whole (e * e * 3) ⊖ squared s) (squared r ⊖ squared s) (squared (sub4 r s)) (squared r) (squared s)) t
        (combo_square (whole (e * e * 3) ⊖ squared s) (squared r ⊖ squared s) r s)
        (level_rest (whole (e * e * 3) ⊖ squared s) (whole C) (squared r ⊖ squared s) (whole k) (squared (sub4 r s))
        (whole X) (squared r) (whole P) (squared s) (whole L) cc hh hx hp hl) in
        let cn = canon_beyond C X P L k in
        by_level (e * e) (squared (combo (whole (e * e * 3) ⊖ squared s) (squared r ⊖ squared s) (sub4 r s) r)) t _ _
        (2 * (e * e) * (C * C * X) + C * X * (C * X)) lv cn.0 cn.1
        (three _ _ _ _ (beyond (e * e) C X P L k e1 (great (e * e) P L C lc l5 p7)))

-- ---- in length
fourth : (u d g : ℕ) → d * d * d ≤ g * (u * u) → 2 * (u * u) * (d * d) + d * d * (d * d)
    ≤ 2 * (u * u) * ((d + g) * (d + g))
fourth u d g h = let a = mul-le-mul_left d h in simp expand (omega (arith, simp expand at a))

sum_one : (u E C X : ℕ) → (2 * E * (C * C * X) + C * X * (C * X)) * (u * u * (u * u) * (u * u))
    ≡ u * C * (u * C) * (2 * E * (u * u) * (u * u * X) + u * u * X * (u * u * X))
sum_one u E C X = simp expand refl

sum_two : (u c d E : ℕ) → c * E * (c * E) * (2 * E * (u * u) * (d * d * E) + d * d * E * (d * d * E))
    ≡ (2 * (u * u) * (d * d) + d * d * (d * d)) * (c * c * (E * E) * (E * E))
sum_two u c d E = simp expand refl

sum-three : (u c y E : ℕ) → 2 * (u * u) * (y * y) * (c * c * (E * E) * (E * E))
    ≡ c * y * (c * y) * (2 * (u * u) * (E * E) * (E * E))
sum-three u c y E = simp expand refl

sum-four : (u k E : ℕ) → 2 * u * k * (2 * u * k) * (2 * (u * u) * (E * E) * (E * E))
    ≡ k * k * (4 * (E * (E * E))) * (2 * E * (u * u) * (u * u))
sum-four u k E = simp expand (omega arith)

sum_five : (u E sp sn Z : ℕ) → 2 * E * sp * (u * u * (u * u) * (u * u)) ≤ 2 * E * sn * (u * u * (u * u) * (u * u)) + Z →
    u * u * sp *
    (2 * E * (u * u) * (u * u)) ≤ u * u * sn * (2 * E * (u * u) * (u * u)) + Z
sum_five u E sp sn Z h = simp expand (simp expand at h)

final_sum : (u c d y d' E C X sp sn : ℕ) → u * C * (u * C) * (2 * E * (u * u) * (u * u * X) + u * u * X * (u * u * X))
    ≤ c * E * (c * E) * (2 * E * (u * u) * (d * d * E) + d * d * E * (d * d * E))
    → (2 * (u * u) * (d * d) + d * d * (d * d)) * (c * c * (E * E) * (E * E))
    ≤ 2 * (u * u) * (y * y) * (c * c * (E * E) * (E * E))
    → c * y * (c * y) * (2 * (u * u) * (E * E) * (E * E)) ≤ 2 * u * d' * (2 * u * d')
    * (2 * (u * u) * (E * E) * (E * E))
    → 2 * E * sp * (u * u * (u * u) * (u * u)) ≤ (2 * E * sn + (2 * E * (C * C * X) + C * X * (C * X)))
    * (u * u * (u * u) * (u * u))
    → u * u * sp * (2 * E * (u * u) * (u * u)) ≤ (u * u * sn + d' * d' * (4 * (E * (E * E))))
    * (2 * E * (u * u) * (u * u))
final_sum u c d y d' E C X sp sn a b k h =
    let U = u * u * (u * u) * (u * u) in
    let Z = d' * d' * (4 * (E * (E * E))) * (2 * E * (u * u) * (u * u)) in
    let z : (2 * E * (C * C * X) + C * X * (C * X)) * U ≤ Z =
    le_trans (le_of_eq (sum_one u E C X))
    (le_trans a (le_trans (le_of_eq (sum_two u c d E)) (le_trans b
    (le_trans (le_of_eq (sum-three u c y E)) (le_trans k (le_of_eq (sum-four u d' E))))))) in
    let i : 2 * E * sp * U ≤ 2 * E * sn * U + Z = le_trans h
    (more (2 * E * sn) (2 * E * (C * C * X) + C * X * (C * X)) U Z z) in
    rw (add-mul (u * u * sn) (d' * d' * (4 * (E * (E * E)))) (2 * E * (u * u) * (u * u))) (sum_five u E sp sn Z i)
  where
    more : (a b U Z : ℕ) → b * U ≤ Z → (a + b) * U ≤ a * U + Z
    more a b U Z h = rw (add-mul a b U) (omega arith)

final : (u c d g d' E C X sp sn : ℕ) → 0 < u → 0 < E → u * u * X ≤ d * d * E → u * C ≤ c * E → d * d * d ≤ g * (u * u) →
    c * (d + g) ≤ 2 * u * d'
    → 2 * E * sp ≤ 2 * E * sn + (2 * E * (C * C * X) + C * X * (C * X)) →
    u * u * sp ≤ u * u * sn + d' * d' * (4 * (E * (E * E)))
final u c d g d' E C X sp sn uz ez hx hc hg hd h =
    let y = d + g in
    let a1 : u * C * (u * C) ≤ c * E * (c * E) = mul-le-mul hc hc in
    let x2 : u * u * X * (u * u * X) ≤ d * d * E * (d * d * E) = mul-le-mul hx hx in
    let x1 : 2 * E * (u * u) * (u * u * X) ≤ 2 * E * (u * u) * (d * d * E) = mul-le-mul_left (2 * E * (u * u)) hx in
    let a3 = mul-le-mul a1 (both _ _ _ _ x1 x2) in
    let a6 = mul-le-mul_right (c * c * (E * E) * (E * E)) (fourth u d g hg) in
    let a7 = mul-le-mul_right (2 * (u * u) * (E * E) * (E * E)) (mul-le-mul hd hd) in
    let hh = mul-le-mul_right (u * u * (u * u) * (u * u)) h in
    le_of_mul-le-mul_right {k = 2 * E * (u * u) * (u * u)} (final_sum u c d y d' E C X sp sn a3 a6 a7 hh)
    (mul-pos (mul-pos (twice_pos E ez) (mul-pos uz uz)) (mul-pos uz uz))
  where
    both : (a b c d : ℕ) → a ≤ b → c ≤ d → a + c ≤ b + d
    both a b c d h k = omega arith

    twice_pos : (x : ℕ) → 0 < x → 0 < 2 * x
    twice_pos x h = omega arith

den-square : (e : ℕ) → 4 * (e * e * (e * e * (e * e))) ≡ e * (e * e * 2) * (e * (e * e * 2))
den-square e = simp expand (omega arith)

long_number : (v p n X b : ℕ) → p ≡ n + X → v * p ≤ v * n + b → v * X ≤ b
long_number v p n X b e h = let k = subst (λ (x : ℕ). v * x ≤ v * n + b) e h in omega (arith, simp mul-add at k)

pub five : (u c L E : ℕ) → 0 < u → 4 * c ≤ u → u * L ≤ (u + c) * E → 4 * L ≤ 5 * E
five u c L E z k h =
    let a = mul-le-mul_right E k in
    le_of_mul-le-mul_right {k = u} (simp expand (omega (arith, simp expand at h, simp expand at a))) z

seven : (u b P E : ℕ) → 0 < u → 4 * (b * b) ≤ 7 * (u * u) → u * u * P ≤ b * b * E → 4 * P ≤ 7 * E
seven u b P E z k h =
    let a = mul-le-mul_right E k in
    le_of_mul-le-mul_right {k = u * u} (simp expand (omega (arith, simp expand at h, simp expand at a))) (mul-pos z z)

factor_most : (u c L C E : ℕ) → L + C ≡ E * 3 → u * E ≤ u * L + c * E → u * C ≤ (2 * u + c) * E
factor_most u c L C E e h = let a = ap (λ (x : ℕ). u * x) e in simp expand (omega (arith, h, simp expand at a))

-- two Newton steps: no farther from one another than (1 + c / 2) times what they were, and the cube of it
pub newton-apart : (u c b d g d' e : ℕ) (r s : Quad Gap) → 0 < u → 0 < e → 4 * c ≤ u → 4 * (b * b) ≤ 7 * (u * u) →
    d * d * d ≤ g * (u * u) →
    (2 * u + c) * (d + g) ≤ 2 * u * d' → Even u c s e → Long u r e b → Long u (sub4 r s) e d
    → Long u (sub4 (newton_gap r e) (newton_gap s e)) (e * (e * e * 2)) d'
newton-apart u c b d g d' e r s uz ez hc hb hg hd ev lr ld =
    let E = e * e in
    let X = (squared (sub4 r s)).p - (squared (sub4 r s)).n in
    let P = (squared r).p - (squared r).n in
    let L = (squared s).p - (squared s).n in
    let ex = value-is (sub4 r s) in
    let ep = value-is r in
    let el = value-is s in
    let l1 : u * L ≤ (u + c) * E = even_above u c (squared s).p (squared s).n L E el ev.above in
    let l2 : u * E ≤ u * L + c * E = even_below u c (squared s).p (squared s).n L E el ev.below in
    let l5 : 4 * L ≤ 5 * E = five u c L E uz hc l1 in
    let C = E * 3 - L in
    let lc : L + C ≡ E * 3 = left E L l5 in
    let p7 : 4 * P ≤ 7 * E =
    seven u b P E uz hb (long_number (u * u) (squared r).p (squared r).n P (b * b * E) ep lr.magnitude) in
    let q = newton-square e r s X P L C (to_whole (squared (sub4 r s)) X ex) (to_whole (squared r) P ep)
    (to_whole (squared s) L el) lc l5 p7 in
    let S = squared (combo (whole (e * e * 3) ⊖ squared s) (squared r ⊖ squared s) (sub4 r s) r) in
    let f = final u (2 * u + c) d g d' E C X S.p S.n uz (mul-pos ez ez)
    (long_number (u * u) (squared (sub4 r s)).p (squared (sub4 r s)).n X (d * d * E) ex ld.magnitude)
    (factor_most u c L C E lc l2) hg hd q in
    let lg : Long u (combo (whole (e * e * 3) ⊖ squared s) (squared r ⊖ squared s) (sub4 r s) r) (e * (e * e * 2)) d' =
    record { magnitude = subst (λ (x : ℕ). u * u * S.p ≤ u * u * S.n + d' * d' * x) (den-square e) f } in
    long_shift u (moved e r s) (sub4 (newton_gap r e) (newton_gap s e)) (e * (e * e * 2)) d' (split_w e r s)
    (split_x_lem e r s) (split_y e r s) (split_z e r s)
    (subst (λ (x : ℕ). Long u (moved e r s) x d') (one-mul (e * (e * e * 2)))
    (long_scaled u 1 (combo (whole (e * e * 3) ⊖ squared s) (squared r ⊖ squared s) (sub4 r s) r)
    (e * (e * e * 2)) d' lg))
  where
    left : (E L : ℕ) → 4 * L ≤ 5 * E → L + (E * 3 - L) ≡ E * 3
    left E L h = omega arith

-- ---- the length after a Newton step
abbrev times_x : Ex
times_x =
    let f = var 0 in
    let s = quad_x 1 in
    sub_x (squared_x (record { w = R.times s.w f; x = R.times s.x f; y = R.times s.y f; z = R.times s.z f }))
    (R.times (squared_x s) (R.times f f))

abbrev times_by : Quad Gap → Gap → Quad Gap
times_by s f = record { w = s.w ⊗ f; x = s.x ⊗ f; y = s.y ⊗ f; z = s.z ⊗ f }

times-square : (s : Quad Gap) (f : Gap) → Level (squared (times_by s f)) (squared s ⊗ (f ⊗ f))
unfolding Level normal
times-square s f = ring times_x tt (nth_gap (f ∷ entries s []))

pub one-level : (a : Gap) (C : ℕ) → Level a (whole C) → Level (a ⊗ whole 1) (whole C)
unfolding Level
one-level a C h = omega arith

whole-mul : (L C : ℕ) → Level (whole L ⊗ (whole C ⊗ whole C)) (whole (L * (C * C)))
unfolding Level
whole-mul L C = simp zeros (omega arith)

newton-value : (e : ℕ) (s : Quad Gap) (L C : ℕ) → Level (squared s) (whole L) → L + C ≡ e * e * 3 →
    Level (squared (newton_gap s e)) (whole (L * (C * C)))
newton-value e s L C h lc =
    let f = factor s e in
    let ff : Level f (whole C) = one-level (whole (e * e * 3) ⊖ squared s) C
    (factor_whole (e * e * 3) (squared s) L C h lc) in
    level_trans (squared (newton_gap s e)) (squared s ⊗ (f ⊗ f)) (whole (L * (C * C))) (times-square s f)
    (level_trans (squared s ⊗ (f ⊗ f)) (whole L ⊗ (whole C ⊗ whole C)) (whole (L * (C * C)))
    (level-mul (squared s) (whole L) (f ⊗ f) (whole C ⊗ whole C) h (level-mul f (whole C) f (whole C) ff ff))
    (whole-mul L C))

square_side : (u c k h E : ℕ) → 0 < u → c * c ≤ k * u → u * h ≤ c * E → u * (h * h) ≤ k * (E * E)
square_side u c k h E z l i =
    let a : u * h * (u * h) ≤ c * E * (c * E) = mul-le-mul i i in
    let b = mul-le-mul_right (E * E) l in
    le_of_mul-le-mul_right {k = u} (simp expand (omega (arith, simp expand at a, simp expand at b))) z

longer : (u k h E C : ℕ) → C + h ≡ 2 * E → h ≤ E → u * (h * h) ≤ k * (E * E) →
    (u * ((E + h) * (C * C)) ≤ (u + k) * (4 * (E * (E * E)))) ×
    (u * (4 * (E * (E * E))) ≤ u * ((E + h) * (C * C)) + k * (4 * (E * (E * E))))
longer u k h E C e l i = go u k h (E - h) E C (omega arith) (omega arith) (mul-le-mul_right E i)
  where
    go : (u k h j E C : ℕ) → E ≡ h + j → C ≡ E + j → u * (h * h) * E ≤ k * (E * E) * E →
        (u * ((E + h) * (C * C)) ≤ (u + k) * (4 * (E * (E * E)))) ×
        (u * (4 * (E * (E * E))) ≤ u * ((E + h) * (C * C)) + k * (4 * (E * (E * E))))
    go u k h j E C p q i =
        subst (λ (c : ℕ). (u * ((E + h) * (c * c)) ≤ (u + k) * (4 * (E * (E * E))))
        × (u * (4 * (E * (E * E))) ≤ u * ((E + h) * (c * c)) + k * (4 * (E * (E * E))))) (sym q)
        (subst (λ (E : ℕ). u * (h * h) * E ≤ k * (E * E) * E →
        (u * ((E + h) * ((E + j) * (E + j))) ≤ (u + k) * (4 * (E * (E * E)))) ×
        (u * (4 * (E * (E * E))) ≤ u * ((E + h) * ((E + j) * (E + j))) + k * (4 * (E * (E * E))))) (sym p)
        (last u k h j) i)
      where
        last : (u k h j : ℕ) → u * (h * h) * (h + j) ≤ k * ((h + j) * (h + j)) * (h + j) →
            (u * ((h + j + h) * ((h + j + j) * (h + j + j))) ≤ (u + k) * (4 * ((h + j) * ((h + j) * (h + j))))) ×
            (u * (4 * ((h + j) * ((h + j) * (h + j)))) ≤ u * ((h + j + h) * ((h + j + j) * (h + j + j))) + k
            * (4 * ((h + j) * ((h + j) * (h + j)))))
        last u k h j i = (simp expand (omega arith), simp expand (omega (arith, simp expand at i)))

shorter : (u k h L C : ℕ) → C ≡ 2 * L + 3 * h → u * (h * h) ≤ k * ((L + h) * (L + h)) →
    (u * (L * (C * C)) ≤ (u + k) * (4 * ((L + h) * ((L + h) * (L + h))))) ×
    (u * (4 * ((L + h) * ((L + h) * (L + h)))) ≤ u * (L * (C * C)) + k * (4 * ((L + h) * ((L + h) * (L + h)))))
shorter u k h L C e i =
    subst (λ (c : ℕ). (u * (L * (c * c)) ≤ (u + k) * (4 * ((L + h) * ((L + h) * (L + h))))) ×
    (u * (4 * ((L + h) * ((L + h) * (L + h)))) ≤ u * (L * (c * c)) + k * (4 * ((L + h) * ((L + h) * (L + h)))))) (sym e)
    (go u k h L (mul-le-mul_right (L + h) i))
  where
    go : (u k h L : ℕ) → u * (h * h) * (L + h) ≤ k * ((L + h) * (L + h)) * (L + h) →
        (u * (L * ((2 * L + 3 * h) * (2 * L + 3 * h))) ≤ (u + k) * (4 * ((L + h) * ((L + h) * (L + h))))) ×
        (u * (4 * ((L + h) * ((L + h) * (L + h)))) ≤ u * (L * ((2 * L + 3 * h) * (2 * L + 3 * h))) + k
        * (4 * ((L + h) * ((L + h) * (L + h)))))
    go u k h L i = (simp expand (omega arith), simp expand (omega (arith, simp expand at i)))

even_from : (u k : ℕ) (a : Gap) (W D : ℕ) → Level a (whole W) → u * W ≤ (u + k) * D → u * D ≤ u * W + k * D →
    (u * a.p ≤ u * a.n + (u + k) * D) × (u * D + u * a.n ≤ u * a.p + k * D)
unfolding Level
even_from u k a W D h i j = go u k a.p a.n W D (ap (λ (x : ℕ). u * x) h) i j
  where
    go : (u k p n W D : ℕ) → u * (p + 0) ≡ u * (n + W) → u * W ≤ (u + k) * D → u * D ≤ u * W + k * D →
        (u * p ≤ u * n + (u + k) * D) × (u * D + u * n ≤ u * p + k * D)
    go u k p n W D e i j = (omega (arith, simp mul-add at e), omega (arith, simp mul-add at e))

pub newton_even : (u c k e : ℕ) (s : Quad Gap) → 0 < u → 4 * c ≤ u → c * c ≤ k * u → Even u c s e →
    Even u k (newton_gap s e) (e * (e * e * 2))
newton_even u c k e s uz hc hk ev =
    let E = e * e in
    let L = (squared s).p - (squared s).n in
    let el = value-is s in
    let l1 : u * L ≤ (u + c) * E = even_above u c (squared s).p (squared s).n L E el ev.above in
    let l2 : u * E ≤ u * L + c * E = even_below u c (squared s).p (squared s).n L E el ev.below in
    let l5 : 4 * L ≤ 5 * E = five u c L E uz hc l1 in
    let C = E * 3 - L in
    let lc : L + C ≡ E * 3 = left E L l5 in
    let v = newton-value e s L C (to_whole (squared s) L el) lc in
    let b = bounds E L C uz hk lc l5 l1 l2 (leb E L) (leb→le E L) (nleb→lt E L) in
    let z =
    even_from u k (squared (newton_gap s e)) (L * (C * C)) (e * (e * e * 2) * (e * (e * e * 2))) v
    (subst (λ (x : ℕ). u * (L * (C * C)) ≤ (u + k) * x) (den-square e) b.0)
    (subst (λ (x : ℕ). u * x ≤ u * (L * (C * C)) + k * x) (den-square e) b.1) in
    record { above = z.0; below = z.1 }
  where
    left : (E L : ℕ) → 4 * L ≤ 5 * E → L + (E * 3 - L) ≡ E * 3
    left E L h = omega arith

    away : (u c L h E : ℕ) → L ≡ E + h → u * L ≤ (u + c) * E → u * h ≤ c * E
    away u c L h E e l =
        let a = subst (λ (x : ℕ). u * x ≤ (u + c) * E) e l in omega (arith, simp (mul-add, add-mul) at a)

    away' : (u c L h E : ℕ) → E ≡ L + h → u * E ≤ u * L + c * E → u * h ≤ c * E
    away' u c L h E e l = let a : u * E ≡ u * L + u * h = ap (λ (x : ℕ). u * x) e ∙ mul-add u L h in omega arith

    up_is : (E L : ℕ) → E ≤ L → L ≡ E + (L - E)
    up_is E L h = omega arith

    down_is : (E L : ℕ) → L < E → E ≡ L + (E - L)
    down_is E L h = omega arith

    rest_is : (E L C : ℕ) → E ≤ L → L + C ≡ E * 3 → C + (L - E) ≡ 2 * E
    rest_is E L C h e = omega arith

    rest_is' : (E L C : ℕ) → L < E → L + C ≡ E * 3 → C ≡ 2 * L + 3 * (E - L)
    rest_is' E L C h e = omega arith

    most-is : (E L : ℕ) → E ≤ L → 4 * L ≤ 5 * E → L - E ≤ E
    most-is E L h k = omega arith

    bounds : (E L C : ℕ) → 0 < u → c * c ≤ k * u → L + C ≡ E * 3 → 4 * L ≤ 5 * E → u * L ≤ (u + c) * E →
        u * E ≤ u * L + c * E → (t : Bool) → (T t → E ≤ L) → (T (not t) → L < E)
        → (u * (L * (C * C)) ≤ (u + k) * (4 * (E * (E * E))))
        × (u * (4 * (E * (E * E))) ≤ u * (L * (C * C)) + k * (4 * (E * (E * E))))
    bounds E L C uz hk lc l5 l1 l2 true p q =
        let h = L - E in
        let e1 : L ≡ E + h = up_is E L (p tt) in
        subst (λ (x : ℕ). (u * (x * (C * C)) ≤ (u + k) * (4 * (E * (E * E))))
        × (u * (4 * (E * (E * E))) ≤ u * (x * (C * C)) + k * (4 * (E * (E * E))))) (sym e1)
        (longer u k h E C (rest_is E L C (p tt) lc) (most-is E L (p tt) l5)
        (square_side u c k h E uz hk (away u c L h E e1 l1)))
    bounds E L C uz hk lc l5 l1 l2 false p q =
        let h = E - L in
        let e1 : E ≡ L + h = down_is E L (q tt) in
        let sq = square_side u c k h E uz hk (away' u c L h E e1 l2) in
        subst (λ (x : ℕ). (u * (L * (C * C)) ≤ (u + k) * (4 * (x * (x * x))))
        × (u * (4 * (x * (x * x))) ≤ u * (L * (C * C)) + k * (4 * (x * (x * x))))) (sym e1)
        (shorter u k h L C (rest_is' E L C (q tt) lc) (subst (λ (x : ℕ). u * (h * h) ≤ k * (x * x)) e1 sq))

-- ---- the length after a product
product-above : (u c t o L M E G : ℕ) → 0 < u → c * t ≤ o * u → u * L ≤ (u + c) * E → u * M ≤ (u + t) * G →
    u * (L * M) ≤ (u + (c + t + 3 * o)) * (E * G)
product-above u c t o L M E G z k h i =
    let a : u * L * (u * M) ≤ (u + c) * E * ((u + t) * G) = mul-le-mul h i in
    let b = mul-le-mul_right (E * G) k in
    le_of_mul-le-mul_right {k = u} (simp expand (omega (arith, simp expand at a, simp expand at b))) z

product-below : (u c t o L M E G : ℕ) → 0 < u → c * t ≤ o * u → u * L ≤ (u + c) * E → u * M ≤ (u + t) * G →
    u * E ≤ u * L + c * E
    → u * G ≤ u * M + t * G → u * (E * G) ≤ u * (L * M) + (c + t + 3 * o) * (E * G)
product-below u c t o L M E G z k h i j l =
    let a : u * E * (u * G) ≤ (u * L + c * E) * (u * M + t * G) = mul-le-mul j l in
    let b = mul-le-mul_right (E * G) k in
    let p = mul-le-mul_right (t * G) h in
    let q = mul-le-mul_right (c * E) i in
    le_of_mul-le-mul_right {k = u}
    (simp expand (omega (arith, simp expand at a, simp expand at b, simp expand at p, simp expand at q))) z

whole-product : (L M : ℕ) → Level (whole L ⊗ whole M) (whole (L * M))
unfolding Level
whole-product L M = simp zeros (omega arith)

hamilton-value : (a b : Quad Gap) (L M : ℕ) → Level (squared a) (whole L) → Level (squared b) (whole M) →
    Level (squared (hamilton a b)) (whole (L * M))
unfolding Level
hamilton-value a b L M h k =
    level_trans (squared (hamilton a b)) (squared a ⊗ squared b) (whole (L * M)) (euler a b)
    (level_trans (squared a ⊗ squared b) (whole L ⊗ whole M) (whole (L * M))
    (level-mul (squared a) (whole L) (squared b) (whole M) h k)
    (whole-product L M))

den-product : (e g : ℕ) → e * e * (g * g) ≡ e * g * (e * g)
den-product e g = simp expand refl

pub even_hamilton : (u c t o e g : ℕ) (a b : Quad Gap) → 0 < u → c * t ≤ o * u → Even u c a e → Even u t b g →
    Even u (c + t + 3 * o) (hamilton a b) (e * g)
even_hamilton u c t o e g a b uz hk ea eb =
    let L = (squared a).p - (squared a).n in
    let M = (squared b).p - (squared b).n in
    let el = value-is a in
    let em = value-is b in
    let k = c + t + 3 * o in
    let l1 = even_above u c (squared a).p (squared a).n L (e * e) el ea.above in
    let l2 = even_below u c (squared a).p (squared a).n L (e * e) el ea.below in
    let m1 = even_above u t (squared b).p (squared b).n M (g * g) em eb.above in
    let m2 = even_below u t (squared b).p (squared b).n M (g * g) em eb.below in
    let z =
    even_from u k (squared (hamilton a b)) (L * M) (e * g * (e * g))
    (hamilton-value a b L M (to_whole (squared a) L el) (to_whole (squared b) M em))
    (subst (λ (x : ℕ). u * (L * M) ≤ (u + k) * x) (den-product e g)
    (product-above u c t o L M (e * e) (g * g) uz hk l1 m1))
    (subst (λ (x : ℕ). u * x ≤ u * (L * M) + k * x) (den-product e g)
    (product-below u c t o L M (e * e) (g * g) uz hk l1 m1 l2 m2)) in
    record { above = z.0; below = z.1 }

pub even_long : (u c m : ℕ) (a : Quad Gap) (e : ℕ) → u * (u + c) ≤ m * m → Even u c a e → Long u a e m
even_long u c m a e l h =
    record {
      magnitude = go u c (m * m) (squared a).p (squared a).n (e * e) (mul-le-mul_right (e * e) l)
          (mul-le-mul_left u h.above);
    }
  where
    go : (u c k p n E : ℕ) → u * (u + c) * E ≤ k * E → u * (u * p) ≤ u * (u * n + (u + c) * E) →
        u * u * p ≤ u * u * n + k * E
    go u c k p n E x h = simp expand (omega (arith, simp expand at x, simp expand at h))
