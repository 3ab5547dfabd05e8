-- The formula's rotation by two quaternions that are near, r and s: with δ = r - s, r v r̄ - s v s̄ is δ v r̄ + s v δ̄, and
-- the rest of the formula differs by (|s|² - |r|²) v. Assumes nothing.
use mathlib.Core.Path.{◌≡◌, sym, ap, ◌∙◌, subst, subst₂}
use Prim.Native.Nat.{ℕ, zero, suc, ◌+◌, ◌*◌, ◌≤◌, ◌<◌}
use native.Mathlib.Nat.{mul-add, add-mul, mul-pos, zero-lt-suc}
use native.Mathlib.Omega.{arith}
use Rattle.rounding.specs.Value.{Value}
use Rattle.rounding.specs.Tree.{upward}
use Rattle.rounding.proofs.Differences.{expand}
use Rattle.rounding.proofs.Fractions.{side_times}
use Rattle.rounding.proofs.Forward.{upward_enough}
use Rattle.rounding.proofs.Ring.{Gap, ◌⊕◌, ◌⊗◌, whole, Ex, var, normal, ring}
use Rattle.rounding.proofs.Ring as R
use Rattle.accuracy.specs.Box.{Three, Four, vector_part, VecNear}
use Rattle.accuracy.specs.Action.{exact_rotate}
use Rattle.accuracy.specs.Rotation.{turn_error}
use Rattle.accuracy.proofs.Euler.{Quad, ◌⊖◌, hamilton, hamilton_x, sub}
use Rattle.accuracy.proofs.Length.{Long, Tall, Level, long_product, long_shift, long_sum, tall_long, long_w, long_x, long_y}
use Rattle.accuracy.proofs.Length.{long_z, long_wider, sum4, sub4}
use Rattle.accuracy.proofs.Hamilton.{Is4, tall_near}
use Rattle.accuracy.proofs.Rotation.{conjugate_gap, pure_gap, rotated_gap, conjugate_x, pure_x, rotated_x, Is3, rotate-is}
use Rattle.accuracy.proofs.Rotation.{no_scalar}

-- ---- the identity, of differences over denominators and as expressions
abbrev numbers : ℕ → Quad Ex
numbers k = record { w = var k; x = var (k + 1); y = var (k + 2); z = var (k + 3) }

abbrev r_x : Quad Ex
r_x = numbers 1

abbrev s_x : Quad Ex
s_x = numbers 5

abbrev v_x : Quad Ex
v_x = pure_x (record { w = var 9; x = var 9; y = var 10; z = var 11 })

abbrev sum_x : Quad Ex → Quad Ex → Quad Ex
sum_x a b = record { w = R.plus a.w b.w; x = R.plus a.x b.x; y = R.plus a.y b.y; z = R.plus a.z b.z }

abbrev difference_x : Quad Ex
difference_x =
    record { w = sub r_x.w s_x.w; x = sub r_x.x s_x.x; y = sub r_x.y s_x.y; z = sub r_x.z s_x.z }

-- δ v r̄, s v δ̄, and |r|² - |s|²
abbrev first_x : Quad Ex
first_x = hamilton_x (hamilton_x difference_x v_x) (conjugate_x r_x)

abbrev second_x : Quad Ex
second_x = hamilton_x s_x (hamilton_x v_x (conjugate_x difference_x))

abbrev squares_x : Ex
squares_x = (hamilton_x difference_x (conjugate_x (sum_x r_x s_x))).w

abbrev rest_x : (g h a b v : Ex) → Ex
rest_x g h a b v = sub (sub g h) (sub (R.plus a b) (R.times squares_x v))

module _ (E : ℕ) (r s v : Quad Gap) where
  abbrev first : Quad Gap
  first = hamilton (hamilton (sub4 r s) (pure_gap v)) (conjugate_gap r)

  abbrev second : Quad Gap
  second = hamilton s (hamilton (pure_gap v) (conjugate_gap (sub4 r s)))

  abbrev squares : Quad Gap
  squares = hamilton (sub4 r s) (conjugate_gap (sum4 r s))

  abbrev point : ℕ → Gap
  point zero = whole E
  point (suc zero) = r.w
  point (suc (suc zero)) = r.x
  point (suc (suc (suc zero))) = r.y
  point (suc (suc (suc (suc zero)))) = r.z
  point (suc (suc (suc (suc (suc zero))))) = s.w
  point (suc (suc (suc (suc (suc (suc zero)))))) = s.x
  point (suc (suc (suc (suc (suc (suc (suc zero))))))) = s.y
  point (suc (suc (suc (suc (suc (suc (suc (suc zero)))))))) = s.z
  point (suc (suc (suc (suc (suc (suc (suc (suc (suc zero))))))))) = v.x
  point (suc (suc (suc (suc (suc (suc (suc (suc (suc (suc zero)))))))))) = v.y
  point (suc (suc (suc (suc (suc (suc (suc (suc (suc (suc (suc i))))))))))) = v.z

  split_x : Level ((rotated_gap E r v).x ⊖ (rotated_gap E s v).x) (first.x ⊕ second.x ⊖ squares.w ⊗ v.x)
  unfolding Level normal
  split_x =
      ring (rest_x (rotated_x (var 0) r_x v_x).x (rotated_x (var 0) s_x v_x).x first_x.x second_x.x v_x.x) tt point

  split_y : Level ((rotated_gap E r v).y ⊖ (rotated_gap E s v).y) (first.y ⊕ second.y ⊖ squares.w ⊗ v.y)
  unfolding Level normal
  split_y =
      ring (rest_x (rotated_x (var 0) r_x v_x).y (rotated_x (var 0) s_x v_x).y first_x.y second_x.y v_x.y) tt point

  split_z : Level ((rotated_gap E r v).z ⊖ (rotated_gap E s v).z) (first.z ⊕ second.z ⊖ squares.w ⊗ v.z)
  unfolding Level normal
  split_z =
      ring (rest_x (rotated_x (var 0) r_x v_x).z (rotated_x (var 0) s_x v_x).z first_x.z second_x.z v_x.z) tt point

-- ---- sizes
tall_level : (w : ℕ) (a b : Gap) (c : ℕ) → Level a b → Tall w b c → Tall w a c
unfolding Level
tall_level w a b c l h =
    let x = h.above in
    let y = h.below in
    record { above = shift w a.p a.n b.p b.n c l x; below = shift w a.n a.p b.n b.p c (turned a.p a.n b.p b.n l) y }
  where
    turned : (p n q m : ℕ) → p + m ≡ n + q → n + q ≡ p + m
    turned p n q m h = omega arith

    shift : (w p n q m c : ℕ) → p + m ≡ n + q → w * q ≤ w * m + c → w * p ≤ w * n + c
    shift w p n q m c l h =
        let e : w * p + w * m ≡ w * n + w * q = sym (mul-add w p m) ∙ ap (λ (i : ℕ). w * i) l ∙ mul-add w n q in
        omega arith

tall_sum : (w : ℕ) (a b : Gap) (c d : ℕ) → Tall w a c → Tall w b d → Tall w (a ⊕ b) (c + d)
tall_sum w a b c d h k =
    let x = h.above in
    let y = h.below in
    let p = k.above in
    let q = k.below in
    record { above = simp mul-add (omega arith); below = simp mul-add (omega arith) }

tall_opposite : (w : ℕ) (a : Gap) (c : ℕ) → Tall w a c → Tall w (record { p = a.n; n = a.p }) c
tall_opposite w a c h = record { above = h.below; below = h.above }

tall_times : (w : ℕ) (a b : Gap) (c d k E g : ℕ) → 0 < w → Tall w a (c * E) → Tall w b (d * g) → c * d ≤ k * w →
    Tall w (a ⊗ b) (k * (E * g))
tall_times w a b c d k E g z h i l =
    record {
      above = side_times w a.p a.n E b.p b.n g c d k z h.above h.below i.above i.below l;
      below = side_times w a.p a.n E b.n b.p g c d k z h.above h.below i.below i.above l;
    }

tall_over : (w : ℕ) (a : Gap) (c d e : ℕ) → d ≡ e → Tall w a (c * d) → Tall w a (c * e)
tall_over w a c d e h t = subst (λ (i : ℕ). Tall w a (c * i)) h t

long_conjugate : (w : ℕ) (a : Quad Gap) (e b : ℕ) → Long w a e b → Long w (conjugate_gap a) e b
long_conjugate w a e b h = record {
  magnitude =
      subst₂ (λ (x y : ℕ). w * w * x ≤ w * w * y + b * b * (e * e)) (p a.w.p a.w.n a.x.p a.x.n a.y.p a.y.n a.z.p a.z.n)
      (n a.w.p a.w.n a.x.p a.x.n a.y.p a.y.n a.z.p a.z.n) h.magnitude;
}
  where
    p : (a b c d e f g h : ℕ) → a * a + b * b + (c * c + d * d) + (e * e + f * f) + (g * g + h * h)
        ≡ a * a + b * b + (d * d + c * c) + (f * f + e * e) + (h * h + g * g)
    p a b c d e f g h = omega arith

    n : (a b c d e f g h : ℕ) → a * b + b * a + (c * d + d * c) + (e * f + f * e) + (g * h + h * g)
        ≡ a * b + b * a + (d * c + c * d) + (f * e + e * f) + (h * g + g * h)
    n a b c d e f g h = omega arith

-- ---- δ over e is at most d / u long, s over e at most m / u, and the numbers of v over g are at most b / u
module _ (u m d b e g : ℕ) (r s v : Quad Gap) (uz : 0 < u) (near : Long u (sub4 r s) e d) (size : Long u s e m)
    (vx : Tall u v.x (b * g)) (vy : Tall u v.y (b * g)) (vz : Tall u v.z (b * g)) where
  abbrev h : ℕ
  h = upward u (d * b)

  abbrev l : ℕ
  l = m + d + 2

  v-long : Long u (pure_gap v) g (2 * b)
  v-long = tall_long u (pure_gap v) g b (no_scalar u v.x (b * g)) vx vy vz

  r-long : Long u r e l
  unfolding Level
  r-long =
      let t =
      long_shift u (sum4 s (sub4 r s)) r e (suc m + suc d) (back s.w.p s.w.n r.w.p r.w.n) (back s.x.p s.x.n r.x.p r.x.n)
      (back s.y.p s.y.n r.y.p r.y.n) (back s.z.p s.z.n r.z.p r.z.n)
      (long_sum u s (sub4 r s) e (suc m) (suc d) (zero-lt-suc m) (zero-lt-suc d)
      (long_wider u s e m (suc m) (omega arith) size) (long_wider u (sub4 r s) e d (suc d) (omega arith) near)) in
      long_wider u r e (suc m + suc d) l (omega arith) t
    where
      back : (a b c d : ℕ) → a + (c + b) + d ≡ b + (d + a) + c
      back a b c d = omega arith

  twice : d * (2 * b) ≤ 2 * h * u
  twice = let k = upward_enough u (d * b) uz in simp expand (omega (arith, simp expand at k))

  twice' : 2 * b * d ≤ 2 * h * u
  twice' = let k = upward_enough u (d * b) uz in simp expand (omega (arith, simp expand at k))

  first-long : Long u (first e r s v) (e * g * e) (upward u (2 * h * l))
  first-long =
      long_product u (hamilton (sub4 r s) (pure_gap v)) (conjugate_gap r) (e * g) e (2 * h) l (upward u (2 * h * l)) uz
      (long_product u (sub4 r s) (pure_gap v) e g d (2 * b) (2 * h) uz near v-long twice) (long_conjugate u r e l r-long)
      (upward_enough u (2 * h * l) uz)

  second-long : Long u (second e r s v) (e * (g * e)) (upward u (m * (2 * h)))
  second-long =
      long_product u s (hamilton (pure_gap v) (conjugate_gap (sub4 r s))) e (g * e) m (2 * h) (upward u (m * (2 * h))) uz
      size
      (long_product u (pure_gap v) (conjugate_gap (sub4 r s)) g e (2 * b) d (2 * h) uz v-long
      (long_conjugate u (sub4 r s) e d near) twice')
      (upward_enough u (m * (2 * h)) uz)

  abbrev c : ℕ
  c = upward u (d * (l + suc m))

  squares-tall : Tall u (squares e r s v).w (c * (e * e))
  squares-tall =
      long_w u (squares e r s v) (e * e) c
      (long_product u (sub4 r s) (conjugate_gap (sum4 r s)) e e d (l + suc m) c uz near
      (long_conjugate u (sum4 r s) e (l + suc m)
      (long_sum u r s e l (suc m) (omega arith) (zero-lt-suc m) r-long
      (long_wider u s e m (suc m) (omega arith) size)))
      (upward_enough u (d * (l + suc m)) uz))

  abbrev D : ℕ
  D = e * e * g

  -- one number
  number : (a b' x t : Gap) → Level t (a ⊕ b' ⊖ (squares e r s v).w ⊗ x) →
      Tall u a (upward u (2 * h * l) * (e * g * e)) → Tall u b' (upward u (m * (2 * h)) * (e * (g * e))) →
      Tall u x (b * g) → Tall u t (turn_error u m d b * D)
  number a b' x t k ha hb hx =
      let A = upward u (2 * h * l) in
      let B = upward u (m * (2 * h)) in
      let C = upward u (c * b) in
      let s1 = tall_sum u a b' (A * D) (B * D) (tall_over u a A (e * g * e) D (simp expand) ha)
      (tall_over u b' B (e * (g * e)) D (simp expand) hb) in
      let s2 = tall_opposite u ((squares e r s v).w ⊗ x) (C * D)
      (tall_times u (squares e r s v).w x c b C (e * e) g uz squares-tall hx (upward_enough u (c * b) uz)) in
      tall_level u t (a ⊕ b' ⊖ (squares e r s v).w ⊗ x) (turn_error u m d b * D) k
      (subst (λ (i : ℕ). Tall u (a ⊕ b' ⊖ (squares e r s v).w ⊗ x) i) (three A B C D)
      (tall_sum u (a ⊕ b') _ (A * D + B * D) (C * D) s1 s2))
    where
      three : (a b c d : ℕ) → a * d + b * d + c * d ≡ (a + b + c) * d
      three a b c d = simp add-mul

  number-x : Tall u ((rotated_gap (e * e) r v).x ⊖ (rotated_gap (e * e) s v).x) (turn_error u m d b * D)
  number-x =
      number (first e r s v).x (second e r s v).x v.x _ (split_x (e * e) r s v) (long_x u _ _ _ first-long)
      (long_x u _ _ _ second-long) vx

  number-y : Tall u ((rotated_gap (e * e) r v).y ⊖ (rotated_gap (e * e) s v).y) (turn_error u m d b * D)
  number-y =
      number (first e r s v).y (second e r s v).y v.y _ (split_y (e * e) r s v) (long_y u _ _ _ first-long)
      (long_y u _ _ _ second-long) vy

  number-z : Tall u ((rotated_gap (e * e) r v).z ⊖ (rotated_gap (e * e) s v).z) (turn_error u m d b * D)
  number-z =
      number (first e r s v).z (second e r s v).z v.z _ (split_z (e * e) r s v) (long_z u _ _ _ first-long)
      (long_z u _ _ _ second-long) vz

  -- of values
  pub perturbed : (R Q : Four Value) (V : Three Value) → 0 < e → 0 < g → Is4 R r e → Is4 Q s e → Is3 V v g →
      VecNear u (exact_rotate R.w (vector_part R) V) (exact_rotate Q.w (vector_part Q) V) (turn_error u m d b)
  perturbed R Q V ez gz hr hs hv =
      let z : 0 < D = mul-pos (mul-pos ez ez) gz in
      let a = rotate-is R V r v e g hr hv in
      let o = rotate-is Q V s v e g hs hv in
      record {
        x = tall_near u _ _ _ _ _ D z a.x o.x number-x;
        y = tall_near u _ _ _ _ _ D z a.y o.y number-y;
        z = tall_near u _ _ _ _ _ D z a.z o.z number-z;
      }
