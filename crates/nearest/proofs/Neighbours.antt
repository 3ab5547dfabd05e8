-- From patterns to values: the patterns below the end are those of the permitted values, the next pattern is that of
-- the next value, and so n moves lead to the same value as n steps of the pattern. So `NearestTheorem` also holds for
-- values, at the public function. Assumes nothing.
use mathlib.Core.Path.{◌≡◌, refl, sym, ap, ◌∙◌, subst}
use mathlib.Core.Logic.{inl, inr}
use mathlib.Core.Bool.{true, false, ◌&&◌}
use Prim.Native.Nat.{ℕ, zero, suc, ◌+◌, ◌-◌, ◌≤◌, ◌<◌}
use native.Mathlib.Omega.{arith}
use lib.Dec.{T, not_T}
use lib.Ieee.{Float, nan, inf, fin, Format, of_bits, to_bits, fits, lt, le}
use lib.Ieee.Bits.{of_bits-to_bits, of_bits-fits, is_false}
use lib.Ieee.Scale.{finite}
use Rattle.std.proofs.lemmas.Float.{lt_trans}
use Rattle.std.proofs.lemmas.Bool.{cases_lt}
use Rattle.ieee.specs.Finite.{is_finite}
use Rattle.ieee.specs.Numbers.{f0}
use Rattle.ieee.specs.Patterns.{patterns}
use Rattle.ieee.specs.Signs.{unsigned_zero, Same}
use Rattle.ieee.proofs.Order.{le_same, lt-e}
use Rattle.ieee.proofs.Clear.{plain_id}
use Rattle.ieee.proofs.Values.{value_clear}
use Rattle.ieee.proofs.Finite.{zero-starts}
use Rattle.ieee.proofs.Patterns.{rising, pattern_value, pattern_finite}
use Rattle.ieee.proofs.Neighbours.{strictly_rising}
use Rattle.nearest.specs.Nearest.{Way, down, up, Near, step, none, place, changes}
use Rattle.nearest.specs.Nearest.{nearest_from, arm_of, arm_at, preferred}
use Rattle.nearest.specs.Theorem.{OneArm, NearIs}
use Rattle.nearest.specs.Neighbours.{Permitted, Next, NeighboursTheorem, Beside, Moves, Changed}
use Rattle.nearest.specs.Neighbours.{IsNearest, NearestArmTheorem}
use Rattle.nearest.proofs.Starts.{start_below}
use Rattle.nearest.proofs.Steps.{down-changes, up-changes, down-permitted, up-permitted, another}
use Rattle.nearest.proofs.Answers.{accepted}
use Rattle.nearest.proofs.Theorem.{nearest_theorem}

-- ---- values
plain_fits : (f : Format) (x : Float) → T (fits f x) → T (fits f (unsigned_zero x))
unfolding unsigned_zero
plain_fits f nan h = h
plain_fits f (inf s) h = h
plain_fits f (fin s zero e) h = unfold fits in tt
plain_fits f (fin s (suc m) e) h = h

unsigned_zero-same : (x : Float) → Same (unsigned_zero x) x
unfolding unsigned_zero
unsigned_zero-same nan = refl
unsigned_zero-same (inf s) = refl
unsigned_zero-same (fin s zero e) = refl
unsigned_zero-same (fin s (suc m) e) = refl

is-finite : (x : Float) → T (finite x) → is_finite x ≡ true
unfolding is_finite
is-finite nan h = absurd h
is-finite (inf s) h = absurd h
is-finite (fin s m e) h = refl

-- what lies between two finite values is finite
inner_finite : (x v y : Float) → T (finite x) → T (finite y) → T (lt x v) → T (lt v y) → is_finite v ≡ true
unfolding is_finite lt
inner_finite (fin s m e) nan (fin t n d) p q h k = absurd h
inner_finite (fin s m e) (inf true) (fin t n d) p q h k = absurd h
inner_finite (fin s m e) (inf false) (fin t n d) p q h k = absurd k
inner_finite (fin s m e) (fin u o g) (fin t n d) p q h k = refl
inner_finite nan v y p q h k = absurd p
inner_finite (inf s) v y p q h k = absurd p
inner_finite (fin s m e) v nan p q h k = absurd q
inner_finite (fin s m e) v (inf t) p q h k = absurd q

module _ (f : Format) where
  -- no pattern's value is below zero
  from_zero : (p : ℕ) → p < patterns f → T (le f0 (of_bits f p))
  unfolding unsigned_zero
  from_zero p h =
      let x = of_bits f p in
      rw (le_same f0 (of_bits f 0) x x (sym (zero-starts f)) refl) (rising f 0 p (omega arith) h)

  permitted-at : (p : ℕ) → p < patterns f → Permitted f (of_bits f p)
  permitted-at p h = record {
    value = of_bits-fits f p;
    finite = is-finite (of_bits f p) (pattern_finite f p h);
    sign = is_false (lt (of_bits f p) f0) (not_T _ (λ t. lt-e (of_bits f p) f0 t (from_zero p h)));
    zero = value_clear (of_bits f p) _ _ (pattern_value f p h);
  }

  pattern_of : (x : Float) → Permitted f x → (to_bits f x < patterns f) × (of_bits f (to_bits f x) ≡ x)
  pattern_of x h =
      let few = start_below f x h.value h.sign h.finite in
      (subst (λ (y : Float). to_bits f y < patterns f) (plain_id f x h.value h.zero) few, of_bits-to_bits f x h.value)

  -- ---- the next value
  next-at : (p : ℕ) → p + 1 < patterns f → Next f (of_bits f p) (of_bits f (p + 1))
  next-at p h = record { above = strictly_rising f p (p + 1) (omega arith) h; between = between }
    where
      p_in : p < patterns f
      p_in = omega arith

      between : (v : Float) → T (fits f v) → T (lt (of_bits f p) v) → T (lt v (of_bits f (p + 1))) → ⊥
      between v t a b =
          let x = of_bits f p in
          let y = of_bits f (p + 1) in
          let number = inner_finite x v y (pattern_finite f p p_in) (pattern_finite f (p + 1) h) a b in
          let sign = is_false (lt v f0) (not_T _ (λ l. lt-e x f0 (lt_trans x v f0 a l) (from_zero p p_in))) in
          let q = to_bits f (unsigned_zero v) in
          let few : q < patterns f = start_below f v t sign number in
          let same : Same (of_bits f q) v = ap unsigned_zero (of_bits-to_bits f (unsigned_zero v) (plain_fits f v t))
          ∙ unsigned_zero-same v in
          elim (cases_lt p q) [
            | inl l ↦ lt-e v y b (rw (← le_same y y (of_bits f q) v refl same) (rising f (p + 1) q (omega arith) few))
            | inr l ↦ lt-e x v a (rw (← le_same (of_bits f q) v x x same refl) (rising f q p l p_in))
          ]

  next-only : (p q : ℕ) → p < patterns f → q < patterns f → Next f (of_bits f p) (of_bits f q) → q ≡ p + 1
  next-only p q p_in q-in h = elim (cases_lt p q) [
    | inl l ↦ elim (cases_lt (p + 1) q) [
      | inl m ↦
          let low = strictly_rising f p (p + 1) (omega arith) (omega arith) in
          let high = strictly_rising f (p + 1) q m q-in in
          absurd (h.between (of_bits f (p + 1)) (of_bits-fits f (p + 1)) low high)
      | inr m ↦ omega arith
    ]
    | inr l ↦ absurd (lt-e (of_bits f p) (of_bits f q) h.above (rising f q p l p_in))
  ]

  pub neighbours_theorem : NeighboursTheorem f
  neighbours_theorem = record { permitted = permitted-at; all = pattern_of; next = next-at; only = next-only }

  -- ---- n moves, and n steps of the pattern
  abbrev Permits : Way → ℕ → ℕ → Type 0
  Permits down p n = n ≤ p
  Permits up p n = p + n < patterns f

  moves-at : (d : Way) (p n : ℕ) → p < patterns f → Permits d p n → Moves f d n (of_bits f p) (of_bits f (place d p n))
  moves-at down p n p_in h = record { way = way; from = ap (of_bits f) (omega arith); to = refl; each = each }
    where
      way : ℕ → Float
      way i = of_bits f (p - i)

      each : (i : ℕ) → i < n → Permitted f (way (i + 1)) × Beside f down (way i) (way (i + 1))
      each i l =
          let q = p - (i + 1) in
          let e : q + 1 ≡ p - i = omega arith in (
            permitted-at q (omega arith),
            subst (λ (r : ℕ). Next f (of_bits f q) (of_bits f r)) e
                (next-at q (omega arith)),
          )
  moves-at up p n p_in h = record { way = way; from = ap (of_bits f) (omega arith); to = refl; each = each }
    where
      way : ℕ → Float
      way i = of_bits f (p + i)

      each : (i : ℕ) → i < n → Permitted f (way (i + 1)) × Beside f up (way i) (way (i + 1))
      each i l =
          let e : p + i + 1 ≡ p + (i + 1) = omega arith in
          let next = next-at (p + i) (omega arith) in
          (permitted-at (p + (i + 1)) (omega arith), subst (λ (r : ℕ). Next f (of_bits f (p + i)) (of_bits f r)) e next)

  -- the neighbour of a pattern's value, one step further on
  step_lead : (d : Way) (p i : ℕ) (x y : Float) → p < patterns f → Permits d p i → x ≡ of_bits f (place d p i)
      → Permitted f y → Beside f d x y → (y ≡ of_bits f (place d p (i + 1))) × Permits d p (i + 1)
  step_lead down p i x y p_in h e k b =
      let g = pattern_of y k in
      let q = to_bits f y in
      let beside : Next f (of_bits f q) (of_bits f (p - i)) =
      subst (λ (v : Float). Next f v (of_bits f (p - i))) (sym g.1) (subst (λ (v : Float). Next f y v) e b) in
      let o : p - i ≡ q + 1 = next-only q (p - i) g.0 (omega arith) beside in
      let there : q ≡ p - (i + 1) = omega arith in
      (sym g.1 ∙ ap (of_bits f) there, omega arith)
  step_lead up p i x y p_in h e k b =
      let g = pattern_of y k in
      let q = to_bits f y in
      let beside : Next f (of_bits f (p + i)) (of_bits f q) =
      subst (λ (v : Float). Next f (of_bits f (p + i)) v) (sym g.1) (subst (λ (v : Float). Next f v y) e b) in
      let o : q ≡ p + i + 1 = next-only (p + i) q h g.0 beside in
      let there : q ≡ p + (i + 1) = omega arith in
      (sym g.1 ∙ ap (of_bits f) there, subst (λ (r : ℕ). r < patterns f) there g.0)

  moves_lead : (d : Way) (p n : ℕ) (y : Float) → p < patterns f → Moves f d n (of_bits f p) y
      → (y ≡ of_bits f (place d p n)) × Permits d p n
  moves_lead d p n y p_in m =
      let g = go n (omega arith) in
      (sym m.to ∙ g.0, g.1)
    where
      start : (d : Way) → (of_bits f p ≡ of_bits f (place d p 0)) × Permits d p 0
      start down = (ap (of_bits f) (omega arith), omega arith)
      start up = (ap (of_bits f) (omega arith), omega arith)

      go : (i : ℕ) → i ≤ n → (m.way i ≡ of_bits f (place d p i)) × Permits d p i
      go zero h = (m.from ∙ (start d).0, (start d).1)
      go (suc i) h =
          let g = go i (omega arith) in
          let k = m.each i (omega arith) in
          let one : i + 1 ≡ suc i = omega arith in
          subst (λ (j : ℕ). (m.way j ≡ of_bits f (place d p j)) × Permits d p j) one
          (step_lead d p i (m.way i) (m.way (i + 1)) p_in g.1 g.0 k.0 k.1)

  -- ---- at σ and the value of the pattern p
  module _ (first : Way) (sigma : Float) (p : ℕ) (p_in : p < patterns f) where
    abbrev Step : Way → ℕ → Type 0
    Step d n = T (changes (arm_at f sigma) (patterns f) p d n)

    permits : (d : Way) (n : ℕ) → Step d n → Permits d p n
    permits down n t = down-permitted (arm_at f sigma) (patterns f) p n t
    permits up n t = up-permitted (arm_at f sigma) (patterns f) p n t

    step-moves : (d : Way) (n : ℕ) → Step d n → Moves f d n (of_bits f p) (of_bits f (place d p n))
    step-moves d n t = moves-at d p n p_in (permits d n t)

    step-changed : (d : Way) (n : ℕ) → Step d n → Changed f sigma (of_bits f p) (of_bits f (place d p n))
    unfolding arm_at
    step-changed d n t = another (arm_at f sigma) (patterns f) p d n t

    step_of : (d : Way) (n : ℕ) → Permits d p n → (arm_at f sigma (place d p n) ≡ arm_at f sigma p → ⊥) → Step d n
    step_of down n h k = down-changes (arm_at f sigma) (patterns f) p n h k
    step_of up n h k = up-changes (arm_at f sigma) (patterns f) p n h k

    moves-step : (d : Way) (n : ℕ) (y : Float) → Moves f d n (of_bits f p) y → Changed f sigma (of_bits f p) y →
        Step d n
    unfolding arm_at
    moves-step d n y m c =
        let g = moves_lead d p n y p_in m in
        step_of d n g.1 (λ e. c (ap (arm_of f sigma) g.0 ∙ e))

    one_arm : OneArm (arm_at f sigma) (patterns f) → (x y : Float) → Permitted f x → Permitted f y
        → arm_of f sigma x ≡ arm_of f sigma y
    unfolding arm_at
    one_arm o x y X Y =
        let g = pattern_of x X in
        let h = pattern_of y Y in
        ap (arm_of f sigma) (sym g.1) ∙ o (to_bits f x) (to_bits f y) g.0 h.0 ∙ ap (arm_of f sigma) h.1

    to_values : (r : Near) → NearIs (arm_at f sigma) (patterns f) first p r → IsNearest f first sigma (of_bits f p) r
    unfolding arm_at
    to_values (step n d a) l = record {
      there = of_bits f (place d p n);
      moves = step-moves d n l.changing;
      changed = step-changed d n l.changing;
      arm = l.there;
      least = λ e m y v c. l.least e m (moves-step e m y v c);
      tie = λ y v c. l.tie (moves-step first n y v c);
    }
    to_values none o = one_arm o

    from_values : (r : Near) → IsNearest f first sigma (of_bits f p) r → NearIs (arm_at f sigma) (patterns f) first p r
    unfolding arm_at
    from_values (step n d a) l = record {
      changing = moves-step d n l.there l.moves l.changed;
      least = λ e m t. l.least e m (of_bits f (place e p m)) (step-moves e m t) (step-changed e m t);
      tie = λ t. l.tie (of_bits f (place first p n)) (step-moves first n t) (step-changed first n t);
      there = l.arm ∙ ap (arm_of f sigma) (moves_lead d p n l.there p_in l.moves).0;
    }
    from_values none o = λ q r Q R. o (of_bits f q) (of_bits f r) (permitted-at q Q) (permitted-at r R)

  -- ---- at the public function
  pub nearest-arm_theorem : NearestArmTheorem f
  nearest-arm_theorem sigma z t s k b =
      let p = to_bits f (unsigned_zero z) in
      let few : p < patterns f = start_below f z t b k in
      let is : of_bits f p ≡ unsigned_zero z = of_bits-to_bits f (unsigned_zero z) (plain_fits f z t) in
      let asked = nearest_theorem.asked (arm_at f sigma) (patterns f) preferred p few in
      let near = nearest_from (arm_at f sigma) (patterns f) preferred p in
      let both : is_finite sigma && is_finite z ≡ true = rw (s, k) refl in
      let at : Near → Float → Type 0 = λ r x. IsNearest f preferred sigma x r in
      record {
        near = near;
        answered = sym (accepted f preferred sigma z p b both refl);
        is = subst (at near) is (to_values preferred sigma p few near asked.is);
        only = λ r h. asked.only r (from_values preferred sigma p few r (subst (at r) (sym is) h));
      }
