-- Equations between polynomials over whole numbers written as differences, p - n, by a normal form that is computed.
-- Assumes nothing.
use mathlib.Core.Path.{◌≡◌, refl, sym, ap, ap₂, ◌∙◌}
use mathlib.Core.List.{List, [], ◌∷◌}
use Prim.Native.Nat.{ℕ, ◌+◌, ◌*◌}
use native.Mathlib.Nat as N
use native.Mathlib.Omega.{arith}
use mathlib.Core.Bool.{Bool, true, false, ◌&&◌, ◌||◌, cond}
use lib.Ieee.Fits.{and_l, and_r}
use lib.Dec.{T, leb, ltb, eqb, eqb→eq}
use Rattle.rounding.proofs.Differences.{expand}

-- p - n
pub record Gap : Type 0 where
  pub p : ℕ
  pub n : ℕ

pub same : {a b : Gap} → a.p ≡ b.p → a.n ≡ b.n → a ≡ b
same h k = λ i. record { p = h i; n = k i }

infixl 6 ◌⊕◌
infixl 7 ◌⊗◌
abbrev pub ◌⊕◌ : Gap → Gap → Gap
a ⊕ b = record { p = a.p + b.p; n = a.n + b.n }

abbrev pub ◌⊗◌ : Gap → Gap → Gap
a ⊗ b = record { p = a.p * b.p + a.n * b.n; n = a.p * b.n + a.n * b.p }

abbrev pub opp : Gap → Gap
opp a = record { p = a.n; n = a.p }

abbrev pub whole : ℕ → Gap
whole k = record { p = k; n = 0 }

minus_one : Gap
minus_one = record { p = 0; n = 1 }

add_assoc : (a b c : Gap) → a ⊕ b ⊕ c ≡ a ⊕ (b ⊕ c)
add_assoc a b c = same (N.add_assoc _ _ _) (N.add_assoc _ _ _)

add_left_comm : (a b c : Gap) → a ⊕ (b ⊕ c) ≡ b ⊕ (a ⊕ c)
add_left_comm a b c = same (N.add_left_comm _ _ _) (N.add_left_comm _ _ _)

zero-add : (a : Gap) → whole 0 ⊕ a ≡ a
zero-add a = same (N.zero-add _) (N.zero-add _)

add-zero : (a : Gap) → a ⊕ whole 0 ≡ a
add-zero a = same (N.add-zero _) (N.add-zero _)

mul_comm : (a b : Gap) → a ⊗ b ≡ b ⊗ a
mul_comm a b = same (simp expand (omega arith)) (simp expand (omega arith))

mul_assoc : (a b c : Gap) → a ⊗ b ⊗ c ≡ a ⊗ (b ⊗ c)
mul_assoc a b c = same (simp expand (omega arith)) (simp expand (omega arith))

mul-add : (a b c : Gap) → a ⊗ (b ⊕ c) ≡ a ⊗ b ⊕ a ⊗ c
mul-add a b c = same (simp expand (omega arith)) (simp expand (omega arith))

add-mul : (a b c : Gap) → (a ⊕ b) ⊗ c ≡ a ⊗ c ⊕ b ⊗ c
add-mul a b c = same (simp expand (omega arith)) (simp expand (omega arith))

one-mul : (a : Gap) → whole 1 ⊗ a ≡ a
one-mul a = same (omega arith) (omega arith)

mul-one : (a : Gap) → a ⊗ whole 1 ≡ a
mul-one a = same (omega arith) (omega arith)

zero-mul : (a : Gap) → whole 0 ⊗ a ≡ whole 0
zero-mul a = same (omega arith) (omega arith)

mul-zero : (a : Gap) → a ⊗ whole 0 ≡ whole 0
mul-zero a = same (omega arith) (omega arith)

minus_is : (a : Gap) → minus_one ⊗ a ≡ opp a
unfolding minus_one
minus_is a = same (omega arith) (omega arith)

mul_left_comm : (a b c : Gap) → a ⊗ (b ⊗ c) ≡ b ⊗ (a ⊗ c)
mul_left_comm a b c = sym (mul_assoc a b c) ∙ ap (λ (x : Gap). x ⊗ c) (mul_comm a b) ∙ mul_assoc b a c

mul_mul_mul_comm : (a b c d : Gap) → a ⊗ b ⊗ (c ⊗ d) ≡ a ⊗ c ⊗ (b ⊗ d)
mul_mul_mul_comm a b c d =
    mul_assoc a b (c ⊗ d) ∙ ap (λ (x : Gap). a ⊗ x) (mul_left_comm b c d) ∙ sym (mul_assoc a c (b ⊗ d))

pub data Ex : Type 0 where
  var : ℕ → Ex
  const : ℕ → Ex
  minus : Ex → Ex
  plus : Ex → Ex → Ex
  times : Ex → Ex → Ex

abbrev pub ev : (ℕ → Gap) → Ex → Gap
ev r (var i) = r i
ev r (const k) = whole k
ev r (minus a) = opp (ev r a)
ev r (plus a b) = ev r a ⊕ ev r b
ev r (times a b) = ev r a ⊗ ev r b

-- ---- products of variables, in order
abbrev pub ev_m : (ℕ → Gap) → List ℕ → Gap
ev_m r [] = whole 1
ev_m r (i ∷ m) = r i ⊗ ev_m r m

abbrev pub ins_m : ℕ → List ℕ → List ℕ
ins_m i [] = i ∷ []
ins_m i (j ∷ m) = cond (leb i j) (i ∷ j ∷ m) (j ∷ ins_m i m)

ins_m_ev : (r : ℕ → Gap) (i : ℕ) (m : List ℕ) → ev_m r (ins_m i m) ≡ r i ⊗ ev_m r m
ins_m_ev r i [] = refl
ins_m_ev r i (j ∷ m) = go (leb i j) (ins_m_ev r i m)
  where
    go : (b : Bool) → ev_m r (ins_m i m) ≡ r i ⊗ ev_m r m → ev_m r (cond b (i ∷ j ∷ m) (j ∷ ins_m i m))
        ≡ r i ⊗ (r j ⊗ ev_m r m)
    go true h = refl
    go false h = ap (λ (x : Gap). r j ⊗ x) h ∙ mul_left_comm (r j) (r i) (ev_m r m)

abbrev pub mul_m : List ℕ → List ℕ → List ℕ
mul_m [] m = m
mul_m (i ∷ l) m = ins_m i (mul_m l m)

mul_m_ev : (r : ℕ → Gap) (l m : List ℕ) → ev_m r (mul_m l m) ≡ ev_m r l ⊗ ev_m r m
mul_m_ev r [] m = sym (one-mul (ev_m r m))
mul_m_ev r (i ∷ l) m =
    ins_m_ev r i (mul_m l m) ∙ ap (λ (x : Gap). r i ⊗ x) (mul_m_ev r l m) ∙ sym (mul_assoc (r i) (ev_m r l) (ev_m r m))

abbrev pub eq_m : List ℕ → List ℕ → Bool
eq_m [] [] = true
eq_m [] (j ∷ m) = false
eq_m (i ∷ l) [] = false
eq_m (i ∷ l) (j ∷ m) = eqb i j && eq_m l m

eq_m_ev : (r : ℕ → Gap) (l m : List ℕ) → T (eq_m l m) → ev_m r l ≡ ev_m r m
eq_m_ev r [] [] t = refl
eq_m_ev r [] (j ∷ m) t = absurd t
eq_m_ev r (i ∷ l) [] t = absurd t
eq_m_ev r (i ∷ l) (j ∷ m) t =
    ap₂ (λ (x y : Gap). x ⊗ y) (ap r (eqb→eq i j (and_l (eqb i j) (eq_m l m) t)))
    (eq_m_ev r l m (and_r (eqb i j) (eq_m l m) t))

-- the order in which the monomials stand: only for a normal form that is unique
abbrev pub lt_m : List ℕ → List ℕ → Bool
lt_m [] [] = false
lt_m [] (j ∷ m) = true
lt_m (i ∷ l) [] = false
lt_m (i ∷ l) (j ∷ m) = ltb i j || (eqb i j && lt_m l m)

-- ---- sums of multiples of them
pub record Item : Type 0 where
  pub c : Gap
  pub m : List ℕ

abbrev pub item : Gap → List ℕ → Item
item c m = record { c = c; m = m }

abbrev pub ev_p : (ℕ → Gap) → List Item → Gap
ev_p r [] = whole 0
ev_p r (x ∷ p) = x.c ⊗ ev_m r x.m ⊕ ev_p r p

abbrev pub ins_p : Gap → List ℕ → List Item → List Item
ins_p c m [] = item c m ∷ []
ins_p c m (x ∷ p) = cond (eq_m m x.m) (item (c ⊕ x.c) x.m ∷ p) (cond (lt_m m x.m) (item c m ∷ x ∷ p) (x ∷ ins_p c m p))

ins_p_ev : (r : ℕ → Gap) (c : Gap) (m : List ℕ) (p : List Item) → ev_p r (ins_p c m p) ≡ c ⊗ ev_m r m ⊕ ev_p r p
ins_p_ev r c m [] = refl
ins_p_ev r c m (x ∷ p) = go (eq_m m x.m) (eq_m_ev r m x.m) (lt_m m x.m) (ins_p_ev r c m p)
  where
    go : (b : Bool) → (T b → ev_m r m ≡ ev_m r x.m) → (d : Bool) → ev_p r (ins_p c m p) ≡ c ⊗ ev_m r m ⊕ ev_p r p
        → ev_p r (cond b (item (c ⊕ x.c) x.m ∷ p) (cond d (item c m ∷ x ∷ p) (x ∷ ins_p c m p)))
        ≡ c ⊗ ev_m r m ⊕ (x.c ⊗ ev_m r x.m ⊕ ev_p r p)
    go true e d h =
        ap (λ (y : Gap). y ⊕ ev_p r p) (add-mul c x.c (ev_m r x.m))
        ∙ add_assoc (c ⊗ ev_m r x.m) (x.c ⊗ ev_m r x.m) (ev_p r p)
        ∙ ap (λ (y : Gap). c ⊗ y ⊕ (x.c ⊗ ev_m r x.m ⊕ ev_p r p)) (sym (e tt))
    go false e true h = refl
    go false e false h =
        ap (λ (y : Gap). x.c ⊗ ev_m r x.m ⊕ y) h ∙ add_left_comm (x.c ⊗ ev_m r x.m) (c ⊗ ev_m r m) (ev_p r p)

abbrev pub add_p : List Item → List Item → List Item
add_p [] q = q
add_p (x ∷ p) q = ins_p x.c x.m (add_p p q)

add_p_ev : (r : ℕ → Gap) (p q : List Item) → ev_p r (add_p p q) ≡ ev_p r p ⊕ ev_p r q
add_p_ev r [] q = sym (zero-add (ev_p r q))
add_p_ev r (x ∷ p) q =
    ins_p_ev r x.c x.m (add_p p q) ∙ ap (λ (y : Gap). x.c ⊗ ev_m r x.m ⊕ y) (add_p_ev r p q)
    ∙ sym (add_assoc (x.c ⊗ ev_m r x.m) (ev_p r p) (ev_p r q))

-- an item times a sum, put into another sum
abbrev pub mul_add : Gap → List ℕ → List Item → List Item → List Item
mul_add c m [] q = q
mul_add c m (x ∷ p) q = ins_p (c ⊗ x.c) (mul_m m x.m) (mul_add c m p q)

mul_add_ev : (r : ℕ → Gap) (c : Gap) (m : List ℕ) (p q : List Item) →
    ev_p r (mul_add c m p q) ≡ c ⊗ ev_m r m ⊗ ev_p r p ⊕ ev_p r q
mul_add_ev r c m [] q = sym (ap (λ (y : Gap). y ⊕ ev_p r q) (mul-zero (c ⊗ ev_m r m)) ∙ zero-add (ev_p r q))
mul_add_ev r c m (x ∷ p) q =
    ins_p_ev r (c ⊗ x.c) (mul_m m x.m) (mul_add c m p q)
    ∙ ap₂ (λ (y z : Gap). c ⊗ x.c ⊗ y ⊕ z) (mul_m_ev r m x.m) (mul_add_ev r c m p q)
    ∙ ap (λ (y : Gap). y ⊕ (c ⊗ ev_m r m ⊗ ev_p r p ⊕ ev_p r q)) (mul_mul_mul_comm c x.c (ev_m r m) (ev_m r x.m))
    ∙ sym (add_assoc (c ⊗ ev_m r m ⊗ (x.c ⊗ ev_m r x.m)) (c ⊗ ev_m r m ⊗ ev_p r p) (ev_p r q))
    ∙ ap (λ (y : Gap). y ⊕ ev_p r q) (sym (mul-add (c ⊗ ev_m r m) (x.c ⊗ ev_m r x.m) (ev_p r p)))

abbrev pub mul_p : List Item → List Item → List Item
mul_p [] q = []
mul_p (x ∷ p) q = mul_add x.c x.m q (mul_p p q)

mul_p_ev : (r : ℕ → Gap) (p q : List Item) → ev_p r (mul_p p q) ≡ ev_p r p ⊗ ev_p r q
mul_p_ev r [] q = sym (zero-mul (ev_p r q))
mul_p_ev r (x ∷ p) q =
    mul_add_ev r x.c x.m q (mul_p p q) ∙ ap (λ (y : Gap). x.c ⊗ ev_m r x.m ⊗ ev_p r q ⊕ y) (mul_p_ev r p q)
    ∙ sym (add-mul (x.c ⊗ ev_m r x.m) (ev_p r p) (ev_p r q))

-- ---- the normal form
unfoldable pub normal : Ex → List Item
unfolding minus_one
normal (var i) = item (whole 1) (i ∷ []) ∷ []
normal (const k) = item (whole k) [] ∷ []
normal (minus a) = mul_p (item minus_one [] ∷ []) (normal a)
normal (plus a b) = add_p (normal a) (normal b)
normal (times a b) = mul_p (normal a) (normal b)

normal_ev : (r : ℕ → Gap) (a : Ex) → ev_p r (normal a) ≡ ev r a
unfolding normal
normal_ev r (var i) = add-zero (whole 1 ⊗ (r i ⊗ whole 1)) ∙ one-mul (r i ⊗ whole 1) ∙ mul-one (r i)
normal_ev r (const k) = add-zero (whole k ⊗ whole 1) ∙ mul-one (whole k)
normal_ev r (minus a) =
    mul_p_ev r (item minus_one [] ∷ []) (normal a)
    ∙ ap₂ (λ (x y : Gap). x ⊗ y) (add-zero (minus_one ⊗ whole 1) ∙ mul-one minus_one) (normal_ev r a)
    ∙ minus_is (ev r a)
normal_ev r (plus a b) = add_p_ev r (normal a) (normal b) ∙ ap₂ (λ (x y : Gap). x ⊕ y) (normal_ev r a) (normal_ev r b)
normal_ev r (times a b) = mul_p_ev r (normal a) (normal b) ∙ ap₂ (λ (x y : Gap). x ⊗ y) (normal_ev r a) (normal_ev r b)

-- every coefficient is 0 as a difference
abbrev pub balanced : List Item → Bool
balanced [] = true
balanced (x ∷ p) = eqb x.c.p x.c.n && balanced p

item_level : (a b x y : ℕ) → a ≡ b → a * x + b * y ≡ a * y + b * x
item_level a b x y h = rw h (omega arith)

balanced_ev : (r : ℕ → Gap) (p : List Item) → T (balanced p) → (ev_p r p).p ≡ (ev_p r p).n
balanced_ev r [] t = refl
balanced_ev r (x ∷ p) t =
    ap₂ (λ (a b : ℕ). a + b) (item_level x.c.p x.c.n (ev_m r x.m).p (ev_m r x.m).n
    (eqb→eq x.c.p x.c.n (and_l (eqb x.c.p x.c.n) (balanced p) t)))
    (balanced_ev r p (and_r (eqb x.c.p x.c.n) (balanced p) t))

-- an expression whose normal form is 0 is 0 at every point
pub ring : (a : Ex) → T (balanced (normal a)) → (r : ℕ → Gap) → (ev r a).p ≡ (ev r a).n
ring a t r =
    ap (λ (x : Gap). x.p) (sym (normal_ev r a)) ∙ balanced_ev r (normal a) t ∙ ap (λ (x : Gap). x.n) (normal_ev r a)
