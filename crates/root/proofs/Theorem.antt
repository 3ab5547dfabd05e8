-- `root_theorem`: for every double above 0 the answer is what the request specifies, nothing else is, its double is the
-- correctly rounded square root, and its numbers lie in their ranges; for a zero it has zeros, and each refusal has its
-- number. Assumes nothing.
use mathlib.Core.Path.{◌≡◌, refl, sym, ap, ◌∙◌, subst}
use mathlib.Core.Logic.{inl, inr}
use Prim.Native.Nat.{ℕ, zero, suc, ◌+◌, ◌-◌, ◌*◌, ◌/◌, ◌%◌, ◌^◌, ◌≤◌, ◌<◌}
use native.Mathlib.Nat.{lt_of_lt_of_le, mul-pos, mul-le-mul, mul-le-mul_right, zero-mul, eq_of_mul-eq-mul_right}
use native.Mathlib.Omega.{arith}
use mathlib.Core.Bool.{Bool, true, false}
use borrow.Author.Tests.{lt-ltb, le-ltb}
use lib.IntN.{ℤ, pos, sub_ℕ}
use lib.Dec.{T, lit<}
use lib.Pow.{pow-add, pow_pos, pow_mono, shl_lt}
use lib.Ieee.{Float, nan, inf, fin, binary64, up, down, units, round, lt, le, fits, to_bits, of_bits}
use lib.Ieee.Order.{le_of_values}
use lib.Ieee.Positive.{positive}
use lib.Ieee.Exact.{HasValue, round_exact}
use lib.Ieee.Nearest.{closest}
use lib.Ieee.Scale.{round_same}
use lib.Ieee.Fits.{down_pos, round-fits}
use Rattle.std.proofs.lemmas.Nat.{mul-pow}
use Rattle.std.proofs.lemmas.Bool.{cases_lt}
use Rattle.ieee.specs.Numbers.{f0}
use Rattle.ieee.specs.Patterns.{units_of, field_units, pattern_units}
use Rattle.ieee.proofs.Values.{value_cross}
use Rattle.ieee.proofs.Patterns.{pattern_below, pattern_pos, pattern_units_lem, pattern_value, units_exact, units_are}
use Rattle.linalg.specs.Answer.{answers}
use Rattle.root.specs.Root.{whole_root, quarters, nearer, parts_at, root_parts, root_zero, root_from, root_of}
use Rattle.root.specs.Private.{ScaledTo}
use Rattle.root.specs.Theorem.{Largest, RootIs, Nearer, Rounded, Beside, Ranges, Answered, RootTheorem}
use Rattle.root.proofs.Largest.{whole-root_largest}
use Rattle.root.proofs.Cases.{below, from}
use Rattle.root.proofs.Only.{root-only}
use Rattle.root.proofs.Digits.{scaled}
use Rattle.root.proofs.Assembly.{quarters-is, whole-m, whole_even, range, r_range, v_range, next_small}
use Rattle.root.proofs.Assembly.{either, regroup}
use Rattle.root.proofs.Level.{level_of, level-at}
use Rattle.root.proofs.Rounding.{closest_down, closest_up, round_whole}
use Rattle.root.proofs.Nearest.{Within, half-below, half-above, double-nearer}

-- ---- 2 ^ s for s = j − k: up s / down s is 2 ^ j / 2 ^ k
power_of : (j k : ℕ) → up (sub_ℕ j k) * 2 ^ k ≡ 2 ^ j * down (sub_ℕ j k)
power_of j k = elim (cases_lt j k) [
  | inl l ↦
      let e : j + suc (k - suc j) ≡ k = omega arith in
      rw (lt-ltb j k l) (one (2 ^ k) ∙ sym (ap (λ (x : ℕ). 2 ^ x) e) ∙ pow-add 2 j (suc (k - suc j)))
  | inr l ↦
      let e : j - k + k ≡ j = omega arith in
      rw (le-ltb j k l) (sym (pow-add 2 (j - k) k) ∙ ap (λ (x : ℕ). 2 ^ x) e ∙ sym (last (2 ^ j)))
]
  where
    one : (x : ℕ) → 1 * x ≡ x
    one x = omega arith

    last : (x : ℕ) → x * 1 ≡ x
    last x = omega arith

-- a value of a / 2 ^ k times 2 ^ j is one of a times up s over down s
to-exponent : (x : Float) (a j k : ℕ) → HasValue x false (a * 2 ^ j) (2 ^ k) →
    HasValue x false (a * up (sub_ℕ j k)) (down (sub_ℕ j k))
to-exponent nan a j k h = h
to-exponent (inf s) a j k h = h
to-exponent (fin s m e) a j k h = (
  h.0,
  eq_of_mul-eq-mul_right (2 ^ k) (pow_pos k) _ _ (go (m * up e) (down e) (down (sub_ℕ j k)) (up (sub_ℕ j k))
      (2 ^ k) (2 ^ j) h.1 (power_of j k)),
)
  where
    go : (x d D U K J : ℕ) → x * K ≡ a * J * d → U * K ≡ J * D → x * D * K ≡ a * U * d * K
    go x d D U K J p q = omega (arith, ap (λ (y : ℕ). y * D) p, ap (λ (y : ℕ). y * (a * d)) q)

-- ---- z from its units: n × 2 ^ 104 = m × 4 ^ j
scale-square : (x d m J K : ℕ) → 0 < K → x * (K * K) ≡ m * (J * J) * d → (U D : ℕ) → U * K ≡ J * D →
    x * (D * D) ≡ m * (U * U) * d
scale-square x d m J K K-pos p U D q =
    eq_of_mul-eq-mul_right (K * K) (mul-pos K-pos K-pos) _ _
    (omega (arith, ap (λ (y : ℕ). y * (D * D)) p, ap (λ (y : ℕ). y * y * (m * d)) q))

-- the j and the m of n units
record Place (n j m : ℕ) : Type 0 where
  digits : ℕ
  multiple : m ≡ digits * 2 ^ 52
  few : j ≤ 1048
  least : 2 ^ 104 ≤ m
  most : m ≤ (2 ^ 53 - 1) * 2 ^ 53
  whole : n * 2 ^ 104 ≡ m * 4 ^ j

place : (n c y : ℕ) → ScaledTo n c y → Place n (quarters n) (n * 2 ^ 104 / 4 ^ quarters n)
place n c y h =
    let J : quarters n ≡ y / 2 = quarters-is n c y h in
    let M : n * 2 ^ 104 / 4 ^ quarters n ≡ c * (1 + y % 2) * 2 ^ 52 =
    ap (λ (j : ℕ). n * 2 ^ 104 / 4 ^ j) J ∙ whole-m n c y h.value in
    let g = range n c y h in
    record {
      digits = c * (1 + y % 2);
      multiple = M;
      few = omega (arith, J, h.few);
      least = rw M g.2;
      most = rw M g.3;
      whole = whole_even n c y h.value ∙ (λ i. sym M i * 4 ^ sym J i);
    }

-- from m alone
module _ (n j m : ℕ) (p : Place n j m) where
  r : ℕ
  r = whole_root 53 m

  v : ℕ
  v = nearer r (m - r * r)

  x : Float
  x = round binary64 false (v * 2 ^ j) (2 ^ 589)

  largest : Largest m r
  unfolding r
  largest = whole-root_largest 53 m (omega (arith, p.most))

  remainder : r * r + (m - r * r) ≡ m
  remainder = omega (arith, largest)

  v-is : v ≡ nearer r (m - r * r)
  unfolding v
  v-is = refl

  r_between : (2 ^ 52 ≤ r) × (r < 2 ^ 53)
  r_between = r_range m r (m - r * r) v p.least p.most remainder (omega (arith, largest)) v-is

  v-between : (2 ^ 52 ≤ v) × (v < 2 ^ 53)
  v-between = v_range m r (m - r * r) v p.least p.most remainder (omega (arith, largest)) v-is

  value : HasValue x false (v * 2 ^ j) (2 ^ 589)
  unfolding x
  value =
      round_exact binary64 false (v * 2 ^ j) (2 ^ 589) v (j + 485) (pow_pos 589) v-between.1
      (lt_of_lt_of_le (shl_lt 53 (j + 485) v-between.1) (pow_mono {j = 2098} (omega (arith, p.few))))
      (rw (pow-add 2 j 485) (sym (regroup v (2 ^ j) (2 ^ 485) (2 ^ 589))))

  -- the units of the double, and the square of √z in units
  double_units : (a : ℕ) → HasValue x false a (2 ^ 1074) → a ≡ v * 2 ^ (j + 485)
  double_units a h =
      rw (pow-add 2 j 485) (go a (2 ^ 589) (2 ^ j) (2 ^ 485) (pow_pos 589)
      (value_cross x false false a (2 ^ 1074) (v * 2 ^ j) (2 ^ 589) h value))
    where
      go : (a K J Q : ℕ) → 0 < K → a * K ≡ v * J * (Q * K) → a ≡ v * (J * Q)
      go a K J Q k e = eq_of_mul-eq-mul_right K k a (v * (J * Q)) (omega arith)

  square : n * 2 ^ 1074 ≡ m * (2 ^ (j + 485) * 2 ^ (j + 485))
  square = rw (pow-add 2 j 485) (go (2 ^ 104) (2 ^ 485) (2 ^ j) (p.whole ∙ ap (λ (y : ℕ). m * y) (mul-pow 2 2 j)))
    where
      go : (X Q J : ℕ) → n * X ≡ m * (J * J) → n * (X * (Q * Q)) ≡ m * (J * Q * (J * Q))
      go X Q J e = omega (arith, ap (λ (y : ℕ). y * (Q * Q)) e)

  nearest : (y : Float) (t : Bool) (b : ℕ) → T (fits binary64 y) → HasValue y t b (2 ^ 1074) →
      Nearer n (v * 2 ^ (j + 485)) t b
  nearest y t b f h =
      let w = v - 1 in
      let e : w + 1 ≡ v = omega (arith, v-between.0) in
      let i : Within m w = record {
        full = rw e v-between.0;
        least = p.least;
        low = half-below m r (m - r * r) w largest remainder (omega (arith, r_between.0)) (e ∙ v-is);
        high = half-above m r (m - r * r) (w + 1) largest remainder (e ∙ v-is);
      } in
      subst (λ (z : ℕ). Nearer n (z * 2 ^ (j + 485)) t b) e (double-nearer n m (j + 485) w square i y t b f h)

  -- z is x' / d
  exact : (x' d : ℕ) → x' * 2 ^ 1074 ≡ n * d → x' * (down (sub_ℕ j 589) * down (sub_ℕ j 589))
      ≡ m * (up (sub_ℕ j 589) * up (sub_ℕ j 589)) * d
  exact x' d h =
      scale-square x' d m (2 ^ j) (2 ^ 589) (pow_pos 589) (go (2 ^ 1074) (2 ^ 104) h
      (p.whole ∙ ap (λ (y : ℕ). m * y) (mul-pow 2 2 j)))
      (up (sub_ℕ j 589)) (down (sub_ℕ j 589)) (power_of j 589)
    where
      go : (L S : ℕ) → x' * L ≡ n * d → n * S ≡ m * (2 ^ j * 2 ^ j) → x' * (L * S) ≡ m * (2 ^ j * 2 ^ j) * d
      go L S a b = omega (arith, ap (λ (y : ℕ). y * S) a, ap (λ (y : ℕ). y * d) b)

  -- z is m × 4 ^ (j − 589)
  abbrev Scales : Float → Type 0
  Scales z = HasValue z false (m * (up (sub_ℕ j 589) * up (sub_ℕ j 589))) (down (sub_ℕ j 589) * down (sub_ℕ j 589))

  is-root : (z : Float) → Scales z → RootIs z (parts_at j m (whole_root 53 m))
  unfolding r v x
  is-root z h = record {
    m = m;
    scaling = record { value = h; least = p.least; most = omega (arith, p.most) };
    root = largest;
    remainder = remainder;
    double = round-fits binary64 false (v * 2 ^ j) (2 ^ 589);
    nearest = to-exponent x v j 589 value;
  }

  -- ---- the ranges
  least-normal : pattern_units binary64 0x0010000000000000 ≡ 2 ^ 52
  unfolding pattern_units field_units
  least-normal = refl

  normal : T (le (of_bits binary64 0x0010000000000000) x)
  normal =
      let b : ℕ = 0x0010000000000000 in
      le_of_values (of_bits binary64 b) x (pattern_units binary64 b) (2 ^ 1074) (v * 2 ^ j) (2 ^ 589) (pow_pos 1074)
      (pow_pos 589)
      (pattern_value binary64 b (lit< tt)) value
      (rw least-normal (go (2 ^ 589) (2 ^ 485) (2 ^ j) (pow_pos 485) (pow_pos j)))
    where
      times : (a Q K : ℕ) → 2 ^ 52 ≤ a → 0 < Q → 2 ^ 52 * K ≤ a * (Q * K)
      times a Q K h q = mul-le-mul h (omega (arith, mul-le-mul_right K q))

      go : (K Q S : ℕ) → 0 < Q → 0 < S → 2 ^ 52 * K ≤ v * S * (Q * K)
      go K Q S Q-pos S_pos = times (v * S) Q K (omega (arith, mul-le-mul v-between.0 S_pos)) Q-pos

  ranges : Ranges m (parts_at j m (whole_root 53 m))
  unfolding r v x
  ranges = record {
    j = j;
    few = p.few;
    exponent = refl;
    least = r_between.0;
    most = r_between.1;
    next = next_small m r (m - r * r) v p.least p.most remainder (omega (arith, largest)) v-is;
    normal = normal;
    level =
        λ e.
        level_of p.digits r m r_between.0 r_between.1 p.multiple
        (sym remainder ∙ ap (λ (y : ℕ). r * r + y) e);
    level_at = λ l. level-at r m largest l;
  }

  ranges_of : (z : Float) (h : Scales z) → Ranges (is-root z h).m (parts_at j m (whole_root 53 m))
  unfolding is-root
  ranges_of z h = ranges

  rounded : (z : Float) → ((a : ℕ) → HasValue z false a (2 ^ 1074) → a ≡ n) →
      Rounded z (parts_at j m (whole_root 53 m)).nearest
  unfolding r v x
  rounded z only = record {
    nearer =
        λ y f n' a t b h k l.
        subst (λ (i : ℕ). Nearer i a t b) (sym (only n' h)) (subst (λ (i : ℕ). Nearer n i t b) (sym (double_units a k))
        (nearest y t b f l));
  }

  -- ---- the format's rounding
  itself : x ≡ units binary64 false v (j + 485)
  unfolding x
  itself =
      round_whole v 1 j (lit< tt) (omega (arith, v-between)) (omega (arith, v-between))
      ∙ ap (λ (y : ℕ). units binary64 false y (j + 485)) (closest_down v 1 v (omega arith) (omega arith) (omega arith))

  closest_is : (a q : ℕ) → Beside r (m - r * r) a q → closest a q ≡ v
  closest_is a q b = elim (either r (m - r * r) v v-is) [
    | inl h ↦ closest_down a q r b.from b.to (b.below h.0) ∙ sym h.1
    | inr h ↦ closest_up a q r b.from b.to (b.above h.0) ∙ sym h.1
  ]

  rounding : (a q : ℕ) → Beside r (m - r * r) a q → round binary64 false (a * 2 ^ j) (q * 2 ^ 589) ≡ x
  rounding a q b =
      round_whole a q j b.some (omega (arith, b.from, mul-le-mul_right q r_between.0))
      (omega (arith, b.to, mul-le-mul_right q r_between.1))
      ∙ ap (λ (y : ℕ). units binary64 false y (j + 485)) (closest_is a q b)
      ∙ sym itself

  rounds : (a q : ℕ) → Beside r (m - r * r) a q → round binary64 false (a * up (sub_ℕ j 589)) (q * down (sub_ℕ j 589))
      ≡ x
  rounds a q b =
      round_same binary64 false (a * up (sub_ℕ j 589)) (q * down (sub_ℕ j 589)) (a * 2 ^ j) (q * 2 ^ 589)
      (mul-pos b.some (down_pos (sub_ℕ j 589))) (mul-pos b.some (pow_pos 589))
      (go (up (sub_ℕ j 589)) (down (sub_ℕ j 589)) (2 ^ j) (2 ^ 589) (power_of j 589))
      ∙ rounding a q b
    where
      go : (U D J K : ℕ) → U * K ≡ J * D → a * U * (q * K) ≡ a * J * (q * D)
      go U D J K e = omega (arith, ap (λ (y : ℕ). y * (a * q)) e)

  fraction : (a q : ℕ) → Beside (parts_at j m (whole_root 53 m)).root (parts_at j m (whole_root 53 m)).remainder a q
      → round binary64 false (a * up (sub_ℕ j 589)) (q * down (sub_ℕ j 589)) ≡ (parts_at j m (whole_root 53 m)).nearest
  unfolding r v x
  fraction a q b = rounds a q b

-- ---- for every double above 0
above_zero_lem : (k : ℕ) (e : ℤ) → lt (fin false (suc k) e) f0 ≡ false
unfolding lt
above_zero_lem k e = le-ltb (suc k * up e * 1) (0 * 1 * down e) (omega (arith, zero-mul (down e)))

answered : (k : ℕ) (e : ℤ) → root_of (fin false (suc k) e) ≡ answers (root_parts (units_of binary64 (suc k) e))
unfolding root_from
answered k e = sym (from (fin false (suc k) e) (above_zero_lem k e))

at-double : (k : ℕ) (e : ℤ) → T (fits binary64 (fin false (suc k) e)) → Answered (fin false (suc k) e)
unfolding root_parts
at-double k e t =
    let z = fin false (suc k) e in
    let b = to_bits binary64 z in
    let n = units_of binary64 (suc k) e in
    let s = scaled b (pattern_pos binary64 k e t) (pattern_below binary64 (suc k) e t) in
    let h : ScaledTo n s.0 s.1 = rw (pattern_units_lem binary64 (suc k) e t) s.2 in
    let j = quarters n in
    let m = n * 2 ^ 104 / 4 ^ j in
    let p : Place n j m = place n s.0 s.1 h in
    let v : Scales n j m p z = (refl, exact n j m p (suc k * up e) (down e) (units_exact binary64 (suc k) e t)) in
    let is = is-root n j m p z v in
    record {
      parts = root_parts n;
      answered = answered k e;
      is = is;
      only = λ q i. root-only z q (root_parts n) i is;
      ranges = ranges_of n j m p z v;
      rounded = rounded n j m p z (λ a v. units_are binary64 false false (suc k) e a t v);
      rounds = fraction n j m p;
    }

above : (z : Float) → T (fits binary64 z) → T (positive z) → Answered z
above nan t p = absurd p
above (inf s) t p = absurd p
above (fin true k e) t p = absurd p
above (fin false zero e) t p = absurd p
above (fin false (suc k) e) t p = at-double k e t

pub root_theorem : RootTheorem
unfolding root_of root_from lt
root_theorem = record {
  above_zero = above;
  zeros = zeros;
  below_zero = λ z h. sym (below z h);
  minus_infinity = refl;
  plus_infinity = refl;
  not_a_number = refl;
}
  where
    zeros : (s : Bool) → root_of (fin s 0 (pos 0)) ≡ answers (root_zero (fin s 0 (pos 0)))
    zeros true = refl
    zeros false = refl
