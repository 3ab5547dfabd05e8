-- The rounding errors of the series of the coefficients. Assumes nothing.
use mathlib.Core.Path.{◌≡◌}
use Prim.Native.Nat.{ℕ, zero, suc, ◌+◌, ◌*◌, ◌/◌, ◌%◌, ◌^◌, ◌≤◌, ◌<◌}
use native.Mathlib.Nat.{mul-pos, suc-mul, zero-lt-suc, div-add-mod', mod-lt, mul-one}
use native.Mathlib.Omega.{arith}
use mathlib.Core.Bool.{Bool, false, ◌&&◌}
use lib.Dec.{T, leb, leb→le, ltb→lt, lit≤}
use lib.Ieee.{Float, Format, emax, sub, mul}
use lib.Ieee.Fits.{and_l, and_r}
use Rattle.ieee.specs.Numbers.{f0, f1}
use Rattle.ieee.specs.Table.{factorial}
use Rattle.ieee.specs.Table as Table
use Rattle.tables.specs.Tables.{recip_fact, recip_rule}
use Rattle.series.specs.Series.{series_first, series_next, series_level, series_sum, g_series, coeffs_delta, series_chi}
use Rattle.series.specs.Floats.{Level}
use Rattle.rounding.specs.Value.{Value, times, value_of, AbsoluteError}
use Rattle.rounding.specs.Roundoff.{rounding_error}
use Rattle.rounding.specs.Tree.{Term, computed, exact, Bound, sum_reach, prod_reach, prod_bound, bound, in_range}
use Rattle.rounding.specs.Tree.{no_overflow, ForwardError}
use Rattle.rounding.specs.Leaves.{Bounded, nth, no_bound, errorless}
use Rattle.accuracy.specs.Series.{exact_recip, recip_size, recip_bound, Five, exact_first, exact_next, exact_level}
use Rattle.accuracy.specs.Series.{tree_next, row, of_level, bound_next, next_no_overflow, bound_level}
use Rattle.accuracy.specs.Series.{level_no_overflow, Part, xi_part, zeta_part, dxi_part, dzeta_part, part, exact_term}
use Rattle.accuracy.specs.Series.{bound_term, term_no_overflow, exact_total, bound_total, total_no_overflow}
use Rattle.accuracy.specs.Series.{exact_horner, bound_horner, horner_no_overflow, exact_chi, tree_chi, total_holds}
use Rattle.accuracy.specs.Series.{horner_holds, chi_leaves, chi_holds}
use Rattle.rounding.proofs.Roundoff.{rounding-error}
use Rattle.rounding.proofs.Forward.{forward_error, forward_sum, forward_prod, error_wider}
use Rattle.rounding.proofs.Leaves.{leaf_forward, most-signed}

-- ---- the constants
zero-within : (w : ℕ) → ForwardError w f0 (value_of f0) no_bound
zero-within w = leaf_forward w f0 0 (omega arith)

pub one_forward : (w : ℕ) → ForwardError w f1 (value_of f1) (record { magnitude = w; error = 0 })
one_forward w = leaf_forward w f1 w (omega arith)

-- ---- the reciprocals of factorials
pub factorial_pos : (n : ℕ) → 0 < factorial n
unfolding factorial
factorial_pos zero = lit≤ tt
factorial_pos (suc n) = mul-pos (zero-lt-suc n) (factorial_pos n)

recip_size_lem : (w n : ℕ) → w * 1 ≤ recip_size w n * factorial n
recip_size_lem w n = go (factorial n) (factorial_pos n)
  where
    go : (d : ℕ) → 0 < d → w * 1 ≤ suc (w / d) * d
    go d h =
        let e : w / d * d + w % d ≡ w = div-add-mod' w d in let l : w % d < d = mod-lt w h in
        rw (mul-one, suc-mul) (omega arith)

recip_within : (f : Format) (w n : ℕ) → T (in_range f w (recip_size w n)) →
    ForwardError w (recip_fact f n) (exact_recip n) (recip_bound f w n)
unfolding recip_fact recip_rule Table.rounded
recip_within f w n t =
    let x = recip_size w n in
    record {
      close =
          rounding-error f w x false 1 (factorial n) (factorial_pos n) (recip_size_lem w n)
          (ltb→lt (x + rounding_error f w x) (2 ^ suc (emax f) * w) t);
      size = most-signed w x false 1 (factorial n) (recip_size_lem w n);
      above = factorial_pos n;
    }

-- ---- the recurrence
pub record FiveForwardError (w : ℕ) (x : Five Float) (v : Five Value) (b : Five Bound) : Type 0 where
  pub p : ForwardError w x.p v.p b.p
  pub xi : ForwardError w x.xi v.xi b.xi
  pub zeta : ForwardError w x.zeta v.zeta b.zeta
  pub dxi : ForwardError w x.dxi v.dxi b.dxi
  pub dzeta : ForwardError w x.dzeta v.dzeta b.dzeta

row_within : (w : ℕ) (x y : Float) (v u : Value) (a b : Bound) (l : Five Float) (m : Five Value) (c : Five Bound) →
    ForwardError w x v a → ForwardError w y u b → FiveForwardError w l m c
    → (i : ℕ) → ForwardError w (nth f0 (row x y l) i) (nth (value_of f0) (row v u m) i) (nth no_bound (row a b c) i)
row_within w x y v u a b l m c h k g zero = h
row_within w x y v u a b l m c h k g (suc zero) = k
row_within w x y v u a b l m c h k g (suc (suc zero)) = g.p
row_within w x y v u a b l m c h k g (suc (suc (suc zero))) = g.xi
row_within w x y v u a b l m c h k g (suc (suc (suc (suc zero)))) = g.zeta
row_within w x y v u a b l m c h k g (suc (suc (suc (suc (suc zero))))) = g.dxi
row_within w x y v u a b l m c h k g (suc (suc (suc (suc (suc (suc zero)))))) = g.dzeta
row_within w x y v u a b l m c h k g (suc (suc (suc (suc (suc (suc (suc i))))))) = zero-within w

next-within : (f : Format) (w : ℕ) (x y : Float) (v u : Value) (a b : Bound) (l : Level) (m : Five Value)
    (c : Five Bound) → 0 < w
    → ForwardError w x v a → ForwardError w y u b → FiveForwardError w (of_level l) m c → T (next_no_overflow f w a b c)
    → FiveForwardError w (of_level (series_next f x y l)) (exact_next v u m) (bound_next f w a b c)
unfolding computed exact series_next exact_next bound_next next_no_overflow tree_next sub
next-within f w x y v u a b l m c z h k g t =
    let e = nth no_bound (row a b c) in
    let s : (r : Term) → Bool = λ r. no_overflow f w e r in
    let go : (r : Term) → T (s r) → ForwardError w (computed f (nth f0 (row x y (of_level l))) r)
    (exact (nth (value_of f0) (row v u m)) r) (bound f w e r) =
    λ r q. forward_error f w (nth f0 (row x y (of_level l))) (nth (value_of f0) (row v u m)) e z
    (row_within w x y v u a b (of_level l) m c h k g) r q in
    let t1 : T (s tree_next.xi && (s tree_next.zeta && (s tree_next.dxi && s tree_next.dzeta))) = and_r (s tree_next.p)
    (s tree_next.xi && (s tree_next.zeta && (s tree_next.dxi && s tree_next.dzeta))) t in
    let t2 : T (s tree_next.zeta && (s tree_next.dxi && s tree_next.dzeta)) =
    and_r (s tree_next.xi) (s tree_next.zeta && (s tree_next.dxi && s tree_next.dzeta)) t1 in
    let t3 : T (s tree_next.dxi && s tree_next.dzeta) = and_r (s tree_next.zeta)
    (s tree_next.dxi && s tree_next.dzeta) t2 in
    record {
      p =
          go tree_next.p
          (and_l (s tree_next.p) (s tree_next.xi && (s tree_next.zeta && (s tree_next.dxi && s tree_next.dzeta))) t);
      xi = go tree_next.xi (and_l (s tree_next.xi) (s tree_next.zeta && (s tree_next.dxi && s tree_next.dzeta)) t1);
      zeta = go tree_next.zeta (and_l (s tree_next.zeta) (s tree_next.dxi && s tree_next.dzeta) t2);
      dxi = go tree_next.dxi (and_l (s tree_next.dxi) (s tree_next.dzeta) t3);
      dzeta = go tree_next.dzeta (and_r (s tree_next.dxi) (s tree_next.dzeta) t3);
    }

first-within : (f : Format) (w : ℕ) (a b : Bound) → FiveForwardError w (of_level series_first) exact_first
    (bound_level f w a b 0)
unfolding series_first exact_first bound_level
first-within f w a b =
    record { p = one_forward w; xi = zero-within w; zeta = zero-within w; dxi = zero-within w; dzeta = zero-within w }

module _ (f : Format) (w : ℕ) (x y : Float) (v u : Value) (a b : Bound) (z : 0 < w) (h : ForwardError w x v a)
    (k : ForwardError w y u b) where
  pub level_forward : (j : ℕ) → T (level_no_overflow f w a b j) →
      FiveForwardError w (of_level (series_level f x y j)) (exact_level v u j) (bound_level f w a b j)
  unfolding series_level exact_level bound_level level_no_overflow
  level_forward zero t = first-within f w a b
  level_forward (suc j) t =
      let s = level_no_overflow f w a b j in
      let n = next_no_overflow f w a b (bound_level f w a b j) in
      next-within f w x y v u a b (series_level f x y j) (exact_level v u j) (bound_level f w a b j) z h k
      (level_forward j (and_l s n t)) (and_r s n t)

  part-within : (c : Part) (l : Five Float) (m : Five Value) (d : Five Bound) → FiveForwardError w l m d →
      ForwardError w (part c l) (part c m) (part c d)
  part-within xi_part l m d g = g.xi
  part-within zeta_part l m d g = g.zeta
  part-within dxi_part l m d g = g.dxi
  part-within dzeta_part l m d g = g.dzeta

  -- ---- a term
  pub term_forward : (c : Part) (o j : ℕ) → T (term_no_overflow f w a b c o j) → ForwardError w
      (mul f (part c (of_level (series_level f x y j))) (recip_fact f (j + o))) (exact_term v u c o j)
      (bound_term f w a b c o j)
  unfolding exact_term bound_term term_no_overflow
  term_forward c o j t =
      let l = level_no_overflow f w a b j in
      let i = in_range f w (recip_size w (j + o)) in
      let m = in_range f w (prod_reach w (part c (bound_level f w a b j)) (recip_bound f w (j + o))) in
      let r : T (i && m) = and_r l (i && m) t in
      forward_prod f w (part c (of_level (series_level f x y j))) (recip_fact f (j + o)) (part c (exact_level v u j))
      (exact_recip (j + o)) (part c (bound_level f w a b j)) (recip_bound f w (j + o)) z
      (part-within c (of_level (series_level f x y j)) (exact_level v u j) (bound_level f w a b j)
      (level_forward j (and_l l (i && m) t)))
      (recip_within f w (j + o) (and_l i m r)) (and_r i m r)

-- ---- a sum from the left
pub total_forward : (f : Format) (w : ℕ) (t : ℕ → Float) (v : ℕ → Value) (b : ℕ → Bound) (ok : ℕ → Bool) → 0 < w →
    ((j : ℕ) → T (ok j) → ForwardError w (t j) (v j) (b j)) → (n : ℕ) → T (total_no_overflow f w ok b n)
    → ForwardError w (series_sum f t n) (exact_total v n) (bound_total f w b n)
unfolding series_sum exact_total bound_total total_no_overflow
total_forward f w t v b ok z h zero s = zero-within w
total_forward f w t v b ok z h (suc n) s =
    let p = total_no_overflow f w ok b n in
    let i = in_range f w (sum_reach (bound_total f w b n) (b n)) in
    let r : T (ok n && i) = and_r p (ok n && i) s in
    forward_sum f w (series_sum f t n) (t n) (exact_total v n) (v n) (bound_total f w b n) (b n) z
    (total_forward f w t v b ok z h n (and_l p (ok n && i) s)) (h n (and_l (ok n) i r)) (and_r (ok n) i r)

-- ---- Horner's sum
pub horner_forward : (f : Format) (w : ℕ) (x : Float) (v : Value) (a : Bound) → 0 < w → ForwardError w x v a →
    (l n : ℕ) → T
    (horner_no_overflow f w a l n) → ForwardError w (g_series f x l n) (exact_horner v l n) (bound_horner f w a l n)
unfolding g_series exact_horner bound_horner horner_no_overflow
horner_forward f w x v a z h l zero s = zero-within w
horner_forward f w x v a z h l (suc n) s =
    let b = bound_horner f w a (suc l) n in
    let p = horner_no_overflow f w a (suc l) n in
    let i = in_range f w (recip_size w l) in
    let j = in_range f w (prod_reach w a b) in
    let m = in_range f w (sum_reach (recip_bound f w l) (prod_bound f w a b)) in
    let r : T (i && (j && m)) = and_r p (i && (j && m)) s in
    let q : T (j && m) = and_r i (j && m) r in
    forward_sum f w (recip_fact f l) (mul f x (g_series f x (suc l) n)) (exact_recip l)
    (times v (exact_horner v (suc l) n)) (recip_bound f w l)
    (prod_bound f w a b) z (recip_within f w l (and_l i (j && m) r))
    (forward_prod f w x (g_series f x (suc l) n) v (exact_horner v (suc l) n) a b z h
    (horner_forward f w x v a z h (suc l) n (and_l p (i && (j && m)) s)) (and_l j m q))
    (and_r j m q)

-- ---- with the tests
within-close : (w : ℕ) (x : Float) (v : Value) (b : Bound) (e : ℕ) → ForwardError w x v b → T (leb b.error e) →
    AbsoluteError w x v e
within-close w x v b e h t = error_wider w x v b.error e (leb→le b.error e t) h.close

module _ (f : Format) (w s y : ℕ) (sigma z : Float) (p : 0 < w) (hs : Bounded w sigma s) (hz : Bounded w z y) where
  pub total-close : (c : Part) (o n e : ℕ) → T (total_holds f w (errorless s) (errorless y) c o n e)
      → AbsoluteError w (series_sum f (λ j. mul f (part c (of_level (series_level f sigma z j))) (recip_fact f (j + o)))
      n)
      (exact_total (exact_term (value_of sigma) (value_of z) c o) n) e
      × (0 < (exact_total (exact_term (value_of sigma) (value_of z) c o) n).d)
  unfolding total_holds
  total-close c o n e t =
      let a = errorless s in
      let b = errorless y in
      let q = total_no_overflow f w (term_no_overflow f w a b c o) (bound_term f w a b c o) n in
      let d = bound_total f w (bound_term f w a b c o) n in
      let g =
      total_forward f w (λ j. mul f (part c (of_level (series_level f sigma z j))) (recip_fact f (j + o)))
      (exact_term (value_of sigma) (value_of z) c o)
      (bound_term f w a b c o) (term_no_overflow f w a b c o) p
      (λ j t. term_forward f w sigma z (value_of sigma) (value_of z) a b p (leaf_forward w sigma s hs)
      (leaf_forward w z y hz) c o j t) n (and_l q (leb d.error e) t) in (
        within-close w (series_sum f (λ j. mul f (part c (of_level (series_level f sigma z j))) (recip_fact f (j + o)))
            n)
            (exact_total (exact_term (value_of sigma) (value_of z) c o) n) d e g (and_r q (leb d.error e) t),
        g.above,
      )

  pub horner_close : (l n e : ℕ) → T (horner_holds f w (errorless s) l n e) →
      AbsoluteError w (g_series f sigma l n) (exact_horner (value_of sigma) l n) e
      × (0 < (exact_horner (value_of sigma) l n).d)
  unfolding horner_holds
  horner_close l n e t =
      let a = errorless s in
      let q = horner_no_overflow f w a l n in
      let d = bound_horner f w a l n in
      let g = horner_forward f w sigma (value_of sigma) a p (leaf_forward w sigma s hs) l n
      (and_l q (leb d.error e) t) in (
        within-close w (g_series f sigma l n) (exact_horner (value_of sigma) l n) d e g
            (and_r q (leb d.error e) t),
        g.above,
      )

  chi-within : (k : ℕ) (i : ℕ) → ForwardError w (g_series f sigma 1 k) (exact_horner (value_of sigma) 1 k)
      (bound_horner f w (errorless s) 1 k)
      → ForwardError w (series_sum f (λ j. mul f (part zeta_part (of_level (series_level f sigma z j)))
      (recip_fact f (j + 1))) (k + 2))
      (exact_total (exact_term (value_of sigma) (value_of z) zeta_part 1) (k + 2))
      (bound_total f w (bound_term f w (errorless s) (errorless y) zeta_part 1) (k + 2))
      → ForwardError w (nth f0 (chi_leaves sigma z (g_series f sigma 1 k)
      (series_sum f (λ j. mul f (part zeta_part (of_level (series_level f sigma z j))) (recip_fact f (j + 1)))
      (k + 2))) i)
      (nth (value_of f0) (chi_leaves (value_of sigma) (value_of z) (exact_horner (value_of sigma) 1 k)
      (exact_total (exact_term (value_of sigma) (value_of z) zeta_part 1) (k + 2))) i)
      (nth no_bound (chi_leaves (errorless s) (errorless y) (bound_horner f w (errorless s) 1 k)
      (bound_total f w (bound_term f w (errorless s) (errorless y) zeta_part 1) (k + 2))) i)
  chi-within k zero h g = leaf_forward w sigma s hs
  chi-within k (suc zero) h g = leaf_forward w z y hz
  chi-within k (suc (suc zero)) h g = h
  chi-within k (suc (suc (suc zero))) h g = g
  chi-within k (suc (suc (suc (suc i)))) h g = zero-within w

  pub chi-close : (k e : ℕ) → T (chi_holds f w (errorless s) (errorless y) k e)
      → AbsoluteError w (series_chi f sigma z (g_series f sigma 1 k)
      (series_sum f (λ j. mul f (part zeta_part (of_level (series_level f sigma z j))) (recip_fact f (j + 1)))
      (k + 2)))
      (exact_chi (value_of sigma) (value_of z) (exact_horner (value_of sigma) 1 k)
      (exact_total (exact_term (value_of sigma) (value_of z) zeta_part 1) (k + 2))) e
  unfolding chi_holds series_chi coeffs_delta exact_chi tree_chi computed exact sub
  chi-close k e t =
      let a = errorless s in
      let b = errorless y in
      let v0 = g_series f sigma 1 k in
      let v2 = series_sum f (λ j. mul f (part zeta_part (of_level (series_level f sigma z j))) (recip_fact f (j + 1)))
      (k + 2) in
      let e0 = exact_horner (value_of sigma) 1 k in
      let e2 = exact_total (exact_term (value_of sigma) (value_of z) zeta_part 1) (k + 2) in
      let b0 = bound_horner f w a 1 k in
      let b2 = bound_total f w (bound_term f w a b zeta_part 1) (k + 2) in
      let l = nth no_bound (chi_leaves a b b0 b2) in
      let s0 = horner_no_overflow f w a 1 k in
      let s2 = total_no_overflow f w (term_no_overflow f w a b zeta_part 1) (bound_term f w a b zeta_part 1) (k + 2) in
      let sc = no_overflow f w l tree_chi in
      let d = leb (bound f w l tree_chi).error e in
      let r : T (s2 && (sc && d)) = and_r s0 (s2 && (sc && d)) t in
      let q : T (sc && d) = and_r s2 (sc && d) r in
      let h = horner_forward f w sigma (value_of sigma) a p (leaf_forward w sigma s hs) 1 k
      (and_l s0 (s2 && (sc && d)) t) in
      let g =
      total_forward f w (λ j. mul f (part zeta_part (of_level (series_level f sigma z j))) (recip_fact f (j + 1)))
      (exact_term (value_of sigma) (value_of z) zeta_part 1) (bound_term f w a b zeta_part 1)
      (term_no_overflow f w a b zeta_part 1) p
      (λ j t. term_forward f w sigma z (value_of sigma) (value_of z) a b p (leaf_forward w sigma s hs)
      (leaf_forward w z y hz) zeta_part 1 j t) (k + 2) (and_l s2 (sc && d) r) in
      within-close w (computed f (nth f0 (chi_leaves sigma z v0 v2)) tree_chi)
      (exact (nth (value_of f0) (chi_leaves (value_of sigma) (value_of z) e0 e2)) tree_chi) (bound f w l tree_chi) e
      (forward_error f w (nth f0 (chi_leaves sigma z v0 v2))
      (nth (value_of f0) (chi_leaves (value_of sigma) (value_of z) e0 e2)) l p (λ i. chi-within k i h g) tree_chi
      (and_l sc d q))
      (and_r sc d q)
