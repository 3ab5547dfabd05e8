-- How far e^x moves with x, and so the scale of the running pose with the rounding errors of σ. Assumes nothing.
use mathlib.Core.Path.{◌≡◌, sym, subst, subst₂}
use mathlib.Core.List.{List, [], ◌∷◌}
use Prim.Native.Nat.{ℕ, zero, suc, ◌+◌, ◌*◌, ◌^◌, ◌≤◌, ◌<◌}
use native.Mathlib.Nat.{one-mul, suc-mul, mul_comm, mul-pos, one-le-pow, mul-le-mul_left, mul-le-mul_right, pow-suc}
use native.Mathlib.Nat.{pow-zero}
use native.Mathlib.Omega.{arith}
use lib.Dec.{eqb, lit≤, lit<}
use lib.Ieee.{Float, Format, binary32, binary64}
use Rattle.std.specs.Prelude.{Some, None}
use Rattle.ieee.specs.Numbers.{f1}
use Rattle.ieee.specs.Table.{factorial}
use Rattle.frames.specs.Floats.{Pose}
use Rattle.running.specs.Running.{Start}
use Rattle.rounding.specs.Value.{Value, times, value_of, AtMost, Near}
use Rattle.rounding.proofs.Differences.{expand}
use Rattle.rounding.proofs.Fractions.{near_trans, most-near, most_wider}
use Rattle.rounding.proofs.Forward.{error_trans, error_wider}
use Rattle.rounding.proofs.Leaves.{value-above, error-near}
use Rattle.accuracy.specs.Series.{exact_recip, exact_total}
use Rattle.accuracy.proofs.Series.{factorial_pos}
use Rattle.accuracy.proofs.HornerTail.{near_factor, near_convert, most_factor, recip_most}
use Rattle.accuracy.proofs.Tail.{totals-near}
use Rattle.accuracy.proofs.ApartSums.{powers-most}
use Rattle.accuracy.proofs.ExactNorm.{times-comm}
use Rattle.running_accuracy.specs.Running.{Step, joins, renews, pose_after}
use Rattle.running_accuracy.specs.Sigma.{exact_sigma, SumsIn, SigmaError}
use Rattle.running_accuracy.specs.Scale.{exact_power, exact_exp, ExpError, HostScale, ScaleAccurate, ScaleTheorem}
use Rattle.running_accuracy.proofs.Choice.{either}
use Rattle.running_accuracy.proofs.Sigma.{sigma_accurate}

power-above : (x : Value) → 0 < x.d → (j : ℕ) → 0 < (exact_power x j).d
unfolding exact_power
power-above x h zero = value-above f1
power-above x h (suc j) = mul-pos (power-above x h j) h

one-most : AtMost 1 (value_of f1) 1
unfolding value_of
one-most = record { above = omega arith; below = omega arith }

power-most : (w r : ℕ) (x : Value) → AtMost w x r → (j : ℕ) → AtMost (w ^ j) (exact_power x j) (r ^ j)
unfolding exact_power
power-most w r x h zero = rw (pow-zero w, pow-zero r) one-most
power-most w r x h (suc j) = rw (pow-suc w j, pow-suc r j) (most_factor (w ^ j) w (exact_power x j) x (r ^ j) r
    (power-most w r x h j) h)

-- a common factor behind
near-behind : (u v : ℕ) (x y s : Value) (e r : ℕ) → Near u x y e → AtMost v s r → Near (v * u) (times x s) (times y s)
    (r * e)
near-behind u v x y s e r h k =
    subst₂ (λ (p q : Value). Near (v * u) p q (r * e)) (times-comm s x) (times-comm s y) (near_factor v u s x y r e k h)

module _ (w r k : ℕ) (x y : Value) (wp : 0 < w) (xd : 0 < x.d) (yd : 0 < y.d) (hx : AtMost w x r) (hy : AtMost w y r)
    (near : Near w x y k) where
  power-near : (j : ℕ) → Near (w ^ suc j) (exact_power x (suc j)) (exact_power y (suc j)) (suc j * (k * r ^ j))
  unfolding exact_power
  power-near zero =
      subst₂ (λ (u e : ℕ). Near u (times (value_of f1) x) (times (value_of f1) y) e)
      (first w (w ^ 0) (pow-zero w) (pow-suc w 0)) (second k (r ^ 0) (pow-zero r))
      (near_factor 1 w (value_of f1) x y 1 k one-most near)
    where
      first : (w p : ℕ) → p ≡ 1 → w ^ 1 ≡ p * w → 1 * w ≡ w ^ 1
      first w p a b = subst (λ (q : ℕ). w ^ 1 ≡ q * w → 1 * w ≡ w ^ 1) (sym a) (λ c. sym c) b

      second : (k p : ℕ) → p ≡ 1 → 1 * k ≡ 1 * (k * p)
      second k p a = rw a (omega arith)
  power-near (suc j) =
      let A = exact_power x (suc j) in
      let B = exact_power y (suc j) in
      let u = w ^ suc j in
      let one : Near (u * w) (times A x) (times A y) (r ^ suc j * k) = near_factor u w A x y (r ^ suc j) k
      (power-most w r x hx (suc j)) near in
      let two : Near (u * w) (times A y) (times B y) (r * (suc j * (k * r ^ j))) =
      subst (λ (q : ℕ). Near q (times A y) (times B y) (r * (suc j * (k * r ^ j)))) (mul_comm w u)
      (near-behind u w A B y (suc j * (k * r ^ j)) r (power-near j) hy) in
      subst₂ (λ (q e : ℕ). Near q (times A x) (times B y) e) (sym (pow-suc w (suc j)))
      (last r k j (r ^ j) (r ^ suc j) (pow-suc r j))
      (near_trans (u * w) (times A x) (times A y) (times B y) (r ^ suc j * k) (r * (suc j * (k * r ^ j)))
      (mul-pos (power-above x xd (suc j)) yd) one two)
    where
      last : (r k j p q : ℕ) → q ≡ p * r → q * k + r * (suc j * (k * p)) ≡ suc (suc j) * (k * q)
      last r k j p q e = subst (λ (q : ℕ). q * k + r * (suc j * (k * p)) ≡ suc (suc j) * (k * q)) (sym e)
          (go r k (suc j) p)
        where
          go : (r k n p : ℕ) → p * r * k + r * (n * (k * p)) ≡ suc n * (k * (p * r))
          go r k n p = rw (suc-mul n (k * (p * r))) (simp expand (omega arith))

  abbrev term : Value → ℕ → Value
  term v j = times (exact_power v j) (exact_recip j)

  module _ (a : ℕ) (powers : (j : ℕ) → 2 ^ j * r ^ j ≤ a * (w ^ j * factorial j)) (c : ℕ) (fits : k * a ≤ c) where
    halves : (j : ℕ) → Near (w * 2 ^ j) (term x (suc j)) (term y (suc j)) c
    unfolding factorial
    halves j =
        near_convert (w * 2 ^ j) (factorial (suc j) * w ^ suc j) (term x (suc j)) (term y (suc j)) c
        (1 * (suc j * (k * r ^ j)))
        (mul-pos (factorial_pos (suc j)) (one-le-pow (suc j) w wp))
        (rw (pow-suc w j) (go w (2 ^ j) (suc j) k (r ^ j) c (factorial j) (w ^ j) a (powers j) fits))
        (near-behind (w ^ suc j) (factorial (suc j)) (exact_power x (suc j)) (exact_power y (suc j))
        (exact_recip (suc j)) (suc j * (k * r ^ j)) 1
        (power-near j) (recip_most (suc j)))
      where
        go : (w p n k q c f u a : ℕ) → p * q ≤ a * (u * f) → k * a ≤ c → w * p * (1 * (n * (k * q))) ≤ c *
            (n * f * (u * w))
        go w p n k q c f u a h i =
            let s = mul-le-mul_left (w * n * k) h in
            let t = mul-le-mul_right (w * n * (u * f)) i in
            simp (one-mul, expand) (omega (arith, simp expand at s, simp expand at t))

    exp-near : (n : ℕ) → Near w (exact_exp x (1 + n)) (exact_exp y (1 + n)) (2 * c)
    exp-near = totals-near (term x) (term y) w c 1 first
        (λ j. subst (λ (i : ℕ). Near (w * 2 ^ j) (term x i) (term y i) c) (sym (after j)) (halves j))
      where
        after : (j : ℕ) → 1 + j ≡ suc j
        after j = omega arith

        first : Near w (exact_total (term x) 1) (exact_total (term y) 1) 0
        first = unfold exact_total exact_power in record { above = omega arith; below = omega arith }

-- ---- the exact sum of σ, its denominator and its size
sum-above : (i : ℕ) (S : Value) (l : List Step) → 0 < S.d → 0 < (exact_sigma i S l).d
unfolding exact_sigma
sum-above i S [] h = h
sum-above i S (renews m ∷ l) h = sum-above i S l h
sum-above i S (joins x up s ∷ l) h =
    either (λ (v : Value). 0 < v.d) (eqb i x.to) _ _ (λ yes. sum-above x.from _ l
    (mul-pos h (value-above x.sim3.sigma)))
    (λ no. sum-above i S l h)

sum-most : (w b m i : ℕ) (S : Value) (l : List Step) → AtMost w S m → SumsIn w b m i S l →
    AtMost w (exact_sigma i S l) m
unfolding exact_sigma SumsIn
sum-most w b m i S [] h a = h
sum-most w b m i S (renews k ∷ l) h a = sum-most w b m i S l h a
sum-most w b m i S (joins x up s ∷ l) h a =
    either (λ (v : Value). AtMost w v m) (eqb i x.to) _ _ (λ yes. let q = a.1.0 yes in
    sum-most w b m x.from _ l q.0 q.1)
    (λ no. sum-most w b m i S l h (a.1.1 no))

exp-above : (x : Value) → 0 < x.d → (n : ℕ) → 0 < (exact_exp x n).d
unfolding exact_total
exp-above x h zero = value-above _
exp-above x h (suc n) = mul-pos (exp-above x h n) (mul-pos (power-above x h n) (factorial_pos n))

pub scale_accurate : (f : Format) (n : ℕ) (p : Pose) (up : Float) (l : List Step) → ScaleAccurate f n p up l
    (pose_after f n p up l)
unfolding SigmaError HostScale
scale_accurate f n p up l w b m e N a c h k scale wp range all powers fits cl small hb hm sums host =
    go (pose_after f n p up l) (sigma_accurate f n p up l w b m e N wp range all cl small hb sums) host
  where
    S : Value
    S = exact_sigma p.from (value_of p.sim3.sigma) l

    sd : 0 < S.d
    sd = sum-above p.from (value_of p.sim3.sigma) l (value-above p.sim3.sigma)

    sm : AtMost w S m
    sm = sum-most w b m p.from (value_of p.sim3.sigma) l hm sums

    more : (m e : ℕ) → m ≤ m + e
    more m e = omega arith

    same : (k i : ℕ) → 1 + (k + i) ≡ suc k + i
    same k i = omega arith

    go : (r : Start) → SigmaError w e r S → HostScale w scale h k r → ExpError w scale S (h + 2 * c) k
    go None s t = absurd s
    go (Some q) s t = λ i.
        let x = value_of q.sim3.sigma in
        let near = error-near w q.sim3.sigma S e s in
        let xm = most-near w x S m e sd near sm in
        let n' = exp-near w (m + e) e x S wp (value-above q.sim3.sigma) sd xm (most_wider w S m (m + e) (more m e) sm)
        near a powers c fits (k + i) in
        error_trans w scale (exact_exp x (suc k + i)) (exact_exp S (suc k + i)) h (2 * c)
        (exp-above x (value-above q.sim3.sigma) (suc k + i)) (t i)
        (subst (λ (j : ℕ). Near w (exact_exp x j) (exact_exp S j) (2 * c)) (same k i) n')

wider : (w h g d k : ℕ) (scale : Float) (S : Value) → g ≤ d → ExpError w scale S (h + g) k →
    ExpError w scale S (h + d) k
wider w h g d k scale S l t = λ i. error_wider w scale (exact_exp S (suc k + i)) (h + g) (h + d) (more h g d l) (t i)
  where
    more : (h g d : ℕ) → g ≤ d → h + g ≤ h + d
    more h g d l = omega arith

-- what specs/Scale.antt states
pub scale : ScaleTheorem
scale =
    record {
      scale = scale_accurate;
      hundred = λ b n h k p up l scale cl small hb hm sums host.
          wider (2 ^ 100) h _ (2 ^ 58) k scale _ (lit≤ tt)
          (scale_accurate binary64 n p up l (2 ^ 100) b (3 * 2 ^ 99) (151 * 2 ^ 47) 100 5 (755 * 2 ^ 47) h k scale
          (lit< tt) tt (lit≤ tt)
          (powers-most (2 ^ 100) (3 * 2 ^ 99 + 151 * 2 ^ 47) 5 (lit≤ tt) (lit≤ tt) (lit≤ tt) (lit≤ tt) (lit≤ tt))
          (lit≤ tt) cl small hb hm sums host);
      thousand = λ b n h k p up l scale cl small hb hm sums host.
          wider (2 ^ 100) h _ (2 ^ 61) k scale _ (lit≤ tt)
          (scale_accurate binary64 n p up l (2 ^ 100) b (3 * 2 ^ 99) (1501 * 2 ^ 47) 1000 5 (7505 * 2 ^ 47) h k scale
          (lit< tt) tt (lit≤ tt)
          (powers-most (2 ^ 100) (3 * 2 ^ 99 + 1501 * 2 ^ 47) 5 (lit≤ tt) (lit≤ tt) (lit≤ tt) (lit≤ tt) (lit≤ tt))
          (lit≤ tt) cl small hb hm sums host);
      singles = λ b n h k p up l scale cl small hb hm sums host.
          wider (2 ^ 100) h _ (2 ^ 87) k scale _ (lit≤ tt)
          (scale_accurate binary32 n p up l (2 ^ 100) b (3 * 2 ^ 99) (151 * 2 ^ 76) 100 5 (755 * 2 ^ 76) h k scale
          (lit< tt) tt (lit≤ tt)
          (powers-most (2 ^ 100) (3 * 2 ^ 99 + 151 * 2 ^ 76) 5 (lit≤ tt) (lit≤ tt) (lit≤ tt) (lit≤ tt) (lit≤ tt))
          (lit≤ tt) cl small hb hm sums host);
    }
