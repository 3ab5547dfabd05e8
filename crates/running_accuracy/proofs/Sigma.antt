-- The rounding errors of the running pose's σ add up. Assumes nothing.
use mathlib.Core.Path.{sym, subst}
use mathlib.Core.List.{List, [], ◌∷◌}
use Prim.Native.Nat.{ℕ, suc, ◌+◌, ◌*◌, ◌^◌, ◌≤◌, ◌<◌}
use native.Mathlib.Nat.{le_trans, suc-mul, mul-pos, mul-le-mul_right}
use native.Mathlib.Omega.{arith}
use lib.Dec.{T, eqb, lit≤, lit<}
use lib.Ieee.{Float, Format, binary32, binary64, add}
use Rattle.std.specs.Prelude.{Some}
use Rattle.sim3.specs.Pose.{pose_mul, pose_renormalized}
use Rattle.frames.specs.Floats.{Pose}
use Rattle.running.specs.Running.{Start, due}
use Rattle.running.specs.History.{ran, product, renormalized_product}
use Rattle.running.proofs.Past.{history}
use Rattle.rounding.specs.Value.{Value, plus, value_of, AbsoluteError}
use Rattle.rounding.specs.Roundoff.{rounding_error}
use Rattle.rounding.specs.Tree.{in_range}
use Rattle.rounding.proofs.Forward.{error-sum, error_wider}
use Rattle.rounding.proofs.Leaves.{leaf_forward, value-above}
use Rattle.running_accuracy.specs.Running.{Step, joins, renews, events, count, history_of, pose_after}
use Rattle.running_accuracy.proofs.Choice.{either, both}
use Rattle.running_accuracy.specs.Sigma.{exact_sigma, SumsIn, SigmaError, SigmaAccurate, SigmaTheorem}

module _ (f : Format) (w b m e N : ℕ) (wp : 0 < w) (range : T (in_range f w (m + e)))
    (all : N * rounding_error f w (m + e) ≤ e) where
  abbrev one : ℕ
  one = rounding_error f w (m + e)

  fewer : (j : ℕ) → j ≤ N → j * one ≤ e
  fewer j h = le_trans (mul-le-mul_right one h) all

  -- after j joins of at most N
  sums : (l : List Step) (j n k : ℕ) (p : Pose) (S : Value) → count l + j ≤ N → 0 < S.d →
      AbsoluteError w p.sim3.sigma S (j * one) →
      SumsIn w b m p.from S l → SigmaError w e (ran f (Some p) n k (events l)) (exact_sigma p.from S l)
  unfolding events count exact_sigma SumsIn SigmaError ran pose_mul pose_renormalized
  sums [] j n k p S c z h a = error_wider w p.sim3.sigma S (j * one) e (fewer j (errorless j N c)) h
    where
      errorless : (j N : ℕ) → 0 + j ≤ N → j ≤ N
      errorless j N h = omega arith
  sums (renews i ∷ l) j n k p S c z h a = sums l j i k p S c z h a
  sums (joins x up s ∷ l) j n k p S c z h a =
      let y = value_of x.sim3.sigma in
      let T' = plus S y in
      let zt : 0 < T'.d = mul-pos z (value-above x.sim3.sigma) in
      let c' = later (count l) j N c in
      both (SigmaError w e) (eqb p.from x.to) _ _ _ _
      (λ yes.
      let q = a.1.0 yes in
      let d = error-sum f w p.sim3.sigma x.sim3.sigma S m (j * one) (m + e) b z h a.0 q.0
      (wide j (now (count l) j N c)) range in
      let d' = next j (add f p.sim3.sigma x.sim3.sigma) T' d in
      either (λ (r : Start). SigmaError w e r (exact_sigma x.from T' l)) (due n (k + 1)) _ _
      (λ is. sums l (suc j) n 0 (renormalized_product f p x up) T' c' zt d' q.1)
      (λ not. sums l (suc j) n (k + 1) (product f p x up) T' c' zt d' q.1))
      (λ no. sums l j n k p S (less (count l) j N c) z h (a.1.1 no))
    where
      later : (c j N : ℕ) → suc c + j ≤ N → c + suc j ≤ N
      later c j N h = omega arith

      now : (c j N : ℕ) → suc c + j ≤ N → j ≤ N
      now c j N h = omega arith

      less : (c j N : ℕ) → suc c + j ≤ N → c + j ≤ N
      less c j N h = omega arith

      wide : (j : ℕ) → j ≤ N → m + j * one ≤ m + e
      wide j h = let i = fewer j h in omega arith

      next : (j : ℕ) (x : Float) (y : Value) → AbsoluteError w x y (j * one + one) → AbsoluteError w x y (suc j * one)
      next j x y h = subst (λ (k : ℕ). AbsoluteError w x y k) (sym (suc-mul j one)) h

pub sigma_accurate : (f : Format) (n : ℕ) (p : Pose) (up : Float) (l : List Step) → SigmaAccurate f n p up l
    (pose_after f n p up l)
sigma_accurate f n p up l w b m e N wp range all c small hp a =
    subst (λ (r : Start). SigmaError w e r (exact_sigma p.from (value_of p.sim3.sigma) l))
    (sym (history f (history_of n p up l) small))
    (unfold ran in sums f w b m e N wp range all l 0 n 0 p (value_of p.sim3.sigma) (first (count l) N c)
    (value-above p.sim3.sigma)
    (error_wider w p.sim3.sigma (value_of p.sim3.sigma) 0 (0 * rounding_error f w (m + e)) (omega arith)
    (leaf_forward w p.sim3.sigma b hp).close) a)
  where
    first : (c N : ℕ) → c ≤ N → c + 0 ≤ N
    first c N h = omega arith

-- what specs/Sigma.antt states
pub sigma : SigmaTheorem
sigma =
    record {
      sigma = sigma_accurate;
      doubles = λ b n p up l. sigma_accurate binary64 n p up l (2 ^ 100) b (2 ^ 101) (2 ^ 58) 1000 (lit< tt) tt
          (lit≤ tt);
      singles = λ b n p up l. sigma_accurate binary32 n p up l (2 ^ 100) b (2 ^ 101) (2 ^ 84) 100 (lit< tt) tt
          (lit≤ tt);
    }
