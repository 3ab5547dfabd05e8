-- `whole_root` is the largest whole number whose square is at most m, and there is only one. Assumes nothing.
use mathlib.Core.Path.{◌≡◌, subst}
use mathlib.Core.Bool.{Bool, true, false, not, cond}
use Prim.Native.Nat.{ℕ, zero, suc, ◌+◌, ◌*◌, ◌/◌, ◌^◌, ◌≤◌, ◌<◌}
use native.Mathlib.Nat.{le_antisymm, pow-suc}
use native.Mathlib.Omega.{arith}
use lib.Dec.{T, leb, leb→le, nleb→lt}
use Rattle.root.specs.Root.{whole_root}
use Rattle.root.specs.Theorem.{Largest}
use Rattle.root.proofs.Squares.{square-lt}

at_most : (a b m : ℕ) → Largest m a → Largest m b → a ≤ b
at_most a b m p q = let l : a < b + 1 = square-lt a (b + 1) (omega arith) in omega arith

pub largest_only : (a b m : ℕ) → Largest m a → Largest m b → a ≡ b
largest_only a b m p q = le_antisymm (at_most a b m p q) (at_most b a m q p)

-- ---- one binary digit of the root for two of m
digit : (m q : ℕ) → Largest (m / 4) q → (b : Bool) → (T b → (2 * q + 1) * (2 * q + 1) ≤ m) →
    (T (not b) → m < (2 * q + 1) * (2 * q + 1)) → Largest m (cond b (2 * q + 1) (2 * q))
digit m q h true y n = record { low = y tt; high = omega arith }
digit m q h false y n = record { low = omega arith; high = n tt }

quarter : (m x : ℕ) → m < x * 4 → m / 4 < x
quarter m x h = omega arith

pub whole-root_largest : (k m : ℕ) → m < 4 ^ k → Largest m (whole_root k m)
unfolding whole_root
whole-root_largest zero m h = record { low = omega arith; high = omega arith }
whole-root_largest (suc k) m h =
    let q = whole_root k (m / 4) in
    let n = (2 * q + 1) * (2 * q + 1) in
    digit m q (whole-root_largest k (m / 4) (quarter m (4 ^ k) (subst (λ (x : ℕ). m < x) (pow-suc 4 k) h))) (leb n m)
    (leb→le n m) (nleb→lt n m)

pub whole-root-is : (k m r : ℕ) → m < 4 ^ k → Largest m r → whole_root k m ≡ r
whole-root-is k m r h l = largest_only (whole_root k m) r m (whole-root_largest k m h) l
