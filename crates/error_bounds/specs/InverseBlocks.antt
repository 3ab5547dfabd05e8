-- The left Jacobian's inverse by blocks near zero: V⁻¹ once as formulas of φ, z and the coefficients of V, the others
-- once as formulas of V⁻¹, the left Jacobian's blocks and J_l(φ)⁻¹; and what is proved of the errors of its entries.
use Rattle.std.specs.Prelude.{ℕ, ◌+◌, ◌*◌, ◌^◌, T, Float}
use Rattle.std.specs.Float.{Format, binary32, binary64}
use Rattle.std.specs.Float.Ieee.{lt}
use Rattle.ieee.specs.Numbers.{f0, f1}
use Rattle.linalg.specs.Vector.{vec_norm_sq}
use Rattle.linalg.specs.Floats.{Mat3}
use Rattle.jacobian.specs.Floats.{Sim3Jac}
use Rattle.arms.specs.Limits.{coeffs_delta, mid_below, upper_below}
use Rattle.arms.specs.Floats.{Values}
use Rattle.sim3.specs.Floats.{Sim3Tangent}
use Rattle.side_jacobians.specs.Side.{jac_jl_inv}
use Rattle.rounding.specs.Value.{Value, value_of, ratio}
use Rattle.rounding.specs.Tree.{Bound}
use Rattle.rounding.specs.Arithmetic.{Arithmetic, exactly}
use Rattle.accuracy.specs.Box.{Three, exact_vec, VecIn}
use Rattle.accuracy.specs.Quaternions.{negated3}
use Rattle.accuracy.specs.ManyPoints.{columns_times}
use Rattle.accuracy.specs.Series.{Eight, most_terms}
use Rattle.accuracy.specs.CoefficientSizes.{exact_eight}
use Rattle.error_bounds.specs.Blocks.{Columns, Blocks, ◌⊞◌, ◌⊡◌, identity, hat, times_hat, product}
use Rattle.error_bounds.specs.Blocks.{exact_blocks, same9, columns_of, ColumnsWithin, MatError, BlocksError}
use Rattle.error_bounds.specs.Blocks.{rotation_bound}

module _ {A : Type 0} (arithmetic : Arithmetic A) where
  infixl 60 ◌⊕◌ ◌⊖◌
  infixl 70 ◌⊗◌
  open arithmetic use {◌⊕◌, ◌⊖◌, ◌⊗◌, negated}

  -- χ = v₀ − z v₂, Λ = χ² + z v₁²
  abbrev pub chi_of : A → A → A → A
  chi_of z v0 v2 = v0 ⊖ z ⊗ v2

  abbrev pub lambda_of : A → A → A → A → A
  lambda_of z v0 v1 v2 = chi_of z v0 v2 ⊗ chi_of z v0 v2 ⊕ z ⊗ (v1 ⊗ v1)

  -- 1 / v₀, −v₁ / Λ and (v₁² − v₂ χ) / (v₀ Λ), by these three quotients
  abbrev pub inverse_coefficients : (A → A → A) → (A → A → A) → (A → A → A) → A → A → A → A → A → Three A
  inverse_coefficients by_v0 by_lambda by_both one z v0 v1 v2 =
      record {
        x = by_v0 one v0;
        y = negated (by_lambda v1 (lambda_of z v0 v1 v2));
        z = by_both (v1 ⊗ v1 ⊖ v2 ⊗ chi_of z v0 v2) (v0 ⊗ lambda_of z v0 v1 v2);
      }

  -- x₀ I + x₁ W + x₂ W², times e^-σ where the coefficients are scaled: times 1 here
  abbrev pub polynomial : A → A → Three A → Three A → Columns A
  polynomial zero one phi x =
      ◌⊡◌ arithmetic
      (◌⊞◌ arithmetic
      (◌⊞◌ arithmetic (◌⊡◌ arithmetic (identity arithmetic zero one) x.x)
      (◌⊡◌ arithmetic (hat arithmetic zero phi) x.y))
      (◌⊡◌ arithmetic (times_hat arithmetic (hat arithmetic zero phi) phi) x.z)) one

  -- −V⁻¹ Q J_l(φ)⁻¹, V⁻¹ and −V⁻¹ f, for v = V⁻¹, q = Q, f the column of σ, and jl_inv = J_l(φ)⁻¹
  abbrev pub inverse_blocks : Columns A → Columns A → Three A → Columns A → Blocks A
  inverse_blocks v q f jl_inv =
      let b = product arithmetic (product arithmetic v q) jl_inv in
      record {
        b = record { x = negated3 arithmetic b.x; y = negated3 arithmetic b.y; z = negated3 arithmetic b.z };
        c = v;
        f = negated3 arithmetic (columns_times arithmetic v f);
      }

unfoldable pub exact_inverse_coefficients : Value → Value → Value → Value → Three Value
exact_inverse_coefficients z v0 v1 v2 = inverse_coefficients exactly ratio ratio ratio (value_of f1) z v0 v1 v2

unfoldable pub exact_polynomial : Three Value → Three Value → Columns Value
exact_polynomial phi x = polynomial exactly (value_of f0) (value_of f1) phi x

abbrev pub exact_inverse_v : Three Value → Value → Eight Value → Columns Value
exact_inverse_v phi z y = exact_polynomial phi (exact_inverse_coefficients z y.v0 y.v1 y.v2)

unfoldable pub exact_inverse_blocks : Columns Value → Blocks Value → Columns Value → Blocks Value
exact_inverse_blocks v x jl_inv = inverse_blocks exactly v x.b x.f jl_inv

-- ---- where it is proved, in units of 2^-100
abbrev pub near_below : Format → Float
near_below binary32 = mid_below binary32
near_below binary64 = upper_below binary64

abbrev pub near_phi : Format → ℕ
near_phi binary32 = 3 * 2 ^ 97
near_phi binary64 = 17 * 2 ^ 95

-- of V⁻¹, b and f
abbrev pub near_v_error : Format → ℕ
near_v_error binary32 = 2 ^ 85
near_v_error binary64 = 2 ^ 58

abbrev pub near_b_error : Format → ℕ
near_b_error binary32 = 2 ^ 91
near_b_error binary64 = 2 ^ 65

abbrev pub near_f_error : Format → ℕ
near_f_error binary32 = 2 ^ 86
near_f_error binary64 = 2 ^ 60

-- J_l(φ)⁻¹ as it is handed in: numbers up to 2, within 2^-52, and 2^-23 at singles
abbrev pub inverse_rotation_bound : Format → Bound
inverse_rotation_bound f = record { magnitude = 2 ^ 101; error = (rotation_bound f).error }

-- m is V⁻¹: where the computed Δ is below 0.1286 at singles and 0.2641 at doubles, and the numbers of φ at most 3/8 and
-- 17/32, each of its entries is within 2^-15 and 2^-42 of the formula with every exact sum of `most_terms` terms or
-- more
abbrev pub InverseVAccurate : Format → Sim3Tangent → Mat3 → Type 0
InverseVAccurate f tau m =
    let z = vec_norm_sq f tau.phi in
    T (lt (coeffs_delta f tau.sigma z) (near_below f)) → VecIn (2 ^ 100) (near_phi f) tau.phi → (n : ℕ) →
    let y = exact_eight (value_of tau.sigma) (value_of z) (most_terms f + n) in
    MatError (2 ^ 100) m (exact_inverse_v (exact_vec tau.phi) (value_of z) y) (near_v_error f)

-- j is J_l(τ)⁻¹: in the same box with the numbers of ρ at most 1, each entry of its b is within 2^-9 and 2^-35, and each
-- of its f within 2^-14 and 2^-40, of the formula with the same sums, the exact J_l(φ) m and its exact inverse k; V⁻¹ as
-- above
abbrev pub InverseBlocksAccurate : Format → Sim3Tangent → Mat3 → Mat3 → Sim3Jac → Type 0
InverseBlocksAccurate f tau jl jl_inv j =
    let z = vec_norm_sq f tau.phi in
    T (lt (coeffs_delta f tau.sigma z) (near_below f)) → VecIn (2 ^ 100) (near_phi f) tau.phi →
    VecIn (2 ^ 100) (2 ^ 100) tau.rho → (m k : Columns Value) →
    ColumnsWithin (2 ^ 100) (columns_of jl) m (same9 (rotation_bound f)) →
    ColumnsWithin (2 ^ 100) (columns_of jl_inv) k (same9 (inverse_rotation_bound f)) → (n : ℕ) →
    let y = exact_eight (value_of tau.sigma) (value_of z) (most_terms f + n) in
    BlocksError (2 ^ 100) j
    (exact_inverse_blocks (exact_inverse_v (exact_vec tau.phi) (value_of z) y)
    (exact_blocks (exact_vec tau.phi) (exact_vec tau.rho) y m) k) (near_b_error f) (near_v_error f) (near_f_error f)

pub record InverseBlocksTheorem (f : Format) : Type 0 where
  pub v : (tau : Sim3Tangent) (v : Values) (jl jl_inv : Mat3)
      → InverseVAccurate f tau (jac_jl_inv f tau v jl jl_inv).c
  pub blocks : (tau : Sim3Tangent) (v : Values) (jl jl_inv : Mat3)
      → InverseBlocksAccurate f tau jl jl_inv (jac_jl_inv f tau v jl jl_inv)
