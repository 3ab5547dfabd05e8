-- Products of quaternions in a row, from the left: computed, exact, and a bound of the difference as a function of
-- their number.
use Rattle.std.specs.Prelude.{ℕ, ◌+◌, ◌*◌}
use Rattle.std.specs.Float.{Format}
use Rattle.so3.specs.Floats.{Quat}
use Rattle.rounding.specs.Value.{AtMost}
use Rattle.rounding.specs.Tree.{Bound, upward, bound}
use Rattle.rounding.specs.Leaves.{sizes}
use Rattle.accuracy.specs.Box.{QuatIn, exact_quat}
use Rattle.accuracy.specs.Quaternions.{exact_squared, tree_quat_mul, quat_mul_sizes}

-- finite, and of length at most v / u
pub record LengthAtMost (u v : ℕ) (q : Quat) : Type 0 where
  pub sizes : QuatIn u v q
  pub length : AtMost (u * u) (exact_squared (exact_quat q)) (v * v)

-- the error of one product's numbers, for factors of at most a and v
unfoldable pub product_error : Format → ℕ → ℕ → ℕ → ℕ
unfolding bound tree_quat_mul
product_error f u v a = (bound f u (sizes (quat_mul_sizes a v)) tree_quat_mul.w).error

unfoldable pub next_rotation : Format → ℕ → ℕ → Bound → Bound
unfolding product_error
next_rotation f u v r =
    record {
      magnitude = upward u (r.magnitude * v);
      error =
          2 * product_error f u v (r.magnitude + r.error) + upward u (r.error * v);
    }
