-- The rows of the circle functions, sums in z by Horner's rule: exactly, and a bound of the difference.
use Rattle.std.specs.Prelude.{ℕ, zero, suc, ◌*◌, Bool, ◌&&◌}
use Rattle.std.specs.Float.{Format}
use Rattle.ieee.specs.Numbers.{f0}
use Rattle.ieee.specs.Table.{Rational}
use Rattle.rounding.specs.Value.{Value, plus, times, signed, value_of}
use Rattle.tables.specs.Tables.{k_row, cos_half_row, row_rule}
use Rattle.accuracy.specs.Box.{Three, Four}
use Rattle.rounding.specs.Roundoff.{rounding_error}
use Rattle.rounding.specs.Tree.{Bound, upward, sum_reach, prod_reach, sum_bound, prod_bound, in_range}

abbrev pub rule_value : (ℕ → Rational) → ℕ → Value
rule_value rule i = signed (rule i).negative (rule i).num (rule i).den

-- n terms from the ith on
unfoldable pub exact_row : (ℕ → Rational) → Value → ℕ → ℕ → Value
exact_row rule z i zero = value_of f0
exact_row rule z i (suc zero) = rule_value rule i
exact_row rule z i (suc (suc n)) = plus (rule_value rule i) (times z (exact_row rule z (suc i) (suc n)))

-- ---- the bounds
abbrev pub entry_size : ℕ → (ℕ → Rational) → ℕ → ℕ
entry_size w rule i = upward (rule i).den (w * (rule i).num)

abbrev pub entry_bound : Format → ℕ → (ℕ → Rational) → ℕ → Bound
entry_bound f w rule i = record { magnitude = entry_size w rule i; error = rounding_error f w (entry_size w rule i) }

-- n terms more than one
unfoldable pub row_bound : Format → ℕ → (ℕ → Rational) → Bound → ℕ → ℕ → Bound
row_bound f w rule z i zero = entry_bound f w rule i
row_bound f w rule z i (suc n) =
    sum_bound f w (entry_bound f w rule i) (prod_bound f w z (row_bound f w rule z (suc i) n))

unfoldable pub row_no_overflow : Format → ℕ → (ℕ → Rational) → Bound → ℕ → ℕ → Bool
unfolding row_bound
row_no_overflow f w rule z i zero = in_range f w (entry_size w rule i)
row_no_overflow f w rule z i (suc n) =
    in_range f w (entry_size w rule i)
    && (row_no_overflow f w rule z (suc i) n
    && (in_range f w (prod_reach w z (row_bound f w rule z (suc i) n))
    && in_range f w (sum_reach (entry_bound f w rule i) (prod_bound f w z (row_bound f w rule z (suc i) n)))))

-- what is left out after k terms more than one, in units of 1 / rest_unit
unfoldable pub rest_unit : ℕ → (ℕ → Rational) → ℕ → ℕ → ℕ
rest_unit w rule i zero = w * (rule (suc i)).den
rest_unit w rule i (suc k) = w * rest_unit w rule (suc i) k

unfoldable pub rest_most : ℕ → ℕ → ℕ
rest_most y zero = y * 2
rest_most y (suc k) = y * rest_most y k

-- k + n
unfoldable pub longer : ℕ → ℕ → ℕ
longer zero n = n
longer (suc k) n = suc (longer k n)

-- (cos(θ/2), sin(θ/2)/θ φ) at z = θ², with the sums of n terms
unfoldable pub exact_rotation : Value → Three Value → ℕ → Four Value
exact_rotation z phi n =
    let k = exact_row (row_rule k_row) z 0 n in
    record { w = exact_row (row_rule cos_half_row) z 0 n; x = times k phi.x; y = times k phi.y; z = times k phi.z }
