-- The answers of the public functions, the two one-sign answers side by side: at σ and the values, and at -σ and the
-- mirrored values.
use Rattle.std.specs.Prelude.{ℕ, Float}
use Rattle.std.specs.Float.{Format}
use Rattle.std.specs.Float.Ieee.{neg}
use Rattle.linalg.specs.Answer.{Answer, answers, and_then}
use Rattle.series.specs.Series.{series_answer}
use Rattle.arms.specs.Values.{mirrored}
use Rattle.arms.specs.Floats.{Values}
use Rattle.coeffs.specs.Entries.{scaled_answer, armed_answer}
use Rattle.coeffs.specs.Floats.{Scaled}
use Rattle.coeffs.specs.Floats.{Armed}
use Rattle.pairs.specs.Floats.{CoeffsPair}
use Rattle.pairs.specs.Floats.{ScaledPair}
use Rattle.pairs.specs.Floats.{ArmedPair}

unfoldable pub beside : Answer Scaled → Answer Scaled → Answer ScaledPair
beside a b = and_then a (λ p. and_then b (λ n. answers (record { pos = p; neg = n })))

unfoldable pub pair_answer : Format → Float → Float → Values → Answer ScaledPair
pair_answer f sigma z v = beside (scaled_answer f sigma z v) (scaled_answer f (neg sigma) z (mirrored sigma v))

-- the same with the arms
unfoldable pub beside_armed : Answer Armed → Answer Armed → Answer ArmedPair
beside_armed a b = and_then a (λ p. and_then b (λ n. answers (record { pos = p; neg = n })))

unfoldable pub armed_pair_answer : Format → Float → Float → Values → Answer ArmedPair
armed_pair_answer f sigma z v =
    beside_armed (armed_answer f sigma z v) (armed_answer f (neg sigma) z (mirrored sigma v))

-- the series, which reads no values
unfoldable pub series_pair_answer : Format → Float → Float → ℕ → Answer CoeffsPair
series_pair_answer f sigma z k =
    and_then (series_answer f sigma z k) (λ p. and_then (series_answer f (neg sigma) z k)
    (λ n. answers (record { pos = p; neg = n })))
