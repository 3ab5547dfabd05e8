-- For each function named here, the definitions that its proof unfolds.
use Rattle.std.specs.Prelude.{⊤}
use Rattle.record_result.specs.RecordResult.{written_answer, answer_bytes}

unfoldable pub encode_answer_unfolds : ⊤
unfolding written_answer answer_bytes
encode_answer_unfolds = tt
