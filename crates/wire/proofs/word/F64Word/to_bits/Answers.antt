use Rattle.ieee.proofs.Finite.{finite-no_nan}
use Rattle.wire.proofs.word.F64Word.to_bits.Goals as goal

pub float_to_bits-result : goal.float_to_bits-result
float_to_bits-result c = finite-no_nan c.args.self c.requires
