-- What specs/Theorem.antt states. Assumes nothing.
use Rattle.rounding.specs.Theorem.{ForwardErrorTheorem}
use Rattle.rounding.proofs.Roundoff.{rounding-error}
use Rattle.rounding.proofs.Forward.{forward_error}
use Rattle.rounding.proofs.Quotients.{forward_error-divided, quotient_binary64}

pub rounding_errors : ForwardErrorTheorem
rounding_errors =
    record {
      rounding = rounding-error;
      tree = forward_error;
      divided = forward_error-divided;
      quotient_doubles =
          quotient_binary64;
    }
