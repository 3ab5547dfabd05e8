use Rattle.std.proofs.Common.{◌∙◌}
use Rattle.std.proofs.lemmas.Iterator.Adapters.{option_map_id}
use lib.Ieee.{binary64, of_bits}
use Rattle.ieee.proofs.Table.{floats}
use Rattle.tables.specs.Tables.{recip_row}
use Rattle.tables.specs.Patterns.{patterns}
use Rattle.tables.proofs.Every.{item_is, recip_got}
use Rattle.tables.proofs.double.F64Tables.recip_fact.Goals as goal

pub returns : goal.returns
unfolding floats patterns of_bits
returns c =
    option_map_id c.copied.result ∙ c.copied.ensures ∙ item_is
    (floats binary64 (patterns binary64 recip_row)) c.args.n c.get.result c.get.ensures.lookup
    ∙ recip_got binary64 c.args.n
