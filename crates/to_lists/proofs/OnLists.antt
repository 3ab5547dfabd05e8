-- The definitions to unfold for the return value of a call and the lists afterwards.
use Rattle.std.specs.Prelude.{⊤}
use Rattle.to_lists.specs.Written.{status, written}

unfoldable pub on_lists : ⊤
unfolding status written
on_lists = tt
