-- What specs/Numbers.antt states, by computing. Assumes nothing.
use mathlib.Core.Path.{refl}
use Rattle.running_accuracy.specs.Numbers.{bound_after, RunningNumbers}

pub numbers : RunningNumbers
unfolding bound_after
numbers =
    record {
      rotation_doubles = refl;
      translation_doubles = refl;
      rotation_singles = refl;
      translation_singles = refl;
      rotation_page = refl;
      translation_page = refl;
    }
