-- The six sums of one sign step by step: before the first term, with the terms of a level, and with the terms after
-- level k.
use Rattle.std.specs.Prelude.{Float}
use Rattle.std.specs.Float.{Format}
use Rattle.ieee.specs.Numbers.{f0}
use Rattle.ieee.specs.Infix.{operations}
use Rattle.series.specs.Series.{series_next}
use Rattle.series.specs.Floats.{Level}
use Rattle.series.specs.Floats.{Sums}
use Rattle.series.specs.Floats.{Tail}

unfoldable pub sums_none : Sums
sums_none = record { v1 = f0; v2 = f0; w1 = f0; w2 = f0; dv1 = f0; dv2 = f0 }

module _ (f : Format) where
  infixl 60 ◌⊕◌
  infixl 70 ◌⊗◌
  open operations f use {◌⊕◌, ◌⊗◌}

  unfoldable pub sums_gain : Sums → Sums → Sums
  sums_gain s t =
      record {
        v1 = s.v1 ⊕ t.v1;
        v2 = s.v2 ⊕ t.v2;
        w1 = s.w1 ⊕ t.w1;
        w2 = s.w2 ⊕ t.w2;
        dv1 = s.dv1 ⊕ t.dv1;
        dv2 = s.dv2 ⊕ t.dv2;
      }

  -- from level k + 1 and the reciprocals of (k + 2)!, (k + 3)! and (k + 4)!
  unfoldable pub tail_terms : Float → Float → Level → Float → Float → Float → Tail
  tail_terms sigma z l r2 r3 r4 =
      let m = series_next f sigma z l in
      let n = series_next f sigma z m in
      record {
        v2 = l.zeta ⊗ r2;
        w2 = l.zeta ⊗ r3;
        dv1 = l.dxi ⊗ r2;
        dv1_next = m.dxi ⊗ r3;
        dv2 = l.dzeta ⊗ r2;
        dv2_next = m.dzeta ⊗ r3;
        dv2_last = n.dzeta ⊗ r4;
      }

  unfoldable pub sums_last : Sums → Tail → Sums
  sums_last s t =
      record {
        v1 = s.v1;
        v2 = s.v2 ⊕ t.v2;
        w1 = s.w1;
        w2 = s.w2 ⊕ t.w2;
        dv1 = s.dv1 ⊕ t.dv1 ⊕ t.dv1_next;
        dv2 = s.dv2 ⊕ t.dv2 ⊕ t.dv2_next ⊕ t.dv2_last;
      }
