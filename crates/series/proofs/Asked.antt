-- Every reciprocal that a series reads within its term counts is in the table, and the next term's is not. Assumes
-- nothing.
use Prim.Native.Nat.{ℕ, ◌+◌, ◌≤◌}
use native.Mathlib.Omega.{arith}
use lib.Ieee.{Format}
use Rattle.tables.proofs.Every.{recip_exists, recip_past}
use Rattle.series.specs.Series.{series_most, series_v_most}
use Rattle.series.specs.Asked.{VAsks, FullAsks, AskedTheorem}

v-asks : (f : Format) (k : ℕ) → k ≤ series_v_most → VAsks f k
v-asks f k h =
    record {
      v0 = λ i l. recip_exists f (i + 1) (omega arith);
      v1 = λ j l. recip_exists f (j + 1) (omega arith);
      v2 = λ j l. recip_exists f (j + 1) (omega arith);
    }

full-asks : (f : Format) (k : ℕ) → k ≤ series_most → FullAsks f k
full-asks f k h =
    record {
      v = v-asks f k (omega arith);
      w0 = λ i l. recip_exists f (i + 2) (omega arith);
      w1 = λ j l. recip_exists f (j + 2) (omega arith);
      w2 = λ j l. recip_exists f (j + 2) (omega arith);
      dv1 = λ j l. recip_exists f (j + 1) (omega arith);
      dv2 = λ j l. recip_exists f (j + 1) (omega arith);
    }

pub asked : AskedTheorem
asked =
    record {
      full = full-asks;
      full_past = λ f k h. recip_past f (k + 4) (omega arith);
      alone = v-asks;
      alone_past = λ f k h. recip_past f (k + 2) (omega arith);
    }
