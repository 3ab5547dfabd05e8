-- What the private functions of the pair compute; only private contracts cite it.
use Rattle.std.specs.Prelude.{ℕ, zero, suc, ◌+◌, ◌%◌, Bool, not, cond, eqb, Float}
use Rattle.std.specs.Float.{Format}
use Rattle.std.specs.Float.Ieee.{neg, lt, le}
use Rattle.ieee.specs.Numbers.{f0}
use Rattle.ieee.specs.Infix.{operations}
use Rattle.tables.specs.Tables.{recip_fact}
use Rattle.series.specs.Series.{series_first, series_next, level_terms, g_series, series_coeffs}
use Rattle.series.specs.Recurrence.{sums_none, sums_gain, tail_terms, sums_last}
use Rattle.series.specs.Floats.{Level}
use Rattle.series.specs.Floats.{Sums}
use Rattle.series.specs.Floats.{Tail}
use Rattle.series.specs.Floats.{Signs}
use Rattle.series.specs.Floats.{Sim3Coeffs}
use Rattle.circle.specs.Floats.{SincABD}
use Rattle.arms.specs.Values.{at_zero}
use Rattle.arms.specs.Limits.{form_b_below}
use Rattle.arms.specs.Floats.{Values}
use Rattle.coeffs.specs.ClosedForm.{closed_e, closed_m, closed_v0, closed_w0, closed_v, closed_nine, closed_exps}
use Rattle.coeffs.specs.Private.{series_arm}
use Rattle.coeffs.specs.Floats.{Exps}
use Rattle.coeffs.specs.Floats.{EtMt}
use Rattle.pairs.specs.Floats.{SeriesPairState}
use Rattle.pairs.specs.Floats.{CoeffsPair}
use Rattle.pairs.specs.Floats.{Ends}
use Rattle.pairs.specs.Floats.{ScaledPair}

-- ---- the series
abbrev pub odd : ℕ → Bool
odd j = eqb (j % 2) 1

module _ (f : Format) where
  infixl 60 ◌⊕◌ ◌⊖◌
  open operations f use {◌⊕◌, ◌⊖◌}

  -- the sums at -sigma, from sigma's terms: subtracted where `flip`
  abbrev pub gain_flip : Bool → Float → Float → Float
  gain_flip flip acc t = cond flip (acc ⊖ t) (acc ⊕ t)

  unfoldable pub sums_gain_mirrored : Bool → Sums → Sums → Sums
  sums_gain_mirrored odd s t =
      record {
        v1 = gain_flip (not odd) s.v1 t.v1;
        v2 = gain_flip odd s.v2 t.v2;
        w1 = gain_flip (not odd) s.w1 t.w1;
        w2 = gain_flip odd s.w2 t.w2;
        dv1 = gain_flip (not odd) s.dv1 t.dv1;
        dv2 = gain_flip odd s.dv2 t.dv2;
      }

  unfoldable pub sums_last_mirrored : Bool → Sums → Tail → Sums
  sums_last_mirrored odd s t =
      record {
        v1 = s.v1;
        v2 = gain_flip odd s.v2 t.v2;
        w1 = s.w1;
        w2 = gain_flip odd s.w2 t.w2;
        dv1 = gain_flip odd (gain_flip (not odd) s.dv1 t.dv1) t.dv1_next;
        dv2 = gain_flip odd (gain_flip (not odd) (gain_flip odd s.dv2 t.dv2) t.dv2_next) t.dv2_last;
      }

unfoldable pub pair_step : Format → Float → Float → Float → Float → Bool → SeriesPairState → SeriesPairState
pair_step f sigma z r1 r2 odd s =
    record {
      level = series_next f sigma z s.level;
      pos = sums_gain f s.pos (level_terms f s.level r1 r2);
      neg = sums_gain_mirrored f odd s.neg (level_terms f s.level r1 r2);
    }

unfoldable pub pair_steps : Format → Float → Float → ℕ → SeriesPairState
pair_steps f sigma z zero = record { level = series_first; pos = sums_none; neg = sums_none }
pair_steps f sigma z (suc j) =
    pair_step f sigma z (recip_fact f (j + 1)) (recip_fact f (j + 2)) (odd j) (pair_steps f sigma z j)

-- a level, and the loop's numbers, with -p for p
unfoldable pub level_minus : Level → Level
level_minus l = record { xi = l.xi; dxi = l.dxi; zeta = l.zeta; dzeta = l.dzeta; p = neg l.p }

unfoldable pub state_minus : SeriesPairState → SeriesPairState
state_minus s = record { level = level_minus s.level; pos = s.pos; neg = s.neg }

unfoldable pub pair_sums : Format → Float → Float → ℕ → Signs Sums
pair_sums f sigma z k =
    let s = pair_steps f sigma z (k + 1) in
    let t = tail_terms f sigma z s.level (recip_fact f (k + 2)) (recip_fact f (k + 3)) (recip_fact f (k + 4)) in
    record { pos = sums_last f s.pos t; neg = sums_last_mirrored f (odd (k + 1)) s.neg t }

-- the whole of it: chi times delta from sigma for both
unfoldable pub pair_full : Format → Float → Float → ℕ → CoeffsPair
pair_full f sigma z k =
    record {
      pos = series_coeffs f sigma z (g_series f sigma 1 k) (g_series f sigma 2 k) (pair_sums f sigma z k).pos;
      neg =
          series_coeffs f sigma z (g_series f (neg sigma) 1 k) (g_series f (neg sigma) 2 k) (pair_sums f sigma z k).neg;
    }

-- ---- the closed arm
-- v₀ and w₀ of both signs
unfoldable pub closed_ends : Format → Float → Exps → Exps → Bool → Ends
closed_ends f sigma x y small =
    record {
      v0 = closed_v0 f sigma x.g x.m1 small;
      w0 = closed_w0 f sigma x.g x.m1 small;
      v0_neg = closed_v0 f (neg sigma) y.g y.m1 small;
      w0_neg = closed_w0 f (neg sigma) y.g y.m1 small;
    }

-- all nine of one sign from v₀ and w₀
unfoldable pub closed_with : Format → Float → Float → SincABD → Float → Float → Float → Float → Bool → Sim3Coeffs
closed_with f sigma z t et mt v0 w0 formB =
    let e = closed_e sigma et in
    closed_nine f sigma z t e (closed_v f sigma z t e (closed_m sigma mt) v0 formB) w0

-- e^t and e^t - 1 at -σ: where σ is a zero the caller passes them separately
unfoldable pub minus_et_mt : Float → Values → EtMt
minus_et_mt sigma v = record { et = cond (at_zero sigma) v.e0 v.e; mt = cond (at_zero sigma) v.m0 v.m }

-- v₀ and w₀ of both signs from the values
unfoldable pub pair_ends : Format → Float → Bool → Values → Ends
pair_ends f sigma small v =
    let n = minus_et_mt sigma v in
    closed_ends f sigma (closed_exps sigma v.e v.m) (closed_exps (neg sigma) n.et n.mt) small

-- both signs of the closed arm at Δ, from v₀ and w₀
unfoldable pub closed_pair : Format → Float → Float → Float → Ends → SincABD → Values → ScaledPair
closed_pair f sigma z delta h t v =
    let formB = le (form_b_below f) delta in
    let n = minus_et_mt sigma v in
    record {
      pos = record { c = closed_with f sigma z t v.e v.m h.v0 h.w0 formB; scaled = lt f0 sigma };
      neg = record { c = closed_with f (neg sigma) z t n.et n.mt h.v0_neg h.w0_neg formB; scaled = lt f0 (neg sigma) };
    }

-- ---- what a series arm forms for both signs, by its number
unfoldable pub series_arms : Format → Float → Float → ℕ → ScaledPair
series_arms f sigma z arm = record { pos = series_arm f sigma z arm; neg = series_arm f (neg sigma) z arm }
