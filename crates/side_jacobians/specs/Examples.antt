-- The scope's ten worked examples as rows of one table, their results at f32 as rows of another, and the claim that
-- every row holds. A row has numbers: bit patterns, arms, term counts, and flags as 1 or 0. The function values v are
-- free where a row reads none of them, and so is z at a NaN.
use Rattle.std.specs.Prelude.{◌≡◌, Bool, true, false, cond, ◌&&◌, List, [], ◌∷◌, ◌++◌, ℕ, eqb, Float}
use Rattle.std.specs.Float.{nan, Format, binary32, binary64}
use Rattle.std.specs.Float.Ieee.{of_bits, to_bits, is_nan, neg, le}
use Rattle.ieee.specs.Numbers.{f0, f1, f2, f3}
use Rattle.linalg.specs.Answer.{Answer, answers, refuses}
use Rattle.linalg.specs.Vector.{vec}
use Rattle.linalg.specs.Floats.{Vec3}
use Rattle.pairs.specs.Entries.{series_pair_answer}
use Rattle.series.specs.Series.{series_full, series_answer, series_v_answer}
use Rattle.series.specs.Floats.{Sim3Coeffs}
use Rattle.arms.specs.Limits.{coeffs_delta, form_b_below}
use Rattle.arms.specs.Arm.{coeffs_arm, arm_terms}
use Rattle.coeffs.specs.Group.{coeffs_scaled}
use Rattle.arms.specs.Floats.{Values}
use Rattle.so3.specs.Quat.{quat, quat_renormalized}
use Rattle.so3.specs.Floats.{Quat}
use Rattle.sim3.specs.Tangent.{tangent}
use Rattle.sim3.specs.Exp.{pose_exp}

-- ---- a row: the definitions' result, and the expected one
pub record Example : Type 0 where
  pub found : List ℕ
  pub due : List ℕ

unfoldable pub same : List ℕ → List ℕ → Bool
same [] [] = true
same [] (y ∷ ys) = false
same (x ∷ xs) [] = false
same (x ∷ xs) (y ∷ ys) = eqb x y && same xs ys

unfoldable pub all_same : List Example → Bool
all_same [] = true
all_same (e ∷ es) = same e.found e.due && all_same es

-- ---- the numbers of a row
abbrev flag : Bool → ℕ
flag b = cond b 1 0

-- the number of a refusal, or 0 for an answer
abbrev refusal : {A : Type 0} → Answer A → ℕ
refusal (answers a) = 0
refusal (refuses n) = n

abbrev nine : (Float → ℕ) → Sim3Coeffs → List ℕ
nine g c = g c.v0 ∷ g c.v1 ∷ g c.v2 ∷ g c.w0 ∷ g c.w1 ∷ g c.w2 ∷ g c.dv1 ∷ g c.dv2 ∷ g c.chi_delta ∷ []

abbrev four : Format → Quat → List ℕ
four f q = to_bits f q.w ∷ to_bits f q.x ∷ to_bits f q.y ∷ to_bits f q.z ∷ []

abbrev three : Format → Vec3 → List ℕ
three f v = to_bits f v.x ∷ to_bits f v.y ∷ to_bits f v.z ∷ []

-- the arm that the coefficients take, where 5 is the closed one; its term count; whether they are scaled; and whether
-- v₁ takes form b
abbrev arm_at : Format → Float → Float → ℕ
arm_at f sigma z = coeffs_arm f (coeffs_delta f sigma z)

abbrev terms_at : Format → Float → Float → ℕ
terms_at f sigma z = arm_terms f (arm_at f sigma z)

abbrev is_scaled : Format → Float → Float → Values → ℕ
is_scaled f sigma z v = flag (coeffs_scaled f sigma z v).scaled

abbrev on_form_b : Format → Float → Float → ℕ
on_form_b f sigma z = flag (le (form_b_below f) (coeffs_delta f sigma z))

-- arm and term count at σ = 0 and the z with this pattern
abbrev arm_bits : Format → ℕ → List ℕ
arm_bits f b = arm_at f f0 (of_bits f b) ∷ terms_at f f0 (of_bits f b) ∷ []

abbrev row : List ℕ → List ℕ → Example
row found due = record { found = found; due = due }

-- ---- the ten; after the eighth, a series that is refused, the same for v alone and for the pair, and that refusal 1
-- comes first
unfoldable pub table : Values → Float → List Example
table v z =
    row (nine (to_bits binary64) (coeffs_scaled binary64 f0 f0 v).c ++ is_scaled binary64 f0 f0 v ∷ [])
    (0x3ff0000000000000 ∷ 0x3fe0000000000000 ∷ 0x3fc5555555555555 ∷ 0x3fe0000000000000 ∷ 0x3fc5555555555555
    ∷ 0x3fa5555555555555 ∷ 0xbfa5555555555555 ∷ 0xbf81111111111111 ∷ 0 ∷ 0 ∷ [])
    ∷ row (arm_at binary64 f0 (of_bits binary64 0x3fffb1ffbc2a9c8b)
    ∷ terms_at binary64 f0 (of_bits binary64 0x3fffb1ffbc2a9c8b) ∷ []) (4 ∷ 19 ∷ [])
    ∷ row (arm_at binary64 f0 (of_bits binary64 0x3fffb1ffbc2a9c8c)
    ∷ is_scaled binary64 f0 (of_bits binary64 0x3fffb1ffbc2a9c8c) v ∷ []) (5 ∷ 0 ∷ [])
    ∷ row (terms_at binary64 f0 (of_bits binary64 0x3f0c70e59cfc9f1e)
    ∷ terms_at binary64 f0 (of_bits binary64 0x3f0c70e59cfc9f1f) ∷ []) (6 ∷ 11 ∷ [])
    ∷ row (is_scaled binary64 f2 f0 v ∷ []) (1 ∷ [])
    ∷ row (is_scaled binary64 (neg f2) f0 v ∷ []) (0 ∷ [])
    ∷ row (arm_at binary64 nan z ∷ is_scaled binary64 nan z v ∷ []) (5 ∷ 0 ∷ [])
    ∷ row (nine (λ x. flag (is_nan x)) (series_full binary64 f0 f0 28) ++ refusal (series_answer binary64 f0 f0 28)
    ∷ refusal (series_answer binary64 f0 f0 29) ∷ [])
    (0 ∷ 0 ∷ 0 ∷ 0 ∷ 0 ∷ 0 ∷ 0 ∷ 0 ∷ 0 ∷ 0 ∷ 4 ∷ [])
    ∷ row (refusal (series_v_answer binary64 f0 f0 30) ∷ refusal (series_v_answer binary64 f0 f0 31)
    ∷ refusal (series_pair_answer binary64 f0 f0 28) ∷ refusal (series_pair_answer binary64 f0 f0 29) ∷ [])
    (0 ∷ 4 ∷ 0 ∷ 4 ∷ [])
    ∷ row (refusal (series_answer binary64 f0 (neg f1) 29) ∷ refusal (series_v_answer binary64 f0 (neg f1) 31) ∷ [])
    (1 ∷ 1 ∷ [])
    ∷ row (four binary64 (quat_renormalized binary64 (quat f2 f0 f0 f0)))
    (0xbff0000000000000 ∷ 0x8000000000000000 ∷ 0x8000000000000000 ∷ 0x8000000000000000 ∷ [])
    ∷ row (four binary64 (pose_exp binary64 (tangent (vec f0 f0 f0) (vec f1 f2 f3) f0) v).q
    ++ three binary64 (pose_exp binary64 (tangent (vec f0 f0 f0) (vec f1 f2 f3) f0) v).t)
    (0x3ff0000000000000 ∷ 0 ∷ 0 ∷ 0 ∷ 0x3ff0000000000000 ∷ 0x4000000000000000 ∷ 0x4008000000000000 ∷ [])
    ∷ []

-- ---- at f32
-- the values v with E and M
abbrev with_exp : Values → Float → Float → Values
with_exp v e m =
    record {
      root = v.root;
      sin_half = v.sin_half;
      cos_half = v.cos_half;
      sin = v.sin;
      e = e;
      m = m;
      e0 = v.e0;
      m0 = v.m0;
      up = v.up;
      down = v.down;
    }

-- e^-1 and e^-1 - 1
abbrev at_one : Values → Values
at_one v = with_exp v (of_bits binary32 0x3ebc5ab2) (of_bits binary32 0xbf21d2a7)

-- rows 1 and 5 to 10 of the ten; for each limit of an arm both its sides; form b of v₁ on both sides of its limit, and
-- a v₁ in form a, whose form b has the bits 3e9b5f9f
unfoldable pub singles : Values → Float → List Example
singles v z =
    row (nine (to_bits binary32) (coeffs_scaled binary32 f0 f0 v).c ++ is_scaled binary32 f0 f0 v ∷ [])
    (0x3f800000 ∷ 0x3f000000 ∷ 0x3e2aaaab ∷ 0x3f000000 ∷ 0x3e2aaaab ∷ 0x3d2aaaab ∷ 0xbd2aaaab ∷ 0xbc088889 ∷ 0 ∷ 0 ∷ [])
    ∷ row (arm_bits binary32 0x3a7ce157 ++ arm_bits binary32 0x3a7ce158) (1 ∷ 4 ∷ 2 ∷ 7 ∷ [])
    ∷ row (arm_bits binary32 0x3e03ba1f ++ arm_bits binary32 0x3e03ba20) (2 ∷ 7 ∷ 3 ∷ 9 ∷ [])
    ∷ row (arm_bits binary32 0x3f205df2 ++ arm_bits binary32 0x3f205df3) (3 ∷ 9 ∷ 4 ∷ 11 ∷ [])
    ∷ row (arm_bits binary32 0x4017c495 ++ arm_at binary32 f0 (of_bits binary32 0x4017c496) ∷ []) (4 ∷ 11 ∷ 5 ∷ [])
    ∷ row (on_form_b binary32 f0 (of_bits binary32 0x40ba8a91) ∷ on_form_b binary32 f0 (of_bits binary32 0x40ba8a92)
    ∷ []) (0 ∷ 1 ∷ [])
    ∷ row (arm_at binary32 f1 f2 ∷ on_form_b binary32 f1 f2 ∷ to_bits binary32
    (coeffs_scaled binary32 f1 f2 (at_one v)).c.v1 ∷ []) (5 ∷ 0 ∷ 0x3e9b5fa0 ∷ [])
    ∷ row (is_scaled binary32 f2 f0 v ∷ is_scaled binary32 (neg f2) f0 v ∷ []) (1 ∷ 0 ∷ [])
    ∷ row (arm_at binary32 nan z ∷ is_scaled binary32 nan z v ∷ []) (5 ∷ 0 ∷ [])
    ∷ row (nine (λ x. flag (is_nan x)) (series_full binary32 f0 f0 28) ++ refusal (series_answer binary32 f0 f0 28)
    ∷ refusal (series_answer binary32 f0 f0 29) ∷ [])
    (0 ∷ 0 ∷ 0 ∷ 0 ∷ 0 ∷ 0 ∷ 0 ∷ 0 ∷ 0 ∷ 0 ∷ 4 ∷ [])
    ∷ row (refusal (series_v_answer binary32 f0 f0 30) ∷ refusal (series_v_answer binary32 f0 f0 31)
    ∷ refusal (series_pair_answer binary32 f0 f0 28) ∷ refusal (series_pair_answer binary32 f0 f0 29) ∷ [])
    (0 ∷ 4 ∷ 0 ∷ 4 ∷ [])
    ∷ row (refusal (series_answer binary32 f0 (neg f1) 29) ∷ refusal (series_v_answer binary32 f0 (neg f1) 31) ∷ [])
    (1 ∷ 1 ∷ [])
    ∷ row (four binary32 (quat_renormalized binary32 (quat f2 f0 f0 f0)))
    (0xbf800000 ∷ 0x80000000 ∷ 0x80000000 ∷ 0x80000000 ∷ [])
    ∷ row (four binary32 (pose_exp binary32 (tangent (vec f0 f0 f0) (vec f1 f2 f3) f0) v).q
    ++ three binary32 (pose_exp binary32 (tangent (vec f0 f0 f0) (vec f1 f2 f3) f0) v).t)
    (0x3f800000 ∷ 0 ∷ 0 ∷ 0 ∷ 0x3f800000 ∷ 0x40000000 ∷ 0x40400000 ∷ [])
    ∷ []

-- what `examples` proves
abbrev pub ExamplesHold : Type 0
ExamplesHold = (v : Values) (z : Float) → all_same (table v z) ≡ true

-- and `single_examples`
abbrev pub SinglesHold : Type 0
SinglesHold = (v : Values) (z : Float) → all_same (singles v z) ≡ true
