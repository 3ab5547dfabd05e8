-- |v|², once as a formula, so as a tree and as an exact value, and what is proved of its rounding error.
use Rattle.std.specs.Prelude.{[], ◌∷◌, ℕ, ◌+◌, ◌*◌, ◌^◌, ◌≤◌, ◌<◌, T, Float}
use Rattle.std.specs.Float.{Format, binary32, binary64}
use Rattle.linalg.specs.Vector.{vec_norm_sq}
use Rattle.linalg.specs.Floats.{Vec3}
use Rattle.rounding.specs.Value.{Value, AtMost, AbsoluteError}
use Rattle.rounding.specs.Roundoff.{rounding_error}
use Rattle.rounding.specs.Tree.{Term, in_range}
use Rattle.rounding.specs.Arithmetic.{Arithmetic, trees, exactly}
use Rattle.rounding.specs.Leaves.{error_at_most}
use Rattle.accuracy.specs.Box.{Three, exact_vec, VecIn}
use Rattle.accuracy.specs.Action.{leaves}

module _ {A : Type 0} (arithmetic : Arithmetic A) where
  infixl 60 ◌⊕◌
  infixl 70 ◌⊗◌
  open arithmetic use {◌⊕◌, ◌⊗◌}

  abbrev pub norm_sq : Three A → A
  norm_sq v = v.x ⊗ v.x ⊕ v.y ⊗ v.y ⊕ v.z ⊗ v.z

abbrev pub exact_norm_sq : Three Value → Value
exact_norm_sq v = norm_sq exactly v

unfoldable pub tree_norm_sq : Term
tree_norm_sq = norm_sq trees (leaves 0 1 2)

-- ---- what is proved
-- r is |v|² for a v of numbers up to b / w: within e / w of the exact one
abbrev pub NormIn : ℕ → ℕ → ℕ → Vec3 → Float → Type 0
NormIn w b e v r = VecIn w b v → AbsoluteError w r (exact_norm_sq (exact_vec v)) e

-- for every box whose bound is computed to be at most e
abbrev pub NormAccurate : Format → Vec3 → Float → Type 0
NormAccurate f v r = (w b e : ℕ) → 0 < w → T (error_at_most f w (b ∷ b ∷ b ∷ []) tree_norm_sq e) → NormIn w b e v r

-- r is |v|², where it is at most m / w: within e / w. So the error is relative to |v|², and not to the square of v's
-- greatest number; three roundings of |v|² and a few units
abbrev pub NormRelative : Format → Vec3 → Float → Type 0
NormRelative f v r =
    (w b m e : ℕ) → 0 < w → T (in_range f w (m + 3 + e)) →
    3 * rounding_error f w (m + 3 + e) + 2 * rounding_error f w 0 ≤ e →
    VecIn w b v → AtMost w (exact_norm_sq (exact_vec v)) m → AbsoluteError w r (exact_norm_sq (exact_vec v)) e

pub record NormTheorem : Type 0 where
  -- in any format and box
  pub norm : (f : Format) (v : Vec3) → NormAccurate f v (vec_norm_sq f v)
  pub relative : (f : Format) (v : Vec3) → NormRelative f v (vec_norm_sq f v)
  -- numbers up to 5 / 2: within 2^-47 at doubles, and 2^-18 at singles
  pub doubles : (v : Vec3) → NormIn (2 ^ 100) (5 * 2 ^ 99) (2 ^ 53) v (vec_norm_sq binary64 v)
  pub singles : (v : Vec3) → NormIn (2 ^ 100) (5 * 2 ^ 99) (2 ^ 82) v (vec_norm_sq binary32 v)
