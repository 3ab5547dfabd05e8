-- The limits of the series arms rise, so a Δ that is not below the last is below none of them, and its arm is the
-- closed one. Assumes nothing.
use mathlib.Core.Path.{◌≡◌, refl, subst}
use Prim.Native.Nat.{ℕ}
use mathlib.Core.Bool.{Bool, true, false, cond}
use lib.Dec.{T}
use lib.Ieee.{Float, Format, binary32, binary64, of_bits, lt}
use Rattle.std.proofs.lemmas.Float.{lt_trans}
use Rattle.arms.specs.Limits.{short_below, mid_below, upper_below, series_below}
use Rattle.arms.specs.Arm.{coeffs_arm}

short_rises : (f : Format) → T (lt (short_below f) (series_below f))
unfolding of_bits lt
short_rises binary32 = tt
short_rises binary64 = tt

mid_rises : (f : Format) → T (lt (mid_below f) (series_below f))
unfolding of_bits lt
mid_rises binary32 = tt
mid_rises binary64 = tt

upper_rises : (f : Format) → T (lt (upper_below f) (series_below f))
unfolding of_bits lt
upper_rises binary32 = tt
upper_rises binary64 = tt

none : (a b c : Bool) → (T a → ⊥) → (T b → ⊥) → (T c → ⊥) → ◌≡◌ {A = ℕ} (cond a 1 (cond b 2 (cond c 3 5))) 5
none true b c x y z = absurd (x tt)
none false true c x y z = absurd (y tt)
none false false true x y z = absurd (z tt)
none false false false x y z = refl

pub closed-arm : (f : Format) (delta : Float) → lt delta (series_below f) ≡ false → coeffs_arm f delta ≡ 5
unfolding coeffs_arm
closed-arm f delta h =
    let above : (l : Float) → T (lt l (series_below f)) → T (lt delta l) → ⊥ =
    λ l r t. subst T h (lt_trans delta l (series_below f) t r) in
    rw h
    (none (lt delta (short_below f)) (lt delta (mid_below f)) (lt delta (upper_below f))
    (above (short_below f) (short_rises f)) (above (mid_below f) (mid_rises f))
    (above (upper_below f) (upper_rises f)))
