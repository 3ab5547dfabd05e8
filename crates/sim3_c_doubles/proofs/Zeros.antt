-- Lists of zeros as those of a running join without a pose. Assumes nothing.
use Prim.Native.Nat.{ℕ}
use mathlib.Core.Path.{◌≡◌, ap, ◌∙◌}
use mathlib.Core.List.{List, [], ◌∷◌}
use lib.ListN.{length, replicate}
use lib.Ieee.{Float}
use Rattle.linalg.specs.Vector.{vec_numbers}
use Rattle.layout.specs.Layout.{quat_numbers, pose_numbers}
use Rattle.sim3_c_doubles.specs.Join.{zero_pose}

pub zero_numbers : (l m : List Float) → length l ≡ 8 → m ≡ replicate (length l) zero_pose.sim3.sigma →
    m ≡ pose_numbers zero_pose.sim3
unfolding pose_numbers quat_numbers vec_numbers
zero_numbers l m h e = e ∙ ap (λ (n : ℕ). replicate n zero_pose.sim3.sigma) h

pub zero_state : (l m : List ℕ) → length l ≡ 5 → m ≡ replicate (length l) 0 → m ≡ 0 ∷ 0 ∷ 0 ∷ 0 ∷ 0 ∷ []
zero_state l m h e = e ∙ ap (λ (n : ℕ). replicate n 0) h
