-- Each structure has as many numbers as its count says. Assumes nothing.
use mathlib.Core.Path.{◌≡◌, refl}
use lib.ListN.{length, length-append}
use Rattle.linalg.specs.Vector.{vec_numbers}
use Rattle.linalg.specs.Floats.{Vec3}
use Rattle.linalg.specs.Floats.{Mat3}
use Rattle.series.specs.Floats.{Sim3Coeffs}
use Rattle.coeffs.specs.Floats.{Scaled}
use Rattle.pairs.specs.Floats.{ScaledPair}
use Rattle.so3.specs.Floats.{Quat}
use Rattle.sim3.specs.Floats.{Sim3}
use Rattle.jacobian.specs.Floats.{Sim3Jac}
use Rattle.side_jacobians.specs.Floats.{BlockPair}
use Rattle.side_jacobians.specs.Floats.{ActJacobians}
use Rattle.side_jacobians.specs.Floats.{TwoJacobians}
use Rattle.layout.specs.Layout.{vec_count, mat_count, pose_count, block_count, block_pair_count, scaled_pair_count}
use Rattle.layout.specs.Layout.{two_count, act_count}
use Rattle.layout.specs.Layout.{mat_numbers, quat_numbers, pose_numbers, block_numbers, block_pair_numbers}
use Rattle.layout.specs.Layout.{coeffs_numbers, scaled_numbers, scaled_pair_numbers, two_numbers, act_numbers}

pub vec-count : (v : Vec3) → length (vec_numbers v) ≡ vec_count
unfolding vec_numbers
vec-count v = refl

pub mat-count : (m : Mat3) → length (mat_numbers m) ≡ mat_count
unfolding mat_numbers
mat-count m = simp (length-append, vec-count)

pub quat-count : (q : Quat) → length (quat_numbers q) ≡ 4
unfolding quat_numbers
quat-count q = refl

pub pose-count : (x : Sim3) → length (pose_numbers x) ≡ pose_count
unfolding pose_numbers
pose-count x = simp (length-append, quat-count, vec-count)

pub block-count : (j : Sim3Jac) → length (block_numbers j) ≡ block_count
unfolding block_numbers
block-count j = simp (length-append, mat-count, vec-count)

pub block-pair-count : (p : BlockPair) → length (block_pair_numbers p) ≡ block_pair_count
unfolding block_pair_numbers
block-pair-count p = simp (length-append, block-count)

pub coeffs_count : (c : Sim3Coeffs) → length (coeffs_numbers c) ≡ 9
unfolding coeffs_numbers
coeffs_count c = refl

pub scaled-count : (s : Scaled) → length (scaled_numbers s) ≡ 10
unfolding scaled_numbers
scaled-count s = simp (length-append, coeffs_count)

pub scaled-pair-count : (p : ScaledPair) → length (scaled_pair_numbers p) ≡ scaled_pair_count
unfolding scaled_pair_numbers
scaled-pair-count p = simp (length-append, scaled-count)

pub two_count_lem : (t : TwoJacobians) → length (two_numbers t) ≡ two_count
unfolding two_numbers
two_count_lem t = simp (length-append, block-count)

pub act_count_lem : (j : ActJacobians) → length (act_numbers j) ≡ act_count
unfolding act_numbers
act_count_lem j = simp (length-append, mat-count, vec-count)
