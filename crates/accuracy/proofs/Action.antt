-- The error of the action of a pose. Assumes nothing.
use mathlib.Core.Path.{refl}
use mathlib.Core.Bool.{◌&&◌}
use Prim.Native.Nat.{◌+◌, ◌^◌}
use lib.Dec.{T, lit<}
use lib.Ieee.Fits.{and_l, and_r}
use lib.Ieee.{Float, Format, binary32, binary64, sub}
use Rattle.linalg.specs.Vector.{vec_scale, vec_cross, vec_add}
use Rattle.linalg.specs.Floats.{Vec3}
use Rattle.so3.specs.So3.{so3_act}
use Rattle.sim3.specs.Pose.{pose_act}
use Rattle.sim3.specs.Floats.{Sim3}
use Rattle.rounding.specs.Tree.{computed, exact, bound, no_overflow}
use Rattle.rounding.specs.Leaves.{AllBounded, error_at_most}
use Rattle.rounding.proofs.Leaves.{tree-error, two_bounded}
use Rattle.accuracy.specs.Action.{exact_act, tree_act, act_leaves, act_sizes, ActionAccurate, ActionTheorem}

pub act_accurate : (f : Format) (x : Sim3) (up : Float) (p : Vec3) → ActionAccurate f x up p (pose_act f x up p)
unfolding computed exact tree_act pose_act so3_act vec_scale vec_cross vec_add sub exact_act
act_accurate f x up p w q b s t e z k hq hp hs ht =
    let bs = act_sizes w q b s t in
    let l = act_leaves x up p in
    let all : AllBounded w l bs =
    (two_bounded w, (hq.w, (hq.x, (hq.y, (hq.z, (hp.x, (hp.y, (hp.z, (hs, (ht.x, (ht.y, (ht.z, tt)))))))))))) in
    let kx = error_at_most f w bs tree_act.x e in
    let ky = error_at_most f w bs tree_act.y e in
    let kz = error_at_most f w bs tree_act.z e in
    let r : T (ky && kz) = and_r kx (ky && kz) k in
    let P = pose_act f x up p in
    let Y = exact_act x up p in
    record {
      x = tree-error f w l bs tree_act.x P.x Y.x e z all (and_l kx (ky && kz) k) refl refl;
      y = tree-error f w l bs tree_act.y P.y Y.y e z all (and_l ky kz r) refl refl;
      z = tree-error f w l bs tree_act.z P.z Y.z e z all (and_r ky kz r) refl refl;
    }

-- what specs/Action.antt states
pub action : ActionTheorem
action =
    record {
      action = act_accurate;
      doubles =
          λ x up p. act_accurate binary64 x up p (2 ^ 100) (2 ^ 100 + 2 ^ 60) (2 ^ 116) (2 ^ 104) (2 ^ 120) (2 ^ 74)
          (lit< tt) (unfold no_overflow bound tree_act in tt);
      singles =
          λ x up p. act_accurate binary32 x up p (2 ^ 100) (2 ^ 100 + 2 ^ 84) (2 ^ 116) (2 ^ 104) (2 ^ 120) (2 ^ 103)
          (lit< tt) (unfold no_overflow bound tree_act in tt);
      unit_doubles =
          λ x up p. act_accurate binary64 x up p (2 ^ 100) (2 ^ 100 + 2 ^ 60) (2 ^ 100) (2 ^ 100) (2 ^ 100) (2 ^ 54)
          (lit< tt) (unfold no_overflow bound tree_act in tt);
      unit_singles =
          λ x up p. act_accurate binary32 x up p (2 ^ 100) (2 ^ 100 + 2 ^ 84) (2 ^ 100) (2 ^ 100) (2 ^ 100) (2 ^ 83)
          (lit< tt) (unfold no_overflow bound tree_act in tt);
    }
