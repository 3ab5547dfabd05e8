-- The running join beside the mathematics: the poses as similarities, p ↦ s R p + t with the true rotations R by their
-- quaternions, and their product. No renormalisation is in it: R does not depend on the quaternion's length.
use Rattle.std.specs.Prelude.{Some, None, cond, List, [], ◌∷◌, ℕ, ◌+◌, ◌*◌, ◌^◌, ◌≤◌, ◌<◌, T, ltb, eqb, Float}
use Rattle.std.specs.Float.{Format, binary64}
use Rattle.linalg.specs.Floats.{Vec3}
use Rattle.sim3.specs.Pose.{pose_act}
use Rattle.frames.specs.Floats.{Pose}
use Rattle.running.specs.Running.{Start}
use Rattle.rounding.specs.Value.{Value, AtMost, AbsoluteError}
use Rattle.rounding.specs.Leaves.{errorless}
use Rattle.accuracy.specs.Box.{Three, exact_vec, exact_quat, VecIn, VecError}
use Rattle.accuracy.specs.Action.{exact_scaled_sum}
use Rattle.accuracy.specs.Quaternions.{exact_hamilton}
use Rattle.accuracy.specs.Rotation.{true_rotation, true_error}
use Rattle.running_accuracy.specs.Joins.{Join, Exact, exact_pose}
use Rattle.running_accuracy.specs.Running.{Step, joins, renews, count, join_at, JoinBox, box_holds, run_holds, act_test}
use Rattle.running_accuracy.specs.Running.{bound_at, away, FirstIn, AllStepsIn, page_box, pose_after}

-- the product with one similarity more; the scale of x is handed in with the pose j
unfoldable pub true_join : Exact → Join → Exact
unfolding exact_hamilton true_rotation
true_join x j =
    record {
      q = exact_hamilton x.q (exact_quat j.pose.q);
      t = exact_scaled_sum (true_rotation x.q (exact_vec j.pose.t)) j.scale x.t;
    }

-- the product of the poses that are accepted; X is from the frame i
unfoldable pub true_ran : ℕ → Exact → List Step → Exact
unfolding true_join
true_ran i X [] = X
true_ran i X (renews m ∷ l) = true_ran i X l
true_ran i X (joins x up s ∷ l) =
    cond (eqb i x.to) (true_ran x.from (true_join X (join_at x up s)) l) (true_ran i X l)

-- s R p + t, with the true rotation R
unfoldable pub true_act_by : Exact → Value → Vec3 → Three Value
unfolding true_rotation
true_act_by X s p = exact_scaled_sum (true_rotation X.q (exact_vec p)) s X.t

-- the running pose is there, and acts on the point p within e of the similarity
unfoldable pub SimilarityError : Format → ℕ → ℕ → Float → Value → Vec3 → Start → Exact → Type 0
SimilarityError f u e up s p None X = ⊥
SimilarityError f u e up s p (Some x) X = VecError u (pose_act f x.sim3 up p) (true_act_by X s p) e

-- ---- what is proved
-- how far the formulas' rotations are from true ones: in N joins, and in the action on a point up to b by a scale up to
-- s
abbrev pub formulas_error : JoinBox → ℕ → ℕ → ℕ → ℕ
formulas_error L N b s =
    true_error L.unit (away L) b s + N * true_error L.unit (away L) L.translation L.scale

-- After any history of poses and new n, with n set from the start, each coordinate of the running pose's action on the
-- point pt, by the scale up within h of the exact z, is within e / unit and the formulas' error of the product of the
-- similarities: for every box and up to N joins whose bound for the action (PageAccurate) is computed to be at most e.
abbrev pub SimilarityAccurate : Format → ℕ → Pose → List Step → Start → Type 0
SimilarityAccurate f n p l r =
    (L : JoinBox) (b s h e N : ℕ) (up : Float) (z : Value) (pt : Vec3) → T (box_holds L) → T (ltb L.every 65536) →
    T (run_holds f L (act_test f L.unit b s h e) (bound_at L 0 (errorless L.translation)) N) →
    count l ≤ N → 0 < n → n ≤ L.every → FirstIn L p → AllStepsIn L l →
    VecIn L.unit b pt → AbsoluteError L.unit up z h → AtMost L.unit z s → 0 < z.d →
    SimilarityError f L.unit (e + formulas_error L N b s) up z pt r (true_ran p.from (exact_pose p.sim3) l)

-- the action on a point of the box, by a scale of the box, is within e
abbrev pub SimilarityIn : Format → JoinBox → ℕ → ℕ → Type 0
SimilarityIn f L N e =
    (n : ℕ) (p : Pose) (up : Float) (l : List Step) (scale : Float) (z : Value) (pt : Vec3) →
    count l ≤ N → 0 < n → n ≤ L.every → FirstIn L p → AllStepsIn L l →
    VecIn L.unit L.translation pt → AbsoluteError L.unit scale z L.scale_error → AtMost L.unit z L.scale → 0 < z.d →
    SimilarityError f L.unit e scale z pt (pose_after f n p up l) (true_ran p.from (exact_pose p.sim3) l)

-- the box of a page, with lengths within 2^-50 of 1, and with scales that are within h / 2^100 of the products of the
-- poses'
abbrev pub close_page_box : ℕ → JoinBox
close_page_box h =
    record {
      unit = 2 ^ 100;
      length = 2 ^ 100 + 2 ^ 50;
      square = 2 ^ 51 + 1;
      translation = 2 ^ 116;
      scale = 2 ^ 102;
      scale_error = h;
      longest = 2 ^ 100 + 2 ^ 55;
      drift = 2 ^ 51 + 2 ^ 8;
      every = 16;
    }

pub record SimilarityTheorem : Type 0 where
  -- any format, box and number of joins
  pub similarity : (f : Format) (n : ℕ) (p : Pose) (up : Float) (l : List Step) → SimilarityAccurate f n p l
      (pose_after f n p up l)
  -- a page after up to 100 joins, and up to 1000: within 2^-8, and 2^-5
  pub page_hundred : SimilarityIn binary64 page_box 100 (2 ^ 92)
  pub page_thousand : SimilarityIn binary64 page_box 1000 (2 ^ 95)
  -- with lengths within 2^-50 of 1, and each e^σ handed in within 2^-50, so that scales are within 2^-42 and 2^-39 more
  -- of the products (ScaleTheorem): within 2^-13, and 2^-7, nearly as beside the formulas
  pub close_hundred : SimilarityIn binary64 (close_page_box (2 ^ 50 + 2 ^ 58)) 100 (2 ^ 87)
  pub close_thousand : SimilarityIn binary64 (close_page_box (2 ^ 50 + 2 ^ 61)) 1000 (2 ^ 93)
