-- The running join with its renormalisations: exactly, and a bound of the difference after each product.
use Rattle.std.specs.Prelude.{Some, None, Bool, cond, ◌&&◌, List, [], ◌∷◌, ℕ, zero, suc, ◌+◌, ◌*◌, ◌^◌, ◌≤◌, ◌<◌, T}
use Rattle.std.specs.Prelude.{leb, ltb, eqb, Float}
use Rattle.std.specs.Float.{Format, binary32, binary64}
use Rattle.linalg.specs.Floats.{Vec3}
use Rattle.sim3.specs.Pose.{pose_act}
use Rattle.frames.specs.Floats.{Pose}
use Rattle.running.specs.Running.{Start, due, running_none}
use Rattle.running.specs.History.{Event, join, renew, after}
use Rattle.rounding.specs.Value.{Value, AtMost, AbsoluteError}
use Rattle.rounding.specs.Tree.{Bound, upward, bound, no_overflow}
use Rattle.rounding.specs.Leaves.{sizes, errorless}
use Rattle.accuracy.specs.Box.{Three, VecError, exact_vec, QuatError, exact_quat, vector_part, VecIn}
use Rattle.accuracy.specs.Action.{exact_scaled_sum, exact_rotate}
use Rattle.accuracy.specs.Quaternions.{Normal, exact_newton, tree_newton, newton_sizes}
use Rattle.running_accuracy.specs.Products.{product_error, LengthAtMost}
use Rattle.running_accuracy.specs.Joins.{Join, Exact, exact_pose, exact_join, JoinIn, PoseBound, moved_bound}
use Rattle.running_accuracy.specs.Joins.{moved_no_overflow, join_no_overflow}

-- what happens to the running join: a pose with the running pose's scale as it was handed in and exactly, or a new n
pub data Step : Type 0 where
  joins : Pose → Float → Value → Step
  renews : ℕ → Step

unfoldable pub events : List Step → List Event
events [] = []
events (joins x up s ∷ l) = join x up ∷ events l
events (renews n ∷ l) = renew n ∷ events l

-- how many poses are among them
unfoldable pub count : List Step → ℕ
count [] = 0
count (joins x up s ∷ l) = suc (count l)
count (renews n ∷ l) = count l

abbrev pub join_at : Pose → Float → Value → Join
join_at x up s = record { pose = x.sim3; up = up; scale = s }

abbrev pub exact_renormalized : Exact → Exact
exact_renormalized x = record { q = exact_newton x.q; t = x.t }

-- the running pose in exact arithmetic, with the products accepted and renormalised where the running join does so: n
-- is set, there were k products since the last renormalisation, and the pose is from the frame i
unfoldable pub exact_ran : ℕ → ℕ → ℕ → Exact → List Step → Exact
exact_ran n k i X [] = X
exact_ran n k i X (renews m ∷ l) = exact_ran m k i X l
exact_ran n k i X (joins x up s ∷ l) =
    cond (eqb i x.to)
    (cond (due n (k + 1)) (exact_ran n 0 x.from (exact_renormalized (exact_join X (join_at x up s))) l)
    (exact_ran n (k + 1) x.from (exact_join X (join_at x up s)) l))
    (exact_ran n k i X l)

-- ---- what is known of the poses that are joined, in units of 1 / unit
pub record JoinBox : Type 0 where
  pub unit : ℕ
  -- each rotation's length is at most this, and its square within `square` of 1
  pub length : ℕ
  pub square : ℕ
  -- the numbers of a translation, the scale of the running pose, and the error of that scale as it is handed in
  pub translation : ℕ
  pub scale : ℕ
  pub scale_error : ℕ
  -- the greatest length of the running rotation, and how far one product moves the square of its length
  pub longest : ℕ
  pub drift : ℕ
  -- n, after how many products it is renormalised, is from 1 to this
  pub every : ℕ

-- the square of the length is never farther from 1
abbrev pub away : JoinBox → ℕ
away L = L.drift * suc L.every

pub record StepIn (L : JoinBox) (x : Pose) (up : Float) (s : Value) : Type 0 where
  pub fit : JoinIn L.unit L.length L.translation L.scale L.scale_error (join_at x up s)
  pub normal : Normal L.unit L.square (exact_quat x.sim3.q)

unfoldable pub AllStepsIn : JoinBox → List Step → Type 0
AllStepsIn L [] = Unit {0}
AllStepsIn L (joins x up s ∷ l) = StepIn L x up s × AllStepsIn L l
AllStepsIn L (renews n ∷ l) = ((0 < n) × (n ≤ L.every)) × AllStepsIn L l

-- the computed test of a box: the running rotation's length stays near 1
abbrev pub box_holds : JoinBox → Bool
box_holds L =
    leb 1 L.unit
    && (leb 1 L.longest
    && (leb (L.square + 3 * upward L.unit (L.drift * L.every * L.square)) L.drift
    && (leb (upward L.unit (away L * away L)) L.drift
    && (leb L.square L.drift
    && (leb (L.unit * (L.unit + away L)) (L.longest * L.longest)
    && leb (4 * away L) L.unit)))))

-- ---- the bounds
unfoldable pub newton_error : Format → ℕ → ℕ → ℕ
unfolding bound tree_newton
newton_error f u a = (bound f u (sizes (newton_sizes u a)) tree_newton.w).error

abbrev pub cube : ℕ → ℕ → ℕ
cube u d = upward (u * u) (d * d * d)

unfoldable pub newton_far : Format → JoinBox → ℕ → ℕ
unfolding newton_error
newton_far f L d =
    2 * newton_error f L.unit (L.longest + d) + upward (2 * L.unit) ((2 * L.unit + away L) * (d + cube L.unit d))

unfoldable pub product_far : Format → JoinBox → ℕ → ℕ
unfolding product_error
product_far f L d = 2 * product_error f L.unit L.length (L.longest + d) + upward L.unit (d * L.length)

-- as if every product were renormalised
unfoldable pub step_bound : Format → JoinBox → PoseBound → PoseBound
unfolding newton_far product_far moved_bound
step_bound f L p =
    record {
      rotation = record { magnitude = L.longest; error = newton_far f L (product_far f L p.rotation.error) };
      translation = moved_bound f L.unit L.translation L.scale L.scale_error p;
    }

-- the Newton step of what is within d of the exact one
unfoldable pub newton_no_overflow : Format → JoinBox → ℕ → Bool
unfolding no_overflow tree_newton newton_far
newton_no_overflow f L d =
    no_overflow f L.unit (sizes (newton_sizes L.unit (L.longest + d))) tree_newton.w
    && (leb d (newton_far f L d) && leb (4 * ((L.longest + d) * (L.longest + d))) (7 * (L.unit * L.unit)))

unfoldable pub step_no_overflow : Format → JoinBox → PoseBound → Bool
unfolding join_no_overflow newton_no_overflow product_far
step_no_overflow f L p =
    join_no_overflow f L.unit L.length L.translation L.scale L.scale_error p
    && newton_no_overflow f L (product_far f L p.rotation.error)

-- the test e stands after each of n products, and nothing overflows
unfoldable pub run_holds : Format → JoinBox → (PoseBound → Bool) → PoseBound → ℕ → Bool
unfolding step_bound step_no_overflow
run_holds f L e p zero = e p
run_holds f L e p (suc n) = e p && (step_no_overflow f L p && run_holds f L e (step_bound f L p) n)

-- the rotation's error is at most c and the translation's at most g
abbrev pub close_test : ℕ → ℕ → PoseBound → Bool
close_test c g p = leb p.rotation.error c && leb p.translation.error g

-- the error of the action on a point of at most b, by a scale of at most s within h, is at most e
unfoldable pub act_test : Format → ℕ → ℕ → ℕ → ℕ → ℕ → PoseBound → Bool
unfolding moved_no_overflow moved_bound
act_test f u b s h e p = moved_no_overflow f u b s h p && leb (moved_bound f u b s h p).error e

abbrev pub bound_at : JoinBox → ℕ → Bound → PoseBound
bound_at L d w = record { rotation = record { magnitude = L.longest; error = d }; translation = w }

-- the running pose is there, finite, and its numbers within c and g
unfoldable pub RunningError : ℕ → ℕ → ℕ → Start → Exact → Type 0
RunningError u c g None X = ⊥
RunningError u c g (Some p) X = QuatError u p.sim3.q X.q c × VecError u p.sim3.t X.t g

-- s R p + t, exactly
unfoldable pub exact_act_by : Exact → Value → Vec3 → Three Value
unfolding exact_rotate
exact_act_by X s p = exact_scaled_sum (exact_rotate X.q.w (vector_part X.q) (exact_vec p)) s X.t

-- the running pose is there, and acts on the point p within e
unfoldable pub ActionError : Format → ℕ → ℕ → Float → Value → Vec3 → Start → Exact → Type 0
ActionError f u e up s p None X = ⊥
ActionError f u e up s p (Some x) X = VecError u (pose_act f x.sim3 up p) (exact_act_by X s p) e

-- what is known of the first pose
pub record FirstIn (L : JoinBox) (p : Pose) : Type 0 where
  pub q : LengthAtMost L.unit L.length p.sim3.q
  pub t : VecIn L.unit L.translation p.sim3.t
  pub normal : Normal L.unit L.square (exact_quat p.sim3.q)

-- the events of a running join: n is set, a first pose, and then l
abbrev pub history_of : ℕ → Pose → Float → List Step → List Event
history_of n p up l = renew n ∷ join p up ∷ events l

-- ---- the boxes of the table, in units of 2^-100
-- lengths within 2^-40 of 1, translations up to 2^10, scales up to 2 within 2^-52, n from 1 to 65535
abbrev pub box_doubles : JoinBox
box_doubles =
    record {
      unit = 2 ^ 100;
      length = 2 ^ 100 + 2 ^ 60;
      square = 2 ^ 61 + 2 ^ 21;
      translation = 2 ^ 110;
      scale = 2 ^ 101;
      scale_error = 2 ^ 48;
      longest = 2 ^ 100 + 2 ^ 77;
      drift = 2 ^ 61 + 2 ^ 50;
      every = 65535;
    }

-- lengths within 2^-20 of 1, translations up to 2^10, scales up to 2 within 2^-23, n from 1 to 16
abbrev pub box_singles : JoinBox
box_singles =
    record {
      unit = 2 ^ 100;
      length = 2 ^ 100 + 2 ^ 80;
      square = 2 ^ 81 + 2 ^ 61;
      translation = 2 ^ 110;
      scale = 2 ^ 101;
      scale_error = 2 ^ 77;
      longest = 2 ^ 100 + 2 ^ 85;
      drift = 2 ^ 81 + 2 ^ 75;
      every = 16;
    }

-- a page: lengths within 2^-40 of 1, translations up to 2^16, scales up to 4 within 2^-50, n from 1 to 16
abbrev pub page_box : JoinBox
page_box =
    record {
      unit = 2 ^ 100;
      length = 2 ^ 100 + 2 ^ 60;
      square = 2 ^ 61 + 2 ^ 21;
      translation = 2 ^ 116;
      scale = 2 ^ 102;
      scale_error = 2 ^ 50;
      longest = 2 ^ 100 + 2 ^ 65;
      drift = 2 ^ 61 + 2 ^ 40;
      every = 16;
    }

-- ---- what is proved
-- After any history of poses and new n, with n set from the start, the running pose r is there, each number of its
-- rotation within c / unit and of its translation within g / unit of the same history in exact arithmetic: for every
-- box and up to N joins whose bound is computed to be at most c and g.
abbrev pub RunningAccurate : Format → ℕ → Pose → List Step → Start → Type 0
RunningAccurate f n p l r =
    (L : JoinBox) (c g N : ℕ) → T (box_holds L) → T (ltb L.every 65536) →
    T (run_holds f L (close_test c g) (bound_at L 0 (errorless L.translation)) N) →
    count l ≤ N → 0 < n → n ≤ L.every → FirstIn L p → AllStepsIn L l →
    RunningError L.unit c g r (exact_ran n 0 p.from (exact_pose p.sim3) l)

-- and each coordinate of its action on the point pt, by the scale up within h of the exact z, is within e / unit
abbrev pub PageAccurate : Format → ℕ → Pose → List Step → Start → Type 0
PageAccurate f n p l r =
    (L : JoinBox) (b s h e N : ℕ) (up : Float) (z : Value) (pt : Vec3) → T (box_holds L) → T (ltb L.every 65536) →
    T (run_holds f L (act_test f L.unit b s h e) (bound_at L 0 (errorless L.translation)) N) →
    count l ≤ N → 0 < n → n ≤ L.every → FirstIn L p → AllStepsIn L l →
    VecIn L.unit b pt → AbsoluteError L.unit up z h → AtMost L.unit z s → 0 < z.d →
    ActionError f L.unit e up z pt r (exact_ran n 0 p.from (exact_pose p.sim3) l)

-- the running pose after the history
abbrev pub pose_after : Format → ℕ → Pose → Float → List Step → Start
pose_after f n p up l = (after f running_none (history_of n p up l)).pose

-- in one box, after at most N joins, the rotation is within c and the translation within g
abbrev pub RunningIn : Format → JoinBox → ℕ → ℕ → ℕ → Type 0
RunningIn f L N c g =
    (n : ℕ) (p : Pose) (up : Float) (l : List Step) → count l ≤ N → 0 < n → n ≤ L.every → FirstIn L p → AllStepsIn L l →
    RunningError L.unit c g (pose_after f n p up l) (exact_ran n 0 p.from (exact_pose p.sim3) l)

-- the action on a point of the box, by a scale of the box, is within e
abbrev pub PageIn : Format → JoinBox → ℕ → ℕ → Type 0
PageIn f L N e =
    (n : ℕ) (p : Pose) (up : Float) (l : List Step) (scale : Float) (z : Value) (pt : Vec3) →
    count l ≤ N → 0 < n → n ≤ L.every → FirstIn L p → AllStepsIn L l →
    VecIn L.unit L.translation pt → AbsoluteError L.unit scale z L.scale_error → AtMost L.unit z L.scale → 0 < z.d →
    ActionError f L.unit e scale z pt (pose_after f n p up l) (exact_ran n 0 p.from (exact_pose p.sim3) l)

pub record RunningTheorem : Type 0 where
  -- any format, box and number of joins
  pub running : (f : Format) (n : ℕ) (p : Pose) (up : Float) (l : List Step) →
      RunningAccurate f n p l (pose_after f n p up l)
  pub page : (f : Format) (n : ℕ) (p : Pose) (up : Float) (l : List Step) → PageAccurate f n p l (pose_after f n p up l)
  -- the exact rotation's length stays near 1, within a bound that does not grow with the number of joins
  pub length : (f : Format) (L : JoinBox) (e : PoseBound → Bool) (N n : ℕ) (p : Pose) (up : Float) (l : List Step) →
      T (box_holds L) → T (ltb L.every 65536) → T (run_holds f L e (bound_at L 0 (errorless L.translation)) N) →
      count l ≤ N → 0 < n → n ≤ L.every → FirstIn L p → AllStepsIn L l →
      Normal L.unit (away L) (exact_ran n 0 p.from (exact_pose p.sim3) l).q
  -- up to 1000 joins at doubles: rotation within 2^-37, translation within 2^-14
  pub doubles : RunningIn binary64 box_doubles 1000 (2 ^ 63) (2 ^ 86)
  -- up to 100 joins at singles: within 2^-11 and 2^8
  pub singles : RunningIn binary32 box_singles 100 (2 ^ 89) (2 ^ 108)
  -- a page after up to 100 joins, and up to 1000: each coordinate within 2^-14, and 2^-7
  pub page_hundred : PageIn binary64 page_box 100 (2 ^ 86)
  pub page_thousand : PageIn binary64 page_box 1000 (2 ^ 93)
