-- Poses joined in a row from the right and never renormalised: computed, exactly, and a bound of the difference after
-- each.
use Rattle.std.specs.Prelude.{ℕ, zero, suc, ◌+◌, ◌*◌, ◌^◌, ◌≤◌, ◌<◌, Bool, ◌&&◌, List, [], ◌∷◌, length, T, leb, Float}
use Rattle.std.specs.Float.{Format, binary32, binary64}
use Rattle.sim3.specs.Pose.{pose_mul}
use Rattle.sim3.specs.Floats.{Sim3}
use Rattle.rounding.specs.Value.{Value, AtMost, AbsoluteError}
use Rattle.rounding.specs.Tree.{Bound, reach, upward, bound, no_overflow}
use Rattle.accuracy.specs.Box.{VecIn, VecError, QuatError, Three, exact_vec, Four, exact_quat, vector_part}
use Rattle.accuracy.specs.Action.{exact_scaled_sum, exact_rotate, tree_rotate, tree_act, act_sizes}
use Rattle.accuracy.specs.Rotation.{turn_error}
use Rattle.accuracy.specs.Quaternions.{exact_hamilton, tree_quat_mul, quat_mul_sizes}
use Rattle.rounding.specs.Leaves.{sizes, errorless}
use Rattle.running_accuracy.specs.Products.{LengthAtMost, next_rotation}

-- a pose to join, the scale of the running pose as it was handed in, and that scale exactly
pub record Join : Type 0 where
  pub pose : Sim3
  pub up : Float
  pub scale : Value

unfoldable pub joined : Format → Sim3 → List Join → Sim3
joined f x [] = x
joined f x (j ∷ l) = joined f (pose_mul f x j.pose j.up) l

-- the rotation and the translation, exactly
pub record Exact : Type 0 where
  pub q : Four Value
  pub t : Three Value

unfoldable pub exact_join : Exact → Join → Exact
unfolding exact_hamilton exact_rotate
exact_join x j =
    record {
      q = exact_hamilton x.q (exact_quat j.pose.q);
      t = exact_scaled_sum (exact_rotate x.q.w (vector_part x.q) (exact_vec j.pose.t)) j.scale x.t;
    }

unfoldable pub exact_joined : Exact → List Join → Exact
exact_joined x [] = x
exact_joined x (j ∷ l) = exact_joined (exact_join x j) l

abbrev pub exact_pose : Sim3 → Exact
exact_pose x = record { q = exact_quat x.q; t = exact_vec x.t }

-- what is known of a pose to join: the rotation's length, the translation's numbers, the scale and its error
pub record JoinIn (u v b s h : ℕ) (j : Join) : Type 0 where
  pub q : LengthAtMost u v j.pose.q
  pub t : VecIn u b j.pose.t
  pub up : AbsoluteError u j.up j.scale h
  pub scale : AtMost u j.scale s
  pub above : 0 < j.scale.d

unfoldable pub AllJoinsIn : ℕ → ℕ → ℕ → ℕ → ℕ → List Join → Type 0
AllJoinsIn u v b s h [] = Unit {0}
AllJoinsIn u v b s h (j ∷ l) = JoinIn u v b s h j × AllJoinsIn u v b s h l

-- ---- the bounds: of the rotation, and of each number of the translation
pub record PoseBound : Type 0 where
  pub rotation : Bound
  pub translation : Bound

-- The leaves of the action of the running pose on a vector with numbers up to b, by a scale of at most s: exactly, and
-- as they are computed, where the scale is handed in within h.
abbrev pub exact_sizes : ℕ → ℕ → ℕ → PoseBound → ℕ → Bound
exact_sizes u b s p = sizes (act_sizes u p.rotation.magnitude b s p.translation.magnitude)

abbrev pub computed_sizes : ℕ → ℕ → ℕ → ℕ → PoseBound → ℕ → Bound
computed_sizes u b s h p = sizes (act_sizes u (reach p.rotation) b (s + h) (reach p.translation))

-- what the errors of the rotation, of the scale and of the translation come to, the first by lengths
unfoldable pub carried_error : Format → ℕ → ℕ → ℕ → ℕ → PoseBound → ℕ
unfolding bound
carried_error f u b s h p =
    let turned = turn_error u p.rotation.magnitude p.rotation.error b in
    let size = (bound f u (exact_sizes u b s p) tree_rotate.x).magnitude in
    upward u ((size + turned) * h + turned * s) + p.translation.error

-- the bound of the moved vector: the rounding errors of the action itself, and those
unfoldable pub moved_bound : Format → ℕ → ℕ → ℕ → ℕ → PoseBound → Bound
unfolding bound tree_act carried_error
moved_bound f u b s h p =
    record {
      magnitude = (bound f u (exact_sizes u b s p) tree_act.x).magnitude;
      error = (bound f u (computed_sizes u b s h p) tree_act.x).error + carried_error f u b s h p;
    }

unfoldable pub moved_no_overflow : Format → ℕ → ℕ → ℕ → ℕ → PoseBound → Bool
unfolding no_overflow tree_act
moved_no_overflow f u b s h p = no_overflow f u (computed_sizes u b s h p) tree_act.x

unfoldable pub next_pose : Format → ℕ → ℕ → ℕ → ℕ → ℕ → PoseBound → PoseBound
unfolding next_rotation moved_bound
next_pose f u v b s h p =
    record { rotation = next_rotation f u v p.rotation; translation = moved_bound f u b s h p }

unfoldable pub join_no_overflow : Format → ℕ → ℕ → ℕ → ℕ → ℕ → PoseBound → Bool
unfolding no_overflow moved_no_overflow tree_quat_mul
join_no_overflow f u v b s h p =
    no_overflow f u (sizes (quat_mul_sizes (reach p.rotation) v)) tree_quat_mul.w && moved_no_overflow f u b s h p

-- the computed test: none of n joins more overflows, and the errors of rotation and translation are at most c and g
-- after each
unfoldable pub joins_hold : Format → ℕ → ℕ → ℕ → ℕ → ℕ → ℕ → ℕ → PoseBound → ℕ → Bool
unfolding next_pose join_no_overflow
joins_hold f u v b s h c g p zero = leb p.rotation.error c && leb p.translation.error g
joins_hold f u v b s h c g p (suc n) =
    (leb p.rotation.error c && leb p.translation.error g)
    && (join_no_overflow f u v b s h p && joins_hold f u v b s h c g (next_pose f u v b s h p) n)

-- ---- what is proved
abbrev pub first_bound : ℕ → ℕ → PoseBound
first_bound v b = record { rotation = record { magnitude = v; error = 0 }; translation = errorless b }

-- r is x joined with the poses of l: rotations of length up to v / u, translations up to b / u, scales up to s / u
-- within h / u, at most N poses; each number of the rotation is within c / u and of the translation within g / u of the
-- exact one
abbrev pub JoinedIn : ℕ → ℕ → ℕ → ℕ → ℕ → ℕ → ℕ → ℕ → Sim3 → List Join → Sim3 → Type 0
JoinedIn u v b s h c g N x l r =
    length l ≤ N → LengthAtMost u v x.q → VecIn u b x.t → AllJoinsIn u v b s h l →
    QuatError u r.q (exact_joined (exact_pose x) l).q c × VecError u r.t (exact_joined (exact_pose x) l).t g

pub record JoinedTheorem : Type 0 where
  pub joined_poses : (f : Format) (u v b s h c g N : ℕ) (x : Sim3) (l : List Join) →
      0 < u → T (joins_hold f u v b s h c g (first_bound v b) N) → JoinedIn u v b s h c g N x l (joined f x l)
  -- up to 100 poses, lengths up to 1 + 2^-40, translations up to 2^10, scales up to 2 within 2^-52: within 2^-41 and
  -- 2^-22
  pub doubles : (x : Sim3) (l : List Join) →
      JoinedIn (2 ^ 100) (2 ^ 100 + 2 ^ 60) (2 ^ 110) (2 ^ 101) (2 ^ 48) (2 ^ 59) (2 ^ 78) 100 x l (joined binary64 x l)
  -- lengths up to 1 + 2^-20, scales within 2^-23: within 2^-12 and 2^7
  pub singles : (x : Sim3) (l : List Join) →
      JoinedIn (2 ^ 100) (2 ^ 100 + 2 ^ 80) (2 ^ 110) (2 ^ 101) (2 ^ 77) (2 ^ 88) (2 ^ 107) 100 x l
      (joined binary32 x l)
