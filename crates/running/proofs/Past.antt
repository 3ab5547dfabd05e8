-- After any history the running pose is that of the products and renormalisations in its order: a count that stops at
-- 65535 decides as the full count would. Assumes nothing.
use Prim.Native.Nat.{ℕ, ◌+◌, ◌<◌, ◌≤◌}
use mathlib.Core.Path.{◌≡◌, refl}
use mathlib.Core.Bool.{Bool, true, false, cond}
use mathlib.Core.List.{List, [], ◌∷◌}
use native.Mathlib.Omega.{arith}
use borrow.Author.Tests.{lt-ltb, le-ltb, ltb-true, ltb-false, le-leb}
use lib.Dec.{ltb, eqb}
use lib.Ieee.{Float, Format}
use Rattle.frames.specs.Pose.{framed_renormalized}
use Rattle.frames.specs.Joins.{framed_mul}
use Rattle.frames.specs.Floats.{Pose}
use Rattle.std.specs.Prelude.{Some, None}
use Rattle.running.specs.declared.Running.{Running}
use Rattle.running.specs.Running.{Start, running_none, one_more, due, produced_of, product_on, join_on, every_of}
use Rattle.running.specs.History.{Event, join, renew, after, product, renormalized_product, ran, Small, HistoryTheorem}

-- ---- the count that stops at 65535
cap : ℕ → ℕ
cap k = cond (ltb k 65535) k 65535

cap_none : 0 ≡ cap 0
unfolding cap
cap_none = refl

cap_small : (k : ℕ) → k < 65535 → cap k ≡ k
unfolding cap
cap_small k h = rw (lt-ltb k 65535 h)

cap_large : (k : ℕ) → 65535 ≤ k → cap k ≡ 65535
unfolding cap
cap_large k h = rw (le-ltb k 65535 h)

more_by : (t u : Bool) (k : ℕ) → ltb k 65535 ≡ t → ltb (k + 1) 65535 ≡ u → one_more (cap k) ≡ cap (k + 1)
unfolding one_more
more_by true true k t u = rw (cap_small k (ltb-true k 65535 t), t, cap_small (k + 1) (ltb-true (k + 1) 65535 u))
more_by true false k t u =
    let a = ltb-true k 65535 t in
    let b = ltb-false (k + 1) 65535 u in
    rw (cap_small k a, t, cap_large (k + 1) b) (omega arith)
more_by false true k t u = let a = ltb-false k 65535 t in let b = ltb-true (k + 1) 65535 u in absurd (omega arith)
more_by false false k t u = rw (cap_large k (ltb-false k 65535 t), cap_large (k + 1) (ltb-false (k + 1) 65535 u))

more_cap : (k : ℕ) → one_more (cap k) ≡ cap (k + 1)
more_cap k = more_by (ltb k 65535) (ltb (k + 1) 65535) k refl refl

due_by : (t : Bool) (n k : ℕ) → ltb k 65535 ≡ t → n < 65536 → due n (cap k) ≡ due n k
unfolding due
due_by true n k t h = rw (cap_small k (ltb-true k 65535 t))
due_by false n k t h =
    let a = ltb-false k 65535 t in
    rw (cap_large k a, le-leb n 65535 (omega arith), le-leb n k (omega arith))

due_more : (n k : ℕ) → n < 65536 → due n (one_more (cap k)) ≡ due n (k + 1)
due_more n k h = rw (more_cap k) (due_by (ltb (k + 1) 65535) n (k + 1) refl h)

-- ---- event by event, from any state whose count represents k products
abbrev Follows : Format → List Event → Type 0
Follows f h =
    (r : Running) (k : ℕ) → r.since ≡ cap k → r.every < 65536 → Small h → (after f r h).pose ≡ ran f r.pose r.every k h

product_on_lem :
    (f : Format) (p x : Pose) (up : Float) (h : List Event) → Follows f h → (r : Running) (k : ℕ) → r.pose ≡ Some p →
    r.since ≡ cap k → r.every < 65536 → Small h →
    (t d : Bool) → eqb p.from x.to ≡ t → due r.every (k + 1) ≡ d →
    (after f (product_on f r (framed_mul f p x up)).running h).pose
    ≡ cond t (cond d (ran f (Some (renormalized_product f p x up)) r.every 0 h)
    (ran f (Some (product f p x up)) r.every (k + 1) h)) (ran f (Some p) r.every k h)
unfolding framed_mul product_on produced_of framed_renormalized
product_on_lem f p x up h go r k e c v m true true q d = rw (q, c, due_more r.every k v, d) (go _ 0 cap_none v m)
product_on_lem f p x up h go r k e c v m true false q d =
    rw (q, c, due_more r.every k v, d) (go _ (k + 1) (more_cap k) v m)
product_on_lem f p x up h go r k e c v m false d q u = rw (q, ← e) (go r k c v m)

join_on_lem :
    (f : Format) (s : Start) (x : Pose) (up : Float) (h : List Event) → Follows f h → (r : Running) (k : ℕ) →
    r.pose ≡ s → r.since ≡ cap k → r.every < 65536 → Small h →
    (after f (join_on f s r x up).running h).pose ≡ ran f s r.every k (join x up ∷ h)
unfolding join_on ran
join_on_lem f None x up h go r k e c v m = go _ k c v m
join_on_lem f (Some p) x up h go r k e c v m =
    product_on_lem f p x up h go r k e c v m (eqb p.from x.to) (due r.every (k + 1)) refl refl

follows : (f : Format) (h : List Event) → Follows f h
unfolding after ran Small
follows f [] r k c v m = refl
follows f (join x up ∷ h) r k c v m = join_on_lem f r.pose x up h (follows f h) r k refl c v m
follows f (renew n ∷ h) r k c v m = follows f h (every_of r n) k c m.0 m.1

pub history : HistoryTheorem
history f h m = follows f h running_none 0 cap_none (omega arith) m
