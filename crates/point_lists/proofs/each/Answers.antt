-- `point_lists::each` meets its contract: after i turns the first i triples are moved and the rest is as before.
-- Assumes nothing.
use Rattle.std.proofs.Common.{◌≡◌, ◌+◌, ◌*◌, ◌/◌, ◌<◌, ◌≤◌, ◌++◌, List, length, drop, arith, ap, refl, ◌∙◌}
use Rattle.std.specs.Prelude.{Float}
use Rattle.linalg.specs.Floats.{as_vec3}
use Rattle.point_lists.specs.Points.{point_at, points_moved}
use Rattle.point_lists.specs.Private.{put_point}
use Rattle.point_lists.proofs.Lists.{moved_more, piece, floats_length}
use Rattle.point_lists.proofs.each.Goals as goal

pub loop-i-init : goal.loop-i-init
unfolding points_moved
loop-i-init g c = (λ m moves. refl, refl)

pub loop-i-preserved : goal.loop-i-preserved
loop-i-preserved g c =
    let a = c.args in
    let i = c.loop-i.i in
    let h = g.T.Real.float in
    let fl = g.T.Real.floats in
    let law = g.met.T.Real.floats_law in
    let n : i < length a.pts.now / 3 = omega (arith, c.loop-i-test.true, c.as_chunks.ensures.front_len) in
    let z : i + 0 ≡ i = omega arith in
    let p : point_at (fl c.index-triples-i.result) 0 ≡ point_at (fl a.pts.now) i =
    rw z at (piece h fl law a.pts.now c.index-triples-i.result c.as_chunks.result.0.now 3 (length a.pts.now / 3) i i 0
    c.as_chunks.ensures.front n c.index-triples-i.is (omega arith) (omega arith)) in
    let room : i * 3 + 3 ≤ length (fl a.out.now) = rw (floats_length h fl law a.out.now)
    (omega (arith, n, c.requires.room)) in (
      λ m moves.
          c.put_point.ensures
          ∙ ap (λ (l : List Float). put_point l (i * 3) (as_vec3 h c.f.result)) (c.loop-i.invariant.0 m moves)
          ∙ ap (put_point (points_moved m (fl a.pts.now) i ++ drop (i * 3) (fl a.out.now)) (i * 3))
          (moves _ _ c.f.ensures ∙ ap m (c.point_at.ensures ∙ p))
          ∙ moved_more m (fl a.pts.now) (fl a.out.now) i room,
      c.put_point.auto.out ∙ c.loop-i.invariant.1,
    )
