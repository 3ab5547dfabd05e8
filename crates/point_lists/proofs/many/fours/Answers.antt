-- `point_lists::many::fours` meets its contract: after i chunks 4 i triples are moved and the rest is as before.
-- Assumes nothing.
use Rattle.std.proofs.Common.{◌≡◌, ◌+◌, ◌*◌, ◌/◌, ◌<◌, ◌≤◌, List, length, arith, ap, refl, ◌∙◌}
use Rattle.std.specs.Prelude.{Float}
use Rattle.linalg.specs.Floats.{as_vec3, as_mat3}
use Rattle.point_lists.specs.Points.{point_at, points_moved, mat_act}
use Rattle.point_lists.specs.Private.{mat_columns_negated, put_four}
use Rattle.point_lists.proofs.Lists.{piece, floats_length}
use Rattle.point_lists.proofs.Fours.{four_more_lem}
use Rattle.point_lists.proofs.many.fours.Goals as goal

pub loop-i-init : goal.loop-i-init
unfolding points_moved
loop-i-init g c = (refl, refl)

pub loop-i-preserved : goal.loop-i-preserved
loop-i-preserved g c =
    let a = c.args in
    let i = c.loop-i.i in
    let h = g.T.Real.float in
    let fl = g.T.Real.floats in
    let law = g.met.T.Real.floats_law in
    let m = mat_act g.T.Real.format (mat_columns_negated (as_mat3 h a.m)) (as_vec3 h a.t) in
    let r = c.index-chunks-i.result in
    let n : i < length a.pts.now / 12 = omega (arith, c.loop-i-test.true, c.as_chunks.ensures.front_len) in
    let w : 12 * i ≡ i * 4 * 3 = omega arith in
    let z : i * 4 + 0 ≡ i * 4 = omega arith in
    let p0 : point_at (fl r) 0 ≡ point_at (fl a.pts.now) (i * 4) =
    rw z at (piece h fl law a.pts.now r c.as_chunks.result.0.now 12 (length a.pts.now / 12) i
    (i * 4) 0 c.as_chunks.ensures.front n c.index-chunks-i.is w (omega arith)) in
    let p1 : point_at (fl r) 1 ≡ point_at (fl a.pts.now) (i * 4 + 1) =
    piece h fl law a.pts.now r c.as_chunks.result.0.now 12 (length a.pts.now / 12) i
    (i * 4) 1 c.as_chunks.ensures.front n c.index-chunks-i.is w (omega arith) in
    let p2 : point_at (fl r) 2 ≡ point_at (fl a.pts.now) (i * 4 + 2) =
    piece h fl law a.pts.now r c.as_chunks.result.0.now 12 (length a.pts.now / 12) i
    (i * 4) 2 c.as_chunks.ensures.front n c.index-chunks-i.is w (omega arith) in
    let p3 : point_at (fl r) 3 ≡ point_at (fl a.pts.now) (i * 4 + 3) =
    piece h fl law a.pts.now r c.as_chunks.result.0.now 12 (length a.pts.now / 12) i
    (i * 4) 3 c.as_chunks.ensures.front n c.index-chunks-i.is w (omega arith) in
    let room : i * 4 * 3 + 12 ≤ length (fl a.out.now) = rw (floats_length h fl law a.out.now)
    (omega (arith, n, c.requires.1)) in
    let n1 : i * 4 * 3 ≡ i * 12 = omega arith in
    let n2 : i * 4 + 4 ≡ (i + 1) * 4 = omega arith in
    let n3 : (i + 1) * 4 * 3 ≡ (i + 1) * 12 = omega arith in
    let more = rw n3 at (rw (n1, n2) at (four_more_lem m (fl a.pts.now) (fl r) (fl a.out.now) (i * 4) room p0 p1 p2 p3))
    in (
      c.four.ensures ∙ ap (λ (l : List Float). put_four m (fl r) l (i * 12)) c.loop-i.invariant.0 ∙ more,
      c.four.auto.out ∙ c.loop-i.invariant.1,
    )

pub returns : goal.returns
returns g c =
    let i = c.loop-i.i in
    let n : i ≡ length c.args.pts.now / 12 =
    omega (arith, c.loop-i-test.false, c.loop-i.auto.i-end, c.as_chunks.ensures.front_len) in
    let q4 : i * 4 ≡ length c.args.pts.now / 3 = omega (arith, n, c.requires.0) in
    let q12 : i * 12 ≡ length c.args.pts.now = omega (arith, n, c.requires.0) in
    rw (q4, q12) at c.loop-i.invariant.0
