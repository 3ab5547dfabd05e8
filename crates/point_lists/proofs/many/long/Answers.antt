-- `point_lists::many::long` meets its contract: the last four are in their places before the fours are moved from the
-- first on. Assumes nothing.
use Rattle.std.proofs.Common.{◌≡◌, ◌-◌, ◌*◌, ◌/◌, ◌%◌, length, take, drop, arith, length-drop, ◌∙◌}
use lib.Seq.{length-take-le}
use Rattle.linalg.specs.Floats.{as_vec3, as_mat3}
use Rattle.point_lists.specs.Points.{mat_act}
use Rattle.point_lists.proofs.Lists.{floats_length, floats_take, floats_part, floats_lent, moved_part, nothing_after}
use Rattle.point_lists.proofs.Fours.{last_four, columns_negated-twice}
use Rattle.point_lists.proofs.many.long.Goals as goal

pub returns-then-e-n : goal.returns-then-e-n
returns-then-e-n g c =
    let a = c.args in
    let h = g.T.Real.float in
    let fl = g.T.Real.floats in
    let k = floats_length h fl g.met.T.Real.floats_law a.out.now in
    let moved = simp (c.columns_negated-k.ensures, columns_negated-twice (as_mat3 h a.m)) at c.fours.ensures in
    moved ∙ nothing_after _ (fl a.out.now) (length a.pts.now) (omega (arith, k, c.requires.lens))

pub returns : goal.returns
returns g c =
    let a = c.args in
    let h = g.T.Real.float in
    let fl = g.T.Real.floats in
    let law = g.met.T.Real.floats_law in
    let L = fl a.pts.now in
    let O = fl a.out.now in
    let n = length a.pts.now in
    let at = n - 12 in
    let e = n - n % 12 in
    let m = mat_act g.T.Real.format (as_mat3 h a.m) (as_vec3 h a.t) in
    let behind = simp (c.columns_negated-k.ensures, columns_negated-twice (as_mat3 h a.m)) at c.fours-2.ensures in
    let before = simp (c.columns_negated-k.ensures, columns_negated-twice (as_mat3 h a.m)) at c.fours-3.ensures in
    let lp : length L ≡ n = floats_length h fl law a.pts.now in
    let lo : length O ≡ length a.out.now = floats_length h fl law a.out.now in
    let ke : length (take e a.pts.now) ≡ e = length-take-le e a.pts.now (omega arith) in
    let d12 : length (take (n - at) (drop at a.pts.now)) ≡ 12 =
    length-take-le (n - at) (drop at a.pts.now) (omega (arith, length-drop at a.pts.now))
    ∙ omega (arith, c.requires.twelve) in
    let last = rw (
      d12,
      floats_part h fl law (n - at) at a.pts.now,
      floats_part h fl law
          (length a.out.now - at) at a.out.now,
    ) at behind in
    let q : e / 3 * 3 ≡ e = omega (arith, c.requires.lens) in
    let first = rw (
      ke,
      floats_take h fl law e a.pts.now,
      moved_part m L e (e / 3)
          (omega (arith, q)),
      floats_lent h fl law (length a.out.now - at) at a.out.now c.fours-2.new.out,
      last,
    ) at
    before in
    let four = last_four m L O (n / 3) (e / 3) at (omega (arith, c.requires.twelve)) (omega arith)
    (omega (arith, c.requires.lens)) (omega (arith, c.requires.lens, lp))
    (omega (arith, c.requires.lens, lo)) (omega (arith, c.requires.lens)) in
    first ∙ rw (q, lp, lo) at four
