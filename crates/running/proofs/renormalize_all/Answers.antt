use Rattle.std.proofs.Common.{◌≡◌, ◌∙◌, ◌+◌, ℕ, List, length, get_or, set, arith, add-one, ap}
use Rattle.std.specs.Float.{binary64}
use Rattle.frames.specs.Pose.{framed_renormalized}
use Rattle.frames.specs.Floats.{Pose}
use Rattle.running.specs.Running.{all_renormalized}
use Rattle.running.proofs.Each.{up_to, up_to_more, up_to_all}
use Rattle.running.proofs.renormalize_all.Goals as goal

abbrev new : Pose → Pose
new = framed_renormalized binary64

-- one turn, where the poses are p and the renormalised pose is r
turn : (i : ℕ) (l p : List Pose) (r d : Pose) → p ≡ up_to new i l → r ≡ new (get_or p i d) →
    set p i r ≡ up_to new (i + 1) l
turn i l p r d e g = rw (g, e, add-one) (up_to_more new i l d)

pub loop-p-preserved : goal.loop-p-preserved
loop-p-preserved c = record {
  in_range = omega (arith, c.loop-p-test.true);
  so_far = turn c.loop-p.p-index c.args.poses.now _ _ _ c.loop-p.invariant.so_far c.renormalized.ensures;
}

pub returns : goal.returns
unfolding all_renormalized
returns c =
    let l = c.args.poses.now in
    let all : c.loop-p.p-index ≡ length l = omega (arith, c.loop-p.invariant.in_range, c.loop-p-test.false) in
    c.loop-p.invariant.so_far ∙ (ap (λ n. up_to new n l) all ∙ up_to_all new l)
