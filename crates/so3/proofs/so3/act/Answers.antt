-- `so3::so3::act` meets its contract: the sandwich step by step, by what the vector operations ensure. Assumes nothing.
use Rattle.so3.specs.So3.{so3_act}
use lib.Ieee.{of_bits}
use Rattle.so3.proofs.so3.act.Goals as goal

pub returns : goal.returns
unfolding so3_act of_bits
returns g c =
    let real = g.met.T.Real in
    simp (
      c.add-2.ensures,
      c.scale-2.ensures,
      c.cross.ensures,
      c.add.ensures,
      c.scale.ensures,
      c.cross-uv.ensures,
      real.mul_law _ _ _ c.mul.ensures,
      c.of.ensures,
      c.of-2.ensures,
    )
