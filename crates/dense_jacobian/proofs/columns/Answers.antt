-- `dense_jacobian::columns` meets its contract: each column is a part of seven numbers. Assumes nothing.
use native.Mathlib.Omega.{arith}
use mathlib.Core.Path.{◌∙◌}
use Rattle.dense_jacobian.specs.Dense.{seven_of}
use Rattle.dense_jacobian.proofs.Parts.{column}
use Rattle.dense_jacobian.proofs.columns.Goals as goal

pub returns : goal.returns
unfolding seven_of
returns g c =
    let at = column g.T.Real.float c.args.m in
    let cs = c.as_chunks.ensures.front in
    λ i.
    record {
      c0 = (c.from_dense.ensures ∙ at _ _ _ 0 cs (omega arith) c.index-columns-0.is) i;
      c1 = (c.from_dense-2.ensures ∙ at _ _ _ 1 cs (omega arith) c.index-columns-1.is) i;
      c2 = (c.from_dense-3.ensures ∙ at _ _ _ 2 cs (omega arith) c.index-columns-2.is) i;
      c3 = (c.from_dense-4.ensures ∙ at _ _ _ 3 cs (omega arith) c.index-columns-3.is) i;
      c4 = (c.from_dense-5.ensures ∙ at _ _ _ 4 cs (omega arith) c.index-columns-4.is) i;
      c5 = (c.from_dense-6.ensures ∙ at _ _ _ 5 cs (omega arith) c.index-columns-5.is) i;
      c6 = (c.from_dense-7.ensures ∙ at _ _ _ 6 cs (omega arith) c.index-columns-6.is) i;
    }
