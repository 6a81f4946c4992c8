-- `nlri::layout::leaf_layout` meets its contract.
use Rattle.std.proofs.Common.{refl, arith}
use Rattle.nlri.specs.Inner.{layout_with, leaf_layout}
use Rattle.nlri.proofs.layout.leaf_layout.Goals as goal

pub overflow_add-key-2 : goal.overflow_add-key-2
unfolding leaf_layout layout_with
overflow_add-key-2 c = omega (arith, c.type_inv.s 3)

pub returns : goal.returns
unfolding leaf_layout layout_with
returns c = refl
