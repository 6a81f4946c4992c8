-- `nlri::layout::flow_layout` meets its contract.
use Rattle.std.proofs.Common.{refl, arith}
use Rattle.nlri.specs.Inner.{layout_with, size_at, flow_layout}
use Rattle.nlri.proofs.layout.flow_layout.Goals as goal

pub overflow_add-group-2 : goal.overflow_add-group-2
unfolding size_at flow_layout layout_with
overflow_add-group-2 c = omega (arith, c.requires.group)

pub bounds-s-at-2 : goal.bounds-s-at-2
unfolding size_at flow_layout layout_with
bounds-s-at-2 c = omega (arith, c.requires.group)

pub overflow_sub-result-2 : goal.overflow_sub-result-2
unfolding size_at flow_layout layout_with
overflow_sub-result-2 c = omega (arith, c.requires.sizes)

pub overflow_sub-result-3 : goal.overflow_sub-result-3
unfolding size_at flow_layout layout_with
overflow_sub-result-3 c = omega (arith, c.requires.sizes)

pub returns : goal.returns
unfolding size_at flow_layout layout_with
returns c = refl
