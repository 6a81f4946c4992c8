-- `nlri::standing::group_length_at` meets its contract.
use Rattle.std.proofs.Common.{arith, rules}
use Rattle.nlri.specs.Inner.{size_at}
use Rattle.nlri.specs.Standing.{group_end, source_size}
use Rattle.nlri.proofs.standing.group_length_at.Goals as goal

pub bounds-nlri-10 : goal.bounds-nlri-10
unfolding group_end
bounds-nlri-10 c = omega arith

pub overflow_add-result-2 : goal.overflow_add-result-2
overflow_add-result-2 c = omega (arith, c.type_inv.nlri 10)

pub returns : goal.returns
unfolding source_size size_at
returns c = search rules
