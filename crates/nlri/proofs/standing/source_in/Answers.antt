-- `nlri::standing::source_in` meets its contract.
use Rattle.std.proofs.Common.{arith, rules}
use Rattle.nlri.specs.Inner.{size_at}
use Rattle.nlri.specs.Standing.{group_end, source_size, standing}
use Rattle.nlri.proofs.standing.source_in.Goals as goal

pub bounds-nlri-10 : goal.bounds-nlri-10
unfolding group_end
bounds-nlri-10 c = omega arith

pub between-requires : goal.between-requires
unfolding group_end source_size size_at
between-requires c = omega arith

pub returns : goal.returns
unfolding standing source_size size_at
returns c = search rules
