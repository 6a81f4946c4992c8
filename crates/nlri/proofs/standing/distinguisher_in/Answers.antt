-- `nlri::standing::distinguisher_in` meets its contract.
use Rattle.std.proofs.Common.{arith, rules}
use Rattle.nlri.specs.Standing.{group_end, standing}
use Rattle.nlri.proofs.standing.distinguisher_in.Goals as goal

pub between-requires : goal.between-requires
unfolding group_end
between-requires c = omega arith

pub returns : goal.returns
unfolding standing
returns c = search rules
