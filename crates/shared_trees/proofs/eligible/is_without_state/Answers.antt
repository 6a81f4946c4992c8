-- `shared_trees::eligible::is_without_state` meets its contract.
use Rattle.shared_trees.proofs.SourceActives.{without_other, without-none}
use Rattle.std.proofs.Common.{not}
use Rattle.std.proofs.Common.{ap}
use Rattle.shared_trees.proofs.eligible.is_without_state.Goals as goal

pub returns-then-not-is_same : goal.returns-then-not-is_same
returns-then-not-is_same c = without_other _ _ _ _ c.group_in.ensures _ c.is_same.ensures (ap not c.if-not-is_same.true)

pub has_state-requires : goal.has_state-requires
has_state-requires c = (c.requires.1, rw c.source_in.ensures c.ending_in.ensures)

pub returns : goal.returns
returns c = without-none _ _ _ _ c.group_in.ensures _ c.is_same.ensures (ap not c.if-not-is_same.false) _ c.source_in.ensures _ c.has_state.ensures
