-- `shared_trees::eligible::lacks_state` meets its contract.
use Rattle.std.proofs.Common.{not, ap}
use Rattle.shared_trees.proofs.SourceActives.{item-bounded, lacks-other, lacks-here}
use Rattle.shared_trees.proofs.eligible.lacks_state.Goals as goal

pub returns-then-not-is_same : goal.returns-then-not-is_same
returns-then-not-is_same c = lacks-other _ _ _ _ _ c.field.ensures _ c.is_same.ensures (ap not c.if-not-is_same.true)

pub is_without_state-requires : goal.is_without_state-requires
is_without_state-requires c = (item-bounded _ _ c.field-2.ensures c.requires.0, c.requires.1)

pub returns : goal.returns
returns c = lacks-here _ _ _ _ _ c.field.ensures _ c.is_same.ensures (ap not c.if-not-is_same.false) _ c.field-2.ensures _ c.is_without_state.ensures
