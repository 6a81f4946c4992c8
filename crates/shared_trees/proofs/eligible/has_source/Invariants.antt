-- `shared_trees::eligible::has_source` meets its contract.
use Rattle.std.proofs.Common.{◌≡◌, true}
use Rattle.lists.specs.LentLists.{list_items, every_item, some_item}
use Rattle.shared_trees.specs.Told.{fields_within, without_state_at}
use Rattle.shared_trees.proofs.eligible.has_source.Given as goal

abbrev pub invariant-loop-item : goal.invariant-loop-item
invariant-loop-item l = record {
  found : some_item (without_state_at l.router l.group l.states) (list_items 2 l.source_actives) ≡ some_item (without_state_at l.router l.group l.states) l.item-iterator;
  stand : true ≡ every_item fields_within l.item-iterator;
}
