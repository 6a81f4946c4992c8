-- `shared_trees::judge::check_source_actives` meets its contract.
use Rattle.std.proofs.Common.{◌≡◌}
use Rattle.lists.specs.LentLists.{list_items}
use Rattle.routes.specs.SharedTree.{source_active_fault}
use Rattle.shared_trees.proofs.judge.check_source_actives.Given as goal

abbrev pub invariant-loop-item : goal.invariant-loop-item
invariant-loop-item l = source_active_fault l.afi (list_items 2 l.list) ≡ source_active_fault l.afi l.item-iterator
