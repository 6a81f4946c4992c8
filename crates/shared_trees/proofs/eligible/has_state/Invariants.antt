-- `shared_trees::eligible::has_state` meets its contract.
use mathlib.Core.Bool.{true, false}
use lib.ListN.{drop}
use Rattle.lists.specs.LentLists.{first_item, list_items}
use Rattle.lists.proofs.Going.{Going}
use Rattle.routes.specs.SharedTree.{is_state}
use Rattle.shared_trees.specs.Told.{start_of_last, StatesLeft}
use Rattle.shared_trees.proofs.eligible.has_state.Given as goal

abbrev pub invariant-loop-left : goal.invariant-loop-left
invariant-loop-left l =
    Going 2 (list_items 2 l.states) (first_item (is_state l.source l.group) (λ x. true) false) (first_item (is_state l.source l.group) (λ x. true) false) l.left (drop (start_of_last l.size l.count l.left) l.states)
    × StatesLeft l.size l.count l.left l.states

abbrev pub decreases-loop-left : goal.decreases-loop-left
decreases-loop-left l = l.left
