-- `shared_trees::eligible::left_from_ending` meets its contract.
use mathlib.Core.Path.{◌≡◌}
use Rattle.shared_trees.specs.Told.{start_of_last, Passed}
use Rattle.shared_trees.proofs.eligible.left_from_ending.Given as goal

abbrev pub invariant-loop-left : goal.invariant-loop-left
invariant-loop-left l = (l.at ≡ start_of_last l.size l.count l.left) × Passed l.size l.count l.ending l.left-2 l.left l.states

abbrev pub decreases-loop-left : goal.decreases-loop-left
decreases-loop-left l = l.left
