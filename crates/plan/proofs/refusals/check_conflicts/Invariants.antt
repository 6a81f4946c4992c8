-- `plan::refusals::check_conflicts` meets its contract.
use lib.ListN.{length}
use mathlib.Core.Path.{◌≡◌}
use Rattle.plan.specs.Inner.{conflict_fault}
use Rattle.plan.proofs.refusals.check_conflicts.Given as goal

abbrev pub invariant-loop-flow : goal.invariant-loop-flow
invariant-loop-flow l = conflict_fault l.flows ≡ conflict_fault l.rest

abbrev pub decreases-loop-flow : goal.decreases-loop-flow
decreases-loop-flow l = length l.rest
