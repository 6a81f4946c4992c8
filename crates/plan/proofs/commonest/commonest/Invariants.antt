-- `plan::commonest::commonest` meets its contract.
use mathlib.Core.Path.{◌≡◌}
use lib.ListN.{length}
use Rattle.plan.specs.Flows.{different}
use Rattle.plan.specs.Commonest.{leading, commonest}
use Rattle.plan.proofs.commonest.commonest.Given as goal

abbrev pub invariant-loop-flow : goal.invariant-loop-flow
invariant-loop-flow l = commonest l.flows ≡ leading (different l.flows) l.leader.wanted.now l.leader.count l.rest

abbrev pub decreases-loop-flow : goal.decreases-loop-flow
decreases-loop-flow l = length l.rest
