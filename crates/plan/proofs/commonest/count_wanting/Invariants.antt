-- `plan::commonest::count_wanting` meets its contract.
use lib.ListN.{length}
use Rattle.plan.proofs.Leaders.{Counting}
use Rattle.plan.proofs.commonest.count_wanting.Given as goal

abbrev pub invariant-loop-flow : goal.invariant-loop-flow
invariant-loop-flow l = Counting l.wanted l.flows l.count l.rest

abbrev pub decreases-loop-flow : goal.decreases-loop-flow
decreases-loop-flow l = length l.rest
