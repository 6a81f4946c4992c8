-- `plan::planning::put_all_own` meets its contract.
use lib.ListN.{length}
use Rattle.plan.proofs.OwnPlaces.{Putting}
use Rattle.plan.proofs.planning.put_all_own.Given as goal

abbrev pub invariant-loop-flow : goal.invariant-loop-flow
invariant-loop-flow l = Putting l.vrf.distinguisher.now l.vrf.originator.now l.commonest l.flows l.initial.output l.start l.output l.end l.rest

abbrev pub decreases-loop-flow : goal.decreases-loop-flow
decreases-loop-flow l = length l.rest
