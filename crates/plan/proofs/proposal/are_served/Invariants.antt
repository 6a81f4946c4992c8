-- `plan::proposal::are_served` meets its contract.
use mathlib.Core.Path.{◌≡◌}
use Rattle.plan.specs.Judging.{all_served}
use Rattle.plan.specs.Inner.{vrf_in}
use Rattle.plan.proofs.PlaceLoops.{routes_of}
use Rattle.plan.proofs.proposal.are_served.Given as goal

abbrev pub invariant-loop-flow : goal.invariant-loop-flow
invariant-loop-flow l = all_served l.vrf.afi (vrf_in l.vrf) (routes_of l.places) l.flows ≡ all_served l.vrf.afi (vrf_in l.vrf) (routes_of l.places) l.flow-iterator
