-- `plan::refusals::check_vrf` meets its contract.
use Rattle.octets.proofs.Tests.{refusals}
use Rattle.plan.specs.Refusing.{vrf_fault}
use Rattle.plan.proofs.refusals.check_vrf.Goals as goal

pub returns-then-not-is_originator_size : goal.returns-then-not-is_originator_size
unfolding vrf_fault
returns-then-not-is_originator_size c = search refusals

pub returns-then-vrf-ne-OCTETS : goal.returns-then-vrf-ne-OCTETS
unfolding vrf_fault
returns-then-vrf-ne-OCTETS c = search refusals

pub returns : goal.returns
unfolding vrf_fault
returns c = search refusals
