-- `plan::proposal::best_for` meets its contract.
use Rattle.matches.proofs.Tiers.{class-opens}
use Rattle.octets.proofs.Refusals.{refusal_number-not_done}
use Rattle.plan.specs.Inner.{vrf_in}
use Rattle.plan.proofs.JudgedPlaces.{all-readable, best-unclassed, best-missized, router-least, best-scanned}
use Rattle.plan.proofs.proposal.best_for.Goals as goal

pub returns-in_default : goal.returns-in_default
returns-in_default c = best-unclassed _ _ _ c.requires (vrf_in c.args.vrf.now) c.args.flow.now _ c.group-group.ensures _ c.in_default.ensures

pub returns-in_default-check_sizes : goal.returns-in_default-check_sizes
returns-in_default-check_sizes c =
    best-missized _ _ _ c.requires (vrf_in c.args.vrf.now) c.args.flow.now _ c.group-group.ensures _ c.in-Ok.ensures _ c.source-source.ensures _ c.in_default-check_sizes.ensures (refusal_number-not_done _)

pub best-requires-clause-by_index : goal.best-requires-clause-by_index
best-requires-clause-by_index c = all-readable _ _ _ c.requires

pub best-requires-clause-in_bounds : goal.best-requires-clause-in_bounds
best-requires-clause-in_bounds c =
    router-least _ _ _ c.requires (vrf_in c.args.vrf.now) c.args.flow.now _ c.group-group.ensures _ c.in-Ok.ensures _ c.source-source.ensures c.in-Ok-check_sizes.ensures

pub returns : goal.returns
returns c =
    best-scanned _ _ _ c.requires (vrf_in c.args.vrf.now) c.args.flow.now _ c.group-group.ensures _ c.in-Ok.ensures _ c.source-source.ensures c.in-Ok-check_sizes.ensures _ (class-opens _ _ c.of_class.ensures) _ c.best.ensures
