-- `matches::tier::Sought::flow_tier` meets its contract.
use Rattle.matches.proofs.Tiers.{tier-any-source, tier-source, tier-none}
use Rattle.matches.proofs.tier.Sought.flow_tier.Goals as goal

pub returns-then-is_empty : goal.returns-then-is_empty
returns-then-is_empty c = tier-any-source _ _ _ _ _ _ c.source_in-route_source.ensures c.is_empty.ensures _ _ c.if-is_empty.true c.group_in.ensures c.any_source_tier.ensures

pub returns-then-not-is_same : goal.returns-then-not-is_same
returns-then-not-is_same c = tier-none _ _ _ _ _ _ c.source_in-route_source.ensures c.is_empty.ensures c.if-is_empty.false _ c.is_same.ensures c.if-not-is_same.true

pub returns : goal.returns
returns c = tier-source _ _ _ _ _ _ c.source_in-route_source.ensures c.is_empty.ensures _ _ c.if-is_empty.false _ c.is_same.ensures c.if-not-is_same.false c.group_in-2.ensures c.source_tier.ensures
