-- `matches::tier::Sought::tier_of` meets its contract.
use Rattle.matches.proofs.Tiers.{other-router, own-tier, other-tier}
use Rattle.matches.proofs.tier.Sought.tier_of.Goals as goal

pub returns-then-ends_otherwise : goal.returns-then-ends_otherwise
returns-then-ends_otherwise c = other-router _ _ _ (c.ends_otherwise.ensures c.if-ends_otherwise.true)

pub returns-then-not-is_same : goal.returns-then-not-is_same
returns-then-not-is_same c = other-tier _ _ _ _ _ c.originator_in.ensures c.is_same.ensures c.if-not-is_same.true

pub returns : goal.returns
returns c = own-tier _ _ _ _ _ c.originator_in.ensures c.is_same.ensures _ c.if-not-is_same.false c.flow_tier.ensures
