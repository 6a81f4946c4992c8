-- `matches::tier::Sought::better` meets its contract.
use mathlib.Core.Path.{sym, subst}
use Rattle.places.specs.Readable.{Bounded, Readable}
use Rattle.matches.specs.Scanning.{Kept}
use Rattle.matches.proofs.Scans.{no-tier, no-tunnel, goes-first, goes-ahead, stays-behind}
use Rattle.matches.proofs.tier.Sought.better.Goals as goal

pub tier_of-requires : goal.tier_of-requires
tier_of-requires c = (subst Bounded (sym c.nlri_from.ensures) c.requires.readable.0.bounded, c.requires.in_bounds)

pub is_ahead-requires : goal.is_ahead-requires
is_ahead-requires c = (c.requires.readable.0, subst (Kept (Readable c.args.places.now)) c.in-Some-best.is c.requires.readable.1)

pub returns-in_default : goal.returns-in_default
returns-in_default c = no-tier _ _ _ _ _ _ _ c.nlri_from.ensures c.tier_of.ensures c.in_default.is

pub returns-then-not-names_tunnel : goal.returns-then-not-names_tunnel
returns-then-not-names_tunnel c = no-tunnel _ _ _ _ _ _ _ c.nlri_from.ensures c.tier_of.ensures _ c.in-Some.is _ c.names_tunnel.ensures c.if-not-names_tunnel.true

pub returns-then-not-is_ahead : goal.returns-then-not-is_ahead
returns-then-not-is_ahead c = stays-behind _ _ _ _ _ _ _ c.nlri_from.ensures c.tier_of.ensures _ c.in-Some.is _ c.names_tunnel.ensures _ c.in-Some-best.is _ c.is_ahead.ensures c.if-not-names_tunnel.false c.if-not-is_ahead.true

pub returns-else-not-is_ahead : goal.returns-else-not-is_ahead
returns-else-not-is_ahead c = goes-ahead _ _ _ _ _ _ _ c.nlri_from.ensures c.tier_of.ensures _ c.in-Some.is _ c.names_tunnel.ensures _ c.in-Some-best.is _ c.is_ahead.ensures c.if-not-names_tunnel.false c.if-not-is_ahead.false

pub returns-in_default-best : goal.returns-in_default-best
returns-in_default-best c = goes-first _ _ _ _ _ _ _ c.nlri_from.ensures c.tier_of.ensures _ c.in-Some.is _ c.names_tunnel.ensures c.if-not-names_tunnel.false c.in_default-best.is
