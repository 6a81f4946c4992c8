-- `matches::scan::names_tunnel` meets its contract.
use Rattle.places.proofs.Taken.{place-ends}
use Rattle.matches.proofs.Scans.{type-within, names-by-type}
use Rattle.matches.proofs.scan.names_tunnel.Goals as goal

pub attribute_in-attribute-requires : goal.attribute_in-attribute-requires
attribute_in-attribute-requires c = place-ends _ _ _ c.requires c.between.ensures

pub bounds-attribute-1 : goal.bounds-attribute-1
bounds-attribute-1 c = type-within _ _ _ _ c.requires c.between.ensures c.attribute_in-attribute.ensures

pub returns : goal.returns
returns c = names-by-type _ _ _ _ c.requires c.between.ensures c.attribute_in-attribute.ensures
