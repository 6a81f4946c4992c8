-- `nlri::mldp::layout` meets its contract.
use Rattle.octets.proofs.Tests.{tests}
use Rattle.nlri.specs.Inner.{mldp_layout}
use Rattle.nlri.proofs.mldp.layout.Goals as goal

pub leaf_layout-requires : goal.leaf_layout-requires
unfolding mldp_layout
leaf_layout-requires c = c.requires.leaf c.if-route_type-eq-MLDP_LEAF.true

pub returns-then-route_type-eq-MLDP_LEAF : goal.returns-then-route_type-eq-MLDP_LEAF
unfolding mldp_layout
returns-then-route_type-eq-MLDP_LEAF c = search tests

pub fec_layout-requires : goal.fec_layout-requires
unfolding mldp_layout
fec_layout-requires c = c.requires.fec c.if-route_type-eq-MLDP_LEAF.false

pub returns : goal.returns
unfolding mldp_layout
returns c = search tests
