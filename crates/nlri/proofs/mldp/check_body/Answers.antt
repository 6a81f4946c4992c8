-- `nlri::mldp::check_body` meets its contract.
use Rattle.std.proofs.Common.{ap, ◌∙◌}
use Rattle.octets.proofs.Lists.{lent-whole}
use Rattle.nlri.specs.Inner.{body_fault}
use Rattle.nlri.proofs.Functions.Ends.{body_is}
use Rattle.nlri.proofs.mldp.check_body.Goals as goal

pub returns-then-route_type-eq-MLDP_LEAF : goal.returns-then-route_type-eq-MLDP_LEAF
returns-then-route_type-eq-MLDP_LEAF c =
    let a = c.args in
    c.check_leaf_body.ensures ∙ ap (body_fault a.kind.bits 68) (lent-whole a.s.now) ∙ body_is _ _ _ 68 c.if-route_type-eq-MLDP_LEAF.true

pub check_fec_body-requires : goal.check_fec_body-requires
check_fec_body-requires c = (c.requires, c.if-route_type-eq-MLDP_LEAF.false)

pub returns : goal.returns
returns c =
    let a = c.args in
    c.check_fec_body.ensures ∙ ap (body_fault a.kind.bits a.route_type) (lent-whole a.s.now)
