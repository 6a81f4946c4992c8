-- `nlri::address::AddressKind::address` meets its contract.
use Rattle.std.proofs.Common.{sym, ap, ◌∙◌}
use Rattle.nlri.specs.Answers.{address_struct}
use Rattle.nlri.proofs.Functions.Copies.{kind-octets-ipv4, kind-octets-ipv6, kind-octets-other}
use Rattle.nlri.proofs.address.AddressKind.address.Goals as goal

pub returns-then-self-eq-IPV4 : goal.returns-then-self-eq-IPV4
returns-then-self-eq-IPV4 c = c.four_octets.ensures ∙ ap address_struct (sym (kind-octets-ipv4 _ _ c.if-self-eq-IPV4.true))

pub returns-then-self-eq-IPV6 : goal.returns-then-self-eq-IPV6
returns-then-self-eq-IPV6 c = c.sixteen_octets.ensures ∙ ap address_struct (sym (kind-octets-ipv6 _ _ c.if-self-eq-IPV6.true))

pub returns : goal.returns
returns c = c.wildcard.ensures ∙ ap address_struct (sym (kind-octets-other _ _ c.if-self-eq-IPV4.false c.if-self-eq-IPV6.false))
