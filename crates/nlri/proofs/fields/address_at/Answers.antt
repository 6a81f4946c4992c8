-- `nlri::fields::address_at` meets its contract.
use Rattle.std.proofs.Common.{take, ap, ◌∙◌, arith}
use Rattle.nlri.specs.Answers.{address_struct}
use Rattle.nlri.proofs.Functions.Copies.{kind-octets-ipv4, kind-octets-ipv6, empty-part, positive, take_part}
use Rattle.nlri.proofs.fields.address_at.Goals as goal

pub returns-then-size-eq0 : goal.returns-then-size-eq0
returns-then-size-eq0 c =
    let a = c.args in
    c.wildcard.ensures ∙ ap address_struct (empty-part a.s.now a.start a.size c.if-size-eq0.true)

pub between-requires : goal.between-requires
between-requires c = c.requires.1 (omega (arith, c.if-size-eq-IPV4_OCTETS.true))

pub returns-then-size-eq-IPV4_OCTETS : goal.returns-then-size-eq-IPV4_OCTETS
returns-then-size-eq-IPV4_OCTETS c =
    let a = c.args in
    let h = c.requires.1 (omega (arith, c.if-size-eq-IPV4_OCTETS.true)) in
    c.address.ensures ∙ ap address_struct (kind-octets-ipv4 _ _ c.ipv4.ensures ∙ ap (take 4) c.between.ensures ∙ take_part a.s.now a.start a.size 4 h (omega (arith, c.if-size-eq-IPV4_OCTETS.true)))

pub between-requires-2 : goal.between-requires-2
between-requires-2 c = c.requires.1 (positive _ c.if-size-eq0.false)

pub returns : goal.returns
returns c =
    let a = c.args in
    let h = c.requires.1 (positive _ c.if-size-eq0.false) in
    c.address-2.ensures ∙ ap address_struct (kind-octets-ipv6 _ _ c.ipv6.ensures ∙ ap (take 16) c.between-2.ensures ∙ take_part a.s.now a.start a.size 16 h c.requires.0)
