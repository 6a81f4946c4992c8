-- `nlri::address::four_octets` meets its contract.
use Rattle.std.proofs.Common.{sym, ap, ◌∙◌, le_of_lt, take_all}
use Rattle.nlri.specs.Answers.{address_struct}
use Rattle.nlri.proofs.Functions.Copies.{octets_from, ipv4-held}
use Rattle.nlri.proofs.address.four_octets.Goals as goal

pub returns-then-octets-lt-IPV4_OCTETS : goal.returns-then-octets-lt-IPV4_OCTETS
unfolding octets_from
returns-then-octets-lt-IPV4_OCTETS c = c.shorter.ensures ∙ ap address_struct (sym (take_all _ _ (le_of_lt c.if-octets-lt-IPV4_OCTETS.true)))

pub returns : goal.returns
unfolding octets_from
returns c = ipv4-held c.args.octets.now c.if-octets-lt-IPV4_OCTETS.false
